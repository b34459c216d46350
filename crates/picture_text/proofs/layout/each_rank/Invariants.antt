use Rattle.std.proofs.Common.{◌≡◌, ◌≤◌, drop, fold, length, nat_cmp}
use Rattle.std.specs.BTreeSet.{insert_key}
use Rattle.std.specs.List.{flat_map}
use Rattle.std.specs.Option.{option_to_list}
use Rattle.picture_text.specs.Layout.{each_rank}
use Rattle.picture_text.proofs.layout.each_rank.Given as goal

-- the ranks so far, and those that are still to be added
abbrev pub invariant-loop-place : goal.invariant-loop-place
invariant-loop-place l = record {
  all : fold (insert_key nat_cmp) l.set.keys (flat_map option_to_list (drop l.place l.ranks)) ≡ each_rank l.ranks;
  few : length l.set.keys ≤ l.place;
}
