-- Lines of refusals, and the answer where there is none.
use Rattle.std.proofs.Common.{◌≡◌, ◌∙◌, ℕ, ◌<◌, ◌+◌, List, [], ◌++◌, take, get_or, length, codes, None, refl, sym}
use Rattle.std.proofs.lemmas.List.{append-nil, take_more, flat_map_more}
use Rattle.net_rows.specs.Network.{Network}
use Rattle.rank_rows.specs.declared.rank.Rank.{Rank}
use Rattle.table_checker.specs.Rules.{first_refusal}
use Rattle.all_refusals.specs.declared.row.RowRefusal.{RowRefusal}
use Rattle.all_refusals.proofs.First.{none_is}
use Rattle.bundle_text.specs.Answers.{Said}
use Rattle.bundle_text.specs.declared.answer.Status.TheVariants.{Done}
use Rattle.card_view.specs.Listed.{found_line, refusals_text}
use Rattle.card_view.specs.Answers.{IsListed, accepted_line, listing}
use Rattle.card_view.specs.declared.asked.Format.{Format}
use Rattle.card_view.specs.declared.asked.Format.TheVariants as formats

-- a line more
pub refusals_more : (t : Network) (before : List ℕ) (found : List RowRefusal) (i : ℕ) (r : RowRefusal) → i < length found → r ≡ get_or found i r
    → (before ++ refusals_text t (take i found)) ++ found_line t r ≡ before ++ refusals_text t (take (i + 1) found)
refusals_more t before found i r lt is = rw (take_more found i r, ← is) (flat_map_more (found_line t) before (take i found) r)

-- where there is none
no_lines : (format : Format) (t : Network) (cert : List Rank) → first_refusal t cert ≡ None → record { text = accepted_line format; status = Done } ≡ listing format t (first_refusal t cert) []
no_lines formats.Text t cert none = rw none refl
no_lines formats.Json t cert none = rw (none, append-nil (accepted_line formats.Json)) refl

pub accepted_is : (format : Format) (t : Network) (cert : List Rank) (said : Said) → first_refusal t cert ≡ None → said ≡ record { text = accepted_line format; status = Done } → IsListed format t cert said
accepted_is format t cert said none is = record {
  found = [];
  all = sym (none_is t cert none);
  printed = is ∙ no_lines format t cert none;
}
