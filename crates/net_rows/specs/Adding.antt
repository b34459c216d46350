-- One place more.
use Rattle.std.specs.Prelude.{◌≡◌, ℕ, ◌==◌, ◌&&◌, Bool, List, None, Some, if◌then◌else◌}
use Rattle.std.specs.Option.{option_eq, option_or}
use Rattle.std.specs.Cmp.Lexicographic.{pointwise}
use Rattle.prefix_trie.specs.Pairs.{pair_of}
use Rattle.net_rows.specs.declared.prefixed.RowKey.{RowKey}
use Rattle.net_rows.specs.Index.{Places, places_at}

abbrev pub same_key : RowKey → RowKey → Bool
same_key p q = option_eq ◌==◌ p.node q.node && pointwise ◌==◌ p.prefix q.prefix

-- at its key stands the place, where none stood; all else is as it was
pub record IsAdded (key : RowKey) (place : ℕ) (old new : List Places) : Type 0 where
  pub now : (q : RowKey) → pair_of q.prefix (places_at new q.node) ≡ option_or (pair_of q.prefix (places_at old q.node)) (if same_key key q then Some (q.prefix, place) else None)
