-- The words of tables are bare keys.
use Rattle.std.proofs.Common.{◌≡◌, ℕ, ◌<◌, Bool, true, ◌||◌, ◌==◌, length, refl, arith}
use Rattle.std.specs.Char.{is_ascii_alphanumeric}
use Rattle.std.specs.List.{list_all}
use Rattle.table_fields.specs.Words.{table_word}
use Rattle.table_fields.specs.declared.place.Table.{Table}
use Rattle.table_fields.specs.declared.place.Table.TheVariants as table

-- a byte of a bare key
abbrev pub is_bare : ℕ → Bool
is_bare c = (is_ascii_alphanumeric c || c == 45) || c == 95

pub word_some : (t : Table) → 0 < length (table_word t)
word_some table.Network = omega arith
word_some table.Node = omega arith
word_some table.Link = omega arith
word_some table.Acquirer = omega arith
word_some table.Issuer = omega arith
word_some table.Route = omega arith
word_some table.StandIn = omega arith
word_some table.Root = omega arith

pub word_bare : (t : Table) → list_all is_bare (table_word t) ≡ true
word_bare table.Network = refl
word_bare table.Node = refl
word_bare table.Link = refl
word_bare table.Acquirer = refl
word_bare table.Issuer = refl
word_bare table.Route = refl
word_bare table.StandIn = refl
word_bare table.Root = refl
