use Rattle.std.proofs.Common.{ℕ, ◌≤◌, List, length}
use denote.Text.{Utf8}
use denote.Shadow.{shadow}
use Rattle.toml_rows.specs.Texts.{IsOpened, AreTexts}
use Rattle.net_rows.specs.declared.row.Link.{Link}
use Rattle.table_fields.specs.Words.{key_word}
use Rattle.table_fields.specs.declared.place.Key.TheVariants as key
use Rattle.net_tables.specs.Plain.{AreFound}
use Rattle.net_tables.proofs.plain.plain_named.Given as goal

-- the list began, and these links are those of its names so far
pub record AreSoFar (links : List Link) (found text rest : List ℕ) : Type 0 where
  pub inside : List ℕ
  pub opened : IsOpened (key_word key.Links) text inside
  pub texts : List (List ℕ)
  pub stand : AreTexts texts inside rest
  pub are : AreFound links texts found
  pub few : length found ≤ 8

abbrev pub invariant-links : goal.invariant-links
invariant-links l = shadow (Utf8 l.rest) × AreSoFar l.links l.found l.fn.text l.rest

abbrev pub decreases-links : goal.decreases-links
decreases-links l = length l.rest
