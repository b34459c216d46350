use Rattle.std.proofs.Common.{◌≡◌, ◌∙◌, ℕ, List, false, not, inl, inr}
use Rattle.std.specs.Prelude.{IsUtf8}
use Rattle.std.specs.Str.{is_utf8}
use Rattle.std.proofs.lemmas.Bool.{cases_Bool}
use Rattle.std.proofs.lemmas.Str.{IsUtf8-from_is_utf8, is_utf8-from_IsUtf8}
use Rattle.net_tables.specs.Reading.{tables_by_tree, tables_in}
use Rattle.net_tables.proofs.InOrder.{in_order}
use Rattle.net_tables.proofs.read.read_tables.Goals as goal

-- a text is read by way of its tree
of_text : (text : List ℕ) → IsUtf8 text → tables_in text ≡ tables_by_tree text
of_text text utf8 = rw (is_utf8-from_IsUtf8 text utf8)

no_text : (text : List ℕ) → ¬ (IsUtf8 text) → is_utf8 text ≡ false
no_text text not = elim (cases_Bool (is_utf8 text)) [
  | inl is ↦ absurd (not (IsUtf8-from_is_utf8 text is))
  | inr other ↦ other
]

pub returns-in_default : goal.returns-in_default
returns-in_default c = record { exact = rw (no_text c.args.text.now c.in_default.ensures.cases.0) }

pub returns-in-Some : goal.returns-in-Some
returns-in-Some c =
    let (same, utf8) = c.in-Ok.ensures.cases in
    record { exact = of_text c.args.text.now utf8 ∙ in_order c.in-Some.tables c.args.text.now (rw same at c.in-Some.ensures) }

pub returns-in-None : goal.returns-in-None
returns-in-None c =
    let (same, utf8) = c.in-Ok.ensures.cases in
    rw (of_text c.args.text.now utf8, ← same) (record { exact = c.tables_by_tree.ensures })
