use Rattle.std.proofs.Common.{refl, ap, sym, arith}
use Rattle.std.proofs.lemmas.Bool.{eq-eqb, ne_eqb}
use Rattle.message_elements.specs.Fixed.{fixed_of}
use Rattle.message_elements.specs.declared.form.Class.TheVariants.{Digits, Text}
use Rattle.message_elements.proofs.TableLemmas.{past_table, none_fixed, some_fixed}
use Rattle.message_elements.proofs.form.fixed_form_at.Goals as goal

pub returns-then-place-ge129 : goal.returns-then-place-ge129
returns-then-place-ge129 c = sym (ap fixed_of (past_table c.args.number (omega arith)))

pub returns-then-size-eq0 : goal.returns-then-size-eq0
returns-then-size-eq0 c = none_fixed c.args.number (omega arith) (eq-eqb _ _ c.if-size-eq0.true)

pub returns-then-place-eq0 : goal.returns-then-place-eq0
returns-then-place-eq0 c = some_fixed c.args.number Digits (omega arith) (ne_eqb _ _ c.if-size-eq0.false) (rw (eq-eqb _ _ c.if-place-eq0.true) refl)

pub returns-else-place-eq0 : goal.returns-else-place-eq0
returns-else-place-eq0 c = some_fixed c.args.number Text (omega arith) (ne_eqb _ _ c.if-size-eq0.false) (rw (ne_eqb _ _ c.if-place-eq0.false) refl)
