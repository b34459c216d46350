use Rattle.std.proofs.Common.{◌≡◌, ◌∷◌, ◌∙◌, true, sym, subst, ap, refl}
use Rattle.iso_message.specs.Fields.{has}
use Rattle.step_rules.proofs.Present.{AreThere, all_there, passes}
use Rattle.step_rules.proofs.required.without_front.Goals as goal

pub loop-number-init : goal.loop-number-init
loop-number-init c =
    let m = c.args.message.now in
    let all = c.into_iter-number-iterator.ensures.into_iter_gives ∙ c.iter-number-items.ensures in
    record { same = refl; there = subst (AreThere m) (sym all) (all_there m) }

pub loop-number-preserved-then-first-number : goal.loop-number-preserved-then-first-number
loop-number-preserved-then-first-number c =
    let m = c.args.message.now in
    let there : AreThere m ((c.in-Some.number, c.in-Some.field-0-1.now) ∷ c.next.new.self) = subst (AreThere m) c.in-Some.ensures.steps c.loop-number.invariant.there in
    let has_first : has m c.in-Some-split_first.first.now ≡ true = ap (has m) c.if-first-number.true ∙ there.0 in
    record {
      same = passes m c.in-Some-split_first.first.now c.args.numbers.now c.loop-number.left.now c.in-Some-split_first.behind.now has_first c.loop-number.invariant.same c.in-Some-split_first.ensures.cases.0;
      there = there.1;
    }

pub loop-number-preserved : goal.loop-number-preserved
loop-number-preserved c =
    let m = c.args.message.now in
    let there : AreThere m ((c.in-Some.number, c.in-Some.field-0-1.now) ∷ c.next.new.self) = subst (AreThere m) c.in-Some.ensures.steps c.loop-number.invariant.there in
    record { same = c.loop-number.invariant.same; there = there.1 }
