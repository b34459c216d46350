use Rattle.std.proofs.Common.{◌-◌, arith, sym, ◌∙◌, inl, inr}
use Rattle.std.proofs.lemmas.Bool.{cases_eq}
use Rattle.book_index.proofs.Holding.{none_any}
use Rattle.standin_book.specs.Approvals.{is_of}
use Rattle.standin_book.proofs.Removed.{holds_past}
use Rattle.standin_book.proofs.standin.newest_place.Goals as goal

pub loop-place-init : goal.loop-place-init
loop-place-init c = record { within = omega arith; none = holds_past (is_of c.args.key) c.args.takes.now }

pub loop-place-preserved : goal.loop-place-preserved
loop-place-preserved c = record {
  within = (let h = c.loop-place.invariant.within in omega (arith, h));
  none = λ i from. elim (cases_eq i (c.loop-place.place - 1)) [
    | inl same ↦ rw same (sym c.is_of_key.ensures ∙ c.if-is_of_key.false)
    | inr other ↦ c.loop-place.invariant.none i (omega (arith, from, other))
  ];
}

pub returns : goal.returns
returns c =
    let none = none_any (is_of c.args.key) c.args.takes.now (λ i. c.loop-place.invariant.none i (omega arith)) in
    let some = c.requires in
    absurd (cc)
