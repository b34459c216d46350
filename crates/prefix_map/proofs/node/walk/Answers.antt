use Rattle.std.proofs.Common.{◌≡◌, false, Some, None, sym, ◌∙◌, arith}
use Rattle.prefix_map.specs.Walk.{digit_at, next, pairs, is_at}
use Rattle.prefix_map.proofs.Lookups.{stands}
use Rattle.prefix_map.proofs.Walks.{way_on, way_over, step_behind}
use Rattle.prefix_map.proofs.Written.{pairs_length}
use Rattle.prefix_map.proofs.node.walk.Goals as goal

pub loop-digits-preserved : goal.loop-digits-preserved
loop-digits-preserved g c =
    let no' : is_at (pairs c.args.nodes.now) c.loop-digits.at c.args.prefix.now ≡ false = sym c.is_at.ensures ∙ c.loop-digits-test.true in
    let by : c.digit_at-digit.result ≡ digit_at c.args.prefix.now c.loop-digits.step = rw c.digits-digits.ensures.digits at c.digit_at-digit.ensures.value in
    let step : next c.args.nodes.now c.loop-digits.at (digit_at c.args.prefix.now c.loop-digits.step) ≡ Some c.in-Some.place = rw (← by) (sym c.in-Some.ensures) in
    way_on (pairs c.args.nodes.now) (next c.args.nodes.now) c.args.prefix.now c.loop-digits.step c.loop-digits.at c.in-Some.place c.requires c.loop-digits.invariant no' step (step_behind c.loop-digits.at _ c.in-Some.place step)

pub returns-in_default : goal.returns-in_default
returns-in_default g c =
    let no' : is_at (pairs c.args.nodes.now) c.loop-digits.at c.args.prefix.now ≡ false = sym c.is_at.ensures ∙ c.loop-digits-test.true in
    let by : c.digit_at-digit.result ≡ digit_at c.args.prefix.now c.loop-digits.step = rw c.digits-digits.ensures.digits at c.digit_at-digit.ensures.value in
    let none : next c.args.nodes.now c.loop-digits.at c.digit_at-digit.result ≡ None = sym c.next.ensures ∙ c.in_default.is in
    let within = c.loop-digits.invariant.within in
    let len = pairs_length c.args.nodes.now in (
      omega arith,
      c.digit_at-digit.ensures.below,
      way_over (pairs c.args.nodes.now) (next c.args.nodes.now) c.args.prefix.now c.loop-digits.step c.loop-digits.at c.requires c.loop-digits.invariant no' (rw by at none),
      record { steps = c.loop-digits.step; to = c.loop-digits.invariant.to; by = by; none = none },
    )

pub returns : goal.returns
returns g c = stands (pairs c.args.nodes.now) c.loop-digits.at c.args.prefix.now (sym c.is_at.ensures ∙ c.loop-digits-test.false)
