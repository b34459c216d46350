use Rattle.std.proofs.Common.{rules, ◌≡◌, ◌+◌, ◌%◌, ℕ, arith, refl, sym, ap, ◌∙◌}
use Rattle.std.proofs.Math.Nat.{add-mod-mod, mod-add-mod, mod-eq_of_lt}
use Rattle.advice_slots.specs.Kept.{HeldView}
use Rattle.advice_slots.proofs.held.HeldItems.pass.Goals as goal

pub loop-init : goal.loop-init
loop-init c =
    let i = c.self.inside in
    let same : i.turn + 0 ≡ i.turn = omega arith in
    rw (← c.self.view_is) (record { turn = sym (ap (λ (n : ℕ). n % i.ticks) same ∙ mod-eq_of_lt c.self.invariant.0.within); rest = refl })

pub loop-preserved : goal.loop-preserved
loop-preserved c =
    let v = c.loop.self in
    let old = c.args.self.now in
    let inv = c.loop.invariant in
    let t = c.tick.ensures in
    let ticks : v.ticks ≡ old.ticks = ap (λ (h : HeldView). h.ticks) inv.rest in
    let more : old.turn + c.loop.counter + 1 ≡ old.turn + (c.loop.counter + 1) = omega arith in
    record {
      turn = t.turn ∙ (ap (λ (n : ℕ). (v.turn + 1) % n) ticks ∙ (ap (λ (n : ℕ). (n + 1) % old.ticks) inv.turn ∙ (mod-add-mod (old.turn + c.loop.counter) old.ticks 1 ∙ ap (λ (n : ℕ). n % old.ticks) more)));
      rest = t.rest ∙ ap (λ (h : HeldView). record h { turn = c.tick.new.self.turn; visits = c.tick.new.self.visits }) inv.rest;
    }

pub returns-clause-turn : goal.returns-clause-turn
returns-clause-turn c =
    let old = c.args.self.now in
    let all : c.loop.counter ≡ c.args.count % old.ticks = search rules in
    c.loop.invariant.turn ∙ (ap (λ (n : ℕ). (old.turn + n) % old.ticks) all ∙ add-mod-mod old.turn c.args.count old.ticks)
