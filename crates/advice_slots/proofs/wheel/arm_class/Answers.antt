use Rattle.std.proofs.Common.{rules, arith, ◌≡◌, ◌-◌, ℕ, ap, sym, ◌∙◌, subst, Option}
use Rattle.slab.specs.Slab.{Slab, ContainsKey}
use Rattle.chain_links.specs.Lists.{LinksView, list_at}
use Rattle.advice_slots.specs.declared.item.Held.{Held}
use Rattle.advice_slots.proofs.Arming.{IsArming, arming_first, arming_among, arming_free, arming_step, arming_done}
use Rattle.advice_slots.proofs.wheel.arm_class.Goals as goal

pub loop-cursor-init : goal.loop-cursor-init
loop-cursor-init c = arming_first (list_at c.args.wheel.now.link c.args.class) c.args.wheel.now (c.args.ticks - 1) c.first-cursor.result c.requires.none c.first-cursor.ensures.value

pub arm-requires-clause-held : goal.arm-requires-clause-held
arm-requires-clause-held c =
    let old = c.args.wheel.now in
    let all = list_at old.link c.args.class in
    let I : Option ℕ → Type 0 = λ o. IsArming all old c.loop-cursor.wheel (c.args.ticks - 1) o in
    let a = subst I c.in-Some.is c.loop-cursor.invariant in
    let held = c.requires.held c.in-Some.slot (arming_among all old c.loop-cursor.wheel (c.args.ticks - 1) c.in-Some.slot a (let b = c.requires.buckets in omega (arith, b, c.requires.some, c.requires.few))) in
    let S : Slab Held → Type 0 = λ s. ContainsKey s c.in-Some.slot in
    subst S (sym (ap (λ w. w.slots) a.wheel)) held

pub arm-requires-clause-free : goal.arm-requires-clause-free
arm-requires-clause-free c =
    let old = c.args.wheel.now in
    let all = list_at old.link c.args.class in
    let I : Option ℕ → Type 0 = λ o. IsArming all old c.loop-cursor.wheel (c.args.ticks - 1) o in
    let a = subst I c.in-Some.is c.loop-cursor.invariant in
    arming_free all old c.loop-cursor.wheel (c.args.ticks - 1) c.in-Some.slot a (let b = c.requires.buckets in omega (arith, b, c.requires.some, c.requires.few)) (c.first-cursor.ensures.apart.once c.args.class) c.requires.unarmed

pub loop-cursor-preserved : goal.loop-cursor-preserved
loop-cursor-preserved c =
    let old = c.args.wheel.now in
    let all = list_at old.link c.args.class in
    let I : Option ℕ → Type 0 = λ o. IsArming all old c.loop-cursor.wheel (c.args.ticks - 1) o in
    let a = subst I c.in-Some.is c.loop-cursor.invariant in
    let link : c.arm.new.self.link ≡ old.link = ap (λ w. w.link) c.arm.ensures ∙ ap (λ w. w.link) a.wheel in
    arming_step all old c.loop-cursor.wheel (c.args.ticks - 1) c.in-Some.slot a (let b = c.requires.buckets in omega (arith, b, c.requires.some, c.requires.few)) c.arm.new.self c.next-cursor.result c.arm.ensures
    (λ ls rs e. c.next-cursor.ensures.after c.args.class ls rs (ap (λ (l : LinksView). list_at l c.args.class) link ∙ e))

pub returns : goal.returns
returns c = arming_done (list_at c.args.wheel.now.link c.args.class) c.args.wheel.now c.loop-cursor.wheel (c.args.ticks - 1) c.loop-cursor.cursor (search rules) c.loop-cursor.invariant
