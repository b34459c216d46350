use Rattle.std.proofs.Common.{◌≤◌, inl, inr, List, subst, sym, arith, ap, ◌∙◌}
use Rattle.std.proofs.lemmas.Result.{on_ok_weaker}
use Rattle.chain_links.specs.declared.rows.Slot.{Slot}
use Rattle.chain_links.specs.Lists.{AreRows, none}
use Rattle.chain_links.proofs.Seen.{seen}
use Rattle.chain_links.proofs.Grown.{ok_or_err, slots_rows, slots_view}
use Rattle.chain_links.proofs.Links.grow_slots.Goals as goal

pub invariant_of-self : goal.invariant_of-self
invariant_of-self c =
    let i = c.self.inside.rows in
    let R : List Slot → Type 0 = λ s. AreRows s i.heads.items in
    let fits : c.args.slots ≤ none = omega (arith, c.ranges.slots.fits) in
    elim (ok_or_err c.lengthen.result c.lengthen.ensures.ok c.lengthen.ensures.err) [
      | inl grown ↦ subst R (sym grown) (slots_rows i.slots.items i.heads.items c.args.self.now c.self.invariant c.self.view_is c.args.slots fits)
      | inr same ↦ subst R (sym same) c.self.invariant
    ]

pub returns-clause-ok : goal.returns-clause-ok
returns-clause-ok c =
    let i = c.self.inside.rows in
    let fits : c.args.slots ≤ none = omega (arith, c.ranges.slots.fits) in
    on_ok_weaker c.lengthen.result (λ grown. ap (λ s. seen s i.heads.items) grown ∙ slots_view i.slots.items i.heads.items c.args.self.now c.self.invariant c.self.view_is c.args.slots fits) c.lengthen.ensures.ok
