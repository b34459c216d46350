use Rattle.std.proofs.Common.{◌≤◌, inl, inr, List, subst, sym, arith, ap, ◌∙◌}
use Rattle.std.proofs.lemmas.Result.{on_ok_weaker}
use Rattle.chain_links.specs.declared.rows.Head.{Head}
use Rattle.chain_links.specs.Lists.{AreRows, none}
use Rattle.chain_links.proofs.Seen.{seen, heads_seen}
use Rattle.chain_links.proofs.Grown.{ok_or_err, heads_rows, heads_view}
use Rattle.chain_links.proofs.Links.grow_heads.Goals as goal

pub invariant_of-self : goal.invariant_of-self
invariant_of-self c =
    let i = c.self.inside.rows in
    let R : List Head → Type 0 = λ t. AreRows i.slots.items t in
    let fits : c.args.heads ≤ none = omega (arith, c.ranges.heads.fits) in
    elim (ok_or_err c.lengthen.result c.lengthen.ensures.ok c.lengthen.ensures.err) [
      | inl grown ↦ subst R (sym grown) (heads_rows i.slots.items i.heads.items c.args.self.now c.self.invariant c.self.view_is c.args.heads fits)
      | inr same ↦ subst R (sym same) c.self.invariant
    ]

pub returns-clause-ok : goal.returns-clause-ok
returns-clause-ok c =
    let i = c.self.inside.rows in
    let fits : c.args.heads ≤ none = omega (arith, c.ranges.heads.fits) in
    on_ok_weaker c.lengthen.result (λ grown. ap (λ t. seen i.slots.items t) grown ∙ heads_view i.slots.items i.heads.items c.args.self.now c.self.invariant c.self.view_is c.args.heads fits) c.lengthen.ensures.ok

pub returns-clause-succeeds : goal.returns-clause-succeeds
returns-clause-succeeds c =
    let i = c.self.inside.rows in
    λ few. c.lengthen.ensures.succeeds (omega (arith, heads_seen i.slots.items i.heads.items c.args.self.now c.self.view_is))
