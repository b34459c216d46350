use Rattle.std.proofs.Common.{◌≡◌, ◌∙◌, false, is_some, sym}
use Rattle.table_checker.specs.Rules.{not_less_over}
use Rattle.table_checker.proofs.Searching.{first_some_on}
use Rattle.table_checker.proofs.class.At.not_less_along.Goals as goal

pub loop-link-preserved : goal.loop-link-preserved
loop-link-preserved c =
    let f = not_less_over c.args.self.now.tables.now c.args.self.now.cert.now c.args.self.now.class c.args.node in
    let none : is_some (f c.link-item.result) ≡ false = rw (← c.not_less_over-found.ensures.refusal) (sym c.is_some.ensures ∙ c.if-is_some.false) in
    record {
      known = c.not_less_over-found.ensures.known;
      rest = first_some_on f c.args.links.now c.loop-link.link-index c.link-item.result c.loop-link-test.true c.link-item.is none ∙ c.loop-link.invariant.rest;
    }
