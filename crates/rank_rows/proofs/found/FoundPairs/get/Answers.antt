use Rattle.std.proofs.Common.{sym, ◌∙◌}
use Rattle.rank_rows.proofs.ByName.{at_name, at_none}
use Rattle.rank_rows.proofs.found.FoundPairs.get.Goals as goal

pub returns-in-Some : goal.returns-in-Some
returns-in-Some c =
    let names = c.self.inside.names.items in
    let there = rw c.deref.ensures.value at c.in-Some.ensures in
    rw (← c.self.view_is) (rw c.deref-in-Some.ensures.value at c.found_in.ensures ∙ sym (at_name names c.self.inside.others.entries c.args.pair.now c.in-Some.at there (λ j h. c.self.invariant.single c.args.pair.now.node j c.in-Some.at h there)))

pub returns-in-None : goal.returns-in-None
returns-in-None c =
    let none = rw c.deref.ensures.value at c.in-None.ensures in
    rw (← c.self.view_is) (c.copied.ensures ∙ c.get.ensures ∙ sym (at_none c.self.inside.names.items c.self.inside.others.entries c.args.pair.now none))
