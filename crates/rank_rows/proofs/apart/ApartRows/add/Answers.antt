use Rattle.std.proofs.Common.{refl, sym, ◌∙◌}
use Rattle.rank_rows.specs.Found.{found_of}
use Rattle.rank_rows.proofs.Pairs.{found_or_push, nothing_found}
use Rattle.rank_rows.proofs.apart.ApartRows.add.Goals as goal

pub invariant_of-self-2 : goal.invariant_of-self-2
invariant_of-self-2 c =
    let rows = c.self.inside.rows.items in
    let had = c.in_ok-get_or_insert.field-0 in
    let none = nothing_found had (sym c.is_some.ensures ∙ c.if-is_some.false) in
    rw (c.push_reserved.ensures.items, c.reserve.ensures.items)
    (found_or_push rows (found_of c.self.inside.found) (found_of c.get_or_insert.new.self) c.args.row _ _ had refl refl refl c.in_ok-get_or_insert.ensures.old c.self.invariant c.in_ok-get_or_insert.ensures.updates none)
