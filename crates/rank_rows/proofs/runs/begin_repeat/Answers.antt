use Rattle.std.proofs.Common.{◌≡◌, is_some, true, sym, ◌∙◌}
use Rattle.rank_rows.proofs.Growing.{begins_known}
use Rattle.rank_rows.proofs.runs.begin_repeat.Goals as goal

pub returns-then-is_some-clause-begins_stay : goal.returns-then-is_some-clause-begins_stay
returns-then-is_some-clause-begins_stay c =
    let some : is_some c.get_or_insert.result ≡ true = sym c.is_some.ensures ∙ c.if-is_some.true in
    λ _ p. begins_known c.reserve-2.new.self.entries c.get_or_insert.new.self.entries c.args.prefix _ c.get_or_insert.result some c.get_or_insert.ensures.updates p ∙ c.reserve-2.ensures.entries p
