use Rattle.std.proofs.Common.{◌≡◌, ◌==◌, ◌∙◌, true, false, sym, rules}
use Rattle.named_rows.specs.Reading.{is_twice, links_at}
use Rattle.named_rows.proofs.several.links_at.Goals as goal

pub returns-then-is_twice-clause-value : goal.returns-then-is_twice-clause-value
unfolding links_at
returns-then-is_twice-clause-value c =
    let twice : is_twice ◌==◌ c.in_ok-found.found ≡ true = sym (rw c.as_slice-3.ensures at c.is_twice.ensures) ∙ c.if-is_twice.true in
    search rules

pub returns-clause-value : goal.returns-clause-value
unfolding links_at
returns-clause-value c =
    let once : is_twice ◌==◌ c.in_ok-found.found ≡ false = sym (rw c.as_slice-3.ensures at c.is_twice.ensures) ∙ c.if-is_twice.false in
    search rules
