use Rattle.std.proofs.Common.{◌≡◌, ◌==◌, ◌∙◌, true, false, sym, rules}
use Rattle.named_rows.specs.Reading.{is_twice, nodes_at}
use Rattle.named_rows.proofs.several.nodes_at.Goals as goal

pub returns-then-is_twice : goal.returns-then-is_twice
unfolding nodes_at
returns-then-is_twice c =
    let twice : is_twice ◌==◌ c.in_ok-found.found ≡ true = sym (rw c.as_slice.ensures at c.is_twice.ensures) ∙ c.if-is_twice.true in
    search rules

pub returns : goal.returns
unfolding nodes_at
returns c =
    let once : is_twice ◌==◌ c.in_ok-found.found ≡ false = sym (rw c.as_slice.ensures at c.is_twice.ensures) ∙ c.if-is_twice.false in
    search rules
