use Rattle.toml_rows.proofs.Blanks.{line_feed, space}
use Rattle.std.proofs.Common.{◌≡◌, ◌==◌, true, arith}
use Rattle.std.proofs.lemmas.Grind.{common_steps}
use Rattle.toml_parser.specs.Lexical.{first}
use Rattle.toml_rows.proofs.blank.skip_one.Goals as goal

pub returns-then-first-eq10-clause-rest : goal.returns-then-first-eq10-clause-rest
returns-then-first-eq10-clause-rest c =
    let is : (first c.args.s.now == 10) ≡ true = grind (arith, common_steps) in
    rw c.skip.ensures.rest (line_feed c.args.s.now is)

pub returns-then-first-eq32-clause-rest : goal.returns-then-first-eq32-clause-rest
returns-then-first-eq32-clause-rest c =
    let is : (first c.args.s.now == 32) ≡ true = grind (arith, common_steps) in
    rw c.skip-then-first-eq32.ensures.rest (space c.args.s.now is)
