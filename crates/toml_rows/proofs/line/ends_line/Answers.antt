use Rattle.std.proofs.Common.{◌≡◌, ◌==◌, true, arith}
use Rattle.std.proofs.lemmas.Grind.{common_steps}
use Rattle.toml_parser.specs.Lexical.{first}
use Rattle.toml_rows.proofs.Blanks.{line_end}
use Rattle.toml_rows.proofs.line.ends_line.Goals as goal

pub returns-then-first-eq10 : goal.returns-then-first-eq10
returns-then-first-eq10 c =
    let is : (first c.args.s.now == 10) ≡ true = grind (arith, common_steps) in
    line_end c.args.s.now is
