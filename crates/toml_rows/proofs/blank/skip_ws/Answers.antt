use Rattle.std.proofs.Common.{◌≡◌, ◌==◌, true, false, sym, arith}
use Rattle.std.proofs.lemmas.Grind.{common_steps}
use Rattle.toml_parser.specs.Lexical.{first, is_ws}
use Rattle.toml_parser.proofs.LexicalLemmas.{skip_ws_none}
use Rattle.std.proofs.Common.{slice_index}
use Rattle.toml_rows.proofs.Blanks.{one_space}
use Rattle.toml_rows.proofs.blank.skip_ws.Goals as goal

pub returns-then-not-is_ws-clause-rest : goal.returns-then-not-is_ws-clause-rest
returns-then-not-is_ws-clause-rest c =
    let stop : is_ws (first c.args.s.now) ≡ false = grind (arith, common_steps) in
    sym (skip_ws_none c.args.s.now stop)

pub returns-then-not-is_ws-2-clause-rest : goal.returns-then-not-is_ws-2-clause-rest
returns-then-not-is_ws-2-clause-rest c =
    let is : (first c.args.s.now == 32) ≡ true = grind (arith, common_steps) in
    let stop : is_ws (slice_index c.args.s.now 1) ≡ false = grind (arith, common_steps) in
    rw c.skip.ensures.rest (one_space c.args.s.now is stop)
