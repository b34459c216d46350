use Rattle.std.proofs.Common.{◌≡◌, ◌==◌, true, false, length, ◌∙◌, arith}
use Rattle.std.proofs.lemmas.Grind.{common_steps}
use Rattle.toml_parser.specs.Lexical.{first}
use Rattle.toml.proofs.Turns.{val_atom, val_open_array}
use Rattle.toml.proofs.Views.{view-Array}
use Rattle.toml_rows.proofs.value.value.Goals as goal

pub returns-then-first-eq91-clause-value : goal.returns-then-first-eq91-clause-value
returns-then-first-eq91-clause-value c =
    let s = c.args.s.now in
    let a : (first s == 91) ≡ true = grind (arith, common_steps) in
    val_open_array 80 s (omega arith) a ∙ rw (← c.skip.ensures.rest, c.in_ok-found.ensures.value 79 (length s) c.skip.ensures.shorter, view-Array c.in_ok-found.found)

pub returns-clause-value : goal.returns-clause-value
returns-clause-value c =
    let s = c.args.s.now in
    let a : (first s == 91) ≡ false = grind (arith, common_steps) in
    let b : (first s == 123) ≡ false = grind (arith, common_steps) in
    rw (val_atom 80 s a b) c.atom.ensures.value
