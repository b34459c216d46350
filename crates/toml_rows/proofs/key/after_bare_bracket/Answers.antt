use Rattle.std.proofs.Common.{◌≡◌, ◌+◌, ◌==◌, true, length, take, drop, sym, rules, arith}
use Rattle.std.proofs.lemmas.Grind.{common_steps}
use Rattle.std.proofs.lemmas.List.{drop-drop}
use Rattle.toml_parser.specs.Lexical.{first}
use Rattle.toml_rows.proofs.Keys.{header_bare}
use Rattle.toml_rows.proofs.key.after_bare_bracket.Goals as goal

pub returns-clause-value : goal.returns-clause-value
returns-clause-value c =
    let s = c.args.s.now in
    let word = c.args.word.now in
    let front : take (length word) s ≡ word = search rules in
    let closes : (first (drop (length word) s) == 93) ≡ true = grind (arith, common_steps) in
    let shifted : drop (length word + 1) s ≡ drop 1 (drop (length word) s) = sym (drop-drop 1 (length word) s) in
    rw (c.skip.ensures.rest, shifted) (header_bare s word c.requires.some front c.requires.bare closes)
