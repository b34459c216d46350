use Rattle.std.proofs.Common.{◌≡◌, ◌<◌, ◌==◌, true, false, drop, arith}
use Rattle.std.proofs.lemmas.Bool.Decides.{nat_tests}
use Rattle.std.proofs.lemmas.Grind.{common_steps}
use Rattle.std.specs.List.{prefix_len}
use Rattle.toml_parser.specs.Lexical.{first, split_while}
use Rattle.toml_parser.specs.Strings.{is_plain}
use Rattle.toml_parser.proofs.LexicalLemmas.{IsCharBoundary-wide_run}
use Rattle.toml_rows.proofs.Strings.{plain_quoted}
use Rattle.toml_rows.proofs.string.plain_string.Goals as goal

pub split_at-requires : goal.split_at-requires
split_at-requires c =
    rw (c.plain_len-len.ensures.len, c.as_bytes.ensures.value) (IsCharBoundary-wide_run (is_plain 34 false) c.skip-inside.result.now (λ b e. grind (arith, nat_tests)))

pub returns-clause-value : goal.returns-clause-value
returns-clause-value c =
    let s = c.args.s.now in
    let begins : (first s == 34) ≡ true = grind (arith, common_steps) in
    let some : 0 < prefix_len (is_plain 34 false) (drop 1 s) = grind (arith, common_steps) in
    let ends : (first (split_while (is_plain 34 false) (drop 1 s)).1 == 34) ≡ true = grind (arith, common_steps) in
    rw (c.skip.ensures.rest, c.split_at.ensures.front, c.split_at.ensures.back, c.plain_len-len.ensures.len, c.as_bytes.ensures.value, c.skip-inside.ensures.rest) (plain_quoted s begins some ends)
