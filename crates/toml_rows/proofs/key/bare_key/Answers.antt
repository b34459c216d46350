use Rattle.std.proofs.Common.{◌≡◌, ◌<◌, ◌==◌, false, arith}
use Rattle.std.proofs.lemmas.Bool.Decides.{nat_tests}
use Rattle.std.proofs.lemmas.Grind.{common_steps}
use Rattle.std.specs.List.{prefix_len}
use Rattle.toml_parser.specs.Lexical.{first, is_bare, split_while, skip_ws}
use Rattle.toml_parser.proofs.LexicalLemmas.{IsCharBoundary-ascii_run}
use Rattle.toml_rows.proofs.Keys.{bare_word}
use Rattle.toml_rows.proofs.key.bare_key.Goals as goal

pub split_at-requires : goal.split_at-requires
split_at-requires c =
    rw (c.bare_len-len.ensures.len, c.as_bytes.ensures.value) (IsCharBoundary-ascii_run is_bare c.args.s.now c.utf8.s (λ b e. grind (arith, nat_tests)))

pub returns-clause-value : goal.returns-clause-value
returns-clause-value c =
    let s = c.args.s.now in
    let some : 0 < prefix_len is_bare s = grind (arith, common_steps) in
    let stop : (first (skip_ws (split_while is_bare s).1) == 46) ≡ false = grind (arith, common_steps) in
    rw (c.skip_ws-rest.ensures.rest, c.split_at.ensures.front, c.split_at.ensures.back, c.bare_len-len.ensures.len, c.as_bytes.ensures.value) (bare_word s some stop)
