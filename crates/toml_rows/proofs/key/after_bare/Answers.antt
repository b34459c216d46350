use Rattle.std.proofs.Common.{◌≡◌, ◌==◌, false, length, take, drop, slice_index, rules, arith}
use Rattle.std.proofs.lemmas.Bool.Decides.{nat_tests}
use Rattle.std.proofs.lemmas.Grind.{common_steps}
use Rattle.toml_parser.specs.Lexical.{first, is_bare, skip_ws}
use Rattle.toml_parser.proofs.LexicalLemmas.{IsCharBoundary-ascii_run}
use Rattle.toml_rows.proofs.Keys.{word_in_front, bare_in_front}
use Rattle.toml_rows.proofs.key.after_bare.Goals as goal

pub split_at-requires : goal.split_at-requires
split_at-requires c =
    let s = c.args.s.now in
    let word = c.args.word.now in
    let front : take (length word) s ≡ word = search rules in
    let stop : is_bare (slice_index s (length word)) ≡ false = search rules in
    rw (← word_in_front s word front stop c.requires.bare) (IsCharBoundary-ascii_run is_bare s c.utf8.s (λ b e. grind (arith, nat_tests)))

pub returns-in_default-clause-value : goal.returns-in_default-clause-value
returns-in_default-clause-value c =
    let s = c.args.s.now in
    let word = c.args.word.now in
    let front : take (length word) s ≡ word = search rules in
    let stop : is_bare (slice_index s (length word)) ≡ false = search rules in
    let dot : (first (skip_ws (drop (length word) s)) == 46) ≡ false = grind (arith, common_steps) in
    rw (c.skip_ws-rest.ensures.rest, c.split_at.ensures.back) (bare_in_front s word c.requires.some front stop c.requires.bare dot)
