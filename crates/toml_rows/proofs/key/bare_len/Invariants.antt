use Rattle.std.proofs.Common.{◌≡◌, ◌+◌, drop}
use Rattle.std.specs.List.{prefix_len}
use Rattle.toml_parser.specs.Lexical.{is_bare}
use Rattle.toml_rows.proofs.key.bare_len.Given as goal

abbrev pub invariant-loop-at : goal.invariant-loop-at
invariant-loop-at l = prefix_len is_bare l.bytes ≡ l.at + prefix_len is_bare (drop l.at l.bytes)
