use Rattle.std.proofs.Common.{◌≡◌, ◌+◌, false, drop}
use Rattle.std.specs.List.{prefix_len}
use Rattle.toml_parser.specs.Strings.{is_plain}
use Rattle.toml_rows.proofs.string.plain_len.Given as goal

abbrev pub invariant-loop-at : goal.invariant-loop-at
invariant-loop-at l = prefix_len (is_plain 34 false) l.bytes ≡ l.at + prefix_len (is_plain 34 false) (drop l.at l.bytes)
