use Rattle.std.proofs.Common.{◌<◌, length, drop, arith}
use Rattle.toml_parser.specs.Lexical.{skip_blank}
use Rattle.toml_rows.proofs.Headers.{row_header_line}
use Rattle.toml_rows.proofs.line.bare_row_header.Goals as goal

pub returns : goal.returns
returns c =
    let s = c.args.s.now in
    let inside = c.in_ok-inside.ensures in
    let after = c.in_ok-after.ensures in
    let rest = c.in_ok-rest.ensures in
    let within : length (drop 2 (skip_blank s)) < length (skip_blank s) = rw inside.inside at inside.shorter in
    let less : length c.in_ok-rest.rest.now < length (skip_blank s) = omega (arith, inside.shorter, after.shorter, rest.shorter) in
    row_header_line c.args.word.now s c.in_ok-after.after.now c.in_ok-rest.rest.now inside.opens inside.twice within (rw inside.inside at after.value) rest.closes rest.rest rest.ends less
