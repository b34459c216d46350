-- What stands behind blanks that were skipped stands behind the text in front of them.
use Rattle.std.proofs.Common.{◌≡◌, ℕ, List, refl, sym, ap, ◌∙◌, arith}
use Rattle.toml_parser.specs.Lexical.{skip_blank}
use Rattle.toml.specs.Data.{Members}
use Rattle.toml.specs.Tables.{Expression}
use Rattle.toml.proofs.Blanks.{skip_within}
use Rattle.toml_rows.specs.Rows.{IsLine, IsHeaded}
use Rattle.toml_rows.specs.Texts.{IsText, IsClosed}
use Rattle.toml_rows.proofs.Blanks.{skip_again}

pub line_ahead : (e : Expression) (text rest : List ℕ) → IsLine e (skip_blank text) rest → IsLine e text rest
line_ahead e text rest is =
    let again = skip_again text in
    record { some = rw again at is.some; read = rw again at is.read; shorter = omega (arith, is.shorter, skip_within text) }

pub headed_ahead : (header : Expression) (members : Members) (text rest : List ℕ) → IsHeaded header members (skip_blank text) rest → IsHeaded header members text rest
headed_ahead header members text rest is = record { below = is.below; headed = line_ahead header text is.below is.headed; paired = is.paired }

pub text_ahead : (t text rest : List ℕ) → IsText t (skip_blank text) rest → IsText t text rest
text_ahead t text rest is =
    let again = skip_again text in
    record { other = rw again at is.other; after = is.after; read = rw again at is.read; goes_on = is.goes_on; shorter = omega (arith, is.shorter, skip_within text) }

pub closed_ahead : (text rest : List ℕ) → IsClosed (skip_blank text) rest → IsClosed text rest
closed_ahead text rest is =
    let again = skip_again text in
    record { closes = rw again at is.closes; after = rw again at is.after; ends = is.ends }
