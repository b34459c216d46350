use Rattle.std.proofs.Common.{◌≡◌, ℕ, ◌∙◌, length, arith}
use Rattle.std.proofs.lemmas.Simd.{zip2_splat}
use Rattle.rank_cert.proofs.Lines.{none_wraps}
use Rattle.rank_cert.proofs.page.spelled.Goals as goal

pub returns : goal.returns
returns g c =
    let digits = c.args.digits.now in
    let long : length digits ≡ g.row.N = omega arith in
    zip2_splat {Y = ℕ} _ digits g.row.N 48 long ∙ none_wraps digits c.requires
