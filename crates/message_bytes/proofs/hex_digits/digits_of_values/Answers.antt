use Rattle.std.proofs.Common.{ℕ, ltb, refl, ◌∙◌}
use Rattle.std.proofs.lemmas.Simd.{zip2_splat}
use Rattle.message_bytes.proofs.LaneLemmas.{itself}
use Rattle.message_bytes.proofs.HexLanes.{sel_l-map, map_agrees_below, compared}
use Rattle.message_bytes.proofs.hex_digits.digits_of_values.Goals as goal

pub returns : goal.returns
returns c =
    let v = c.args.values in
    let long = c.requires.long in
    sel_l-map _ _ _ v (compared ltb _ v 16 10 long (itself v)) (zip2_splat {Y = ℕ} _ v 16 48 long) (zip2_splat {Y = ℕ} _ v 16 55 long) ∙ map_agrees_below 16 _ _ v refl c.requires.values
