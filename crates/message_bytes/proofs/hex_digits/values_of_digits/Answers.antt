use Rattle.std.proofs.Common.{◌≡◌, ℕ, ltb, refl, ◌∙◌, take, take_all, arith}
use Rattle.std.proofs.lemmas.Simd.{zip2_splat}
use Rattle.message_bytes.proofs.LaneLemmas.{joined, splat_is}
use Rattle.message_bytes.proofs.HexLanes.{sel_l-map, map_agrees, compared}
use Rattle.message_bytes.proofs.hex_digits.values_of_digits.Goals as goal

pub returns : goal.returns
returns c =
    let v = c.args.digits.now in
    let long = c.requires in
    let whole : take 16 v ≡ v = take_all 16 v (omega (arith, long)) in
    let from_zero = zip2_splat {Y = ℕ} _ v 16 48 long in
    let from_a = joined _ _ _ v (zip2_splat {Y = ℕ} _ v 16 32 long) (splat_is v 16 97 long) in
    let letters = sel_l-map _ _ _ v (compared ltb _ v 16 6 long from_a) (joined _ _ _ v from_a (splat_is v 16 10 long)) (splat_is v 16 255 long) in
    rw whole (sel_l-map _ _ _ v (compared ltb _ v 16 10 long from_zero) from_zero letters ∙ map_agrees _ _ v refl c.type_inv.digits)
