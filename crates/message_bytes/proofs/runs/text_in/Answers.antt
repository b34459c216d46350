use Rattle.std.proofs.Common.{ℕ, leb, cond, refl}
use Rattle.std.proofs.lemmas.Simd.{zip2_splat, length-chunk}
use lib.Lanes.{chunk}
use Rattle.message_elements.specs.Values.{fits}
use Rattle.message_elements.specs.declared.form.Class.TheVariants.{Text}
use Rattle.message_bytes.proofs.LaneLemmas.{joined, splat_is, passes_in}
use Rattle.message_bytes.proofs.runs.text_in.Goals as goal

pub returns : goal.returns
returns c =
    let v = chunk c.args.at 16 c.args.bytes.now in
    let long = length-chunk c.args.at 16 c.args.bytes.now c.requires in
    passes_in (fits Text) c.args.bytes.now c.args.at _ _ c.requires c.type_inv.bytes c.lanes_before.ensures _
    (joined (λ a b. cond (leb a b) 255 0) _ _ v (splat_is v 16 95 long) (zip2_splat {Y = ℕ} _ v 16 32 long)) refl
