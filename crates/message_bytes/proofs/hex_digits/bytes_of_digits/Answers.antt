use Rattle.std.proofs.Common.{◌≡◌, ◌∙◌, map, length}
use Rattle.std.proofs.lemmas.List.{length-map}
use Rattle.message_bytes.specs.HexDigits.{digit_value}
use Rattle.message_bytes.proofs.HexLanes.{decoded, none_stops}
use Rattle.message_bytes.proofs.hex_digits.bytes_of_digits.Goals as goal

pub returns : goal.returns
returns c =
    let digits = c.args.digits.now in
    let values = map digit_value digits in
    let long : length values ≡ 16 = length-map digits digit_value ∙ c.requires in
    rw c.values_of_digits-values.ensures (decoded digits c.requires (none_stops values long (rw c.values_of_digits-values.ensures at c.if-values-ne0.false)))
