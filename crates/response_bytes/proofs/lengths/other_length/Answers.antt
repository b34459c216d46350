use Rattle.std.proofs.Common.{◌≡◌, Some, sym, ap}
use Rattle.message_elements.specs.declared.form.Form.TheVariants.{Binary}
use Rattle.message_elements.specs.Table.{form_of}
use Rattle.response_bytes.proofs.PieceLengths.{binary_length}
use Rattle.response_bytes.proofs.lengths.other_length.Goals as goal

pub returns-in-Some-Binary : goal.returns-in-Some-Binary
returns-in-Some-Binary c = λ value rest good e.
    let form : form_of c.args.number ≡ Some Binary = cc c.in-Some-Binary.ensures in
    let eight = rw form at good in
    rw form (ap (λ n. Some n) (sym (binary_length value eight.0)))
