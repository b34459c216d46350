-- The elements of a fixed length.
use Rattle.std.specs.Prelude.{Option, Some, None}
use Rattle.message_elements.specs.declared.form.Form.{Form}
use Rattle.message_elements.specs.declared.form.Form.TheVariants.{Fixed}
use Rattle.message_elements.specs.declared.form.FixedForm.{FixedForm}

-- the class and the length of a form of a fixed length
abbrev pub fixed_of : Option Form → Option FixedForm
fixed_of (Some (Fixed class size)) = Some (record { class = class; size = size })
fixed_of _ = None
