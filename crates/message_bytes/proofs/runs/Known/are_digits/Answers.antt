use Rattle.std.proofs.Common.{sym, ◌∙◌}
use Rattle.std.proofs.lemmas.Bool.{le-leb}
use Rattle.message_elements.specs.declared.form.Class.TheVariants.{Digits}
use Rattle.message_bytes.proofs.KnownLemmas.{front_known}
use Rattle.message_bytes.proofs.runs.Known.are_digits.Goals as goal

pub returns-then-self-bytes : goal.returns-then-self-bytes
returns-then-self-bytes c =
    let le = c.if-self-bytes.true in
    le-leb _ _ le ∙ sym (front_known Digits c.args.self.now.digits c.args.size c.args.bytes.now c.requires.size le c.requires.known.digits)
