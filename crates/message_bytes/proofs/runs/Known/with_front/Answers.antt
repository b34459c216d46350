use Rattle.std.proofs.Common.{sym, arith}
use Rattle.message_elements.specs.declared.form.Class.TheVariants.{Digits, Text}
use Rattle.message_bytes.proofs.KnownLemmas.{front_known}
use Rattle.message_bytes.proofs.runs.Known.with_front.Goals as goal
use Rattle.message_bytes.proofs.runs.Known.with_front.Goals.{in-Digits, in-Text}

pub returns-then-left-bytes-clause-value : goal.returns-then-left-bytes-clause-value
returns-then-left-bytes-clause-value c =
    elim c.match-class.branch [
      | in-Digits w ↦ rw w.in-Digits.is (sym (front_known Digits c.args.self.digits c.args.size c.args.bytes.now c.requires.size (omega (arith, c.if-left-bytes.true, w.left-is)) c.requires.known.digits))
      | in-Text w ↦ rw w.in-Text.is (sym (front_known Text c.args.self.text c.args.size c.args.bytes.now c.requires.size (omega (arith, c.if-left-bytes.true, w.left-is)) c.requires.known.text))
    ]
