use Rattle.message_elements.specs.declared.form.Class.TheVariants.{Digits}
use Rattle.message_bytes.proofs.KnownLemmas.{front_of}
use Rattle.message_bytes.proofs.runs.Known.left.Goals as goal

pub returns-in-Digits-clause-value : goal.returns-in-Digits-clause-value
returns-in-Digits-clause-value c = rw c.in-Digits.is (front_of Digits c.args.bytes.now c.run_from-run.result c.run_from-run.ensures.bound c.run_from-run.ensures.passes)

pub returns-in-Digits-clause-known : goal.returns-in-Digits-clause-known
returns-in-Digits-clause-known c = record {
  digits = front_of Digits c.args.bytes.now c.run_from-run.result c.run_from-run.ensures.bound c.run_from-run.ensures.passes;
  text = c.requires.text;
}
