use Rattle.message_elements.specs.declared.form.Class.TheVariants.{Digits, Text}
use Rattle.message_bytes.proofs.KnownLemmas.{front_of, all_digits}
use Rattle.message_bytes.proofs.runs.Known.of.Goals as goal

pub returns : goal.returns
returns c = record {
  digits = front_of Digits c.args.bytes.now c.run_from-digits.result c.run_from-digits.ensures.bound c.run_from-digits.ensures.passes;
  text = front_of Text c.args.bytes.now c.run_from-text.result c.run_from-text.ensures.bound c.run_from-text.ensures.passes;
}

pub returns-then-digits-bytes : goal.returns-then-digits-bytes
returns-then-digits-bytes c = all_digits c.args.bytes.now c.run_from-digits.result c.if-digits-bytes.true c.run_from-digits.ensures.passes
