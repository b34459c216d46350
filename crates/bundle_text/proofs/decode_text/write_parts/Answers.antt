use Rattle.std.proofs.Common.{ℕ, List, IfOk, sym, subst}
use Rattle.bundle_text.specs.Answers.{IsDecodedParts, Wrote}
use Rattle.bundle_text.proofs.Pairs.{one}
use Rattle.bundle_text.proofs.decode_text.write_parts.Goals as goal

pub returns-clause-ok : goal.returns-clause-ok
returns-clause-ok g c =
    subst (λ (ps : List (List ℕ)). IfOk c.write_lines.result (Wrote (IsDecodedParts ps) (g.W.Sink.written c.args.writer.now) (g.W.Sink.written c.write_lines.new.writer))) (sym (one c.args.parts.now _ c.if-parts-ne1.false)) c.write_lines.ensures.ok
