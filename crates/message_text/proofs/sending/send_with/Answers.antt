use Rattle.std.proofs.lemmas.Result.{on_err_weaker}
use Rattle.message_frames.proofs.FrameLemmas.{second_front}
use Rattle.message_text.proofs.sending.send_with.Goals as goal

pub returns-clause-err : goal.returns-clause-err
returns-clause-err g c = on_err_weaker c.write_all.result (λ h. second_front _ _ _ c.args.waiting.now.items c.args.text.now c.in_ok-send.ensures.sent h) c.write_all.ensures.err
