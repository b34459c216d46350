use Rattle.std.proofs.Common.{inl}
use Rattle.std.proofs.lemmas.Result.{IfOk-weaker}
use Rattle.card_view.proofs.Listing.{accepted_is}
use Rattle.card_view.proofs.answer.listed.Goals as goal

pub returns-in-Ok : goal.returns-in-Ok
returns-in-Ok c = IfOk-weaker c.accepted_answer.result _ _ (λ a h. inl (accepted_is c.args.format c.args.tables.now c.args.cert.now a c.in-Ok.ensures.accepted.1 h)) c.accepted_answer.ensures
