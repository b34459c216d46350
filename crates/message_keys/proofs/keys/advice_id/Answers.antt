use Rattle.std.proofs.Common.{inl, inr}
use Rattle.message_keys.proofs.KeyLemmas.{identity_some, identity_none}
use Rattle.message_keys.proofs.keys.advice_id.Goals as goal

pub returns-in_err-kind : goal.returns-in_err-kind
returns-in_err-kind c = rw c.from_residual.ensures (identity_none c.args.message.now (inl (rw c.kind.ensures.kind at c.in_err-kind.ensures)))

pub returns-in_err-key : goal.returns-in_err-key
returns-in_err-key c = rw c.from_residual-in_err-key.ensures (identity_none c.args.message.now (inr c.in_err-key.ensures))

pub returns : goal.returns
returns c = identity_some c.args.message.now _ _ _ (rw c.kind.ensures.kind at c.in_ok-kind.ensures) c.in_ok-key.ensures c.forwarder_of-forwarder.ensures
