use Rattle.std.proofs.Common.{sym, refl, inl, inr, arith}
use Rattle.message_keys.proofs.KeyLemmas.{own_some, own_none, trace_length, time_length}
use Rattle.iso_message.proofs.Found.{id_length}
use Rattle.message_keys.proofs.keys.own_key.Goals as goal

pub returns-in_err-acquirer : goal.returns-in_err-acquirer
returns-in_err-acquirer c = rw c.from_residual.ensures (own_none c.args.message.now 32 (inl refl) (sym c.in_err-acquirer.ensures))

pub returns-in_err-trace : goal.returns-in_err-trace
returns-in_err-trace c = rw c.from_residual-in_err-trace.ensures (own_none c.args.message.now 11 (inr (inl refl)) (sym c.in_err-trace.ensures))

pub returns-in_err-time : goal.returns-in_err-time
returns-in_err-time c = rw c.from_residual-in_err-time.ensures (own_none c.args.message.now 7 (inr (inr refl)) (sym c.in_err-time.ensures))

pub pad11-requires : goal.pad11-requires
pad11-requires c = id_length c.args.message.now c.kind.ensures.is_message _ (sym c.in_ok-acquirer.ensures)

pub array_at-requires : goal.array_at-requires
array_at-requires c = let e = trace_length c.args.message.now c.kind.ensures.is_message _ (sym c.in_ok-trace.ensures) in (omega arith, omega (arith, e))

pub array_at-requires-2 : goal.array_at-requires-2
array_at-requires-2 c = let e = time_length c.args.message.now c.kind.ensures.is_message _ (sym c.in_ok-time.ensures) in (omega arith, omega (arith, e))

pub returns : goal.returns
returns c =
    own_some c.args.message.now _ _ _ _ _ _ c.kind.ensures.is_message (sym c.in_ok-acquirer.ensures) (sym c.in_ok-trace.ensures) (sym c.in_ok-time.ensures)
    c.pad11.ensures c.array_at.ensures c.array_at-2.ensures
