use Rattle.std.proofs.Common.{sym, arith}
use Rattle.message_keys.proofs.KeyLemmas.{original_some, original_none, original_length}
use Rattle.message_keys.proofs.keys.original_key.Goals as goal

pub returns-in_err-original : goal.returns-in_err-original
returns-in_err-original c = rw c.from_residual.ensures (original_none c.args.message.now (sym c.in_err-original.ensures))

pub array_at-requires : goal.array_at-requires
array_at-requires c = let e = original_length c.args.message.now c.kind.ensures.is_message _ (sym c.in_ok-original.ensures) in (omega arith, omega (arith, e))

pub array_at-requires-2 : goal.array_at-requires-2
array_at-requires-2 c = let e = original_length c.args.message.now c.kind.ensures.is_message _ (sym c.in_ok-original.ensures) in (omega arith, omega (arith, e))

pub array_at-requires-3 : goal.array_at-requires-3
array_at-requires-3 c = let e = original_length c.args.message.now c.kind.ensures.is_message _ (sym c.in_ok-original.ensures) in (omega arith, omega (arith, e))

pub returns : goal.returns
returns c = original_some c.args.message.now _ _ _ _ (sym c.in_ok-original.ensures) c.array_at.ensures c.array_at-2.ensures c.array_at-3.ensures
