use Rattle.std.proofs.Common.{◌≡◌, length, arith, rules}
use Rattle.std.specs.Int.{w16, to_be_bytes}
use Rattle.std.proofs.lemmas.Result.{err_from_is_err_and}
use Rattle.message_frames.proofs.FrameLemmas.{first_front, second_front}
use Rattle.message_frames.proofs.frame.write_frame.Goals as goal

pub returns-in_err-write_all-clause-fault : goal.returns-in_err-write_all-clause-fault
returns-in_err-write_all-clause-fault g c =
    let p = err_from_is_err_and c.from_residual.result c.from_residual.ensures.1 in
    let head : c.write_u16.new.buf ≡ to_be_bytes w16 (length c.args.bytes.now) = search rules in
    let failed = c.in_err-write_all.ensures.err in
    rw (p.1, p.2) (omega arith, first_front _ _ (to_be_bytes w16 (length c.args.bytes.now)) c.args.bytes.now (rw head at failed), c.in_err-write_all.ensures.counts)

pub returns-in_err-write_all-2-clause-fault : goal.returns-in_err-write_all-2-clause-fault
returns-in_err-write_all-2-clause-fault g c =
    let p = err_from_is_err_and c.from_residual-in_err-write_all-2.result c.from_residual-in_err-write_all-2.ensures.1 in
    let head : c.write_u16.new.buf ≡ to_be_bytes w16 (length c.args.bytes.now) = search rules in
    let wrote = c.in_ok-write_all.ensures.ok in
    let failed = c.in_err-write_all-2.ensures.err in
    rw (p.1, p.2) (omega arith, second_front _ _ _ (to_be_bytes w16 (length c.args.bytes.now)) c.args.bytes.now (rw head at wrote) failed, rw c.in_ok-write_all.ensures.counts at c.in_err-write_all-2.ensures.counts)
