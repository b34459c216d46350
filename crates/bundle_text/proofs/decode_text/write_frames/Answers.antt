use Rattle.std.proofs.Common.{refl}
use Rattle.bundle_text.specs.Answers.{decode_status}
use Rattle.bundle_text.proofs.Pairs.{same_fault}
use Rattle.bundle_text.proofs.decode_text.write_frames.Goals as goal

pub returns-in-Ok-clause-ok : goal.returns-in-Ok-clause-ok
returns-in-Ok-clause-ok g c =
    let w = c.in-Ok.ensures.ok in
    (record { text = w.2.0; status = decode_status c.in-Ok.good }, (w.0, w.1, (c.in-Ok.good, w.2.1, refl)), w.2.2, c.status.ensures)

pub returns-in-Err-clause-write : goal.returns-in-Err-clause-write
returns-in-Err-clause-write g c e =
    let w = c.in-Err.ensures.write (same_fault e) in
    (record { text = w.2.0; status = decode_status w.2.1 }, (w.0, w.1, (w.2.1, w.2.2, refl)), w.2.3)
