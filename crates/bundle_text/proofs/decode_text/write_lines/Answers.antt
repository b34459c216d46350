use Rattle.std.proofs.Common.{refl}
use Rattle.bundle_text.specs.Answers.{decode_status}
use Rattle.bundle_text.proofs.Pairs.{same_fault}
use Rattle.bundle_text.proofs.decode_text.write_lines.Goals as goal

pub returns-in-Ok-clause-ok : goal.returns-in-Ok-clause-ok
returns-in-Ok-clause-ok g c =
    let w = c.in-Ok.ensures.ok in
    (record { text = w.0; status = decode_status c.in-Ok.good }, (c.in-Ok.good, w.1, refl), w.2, c.status.ensures)

pub returns-in-Err-clause-write : goal.returns-in-Err-clause-write
returns-in-Err-clause-write g c e =
    let w = c.in-Err.ensures.write (same_fault e) in
    (record { text = w.0; status = decode_status w.1 }, (w.1, w.2, refl), w.3)
