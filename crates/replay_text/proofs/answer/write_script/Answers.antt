use Rattle.std.proofs.Common.{refl, sym, ap, inl}
use Rattle.bundle_text.specs.declared.answer.Status.TheVariants.{Done}
use Rattle.bundle_text.proofs.Pairs.{same_fault}
use Rattle.replay_text.specs.Lines.{steps_text}
use Rattle.replay_text.specs.Answers.{outcome_said}
use Rattle.replay_text.proofs.answer.write_script.Goals as goal

pub returns-in-Ok-write_kept-clause-ok : goal.returns-in-Ok-write_kept-clause-ok
returns-in-Ok-write_kept-clause-ok g c =
    let t = c.args.tables.now in
    let o = c.in-Ok.ensures.outcome in
    let is = rw c.requires at o.1 in
    let are = rw c.requires at o.2 in
    (record { text = steps_text t o.0; status = Done }, inl (sym (ap (outcome_said t) is)), c.in-Ok-write_kept.ensures.ok o.0 are, refl)

pub returns-in-Err-write_kept-clause-write : goal.returns-in-Err-write_kept-clause-write
returns-in-Err-write_kept-clause-write g c e =
    let t = c.args.tables.now in
    let o = c.in-Ok.ensures.outcome in
    let is = rw c.requires at o.1 in
    let are = rw c.requires at o.2 in
    (record { text = steps_text t o.0; status = Done }, inl (sym (ap (outcome_said t) is)), c.in-Err-write_kept.ensures.write (same_fault e) o.0 are)
