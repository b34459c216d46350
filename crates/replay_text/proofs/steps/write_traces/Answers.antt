use Rattle.std.proofs.Common.{ap, subst}
use Rattle.std.specs.Io.KnownBytes.{Appends}
use Rattle.card_digits.specs.Stream.{AppendsFront}
use Rattle.replay_text.specs.Lines.{ordered_text}
use Rattle.replay_text.proofs.steps.write_traces.Goals as goal

pub returns-in-Ok-write_steps-clause-ok : goal.returns-in-Ok-write_steps-clause-ok
returns-in-Ok-write_steps-clause-ok g c steps are = subst (Appends _ _) (ap (ordered_text c.args.tables.now 1) (c.in-Ok-steps.ensures.steps c.args.tables.now steps are)) c.in-Ok-write_steps.ensures.ok

pub returns-clause-write : goal.returns-clause-write
returns-clause-write g c e steps are = subst (AppendsFront _ _) (ap (ordered_text c.args.tables.now 1) (c.in-Ok-steps.ensures.steps c.args.tables.now steps are)) c.in-Err.ensures.err
