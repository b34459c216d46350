use Rattle.std.proofs.Common.{refl, ap, subst}
use Rattle.network_law.specs.Entries as inputs
use Rattle.replay_script.specs.Lines.{event_of}
use Rattle.net_replay.proofs.Reading.{IsOwn, line_placed}
use Rattle.net_replay.proofs.running.Running.input.Goals as goal
use Rattle.net_replay.proofs.running.Running.input.Goals.{in-Enter+in_ok-from_slice-in-Enter, in-Take+in-Some+in_ok-share-in-Take, in-LinkUp, in-LinkDown, in-Tick, in-HostAnswer, in-NewDate, in-Lend+in_ok-case-in-Lend}

pub packet-requires-clause-own : goal.packet-requires-clause-own
packet-requires-clause-own c = subst (λ z. IsOwn c.args.self.now.tables.now c.args.line.now.node (event_of z)) c.in-Take.is (line_placed c.args.self.now.tables.now c.requires.said.0 _ c.requires.said.1).1

pub returns-in_default-clause-fault : goal.returns-in_default-clause-fault
returns-in_default-clause-fault c aside steps standing = (refl, rw c.in-Take.is (c.in_default.ensures steps standing))

pub returns-clause-input : goal.returns-clause-input
returns-clause-input c steps standing = elim c.match-line.branch [
  | in-Enter+in_ok-from_slice-in-Enter w ↦ rw (c.new.ensures.case, w.case-is, w.in-Enter.is) (ap inputs.Enter w.in_ok-from_slice-in-Enter.ensures)
  | in-Take+in-Some+in_ok-share-in-Take w ↦ rw (c.new.ensures.case, w.case-is, w.in-Take.is) (w.in-Some.bytes.now, ap (inputs.Take w.in-Take.link w.in-Take.serial) w.in_ok-share-in-Take.ensures, w.in-Some.ensures steps standing)
  | in-LinkUp w ↦ rw (c.new.ensures.case, w.case-is, w.in-LinkUp.is) refl
  | in-LinkDown w ↦ rw (c.new.ensures.case, w.case-is, w.in-LinkDown.is) refl
  | in-Tick w ↦ rw (c.new.ensures.case, w.case-is, w.in-Tick.is) refl
  | in-HostAnswer w ↦ rw (c.new.ensures.case, w.case-is, w.in-HostAnswer.is) refl
  | in-NewDate w ↦ rw (c.new.ensures.case, w.case-is, w.in-NewDate.is) refl
  | in-Lend+in_ok-case-in-Lend w ↦ rw (c.new.ensures.case, w.case-is, w.in-Lend.is) w.in_ok-case-in-Lend.ensures
]
