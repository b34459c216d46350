use Rattle.std.proofs.Common.{◌≡◌, ◌<◌, ◌-◌, ◌++◌, ◌∷◌, [], length, Some, slice_get, nat_le, false, refl, arith}
use Rattle.std.proofs.lemmas.Option.{slice_get_read}
use Rattle.run_plan.specs.declared.plan.Session.{Session}
use Rattle.run_plan.proofs.Adding.{sent}
use Rattle.run_plan.proofs.draft.Draft.send.Goals as goal

pub returns : goal.returns
returns c =
    let i = c.self.inside in
    let s = c.index_mut-session.result.now in
    let k = c.len-count.result - 1 in
    let s' : Session = record { node = s.node; lines = c.push.new.self } in
    let there : slice_get i.sessions.items k ≡ Some s = slice_get_read i.sessions.items (length i.sessions.items) k s refl (omega arith) c.index_mut-session.ensures.value in
    let short : length s.lines.items < 10000 = omega (arith, s.lines.ok.0) in
    let few : nat_le 10000 (length s.lines.items) ≡ false = grind arith in
    let lines : s'.lines.items ≡ s.lines.items ++ c.args.message ∷ [] = rw c.if-is_err.ensures.negation at c.push.ensures.items in
    let last : k ≡ length i.sessions.items - 1 = omega arith in
    rw (← c.self.view_is) (sent _ i.sessions.items k s s' _ c.args.message refl last there few refl lines)
