use Rattle.std.proofs.Common.{◌≡◌, ◌<◌, refl, length, arith, rules}
use Rattle.rank_rows.proofs.Repeated.{repeated_runs, repeated_marked, can_repeat}
use Rattle.rank_rows.proofs.GreatestName.{of_none}
use Rattle.rank_rows.proofs.runs.Runs.repeat_run.Goals as goal

pub invariant_of-self-then-ranks-begin-2 : goal.invariant_of-self-then-ranks-begin-2
invariant_of-self-then-ranks-begin-2 c =
    let e = c.in_ok-begin_repeat.ensures in
    let rows = c.self.inside.rows.items in
    let here : c.args.place ≡ c.self.inside.last = search rules in
    let begin : c.len-begin.result ≡ length rows = search rules in
    let within : c.args.place < length rows = omega (arith, begin) in
    let some : 0 < length c.args.ranks.now = search rules in
    let runs = repeated_runs rows c.begin_repeat.new.rows.items c.self.inside.begins.entries c.begin_repeat.new.begins.entries c.self.inside.last c.args.place c.args.prefix c.args.ranks.now
    c.self.invariant.0 here within some (e.new (rw c.if-not-branch.false refl)) (e.begins (rw c.if-not-branch.false refl)) (e.rows (rw c.if-not-branch.false refl)) in
    (rw begin runs, rw (← c.deref.ensures.value, ← c.rows_from.ensures) c.marks_of-self-inside.ensures, of_none _ _ c.none-self-inside.ensures)

pub invariant_of-self-else-ranks-begin-2 : goal.invariant_of-self-else-ranks-begin-2
invariant_of-self-else-ranks-begin-2 c =
    let e = c.in_ok-begin_repeat.ensures in
    let rows = c.self.inside.rows.items in
    let here : c.args.place ≡ c.self.inside.last = search rules in
    let begin : c.len-begin.result ≡ length rows = search rules in
    let within : c.args.place < length rows = omega (arith, begin) in
    let some : 0 < length c.args.ranks.now = search rules in
    let whole = e.rows (rw c.if-not-branch.false refl) in
    let runs = repeated_runs rows c.begin_repeat.new.rows.items c.self.inside.begins.entries c.begin_repeat.new.begins.entries c.self.inside.last c.args.place c.args.prefix c.args.ranks.now
    c.self.invariant.0 here within some (e.new (rw c.if-not-branch.false refl)) (e.begins (rw c.if-not-branch.false refl)) whole in
    rw begin (runs, repeated_marked c.self.inside.marks rows c.begin_repeat.new.rows.items c.self.inside.last c.args.place c.args.prefix c.args.ranks.now c.self.invariant.1 here whole, of_none _ _ c.none-self-inside.ensures)

pub returns-then-ranks-begin-2-clause-may : goal.returns-then-ranks-begin-2-clause-may
returns-then-ranks-begin-2-clause-may c =
    let here : c.args.place ≡ c.self.inside.last = search rules in
    λ _. rw (← c.self.view_is, here) (can_repeat c.self.inside.rows.items c.self.inside.begins.entries c.self.inside.last c.args.prefix c.self.invariant.0 (c.in_ok-begin_repeat.ensures.new (rw c.if-not-branch.false refl)))

pub returns-else-ranks-begin-2-clause-may : goal.returns-else-ranks-begin-2-clause-may
returns-else-ranks-begin-2-clause-may c =
    let here : c.args.place ≡ c.self.inside.last = search rules in
    λ _. rw (← c.self.view_is, here) (can_repeat c.self.inside.rows.items c.self.inside.begins.entries c.self.inside.last c.args.prefix c.self.invariant.0 (c.in_ok-begin_repeat.ensures.new (rw c.if-not-branch.false refl)))
