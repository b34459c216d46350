use Rattle.std.proofs.Common.{◌≡◌, ◌==◌, true, false, inr, sym, refl, ◌∙◌, Some, None, slice_get, ◌++◌, ◌∷◌, []}
use Rattle.std.specs.List.{list_any}
use Rattle.run_plan.specs.declared.plan.Session.{Session}
use Rattle.run_plan.specs.Plans.{session_of}
use Rattle.run_plan.proofs.Adding.{acquirer_twice, no_row, opened}
use Rattle.run_plan.proofs.draft.Draft.session_at.Goals as goal

pub returns-then-has_row : goal.returns-then-has_row
returns-then-has_row c =
    let there : list_any (λ q. q == c.args.place) c.args.self.now.acquirers ≡ true = rw (← c.self.view_is, ← c.as_slice.ensures.value) (sym c.has_row.ensures ∙ c.if-has_row.true) in
    inr (acquirer_twice c.args.tables.now c.args.self.now c.args.place _ there)

pub returns-in_default : goal.returns-in_default
returns-in_default c =
    let new : list_any (λ q. q == c.args.place) c.args.self.now.acquirers ≡ false = rw (← c.self.view_is, ← c.as_slice.ensures.value) (sym c.has_row.ensures ∙ c.if-has_row.false) in
    let none : slice_get c.args.tables.now.acquirers c.args.place ≡ None = sym c.row_at.ensures ∙ c.in_default.is in
    inr (no_row c.args.tables.now c.args.self.now c.args.place _ new none)

pub returns : goal.returns
returns c =
    let i = c.self.inside in
    let new : list_any (λ q. q == c.args.place) i.acquirers.items ≡ false = rw (← c.as_slice.ensures.value) (sym c.has_row.ensures ∙ c.if-has_row.false) in
    let row : slice_get c.args.tables.now.acquirers c.args.place ≡ Some c.in-Some.row = sym c.row_at.ensures ∙ c.in-Some.is in
    let s : Session = record { node = c.in-Some.row.node; lines = c.new.result } in
    let rows : c.push.new.self.items ≡ i.acquirers.items ++ c.args.place ∷ [] = rw c.if-is_err.ensures.negation at c.push.ensures.items in
    let all : c.push-2.new.self.items ≡ i.sessions.items ++ s ∷ [] = rw c.if-is_err-2.ensures.negation at c.push-2.ensures.items in
    let empty : session_of s ≡ record { node = c.in-Some.row.node; lines = [] } = rw c.new.ensures.items refl in
    rw (← c.self.view_is) (opened c.args.tables.now _ c.args.place _ c.in-Some.row i.sessions.items s c.push-2.new.self.items c.push.new.self.items new row refl all empty rows)
