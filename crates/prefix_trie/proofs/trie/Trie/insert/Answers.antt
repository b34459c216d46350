use Rattle.std.proofs.Common.{◌≡◌, ◌++◌, ◌∷◌, [], length, true, false, Some, ap, ◌∙◌, arith}
use Rattle.std.specs.Prelude.{is_some}
use Rattle.prefix_trie.specs.Walk.{behind, row_at, reach}
use Rattle.prefix_trie.proofs.Rows.{indexed_same, indexed_more, present_at, is_absent, none_there}
use Rattle.prefix_trie.proofs.trie.Trie.insert.Goals as goal

pub returns-then-is_some-clause-present : goal.returns-then-is_some-clause-present
returns-then-is_some-clause-present g c =
    let rows = c.self.inside.rows.items in
    let new = c.branch_at.new.branches.items in
    let yes : is_some (row_at new c.in-Ok.at) ≡ true = cc in
    let to : reach (behind new) 0 c.args.prefix ≡ Some c.in-Ok.at = rw c.digits.ensures.digits at c.in-Ok.ensures.to in
    λ _. rw (← c.self.view_is) (present_at rows new c.args.prefix c.in-Ok.at (indexed_same rows c.self.inside.branches.items new c.self.invariant c.branch_at.ensures.same) to yes)

pub returns-in-Ok-push-clause-new : goal.returns-in-Ok-push-clause-new
returns-in-Ok-push-clause-new g c =
    let rows = c.self.inside.rows.items in
    let new = c.branch_at.new.branches.items in
    let none : is_some (row_at new c.in-Ok.at) ≡ false = cc in
    let to : reach (behind new) 0 c.args.prefix ≡ Some c.in-Ok.at = rw c.digits.ensures.digits at c.in-Ok.ensures.to in
    rw (← c.self.view_is) (is_absent rows new c.args.prefix c.in-Ok.at (indexed_same rows c.self.inside.branches.items new c.self.invariant c.branch_at.ensures.same) to (none_there (row_at new c.in-Ok.at) none))

pub invariant_of-self-in-Ok-push : goal.invariant_of-self-in-Ok-push
invariant_of-self-in-Ok-push g c =
    let rows = c.self.inside.rows.items in
    let new = c.branch_at.new.branches.items in
    let none : is_some (row_at new c.in-Ok.at) ≡ false = cc in
    let to : reach (behind new) 0 c.args.prefix ≡ Some c.in-Ok.at = rw c.digits.ensures.digits at c.in-Ok.ensures.to in
    let form = rw c.digits.ensures.digits at c.digits.ensures.form in
    let pushed : c.push.new.self.items ≡ rows ++ (c.args.prefix, c.args.value) ∷ [] = c.in-Ok-push.ensures.items in
    let place : c.in-Ok-try_from.place ≡ length rows = omega arith in
    rw pushed (indexed_more rows new c.set_row.new.branches.items c.args.prefix c.args.value c.in-Ok.at (indexed_same rows c.self.inside.branches.items new c.self.invariant c.branch_at.ensures.same) to (none_there (row_at new c.in-Ok.at) none)
    c.set_row.ensures.behind (c.set_row.ensures.now ∙ ap (λ k. Some k) place) c.set_row.ensures.others c.set_row.ensures.len form)
