use Rattle.std.proofs.Common.{◌≡◌, ◌<◌, ◌+◌, ℕ, List, [], ◌∷◌, length, Some, refl, sym, ◌∙◌, arith}
use Rattle.std.proofs.lemmas.Bool.{eqb-true}
use Rattle.prefix_trie.specs.declared.branch.Branch.{Branch}
use Rattle.prefix_trie.specs.Walk.{behind, reach}
use Rattle.prefix_trie.proofs.Same.{same_bare, from_none}
use Rattle.prefix_trie.proofs.branch.add_root.Goals as goal

empty : (bs : List Branch) → length bs ≡ 0 → bs ≡ []
empty [] h = refl
empty (b ∷ bs) h = absurd (omega arith)

within : (old : List Branch) (n : ℕ) → old ≡ [] → 0 < n → (a : List ℕ) (i : ℕ) → reach (behind old) 0 a ≡ Some i → i < n
within old n none some a i h = let z = from_none a i (rw none at h) in omega arith

pub returns-in_ok-push_bare-clause-same : goal.returns-in_ok-push_bare-clause-same
returns-in_ok-push_bare-clause-same c =
    let old = c.args.branches.now.items in
    let len : length c.push_bare.new.branches.items ≡ length old + 1 = c.in_ok-push_bare.ensures.len in
    let zero' : c.args.branches.now.len ≡ 0 = eqb-true c.args.branches.now.len 0 (sym c.is_empty.ensures ∙ c.if-is_empty.true) in
    let none : old ≡ [] = empty old (omega arith) in
    same_bare old c.push_bare.new.branches.items c.requires.tree c.push_bare.ensures.behind c.push_bare.ensures.rows
    (λ a i h _. within old (length c.push_bare.new.branches.items) none (omega arith) a i h)
