-- Three parts, four, and other numbers of them.
use Rattle.std.proofs.Common.{◌≡◌, ◌≢◌, ℕ, List, [], ◌∷◌, map, length, get_or, Bor, refl, arith}
use Rattle.bundle_text.specs.Answers.{parts_fault}
use Rattle.trace_view.specs.Answers.{trace_parts}

pub others : (parts : List (Bor (List ℕ))) → length parts ≢ 3 → length parts ≢ 4 → trace_parts (map (λ p. p.now) parts) ≡ parts_fault
others [] h k = refl
others (a ∷ []) h k = refl
others (a ∷ b ∷ []) h k = refl
others (a ∷ b ∷ c ∷ []) h k = absurd (h (omega arith))
others (a ∷ b ∷ c ∷ d ∷ []) h k = absurd (k (omega arith))
others (a ∷ b ∷ c ∷ d ∷ e ∷ parts) h k = refl

pub four : (parts : List (Bor (List ℕ))) (a b c d : Bor (List ℕ)) → length parts ≡ 4 → a ≡ get_or parts 0 a → b ≡ get_or parts 1 b → c ≡ get_or parts 2 c → d ≡ get_or parts 3 d → map (λ p. p.now) parts ≡ a.now ∷ b.now ∷ c.now ∷ d.now ∷ []
four [] a b c d h x y z w = absurd (omega arith)
four (u ∷ []) a b c d h x y z w = absurd (omega arith)
four (u ∷ v ∷ []) a b c d h x y z w = absurd (omega arith)
four (u ∷ v ∷ s ∷ []) a b c d h x y z w = absurd (omega arith)
four (u ∷ v ∷ s ∷ r ∷ []) a b c d h x y z w = rw (x, y, z, w) refl
four (u ∷ v ∷ s ∷ r ∷ q ∷ parts) a b c d h x y z w = absurd (omega arith)
