-- One part, two, three, and other numbers of them.
use Rattle.std.proofs.Common.{◌≡◌, ◌≢◌, ℕ, List, [], ◌∷◌, map, length, get_or, Bor, Result, Err, refl, ap, arith}
use Rattle.bundle_text.specs.Answers.{Said, check_parts, parts_fault, IsMadeOfParts, IsDecodedParts}

pub not_two : (parts : List (Bor (List ℕ))) → length parts ≢ 2 → check_parts (map (λ p. p.now) parts) ≡ parts_fault
not_two [] h = refl
not_two (a ∷ []) h = refl
not_two (a ∷ b ∷ []) h = absurd (h (omega arith))
not_two (a ∷ b ∷ c ∷ parts) h = refl

pub two : (parts : List (Bor (List ℕ))) (a b : Bor (List ℕ)) → length parts ≡ 2 → a ≡ get_or parts 0 a → b ≡ get_or parts 1 b → map (λ p. p.now) parts ≡ a.now ∷ b.now ∷ []
two [] a b h x y = absurd (omega arith)
two (u ∷ []) a b h x y = absurd (omega arith)
two (u ∷ v ∷ []) a b h x y = rw (x, y) refl
two (u ∷ v ∷ w ∷ parts) a b h x y = absurd (omega arith)

pub three : (parts : List (Bor (List ℕ))) (a b c : Bor (List ℕ)) → length parts ≡ 3 → a ≡ get_or parts 0 a → b ≡ get_or parts 1 b → c ≡ get_or parts 2 c → map (λ p. p.now) parts ≡ a.now ∷ b.now ∷ c.now ∷ []
three [] a b c h x y z = absurd (omega arith)
three (u ∷ []) a b c h x y z = absurd (omega arith)
three (u ∷ v ∷ []) a b c h x y z = absurd (omega arith)
three (u ∷ v ∷ w ∷ []) a b c h x y z = rw (x, y, z) refl
three (u ∷ v ∷ w ∷ r ∷ parts) a b c h x y z = absurd (omega arith)

pub one : (parts : List (Bor (List ℕ))) (d : Bor (List ℕ)) → length parts ≡ 1 → map (λ p. p.now) parts ≡ (get_or parts 0 d).now ∷ []
one [] d h = absurd (omega arith)
one (u ∷ []) d h = refl
one (u ∷ v ∷ parts) d h = absurd (omega arith)

pub made_of_others : (parts : List (Bor (List ℕ))) (said : Said) → length parts ≢ 1 → said ≡ parts_fault → IsMadeOfParts (map (λ p. p.now) parts) said
made_of_others [] said h e = e
made_of_others (u ∷ []) said h e = absurd (h (omega arith))
made_of_others (u ∷ v ∷ parts) said h e = e

pub decoded_of_others : (parts : List (Bor (List ℕ))) (said : Said) → length parts ≢ 1 → said ≡ parts_fault → IsDecodedParts (map (λ p. p.now) parts) said
decoded_of_others [] said h e = e
decoded_of_others (u ∷ []) said h e = absurd (h (omega arith))
decoded_of_others (u ∷ v ∷ parts) said h e = e

-- a fault is the same whatever would have been answered
pub same_fault : {A B E : Type 0} {x y : E} → ◌≡◌ {A = Result A E} (Err x) (Err y) → ◌≡◌ {A = Result B E} (Err x) (Err y)
same_fault {x = x} {y = y} e = let is : x ≡ y = cc in ap (λ z. Err z) is
