-- Any number of parts but three.
use Rattle.std.proofs.Common.{◌≡◌, ◌≢◌, ℕ, List, [], ◌∷◌, map, length, Bor, arith}
use Rattle.bundle_text.specs.Answers.{Said, parts_fault}
use Rattle.run_report.specs.Printed.{IsOfParts}

pub of_others : (parts : List (Bor (List ℕ))) (said : Said) → length parts ≢ 3 → said ≡ parts_fault → IsOfParts (map (λ p. p.now) parts) said
of_others [] said h e = e
of_others (a ∷ []) said h e = e
of_others (a ∷ b ∷ []) said h e = e
of_others (a ∷ b ∷ c ∷ []) said h e = absurd (h (omega arith))
of_others (a ∷ b ∷ c ∷ d ∷ parts) said h e = e
