-- Numbers of parts other than two.
use Rattle.std.proofs.Common.{◌≡◌, ◌≢◌, ℕ, List, [], ◌∷◌, map, length, Bor, arith}
use Rattle.net_rows.specs.Network.{Network}
use Rattle.rank_rows.specs.declared.rank.Rank.{Rank}
use Rattle.bundle_text.specs.Answers.{Said, parts_fault}
use Rattle.answer_input.specs.OfTables.{IsOfParts}

pub not_two : (IsAnswer : Network → List Rank → Said → Type 0) (parts : List (Bor (List ℕ))) (said : Said) → length parts ≢ 2 → said ≡ parts_fault → IsOfParts IsAnswer (map (λ p. p.now) parts) said
not_two IsAnswer [] said h e = e
not_two IsAnswer (a ∷ []) said h e = e
not_two IsAnswer (a ∷ b ∷ []) said h e = absurd (h (omega arith))
not_two IsAnswer (a ∷ b ∷ c ∷ parts) said h e = e
