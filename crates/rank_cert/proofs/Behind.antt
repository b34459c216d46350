-- The lines behind the header, read one after the other.
use Rattle.std.proofs.Common.{◌≡◌, ℕ, ◌==◌, true, false, cond, List, [], ◌∷◌, Err, refl, length}
use Rattle.std.specs.List.{onto_first}
use Rattle.rank_rows.specs.declared.rank.Rank.{Rank}
use Rattle.rank_cert.specs.declared.fault.CertFault.TheVariants.{AfterEnd}
use Rattle.card_digits.specs.Lines.{lines}
use Rattle.rank_cert.specs.Reading.{ended}

-- something stands behind the end
pub ended_with : (done : List Rank) (text : List ℕ) → (length text == 0) ≡ false → ended done (lines text) ≡ Err AfterEnd
ended_with done [] h = cc
ended_with done (b ∷ bs) h = elim (b == 10) as (λ t. ended done (cond t ([] ∷ lines bs) (onto_first b (lines bs))) ≡ Err AfterEnd) [
  | true ↦ refl
  | false ↦ elim (lines bs) as (λ ls. ended done (onto_first b ls) ≡ Err AfterEnd) [ [] ↦ refl | l ∷ ls ↦ refl ]
]
