-- Faults that reading gives, or memory's.
use Rattle.std.proofs.Common.{◌≡◌, Bool, true, false, Result, Err, refl, ap, ◌⊎◌, inl, inr}
use Rattle.card_digits.specs.Attempts.{◌>>=◌, Unless, Fails}

-- what reading gives is what a function may answer
pub fails_from : {Y E : Type 0} (of_memory : E → Bool) (e : E) (read : Result Y E) → read ≡ Err e → Fails of_memory e read
fails_from of_memory e read h = at (of_memory e) where
  at : (b : Bool) → Unless b (read ≡ Err e)
  at true = tt
  at false = h

-- a fault of the first step is one of both
pub fails_bind : {Y Z E : Type 0} (of_memory : E → Bool) (e : E) (read : Result Y E) (f : Y → Result Z E) → Fails of_memory e read → Fails of_memory e (read >>= f)
fails_bind of_memory e read f h = at (of_memory e) h where
  at : (b : Bool) → Unless b (read ≡ Err e) → Unless b ((read >>= f) ≡ Err e)
  at true given = tt
  at false given = ap (λ r. r >>= f) given

-- memory's, or that of reading
pub fails_either : {Y E : Type 0} (of_memory : E → Bool) (e : E) (read : Result Y E) → Fails of_memory e read → (of_memory e ≡ true) ⊎ (read ≡ Err e)
fails_either of_memory e read h = at (of_memory e) h where
  at : (b : Bool) → Unless b (read ≡ Err e) → (b ≡ true) ⊎ (read ≡ Err e)
  at true given = inl refl
  at false given = inr given
