-- What is refused has no value.
use Rattle.std.specs.Prelude.{Result, Ok, Err, IfOk, IsErr}

pub if_refused : {A E : Type 0} (P : A → Type 0) (r : Result A E) → IsErr r → IfOk r P
if_refused P (Ok v) e = absurd (cc)
if_refused P (Err x) e = tt
