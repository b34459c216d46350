-- Reading step after step, where each step may end with a fault, and what a function answers of it that may run out of memory.
use Rattle.std.specs.Prelude.{◌≡◌, Bool, true, false, ⊤, Result, Ok, Err}

-- a step, and what comes after it
infixl 10 ◌>>=◌
abbrev pub ◌>>=◌ : {A B E : Type 0} → Result A E → (A → Result B E) → Result B E
(Ok x) >>= f = f x
(Err e) >>= f = Err e

-- a fact that need not hold where the test does
abbrev pub Unless : Bool → Type 0 → Type 0
Unless true P = ⊤
Unless false P = P

-- a fault is that of reading, unless memory ran out
abbrev pub Fails : {Y E : Type 0} → (E → Bool) → E → Result Y E → Type 0
Fails of_memory e read = Unless (of_memory e) (read ≡ Err e)

-- what a function answered, seen by view, is what reading gives, unless memory ran out
abbrev pub Gives : {X Y E : Type 0} → (E → Bool) → (X → Y) → Result X E → Result Y E → Type 0
Gives of_memory view (Ok x) read = read ≡ Ok (view x)
Gives of_memory view (Err e) read = Fails of_memory e read
