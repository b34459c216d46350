-- Puts on links, link by link.
use Rattle.std.proofs.Common.{◌≡◌, ◌+◌, ℕ, zero, suc, List, [], ◌∷◌, Bool, refl, replicate, arith}
use Rattle.node_machine.specs.Lists.{LinkState, link_at, with_put, with_up, fresh}
use Rattle.node_machine.specs.Counts.{PutsAreWithin}

pub put_within : (links : List LinkState) (l v : ℕ) → PutsAreWithin v links → PutsAreWithin (v + 1) (with_put l links)
put_within [] l v h k = omega arith
put_within (x ∷ xs) zero v h zero = (let a = h zero in omega (arith, a))
put_within (x ∷ xs) zero v h (suc k) = (let a = h (suc k) in omega (arith, a))
put_within (x ∷ xs) (suc l) v h zero = (let a = h zero in omega (arith, a))
put_within (x ∷ xs) (suc l) v h (suc k) = put_within xs l v (λ j. h (suc j)) k

pub one_more : (links : List LinkState) (v : ℕ) → PutsAreWithin v links → PutsAreWithin (v + 1) links
one_more links v h k = (let a = h k in omega (arith, a))

-- a put doesn't lower what was put
pub before_put : (links : List LinkState) (l v : ℕ) → PutsAreWithin v (with_put l links) → PutsAreWithin v links
before_put [] l v h k = h k
before_put (x ∷ xs) zero v h zero = (let a = h zero in omega (arith, a))
before_put (x ∷ xs) zero v h (suc k) = h (suc k)
before_put (x ∷ xs) (suc l) v h zero = h zero
before_put (x ∷ xs) (suc l) v h (suc k) = before_put xs l v (λ j. h (suc j)) k

-- nor does a link that goes up or down change it
up_same : (links : List LinkState) (l : ℕ) (up : Bool) (k : ℕ) → (link_at (with_up l up links) k).serial ≡ (link_at links k).serial
up_same [] l up k = refl
up_same (x ∷ xs) zero up zero = refl
up_same (x ∷ xs) zero up (suc k) = refl
up_same (x ∷ xs) (suc l) up zero = refl
up_same (x ∷ xs) (suc l) up (suc k) = up_same xs l up k

pub up_within : (links : List LinkState) (l v : ℕ) (up : Bool) → PutsAreWithin v links → PutsAreWithin v (with_up l up links)
up_within links l v up h k = (let a = h k in let e = up_same links l up k in omega (arith, a, e))

pub before_up : (links : List LinkState) (l v : ℕ) (up : Bool) → PutsAreWithin v (with_up l up links) → PutsAreWithin v links
before_up links l v up h k = (let a = h k in let e = up_same links l up k in omega (arith, a, e))

pub all_fresh : (n l : ℕ) → link_at (replicate n fresh) l ≡ fresh
all_fresh zero l = refl
all_fresh (suc n) zero = refl
all_fresh (suc n) (suc l) = all_fresh n l

pub fresh_within : (n v : ℕ) → PutsAreWithin v (replicate n fresh)
fresh_within n v l = rw (all_fresh n l) (omega arith)
