-- What outputs put on links.
use Rattle.std.proofs.Common.{◌≡◌, ℕ, zero, suc, ◌<◌, ◌+◌, List, [], ◌∷◌, ◌++◌, length, take, get_or, refl, sym, ap, ◌∙◌, subst, arith, add-one}
use Rattle.network_law.specs.Entries.{Output, Put, Answer, Ask, Post}
use Rattle.link_rings.specs.Rings.{OutView, Sends, put, packet}
use Rattle.link_rings.proofs.Parts.{sends_more}
use Rattle.net_threads.specs.Station.{puts_of}

pub puts_append : (xs ys : List Output) → puts_of (xs ++ ys) ≡ puts_of xs ++ puts_of ys
puts_append [] ys = refl
puts_append (Put l s b ∷ xs) ys = ap (λ z. put l (packet s b) ∷ z) (puts_append xs ys)
puts_append (Answer b ∷ xs) ys = puts_append xs ys
puts_append (Ask a b ∷ xs) ys = puts_append xs ys
puts_append (Post b ∷ xs) ys = puts_append xs ys

take_next_suc : {X : Type 0} (xs : List X) (i : ℕ) (x : X) → i < length xs → x ≡ get_or xs i x → take (suc i) xs ≡ take i xs ++ x ∷ []
take_next_suc [] i x within read = absurd (omega arith)
take_next_suc (y ∷ xs) zero x within read = ap (λ z. z ∷ []) (sym read)
take_next_suc (y ∷ xs) (suc i) x within read = ap (λ z. y ∷ z) (take_next_suc xs i x (omega arith) read)

-- one more of the first elements
pub take_next : {X : Type 0} (xs : List X) (i : ℕ) (x : X) → i < length xs → x ≡ get_or xs i x → take (i + 1) xs ≡ take i xs ++ x ∷ []
take_next xs i x within read = rw add-one (take_next_suc xs i x within read)

-- one more output is sent
pub sends_next : (xs : List Output) (i : ℕ) (x : Output) (a b c : List OutView) → i < length xs → x ≡ get_or xs i x → Sends (puts_of (take i xs)) a b → Sends (puts_of (x ∷ [])) b c → Sends (puts_of (take (i + 1) xs)) a c
sends_next xs i x a b c within read before here =
    subst (λ z. Sends z a c) (sym (ap puts_of (take_next xs i x within read) ∙ puts_append (take i xs) (x ∷ []))) (sends_more (puts_of (take i xs)) (puts_of (x ∷ [])) a b c before here)
