-- Changes that are gone through part by part.
use Rattle.std.proofs.Common.{◌≡◌, ℕ, List, [], ◌∷◌, ◌++◌, take, drop, refl, sym, ap, ◌∙◌, take-append-drop}
use Rattle.card_digits.specs.declared.key.Key.{Key}
use Rattle.message_keys.specs.declared.keys.AdviceId.{AdviceId}
use Rattle.node_machine.specs.Lists.{LinkState}
use Rattle.node_books.specs.declared.effect.Effect.{Effect}
use Rattle.entry_changes.specs.SoFar.{link_step, link_from, forward_step, forward_from, advice_step, advice_from, count_step, count_from}
use Rattle.entry_changes.specs.declared.so_far.AdviceState.{AdviceState}
use Rattle.entry_changes.specs.declared.so_far.Forwarding.{Forwarding}

pub link_append : (l : ℕ) (xs ys : List Effect) (x : LinkState) → link_from l (xs ++ ys) x ≡ link_from l ys (link_from l xs x)
link_append l [] ys x = refl
link_append l (e ∷ xs) ys x = link_append l xs ys (link_step l e x)

pub forward_append : (k : Key) (xs ys : List Effect) (s : Forwarding) → forward_from k (xs ++ ys) s ≡ forward_from k ys (forward_from k xs s)
forward_append k [] ys s = refl
forward_append k (e ∷ xs) ys s = forward_append k xs ys (forward_step k e s)

pub advice_append : (id : AdviceId) (xs ys : List Effect) (s : AdviceState) → advice_from id (xs ++ ys) s ≡ advice_from id ys (advice_from id xs s)
advice_append id [] ys s = refl
advice_append id (e ∷ xs) ys s = advice_append id xs ys (advice_step id e s)

pub count_append : (xs ys : List Effect) (n : ℕ) → count_from (xs ++ ys) n ≡ count_from ys (count_from xs n)
count_append [] ys n = refl
count_append (e ∷ xs) ys n = count_append xs ys (count_step e n)

pub link_parts : (l n : ℕ) (xs : List Effect) (x : LinkState) → link_from l xs x ≡ link_from l (drop n xs) (link_from l (take n xs) x)
link_parts l n xs x = ap (λ zs. link_from l zs x) (sym (take-append-drop n xs)) ∙ link_append l (take n xs) (drop n xs) x

pub forward_parts : (k : Key) (n : ℕ) (xs : List Effect) (s : Forwarding) → forward_from k xs s ≡ forward_from k (drop n xs) (forward_from k (take n xs) s)
forward_parts k n xs s = ap (λ zs. forward_from k zs s) (sym (take-append-drop n xs)) ∙ forward_append k (take n xs) (drop n xs) s

pub advice_parts : (id : AdviceId) (n : ℕ) (xs : List Effect) (s : AdviceState) → advice_from id xs s ≡ advice_from id (drop n xs) (advice_from id (take n xs) s)
advice_parts id n xs s = ap (λ zs. advice_from id zs s) (sym (take-append-drop n xs)) ∙ advice_append id (take n xs) (drop n xs) s

pub count_parts : (n : ℕ) (xs : List Effect) (m : ℕ) → count_from xs m ≡ count_from (drop n xs) (count_from (take n xs) m)
count_parts n xs m = ap (λ zs. count_from zs m) (sym (take-append-drop n xs)) ∙ count_append (take n xs) (drop n xs) m
