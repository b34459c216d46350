-- How a book follows the trace, one event at a time: the pending keys in opening order.
use Rattle.std.proofs.Common.{◌≡◌, List, [], ◌∷◌, filter, reverse, Option, Some, None, is_some, is_none, Bool, true, false, cond, not, ◌&&◌, refl, sym, ap, ◌∙◌}
use Rattle.std.proofs.lemmas.Bool.{and_right}
use Rattle.std.specs.Option.{option_or}
use Rattle.net_rows.specs.Network.{Network}
use Rattle.network_law.specs.Traces.{ReadInput, ReadOutput, Out, History, opening, opened, answer, answers, sent, pending}
use Rattle.message_keys.proofs.Equality.{key_eq_is}
use Rattle.network_law.proofs.Node.{answers_is}
use Rattle.iso_message.specs.Fields.{Fields}
use Rattle.card_digits.specs.declared.key.Key.{Key}
use Rattle.message_keys.specs.Keys.{key_eq, key_of}
use Rattle.message_elements.specs.Groups.{is_answer}

-- what the book of pending requests is to hold
pub pending_keys : Network → History → List Key
pending_keys t h = filter (pending t h) (reverse (opened t h))

filter_twice : {X : Type 0} (p q r : X → Bool) → ((x : X) → r x ≡ (p x && q x)) → (xs : List X) → filter r xs ≡ filter q (filter p xs)
filter_twice p q r e [] = refl
filter_twice p q r e (x ∷ xs) = go (p x) refl (q x) refl (filter_twice p q r e xs)
  where
    go : (a : Bool) → p x ≡ a → (b : Bool) → q x ≡ b → filter r xs ≡ filter q (filter p xs) → cond (r x) (x ∷ filter r xs) (filter r xs) ≡ filter q (cond (p x) (x ∷ filter p xs) (filter p xs))
    go true at true at' ih = rw (e x, at, at') (ap (λ z. x ∷ z) ih)
    go true at false at' ih = rw (e x, at, at') ih
    go false at b at' ih = rw (e x, at) ih

-- an answer of k takes k off, and nothing else
pub pending_answered : (t : Network) (h : History) (i : ReadInput) (o : ReadOutput) (k : Key) (a : Fields) → answers k (sent o) ≡ Some a → answer h k ≡ None → pending_keys t (Out i o ∷ h) ≡ filter (λ j. not (key_eq k j)) (pending_keys t h)
unfolding pending_keys opened opening answer
pending_answered t h i o k a e none = filter_twice (pending t h) (λ j. not (key_eq k j)) (pending t (Out i o ∷ h)) one (reverse (opened t h))
  where
    w : (sent o ≡ Some a) × (is_answer a.kind ≡ true) × (key_of a ≡ k)
    w = answers_is k (sent o) a e

    other : (j : Key) → key_eq k j ≡ false → answers j (sent o) ≡ None
    other j d = rw (w.0, w.1, w.2, d) refl

    one : (j : Key) → (is_some (opening t h j) && is_none (option_or (answer h j) (answers j (sent o)))) ≡ (is_some (opening t h j) && is_none (answer h j) && not (key_eq k j))
    one j = go (key_eq k j) refl
      where
        go : (b : Bool) → key_eq k j ≡ b → (is_some (opening t h j) && is_none (option_or (answer h j) (answers j (sent o)))) ≡ (is_some (opening t h j) && is_none (answer h j) && not (key_eq k j))
        go true at =
            let same : k ≡ j = key_eq_is k j at in
            let here : answers j (sent o) ≡ Some a = ap (λ z. answers z (sent o)) (sym same) ∙ e in
            let none' : answer h j ≡ None = ap (answer h) (sym same) ∙ none in
            rw (at, here, none') (and_right (is_some (opening t h j)) false refl ∙ sym (and_right (is_some (opening t h j) && true) false refl))
        go false at = drop_none (answer h j) (other j at) at
          where
            drop_none : (w' : Option Fields) → answers j (sent o) ≡ None → key_eq k j ≡ false → (is_some (opening t h j) && is_none (option_or w' (answers j (sent o)))) ≡ (is_some (opening t h j) && is_none w' && not (key_eq k j))
            drop_none None n d = rw (n, d) (and_true (is_some (opening t h j)))
              where
                and_true : (b : Bool) → (b && true) ≡ (b && true && true)
                and_true true = refl
                and_true false = refl
            drop_none (Some x) n d = rw d (and_false (is_some (opening t h j)))
              where
                and_false : (b : Bool) → (b && false) ≡ (b && false && true)
                and_false true = refl
                and_false false = refl
