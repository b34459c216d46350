-- Rows of which each key has one.
use Rattle.std.proofs.Common.{◌≡◌, ℕ, zero, suc, ◌<◌, List, [], ◌∷◌, ◌++◌, length, map, get_or, set, Bool, true, false, ◌&&◌, ◌||◌, not, Option, Some, None, refl, sym, ap, subst, ◌∙◌, arith, cond, Bor}
use Rattle.std.specs.Prelude.{is_none, is_some, bytes_eq}
use Rattle.std.specs.Option.{option_or, option_map, option_copied}
use Rattle.card_digits.specs.declared.key.Key.{Key}
use Rattle.iso_message.specs.Fields.{Fields}
use Rattle.message_elements.specs.Groups.{is_request, is_answer}
use Rattle.message_keys.specs.Keys.{code_of, key_of, key_eq}
use Rattle.message_elements.specs.Codes.{code_94}
use Rattle.network_law.specs.Traces.{ReadOutput, Put, Answer, Ask, Post, PutPacket, answers, forwards}
use Rattle.message_keys.proofs.Equality.{key_eq_refl, key_eq_is, key_eq_flip}
use Rattle.node_machine.specs.Lists.{Row, of_key, row_key, row_after}
use Rattle.node_machine.proofs.Views.{found_after, found_more}
use Rattle.kept_messages.specs.Ways.{output_key}
use Rattle.pending_book.specs.Rows.{IsUnique, opened}

pub or_none : {X : Type 0} (x : Option X) → option_or x None ≡ x
or_none None = refl
or_none (Some x) = refl

pub or_false : (b : Bool) → (b || false) ≡ b
or_false true = refl
or_false false = refl

no_answer : (k : Key) (m : Fields) → key_eq (key_of m) k ≡ false → answers k (Some m) ≡ None
no_answer k m e = rw e (go (is_answer m.kind) (not (bytes_eq (code_of m) code_94)))
  where
    go : (b c : Bool) → cond ((b && false) && c) (Some m) None ≡ None
    go true c = refl
    go false c = refl

no_forward : (k : Key) (l s : ℕ) (m : Fields) → key_eq (key_of m) k ≡ false → forwards k (Put l s m) ≡ None
no_forward k l s m e = rw e (go (is_request m.kind))
  where
    go : (b : Bool) → cond (b && false) (Some l) None ≡ None
    go true = refl
    go false = refl

-- a row of another key stays
pub quiet : (o : ReadOutput) (r : Row) → key_eq (output_key o) (row_key r) ≡ false → row_after o r ≡ r
quiet (Put l s m) r e = rw (no_answer (row_key r) m e, no_forward (row_key r) l s m e, or_none r.link, or_none r.answer, or_false r.asked) refl
quiet (Answer m) r e = rw (no_answer (row_key r) m e, or_none r.link, or_none r.answer, or_false r.asked) refl
quiet (Ask a m) r e = rw (e, or_none r.link, or_none r.answer, or_false r.asked) refl
quiet (Post m) r e = rw (or_none r.link, or_none r.answer, or_false r.asked) refl
quiet (PutPacket l s p) r e = rw (or_none r.link, or_none r.answer, or_false r.asked) refl

head_not : (k : Key) (x : Row) (xs : List Row) → of_key k (x ∷ xs) ≡ None → key_eq (row_key x) k ≡ false
head_not k x xs e = go (key_eq (row_key x) k) refl
  where
    go : (c : Bool) → key_eq (row_key x) k ≡ c → c ≡ false
    go false f = refl
    go true f = let q : Some x ≡ None = rw f at e in cc

tail_none : (k : Key) (x : Row) (xs : List Row) → of_key k (x ∷ xs) ≡ None → of_key k xs ≡ None
tail_none k x xs e = rw (head_not k x xs e) at e

pub quiet_all : (o : ReadOutput) (rows : List Row) → of_key (output_key o) rows ≡ None → map (row_after o) rows ≡ rows
quiet_all o [] e = refl
quiet_all o (x ∷ xs) e = rw (quiet o x (key_eq_flip (row_key x) (output_key o) (head_not (output_key o) x xs e)), quiet_all o xs (tail_none (output_key o) x xs e)) refl

pub after_at : (o : ReadOutput) (xs : List Row) (i : ℕ) (d : Row) → i < length xs → key_eq (output_key o) (row_key (get_or xs i d)) ≡ true → ((j : ℕ) → j < i → key_eq (output_key o) (row_key (get_or xs j d)) ≡ false) → IsUnique xs → set xs i (row_after o (get_or xs i d)) ≡ map (row_after o) xs
after_at o [] i d p t f u = absurd (omega arith)
after_at o (x ∷ xs) zero d p t f u = ap (λ ys. row_after o x ∷ ys) (sym (quiet_all o xs (subst (λ k. of_key k xs ≡ None) (sym (key_eq_is (output_key o) (row_key x) t)) u.0)))
after_at o (x ∷ xs) (suc i) d p t f u = rw (quiet o x (f zero (omega arith))) (ap (λ ys. x ∷ ys) (after_at o xs i d (omega arith) t (λ j q. f (suc j) (omega arith)) u.1))

pub after_none : (o : ReadOutput) (xs : List Row) (d : Row) → ((j : ℕ) → j < length xs → key_eq (output_key o) (row_key (get_or xs j d)) ≡ false) → xs ≡ map (row_after o) xs
after_none o [] d f = refl
after_none o (x ∷ xs) d f = rw (quiet o x (f zero (omega arith))) (ap (λ ys. x ∷ ys) (after_none o xs d (λ j q. f (suc j) (omega arith))))

pub unique_after : (o : ReadOutput) (xs : List Row) → IsUnique xs → IsUnique (map (row_after o) xs)
unique_after o [] u = tt
unique_after o (x ∷ xs) u = (found_after o (row_key x) xs ∙ ap (option_map (row_after o)) u.0, unique_after o xs u.1)

pub unique_more : (r : Row) (xs : List Row) → of_key (row_key r) xs ≡ None → IsUnique xs → IsUnique (xs ++ r ∷ [])
unique_more r [] e u = (refl, tt)
unique_more r (x ∷ xs) e u = (found_more (row_key x) xs r ∙ rw (u.0, key_eq_flip (row_key x) (row_key r) (head_not (row_key r) x xs e)) refl, unique_more r xs (tail_none (row_key r) x xs e) u.1)

pub unique_opened : (r : Row) (xs : List Row) → IsUnique xs → IsUnique (opened r xs)
unique_opened r xs u = go (of_key (row_key r) xs) refl
  where
    go : (o : Option Row) → of_key (row_key r) xs ≡ o → IsUnique (cond (is_none o) (xs ++ r ∷ []) xs)
    go None e = unique_more r xs e u
    go (Some x) e = u

pub none_copied : (r : Option (Bor Row)) → is_some r ≡ false → option_copied r ≡ None
none_copied None e = refl
none_copied (Some b) e = cc

pub key_turn : (a b : Key) → key_eq b a ≡ true → key_eq a b ≡ true
key_turn a b e = subst (λ k. key_eq k b ≡ true) (key_eq_is b a e) (key_eq_refl b)
