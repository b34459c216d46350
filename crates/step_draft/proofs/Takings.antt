-- What is used after the changes.
use Rattle.std.proofs.Common.{◌≡◌, ℕ, ◌+◌, List, [], ◌∷◌, ◌++◌, map, reverse, take, drop, take-append-drop, Bool, true, false, refl, sym, ap, ◌∙◌, arith}
use mathlib.Core.List.{reverse-cons}
use Rattle.card_digits.specs.declared.key.Key.{Key}
use Rattle.message_elements.specs.Groups.{is_04xx}
use Rattle.message_keys.specs.Keys.{key_of, identity_of}
use Rattle.net_rows.specs.Network.{Network}
use Rattle.network_law.specs.Traces.{added}
use Rattle.node_machine.specs.Books.{Taken}
use Rattle.node_machine.specs.Machine as machine
use Rattle.node_machine.specs.Lists as lists
use Rattle.node_machine.specs.Lists.{Take, Lists, LeftAsMarked, forget, give_back_to, is_among, leaves, view}
use Rattle.node_machine.proofs.Calls.{used_is}
use Rattle.node_books.specs.declared.effect.Effect.{Effect}
use Rattle.node_books.specs.declared.effect.Effect.TheVariants as effects
use Rattle.node_books.specs.Effects.{applied, applied_one}
use Rattle.step_draft.specs.SoFar.{approved_in}
use Rattle.step_draft.specs.Used.{IsQuiet, counted_by}

forget_back : (k : Key) (actual : ℕ) (takes : List Take) → map forget (give_back_to k actual takes) ≡ map forget takes
forget_back k actual [] = refl
forget_back k actual (a ∷ others) = ap (λ z. forget a ∷ z) (forget_back k actual others)

map_more : {X Y : Type 0} (f : X → Y) (xs ys : List X) → map f (xs ++ ys) ≡ map f xs ++ map f ys
map_more f [] ys = refl
map_more f (x ∷ xs) ys = ap (λ z. f x ∷ z) (map_more f xs ys)

pub append_none : {X : Type 0} (xs : List X) → xs ++ [] ≡ xs
append_none [] = refl
append_none (x ∷ xs) = ap (λ z. x ∷ z) (append_none xs)

append_all : {X : Type 0} (xs ys zs : List X) → (xs ++ ys) ++ zs ≡ xs ++ (ys ++ zs)
append_all [] ys zs = refl
append_all (x ∷ xs) ys zs = ap (λ z. x ∷ z) (append_all xs ys zs)

-- what was taken, whatever is left of it
taken_one : (e : Effect) (x : Lists) → map forget (applied_one e x).takes ≡ map forget x.takes ++ approved_in (e ∷ [])
taken_one (effects.Sent o) x = sym (append_none (map forget x.takes))
taken_one (effects.Kept a) x = go (is_among (identity_of a.message) x.known) refl a.own refl (is_04xx a.message.kind) refl
  where
    go : (k : Bool) → is_among (identity_of a.message) x.known ≡ k → (o : Bool) → a.own ≡ o → (r : Bool) → is_04xx a.message.kind ≡ r → map forget (applied_one (effects.Kept a) x).takes ≡ map forget x.takes ++ []
    go true e o f r g = rw e (sym (append_none (map forget x.takes)))
    go false e true f r g = rw (e, f) (sym (append_none (map forget x.takes)))
    go false e false f true g = rw (e, f, g) (forget_back (key_of a.message) (leaves a.message) x.takes ∙ sym (append_none (map forget x.takes)))
    go false e false f false g = rw (e, f, g) (sym (append_none (map forget x.takes)))
taken_one (effects.Approved a) x = map_more forget x.takes (a ∷ [])
taken_one (effects.Opened r) x = sym (append_none (map forget x.takes))
taken_one (effects.Acknowledged id) x = sym (append_none (map forget x.takes))
taken_one (effects.LinkIs l up) x = sym (append_none (map forget x.takes))
taken_one (effects.Dated d) x = sym (append_none (map forget x.takes))
taken_one effects.Ticked x = sym (append_none (map forget x.takes))
taken_one (effects.PacketSent l s p) x = sym (append_none (map forget x.takes))
taken_one (effects.Lent g) x = sym (append_none (map forget x.takes))
taken_one (effects.PacketTaken p) x = sym (append_none (map forget x.takes))

approved_more : (e : Effect) (es : List Effect) → approved_in (e ∷ []) ++ approved_in es ≡ approved_in (e ∷ es)
approved_more (effects.Sent o) es = refl
approved_more (effects.Kept a) es = refl
approved_more (effects.Approved a) es = refl
approved_more (effects.Opened r) es = refl
approved_more (effects.Acknowledged id) es = refl
approved_more (effects.LinkIs l up) es = refl
approved_more (effects.Dated d) es = refl
approved_more effects.Ticked es = refl
approved_more (effects.PacketSent l s p) es = refl
approved_more (effects.Lent g) es = refl
approved_more (effects.PacketTaken p) es = refl

pub approved_append : (xs ys : List Effect) → approved_in (xs ++ ys) ≡ approved_in xs ++ approved_in ys
approved_append [] ys = refl
approved_append (e ∷ xs) ys =
    sym (approved_more e (xs ++ ys))
    ∙ (ap (λ z. approved_in (e ∷ []) ++ z) (approved_append xs ys)
    ∙ (sym (append_all (approved_in (e ∷ [])) (approved_in xs) (approved_in ys))
    ∙ ap (λ z. z ++ approved_in ys) (approved_more e xs)))

taken_all : (es : List Effect) (x : Lists) → map forget (applied es x).takes ≡ map forget x.takes ++ approved_in es
taken_all [] x = sym (append_none (map forget x.takes))
taken_all (e ∷ es) x =
    taken_all es (applied_one e x)
    ∙ (ap (λ z. z ++ approved_in es) (taken_one e x)
    ∙ (append_all (map forget x.takes) (approved_in (e ∷ [])) (approved_in es)
    ∙ ap (λ z. map forget x.takes ++ z) (approved_more e es)))

added_append : {X : Type 0} (f : X → ℕ) (xs ys : List X) → added f (xs ++ ys) ≡ added f xs + added f ys
added_append f [] ys = omega arith
added_append f (x ∷ xs) ys = let e = added_append f xs ys in omega (arith, e)

pub added_last : {X : Type 0} (f : X → ℕ) (xs : List X) (x : X) → added f (xs ++ x ∷ []) ≡ f x + added f xs
added_last f [] x = refl
added_last f (y ∷ ys) x = let e = added_last f ys x in omega (arith, e)

added_reverse : {X : Type 0} (f : X → ℕ) (xs : List X) → added f (reverse xs) ≡ added f xs
added_reverse f [] = refl
added_reverse f (x ∷ xs) = ap (added f) (reverse-cons x xs) ∙ (added_last f (reverse xs) x ∙ ap (λ z. f x + z) (added_reverse f xs))

machine_used : (t : Network) (n : ℕ) (y : Lists) (card date : List ℕ) → machine.used (view t n y) card date ≡ added (counted_by y.marks card date) (map forget y.takes)
machine_used t n y card date = added_reverse (counted_by y.marks card date) (map forget y.takes)

-- by the approvals of the books, and those among the changes
used_after : (t : Network) (n : ℕ) (es : List Effect) (x : Lists) (card date : List ℕ) → IsQuiet x (applied es x) → LeftAsMarked x.marks x.takes → lists.used x.takes card date + added (counted_by x.marks card date) (approved_in es) ≡ machine.used (view t n (applied es x)) card date
used_after t n es x card date quiet left =
    ap (λ z. z + added (counted_by x.marks card date) (approved_in es)) (used_is t n x card date left ∙ machine_used t n x card date)
    ∙ (sym (added_append (counted_by x.marks card date) (map forget x.takes) (approved_in es))
    ∙ (ap (added (counted_by x.marks card date)) (sym (taken_all es x))
    ∙ (ap (λ z. added (counted_by z card date) (map forget (applied es x).takes)) (sym quiet.marks)
    ∙ sym (machine_used t n (applied es x) card date))))

added_parts : (f : Taken → ℕ) (n : ℕ) (es : List Effect) → added f (approved_in (take n es)) + added f (approved_in (drop n es)) ≡ added f (approved_in es)
added_parts f n es =
    sym (added_append f (approved_in (take n es)) (approved_in (drop n es)))
    ∙ ap (added f) (sym (approved_append (take n es) (drop n es)) ∙ ap approved_in (take-append-drop n es))

one_sum : (u a b all r : ℕ) → a + b ≡ all → u + all ≡ r → u + a + b ≡ r
one_sum u a b all r e f = omega (arith, e, f)

-- the same with the changes in two parts
pub used_parts : (t : Network) (n few : ℕ) (es : List Effect) (x : Lists) (card date : List ℕ) → IsQuiet x (applied es x) → LeftAsMarked x.marks x.takes → lists.used x.takes card date + added (counted_by x.marks card date) (approved_in (take few es)) + added (counted_by x.marks card date) (approved_in (drop few es)) ≡ machine.used (view t n (applied es x)) card date
used_parts t n few es x card date quiet left =
    one_sum (lists.used x.takes card date) (added (counted_by x.marks card date) (approved_in (take few es))) (added (counted_by x.marks card date) (approved_in (drop few es))) (added (counted_by x.marks card date) (approved_in es)) (machine.used (view t n (applied es x)) card date)
    (added_parts (counted_by x.marks card date) few es)
    (used_after t n es x card date quiet left)
