-- What is kept of later changes is what they did.
use Rattle.std.proofs.Common.{Result, Ok, Err, OnOk, OnErr, ◌≡◌, ◌≤◌, ◌<◌, ◌+◌, ◌==◌, ℕ, zero, suc, Bool, true, false, cond, ◌&&◌, ◌||◌, List, [], ◌∷◌, ◌++◌, length, get_or, take, drop, refl, sym, ap, subst, ◌∙◌, inl, inr, arith, eqb}
use Rattle.std.specs.List.{list_any}
use Rattle.std.proofs.lemmas.Bool.{cases_Bool}
use Rattle.std.proofs.lemmas.List.{drop_all, drop-append-le}
use Rattle.message_keys.specs.declared.keys.AdviceId.{AdviceId}
use Rattle.message_keys.specs.Keys.{identity_eq}
use Rattle.network_law.specs.Traces.{is_put_of}
use Rattle.node_machine.specs.Lists.{LinkState}
use Rattle.node_books.specs.declared.effect.Effect.{Effect}
use Rattle.node_books.specs.declared.effect.Effect.TheVariants as effects
use Rattle.kept_messages.specs.Ways.{is_put}
use Rattle.message_keys.proofs.Equality.{identity_eq_is}
use Rattle.book_index.specs.Found.{found, joined, holds_at, Tells}
use Rattle.book_index.specs.declared.index.Place.{Place}
use Rattle.book_index.specs.declared.index.Place.TheVariants as places
use Rattle.book_index.proofs.Holding.{holds_push}
use Rattle.book_index.proofs.Telling.{tells_same, tells_joined}
use Rattle.entry_changes.specs.SoFar.{link_step, forward_from, advice_step, advice_from, count_from}
use Rattle.entry_changes.specs.Late.{unmoved, move_at, move_step, moved, put_once, set_up, touches, AreTold, ArePlain, AreLate}
use Rattle.entry_changes.specs.declared.so_far.AdviceState.{AdviceState}
use Rattle.entry_changes.specs.declared.link_moves.LinkMove.{LinkMove}
use Rattle.entry_changes.specs.declared.late.LateChanges.{LateChanges}
use Rattle.entry_changes.proofs.Folds.{advice_parts, link_append, forward_append, count_append}

-- identities, however they are compared

identity_flip : (a b : AdviceId) → identity_eq a b ≡ identity_eq b a
identity_flip a b = elim (cases_Bool (identity_eq a b)) [
  | inl t ↦ (let e : a ≡ b = identity_eq_is a b t in rw e refl)
  | inr f ↦ elim (cases_Bool (identity_eq b a)) [
    | inl t ↦ (let e : b ≡ a = identity_eq_is b a t in rw e refl)
    | inr g ↦ f ∙ sym g
  ]
]

pub acked_touches : (id other : AdviceId) → identity_eq id other ≡ identity_eq other id
acked_touches id other = identity_flip id other

-- links

same_link : (a b : Bool) (m n : ℕ) → a ≡ b → m ≡ n → Path LinkState (record { up = a; serial = m }) (record { up = b; serial = n })
same_link a b m n e f = λ j. record { up = e j; serial = f j }

more : (m n : ℕ) → suc (m + n) ≡ m + suc n
more m n = omega arith

moved_once : (b : Bool) (m : LinkMove) (x : LinkState) → cond b (record { up = (moved m x).up; serial = suc (moved m x).serial }) (moved m x) ≡ moved (cond b (put_once m) m) x
moved_once true m x = same_link _ _ _ _ refl (more x.serial m.puts)
moved_once false m x = refl

moved_up : (b up : Bool) (m : LinkMove) (x : LinkState) → cond b (record { up = up; serial = (moved m x).serial }) (moved m x) ≡ moved (cond b (set_up up m) m) x
moved_up true up m x = refl
moved_up false up m x = refl

pub moved_step : (l : ℕ) (e : Effect) (m : LinkMove) (x : LinkState) → link_step l e (moved m x) ≡ moved (move_step l e m) x
moved_step l (effects.Sent o) m x = moved_once (is_put l o) m x
moved_step l (effects.Kept a) m x = refl
moved_step l (effects.Approved a) m x = refl
moved_step l (effects.Opened r) m x = refl
moved_step l (effects.Acknowledged other) m x = refl
moved_step l (effects.LinkIs k up) m x = moved_up (k == l) up m x
moved_step l (effects.Dated d) m x = refl
moved_step l effects.Ticked m x = refl
moved_step l (effects.PacketSent k s p) m x = moved_once (k == l) m x
moved_step l (effects.Lent g) m x = refl
moved_step l (effects.PacketTaken p) m x = refl

few_once : (b : Bool) (m : LinkMove) (n : ℕ) → m.puts ≤ n → (cond b (put_once m) m).puts ≤ suc n
few_once true m n le = omega (arith, le)
few_once false m n le = omega (arith, le)

few_up : (b up : Bool) (m : LinkMove) (n : ℕ) → m.puts ≤ n → (cond b (set_up up m) m).puts ≤ suc n
few_up true up m n le = omega (arith, le)
few_up false up m n le = omega (arith, le)

pub few_more : (l : ℕ) (e : Effect) (m : LinkMove) (n : ℕ) → m.puts ≤ n → (move_step l e m).puts ≤ suc n
few_more l (effects.Sent o) m n le = few_once (is_put l o) m n le
few_more l (effects.Kept a) m n le = omega (arith, le)
few_more l (effects.Approved a) m n le = omega (arith, le)
few_more l (effects.Opened r) m n le = omega (arith, le)
few_more l (effects.Acknowledged other) m n le = omega (arith, le)
few_more l (effects.LinkIs k up) m n le = few_up (k == l) up m n le
few_more l (effects.Dated d) m n le = omega (arith, le)
few_more l effects.Ticked m n le = omega (arith, le)
few_more l (effects.PacketSent k s p) m n le = few_once (k == l) m n le
few_more l (effects.Lent g) m n le = omega (arith, le)
few_more l (effects.PacketTaken p) m n le = omega (arith, le)

-- advices

untouched_put : (s : AdviceState) (b : Bool) → b ≡ false → Path AdviceState (record { known = s.known; stored = s.stored; put = s.put || (s.stored && b) }) s
untouched_put s b e = λ j. record { known = s.known; stored = s.stored; put = go s.put s.stored b e j }
  where
    go : (p q b : Bool) → b ≡ false → (p || (q && b)) ≡ p
    go true q b e = refl
    go false true b e = e
    go false false b e = refl

untouched : (id : AdviceId) (e : Effect) (s : AdviceState) → touches id e ≡ false → advice_step id e s ≡ s
untouched id (effects.Sent o) s f = untouched_put s (is_put_of id o) f
untouched id (effects.Kept a) s f = rw f refl
untouched id (effects.Approved a) s f = refl
untouched id (effects.Opened r) s f = refl
untouched id (effects.Acknowledged other) s f = rw f refl
untouched id (effects.LinkIs k up) s f = refl
untouched id (effects.Dated d) s f = refl
untouched id effects.Ticked s f = refl
untouched id (effects.PacketSent k n p) s f = refl
untouched id (effects.Lent g) s f = refl
untouched id (effects.PacketTaken p) s f = refl

pub none_touched : (id : AdviceId) (es : List Effect) (s : AdviceState) → ((i : ℕ) → holds_at (touches id) es i ≡ false) → advice_from id es s ≡ s
none_touched id [] s h = refl
none_touched id (e ∷ es) s h = ap (advice_from id es) (untouched id e s (h 0)) ∙ none_touched id es s (λ i. h (suc i))

-- none of these changes says something of the advice
pub unspoken : (id : AdviceId) (es : List Effect) (s : AdviceState) → list_any (touches id) es ≡ false → advice_from id es s ≡ s
unspoken id [] s none = refl
unspoken id (e ∷ es) s none = go (touches id e) refl none (unspoken id es s)
  where
    go : (b : Bool) → touches id e ≡ b → (b || list_any (touches id) es) ≡ false → (list_any (touches id) es ≡ false → advice_from id es s ≡ s) → advice_from id (e ∷ es) s ≡ s
    go true t wrong others = absurd cc
    go false t rest others = ap (advice_from id es) (untouched id e s t) ∙ others rest

-- neither of the first few nor of those after them
pub neither : (id : AdviceId) (n : ℕ) (es first : List Effect) (s : AdviceState) → first ≡ take n es → false ≡ list_any (touches id) first → ((before : AdviceState) → advice_from id (drop n es) before ≡ before) → advice_from id es s ≡ s
neither id n es first s front is late =
    advice_parts id n es s ∙ late (advice_from id (take n es) s) ∙ unspoken id (take n es) s (sym (is ∙ ap (list_any (touches id)) front))

not_true : (b : Bool) → (b ≡ true → ⊥) → b ≡ false
not_true true no_ = absurd (no_ refl)
not_true false no_ = refl

no_zero : (i : ℕ) → 0 ≡ suc i → ⊥
no_zero i e = omega (arith, e)

down : (i j : ℕ) → suc i ≡ suc j → i ≡ j
down i j e = omega (arith, e)

pub one_touched : (id : AdviceId) (es : List Effect) (s : AdviceState) (i : ℕ) (d : Effect) → i < length es → ((j : ℕ) → holds_at (touches id) es j ≡ true → j ≡ i) → advice_from id es s ≡ advice_step id (get_or es i d) s
one_touched id [] s i d less h = absurd (omega (arith, less))
one_touched id (e ∷ es) s zero d less h = none_touched id es (advice_step id e s) (λ j. not_true (holds_at (touches id) es j) (λ t. no_zero j (sym (h (suc j) t))))
one_touched id (e ∷ es) s (suc i) d less h =
    ap (advice_from id es) (untouched id e s (not_true (touches id e) (λ t. no_zero i (h 0 t))))
    ∙ one_touched id es s i d (omega (arith, less)) (λ j t. down j i (h (suc j) t))

and_true : (b : Bool) → b ≡ (b && true)
and_true true = refl
and_true false = refl

or_and_false : (a b : Bool) → (a || (b && false)) ≡ a
or_and_false true b = refl
or_and_false false true = refl
or_and_false false false = refl

-- a change that says nothing of an advice
untold : (es : List Effect) (e : Effect) (id : AdviceId) (p : Place) → touches id e ≡ false → Tells p (holds_at (touches id) es) → Tells p (holds_at (touches id) (es ++ e ∷ []))
untold es e id p f t = tells_same p (holds_at (touches id) es) (holds_at (touches id) (es ++ e ∷ [])) (λ i. holds_push (touches id) es e i ∙ rw f (or_and_false (holds_at (touches id) es i) (eqb i (length es)))) t

told : (es : List Effect) (e : Effect) (id : AdviceId) (p : Place) → touches id e ≡ true → Tells p (holds_at (touches id) es) → Tells (joined p (length es)) (holds_at (touches id) (es ++ e ∷ []))
told es e id p f t = tells_joined p (length es) (holds_at (touches id) es) (holds_at (touches id) (es ++ e ∷ [])) (λ i. holds_push (touches id) es e i ∙ rw f (ap (λ b. holds_at (touches id) es i || b) (sym (and_true (eqb i (length es)))))) t

pub none_told : (es : List Effect) (e : Effect) (index : List (AdviceId × Place)) → ((id : AdviceId) → touches id e ≡ false) → ((id : AdviceId) → Tells (found (identity_eq id) index) (holds_at (touches id) es)) → (id : AdviceId) → Tells (found (identity_eq id) index) (holds_at (touches id) (es ++ e ∷ []))
none_told es e index none h id = untold es e id (found (identity_eq id) index) (none id) (h id)

pub one_told : (es : List Effect) (e : Effect) (k : AdviceId) (index new : List (AdviceId × Place)) → ((id : AdviceId) → touches id e ≡ identity_eq k id) → ((id : AdviceId) → found (identity_eq id) new ≡ cond (identity_eq k id) (joined (found (identity_eq k) index) (length es)) (found (identity_eq id) index)) → ((id : AdviceId) → Tells (found (identity_eq id) index) (holds_at (touches id) es)) → (id : AdviceId) → Tells (found (identity_eq id) new) (holds_at (touches id) (es ++ e ∷ []))
one_told es e k index new is new_is h id = let P : Place → Type 0 = λ p. Tells p (holds_at (touches id) (es ++ e ∷ [])) in elim (cases_Bool (identity_eq k id)) [
  | inl t ↦
      let same : k ≡ id = identity_eq_is k id t in
      let at : found (identity_eq id) new ≡ joined (found (identity_eq id) index) (length es) = new_is id ∙ (rw t refl ∙ ap (λ z. joined (found (identity_eq z) index) (length es)) same) in
      subst P (sym at) (told es e id (found (identity_eq id) index) (is id ∙ t) (h id))
  | inr f ↦
      let at : found (identity_eq id) new ≡ found (identity_eq id) index = new_is id ∙ rw f refl in
      subst P (sym at) (untold es e id (found (identity_eq id) index) (is id ∙ f) (h id))
]

-- plain changes

pub plain_more : (es : List Effect) (e : Effect) → ArePlain es → ArePlain (e ∷ []) → ArePlain (es ++ e ∷ [])
plain_more es e p q = record {
  forwards = λ k s. forward_append k es (e ∷ []) s ∙ (q.forwards k (forward_from k es s) ∙ p.forwards k s);
  counts = λ n. count_append es (e ∷ []) n ∙ (q.counts (count_from es n) ∙ p.counts n);
}

-- where the later ones begin

pub drop_push : (n : ℕ) (es : List Effect) (e : Effect) → n ≤ length es → drop n (es ++ e ∷ []) ≡ drop n es ++ e ∷ []
drop_push n es e le = drop-append-le n es (e ∷ []) le

pub length_push : (es : List Effect) (e : Effect) → length (es ++ e ∷ []) ≡ suc (length es)
length_push [] e = refl
length_push (x ∷ es) e = ap suc (length_push es e)

pub none_late : (n : ℕ) (es : List Effect) (e : Effect) → length es < n → drop n (es ++ e ∷ []) ≡ drop n es
none_late n es e less = let long = length_push es e in drop_all n (es ++ e ∷ []) (omega (arith, long, less)) ∙ sym (drop_all n es (omega (arith, less)))

-- what is kept, none and one more

unmoved_is : (m : LinkMove) (x : LinkState) → m ≡ unmoved → x ≡ moved m x
unmoved_is m x e = same_link _ _ _ _ refl (nothing x.serial) ∙ ap (λ z. moved z x) (sym e)
  where
    nothing : (n : ℕ) → n ≡ n + 0
    nothing n = omega arith

pub nothing_late : (late : LateChanges) → ((l : ℕ) → move_at l late.moves.moves.entries ≡ unmoved) → ((id : AdviceId) → found (identity_eq id) late.advices.index.places.entries ≡ places.Nowhere) → AreLate [] late
nothing_late late no_move no_place = record {
  links = λ l x. unmoved_is (move_at l late.moves.moves.entries) x (no_move l);
  puts = λ l. let e = ap (λ (m : LinkMove). m.puts) (no_move l) in omega (arith, e);
  advices = λ id. let P : Place → Type 0 = λ p. Tells p (holds_at (touches id) []) in subst P (sym (no_place id)) (λ i. refl);
  plain = λ t. record { forwards = λ k s. refl; counts = λ n. refl };
}

pub told_again : (es : List Effect) (index new : List (AdviceId × Place)) → ((id : AdviceId) → found (identity_eq id) new ≡ found (identity_eq id) index) → ((id : AdviceId) → Tells (found (identity_eq id) index) (holds_at (touches id) es)) → (id : AdviceId) → Tells (found (identity_eq id) new) (holds_at (touches id) es)
told_again es index new same h id = let P : Place → Type 0 = λ p. Tells p (holds_at (touches id) es) in subst P (sym (same id)) (h id)

pub late_again : (es : List Effect) (late new : LateChanges) → ((l : ℕ) → move_at l new.moves.moves.entries ≡ move_at l late.moves.moves.entries) → ((id : AdviceId) → found (identity_eq id) new.advices.index.places.entries ≡ found (identity_eq id) late.advices.index.places.entries) → new.plain ≡ late.plain → AreLate es late → AreLate es new
late_again es late new moves told_ plain h = record {
  links = λ l x. h.links l x ∙ ap (λ m. moved m x) (sym (moves l));
  puts = λ l. let e = ap (λ (m : LinkMove). m.puts) (moves l) in let p = h.puts l in omega (arith, e, p);
  advices = told_again es late.advices.index.places.entries new.advices.index.places.entries told_ h.advices;
  plain = λ t. h.plain (sym plain ∙ t);
}

pub late_more : (es : List Effect) (e : Effect) (late new : LateChanges) → ((l : ℕ) → move_at l new.moves.moves.entries ≡ move_step l e (move_at l late.moves.moves.entries)) → AreTold (es ++ e ∷ []) new.advices → (new.plain ≡ true → (late.plain ≡ true) × ArePlain (e ∷ [])) → AreLate es late → AreLate (es ++ e ∷ []) new
late_more es e late new moves told_ plain h = record {
  links = λ l x. link_append l es (e ∷ []) x ∙ (ap (link_step l e) (h.links l x) ∙ (moved_step l e (move_at l late.moves.moves.entries) x ∙ ap (λ m. moved m x) (sym (moves l))));
  puts = λ l. let m = ap (λ (z : LinkMove). z.puts) (moves l) in let p = few_more l e (move_at l late.moves.moves.entries) (length es) (h.puts l) in let n = length_push es e in omega (arith, m, p, n);
  advices = told_;
  plain = λ t. let p = plain t in plain_more es e (h.plain p.0) p.1;
}

pub any_err : {X E : Type 0} (r : Result X E) (P : Type 0) → P → OnErr r P
any_err (Ok x) P p = tt
any_err (Err e) P p = p

pub on_ok : {X E : Type 0} (r : Result X E) (P Q : Type 0) → (P → Q) → OnOk r P → OnOk r Q
on_ok (Ok x) P Q f p = f p
on_ok (Err e) P Q f p = tt
