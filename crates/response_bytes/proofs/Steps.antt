-- Elements are taken one after the other.
use Rattle.std.proofs.Common.{◌≡◌, ℕ, ◌+◌, ◌-◌, ◌<◌, ◌≤◌, ◌^◌, true, false, List, [], ◌∷◌, ◌++◌, length, length-drop, map, take, drop, refl, sym, ap, subst, ◌∙◌, append_assoc, arith, inl, inr}
use Rattle.std.specs.Prelude.{slice_range, Option, Some, None, Result, Ok, Err, MatchOption, IfOk, OnErr}
use Rattle.std.proofs.lemmas.Bool.{cases_lt}
use Rattle.std.proofs.lemmas.List.{append-nil, take_at, drop_at, drop-drop, take_all, length-take-le}
use Rattle.std.proofs.lemmas.List.Elements.{filter-append}
use Rattle.std.proofs.lemmas.List.Concat.{flat_map-cons}
use Rattle.std.proofs.lemmas.Grind.{flat_map-append}
use Rattle.std.proofs.lemmas.Nat.{pow_pos, leading_top}
use Rattle.std.proofs.Math.Nat.{pow-le-pow_right}
use Rattle.message_elements.specs.Table.{form_of}
use Rattle.iso_message.specs.Made.{is_one_of, kept, response_numbers}
use Rattle.iso_message.specs.Messages.{marks}
use Rattle.iso_message.specs.Spans.{IsLonger}
use Rattle.iso_message.specs.Spelling.{AreGood, IsGood, piece, pieces}
use Rattle.iso_message.proofs.Steps.{marks_step, marks_top}
use Rattle.iso_message.proofs.Together.{ranges_join}
use Rattle.response_bytes.specs.Taken.{Elements, AreUpTo, IsTaken}

-- the same in between, where the last of the pieces that are carried on stand in the body from one place to another and aren't added yet
pub record IsOnWay (up_to : ℕ) (es : Elements) (left : ℕ) (body : List ℕ) (from at : ℕ) (old new : List ℕ) : Type 0 where
  pub taken : Elements
  pub later : Elements
  pub whole : es ≡ taken ++ later
  pub below : AreUpTo up_to taken
  pub numbers : map (λ e. e.0) later ≡ marks 64 64 left
  pub good : AreGood later
  pub bytes : drop at body ≡ pieces later
  pub pushed : new ++ slice_range body from at ≡ old ++ pieces (kept response_numbers taken)

-- ---- the next element

pub of_some : {A : Type 0} (o : Option A) (P : A → Type 0) {x : A} → o ≡ Some x → MatchOption o ⊥ P → P x
of_some None P e h = absurd h
of_some (Some y) P e h = let same : y ≡ _ = cc in subst P same h

pub record IsNext (later : Elements) (n : ℕ) (ns : List ℕ) : Type 0 where
  pub e : ℕ × List ℕ
  pub more : Elements
  pub whole : later ≡ e ∷ more
  pub number : e.0 ≡ n
  pub value : IsGood (form_of n) e.1
  pub good : AreGood more
  pub numbers : map (λ x. x.0) more ≡ ns

is_next : (later : Elements) (n : ℕ) (ns : List ℕ) → map (λ e. e.0) later ≡ n ∷ ns → AreGood later → IsNext later n ns
is_next [] n ns h g = absurd cc
is_next (e ∷ es) n ns h g =
    let same : e.0 ≡ n = cc in
    record { e = e; more = es; whole = refl; number = same; value = subst (λ k. IsGood (form_of k) e.1) same g.0; good = g.1; numbers = cc }

pub next_of : (up_to : ℕ) (es : Elements) (left : ℕ) (body : List ℕ) (from at : ℕ) (old new : List ℕ) (n : ℕ) (ns : List ℕ) (way : IsOnWay up_to es left body from at old new) → marks 64 64 left ≡ n ∷ ns → IsNext (IsOnWay.later way) n ns
next_of up_to es left body from at old new n ns way h = is_next (IsOnWay.later way) n ns (IsOnWay.numbers way ∙ h) (IsOnWay.good way)

-- its piece stands at the front of what is left
pub piece_there : (up_to : ℕ) (es : Elements) (left : ℕ) (body : List ℕ) (from at : ℕ) (old new : List ℕ) (n : ℕ) (ns : List ℕ) (way : IsOnWay up_to es left body from at old new) (next : IsNext (IsOnWay.later way) n ns)
    → drop at body ≡ piece (form_of n) next.e.1 ++ pieces next.more
piece_there up_to es left body from at old new n ns way next =
    IsOnWay.bytes way ∙ ap pieces next.whole ∙ flat_map-cons (λ x. piece (form_of x.0) x.1) next.e next.more ∙ ap (λ k. piece (form_of k) next.e.1 ++ pieces next.more) next.number

pub some_same : {A : Type 0} (x y : A) → Some x ≡ Some y → x ≡ y
some_same x y e = cc

pub no_some : {A : Type 0} (x : A) → Path (Option A) None (Some x) → ⊥
no_some x e = absurd cc

pub of_ok : {A E : Type 0} (r : Result A E) (P : A → Type 0) {x : A} → r ≡ Ok x → IfOk r P → P x
of_ok (Ok y) P e h = let same : y ≡ _ = cc in subst P same h
of_ok (Err d) P e h = absurd cc

pub weaker_err : {A E P Q : Type 0} (r : Result A E) → (P → Q) → OnErr r P → OnErr r Q
weaker_err (Ok x) f h = tt
weaker_err (Err e) f h = f h

pub rest_of : (at : ℕ) (body : List ℕ) → take (length body - at) (drop at body) ≡ drop at body
rest_of at body = take_all (length body - at) (drop at body) (omega (arith, length-drop at body))

pub slice_length : (body : List ℕ) (from at : ℕ) → from ≤ at → at ≤ length body → length (slice_range body from at) ≡ at - from
slice_length body from at order inside = length-take-le (at - from) (drop from body) (omega (arith, length-drop from body))

pub longer_more : (old new last more : List ℕ) → IsLonger old new → last ≡ new ++ more → IsLonger old last
longer_more old new last more h e = record { more = IsLonger.more h ++ more; is = e ∙ ap (λ xs. xs ++ more) (IsLonger.is h) ∙ append_assoc old (IsLonger.more h) more }

-- the mark of a map with a bit so high is of a number so low
head_same : (x y : ℕ) (xs ys : List ℕ) → x ∷ xs ≡ y ∷ ys → x ≡ y
head_same x y xs ys e = cc

pub first_mark : (j n left : ℕ) (ns : List ℕ) → j < 64 → 2 ^ j ≤ left → marks 64 64 left ≡ n ∷ ns → n ≤ 64 - j
first_mark j n left ns h le e =
    elim (cases_lt left (2 ^ 64)) [
      | inl lt ↦
          let t = leading_top 64 left (let p = pow_pos j in omega arith) lt in
          let whole : marks 64 64 left ≡ (64 - t.0) ∷ marks 64 64 (left - 2 ^ t.0) = marks_step 64 t.0 left (omega (arith, t.1)) t.2 t.3 in
          let same : n ≡ 64 - t.0 = head_same n (64 - t.0) ns (marks 64 64 (left - 2 ^ t.0)) (sym e ∙ whole) in
          let high : j ≤ t.0 = elim (cases_lt t.0 j) [
            | inl less ↦ absurd (let up = pow-le-pow_right {n = 2} (omega arith) less in omega (arith, t.3, up))
            | inr not_less ↦ not_less
          ] in
          omega (arith, same, high)
      | inr more ↦
          let same : n ≡ 1 = head_same n 1 ns (marks 64 63 (left - 2 ^ 63)) (sym e ∙ marks_top 64 63 left (omega arith)) in
          omega (arith, same)
    ]

-- ---- the steps

kept-append : (xs ys : Elements) → pieces (kept response_numbers (xs ++ ys)) ≡ pieces (kept response_numbers xs) ++ pieces (kept response_numbers ys)
kept-append xs ys = ap pieces (filter-append (λ e. is_one_of response_numbers e.0) xs ys) ∙ flat_map-append (λ e. piece (form_of e.0) e.1) (kept response_numbers xs) (kept response_numbers ys)

up_to_more : (n : ℕ) (es : Elements) (e : ℕ × List ℕ) → AreUpTo n es → e.0 ≤ n → AreUpTo n (es ++ e ∷ [])
up_to_more n [] e h le = (le, tt)
up_to_more n (x ∷ xs) e h le = (h.0, up_to_more n xs e h.1 le)

pub start : (up_to : ℕ) (es : Elements) (left : ℕ) (body old : List ℕ) → AreGood es → map (λ e. e.0) es ≡ marks 64 64 left → body ≡ pieces es → IsOnWay up_to es left body 0 0 old old
start up_to es left body old good numbers bytes = record { taken = []; later = es; whole = refl; below = tt; numbers = numbers; good = good; bytes = bytes; pushed = refl }

module _ (up_to : ℕ) (es : Elements) (left : ℕ) (body : List ℕ) (from at : ℕ) (old new : List ℕ) (way : IsOnWay up_to es left body from at old new) where
  module _ (n next_left len : ℕ) (next : IsNext (IsOnWay.later way) n (marks 64 64 next_left)) (le : n ≤ up_to) (is : len ≡ length (piece (form_of n) next.e.1)) where
    abbrev text : List ℕ
    text = piece (form_of n) next.e.1

    there : drop at body ≡ text ++ pieces next.more
    there = piece_there up_to es left body from at old new n (marks 64 64 next_left) way next

    regrouped : es ≡ (IsOnWay.taken way ++ next.e ∷ []) ++ next.more
    regrouped = IsOnWay.whole way ∙ ap (λ xs. IsOnWay.taken way ++ xs) next.whole ∙ sym (append_assoc (IsOnWay.taken way) (next.e ∷ []) next.more)

    behind : drop (at + len) body ≡ pieces next.more
    behind = sym (drop-drop len at body) ∙ ap (drop len) there ∙ drop_at text (pieces next.more) len (sym is)

    bounded : AreUpTo up_to (IsOnWay.taken way ++ next.e ∷ [])
    bounded = up_to_more up_to (IsOnWay.taken way) next.e (IsOnWay.below way) (omega (arith, le, next.number))

    -- a piece that a response carries is to be copied, too
    pub carried_step : from ≤ at → is_one_of response_numbers n ≡ true → IsOnWay up_to es next_left body from (at + len) old new
    carried_step order carried =
        let range : slice_range body from (at + len) ≡ slice_range body from at ++ text =
        sym (ranges_join body from at (at + len) order (omega arith)) ∙ ap (λ xs. slice_range body from at ++ xs) (ap (λ k. take k (drop at body)) (let d : at + len - at ≡ len = omega arith in d) ∙ ap (take len) there ∙ take_at text (pieces next.more) len (sym is)) in
        let one : pieces (kept response_numbers (next.e ∷ [])) ≡ text = let here : is_one_of response_numbers next.e.0 ≡ true = ap (is_one_of response_numbers) next.number ∙ carried in rw here (append-nil (piece (form_of next.e.0) next.e.1) ∙ ap (λ k. piece (form_of k) next.e.1) next.number) in
        record {
          taken = IsOnWay.taken way ++ next.e ∷ [];
          later = next.more;
          whole = regrouped;
          below = bounded;
          numbers = next.numbers;
          good = next.good;
          bytes = behind;
          pushed = ap (λ xs. new ++ xs) range ∙ sym (append_assoc new (slice_range body from at) text) ∙ ap (λ xs. xs ++ text) (IsOnWay.pushed way) ∙ append_assoc old (pieces (kept response_numbers (IsOnWay.taken way))) text
              ∙ ap (λ xs. old ++ (pieces (kept response_numbers (IsOnWay.taken way)) ++ xs)) (sym one) ∙ ap (λ xs. old ++ xs) (sym (kept-append (IsOnWay.taken way) (next.e ∷ [])));
        }

    -- behind another piece the next to be copied begins, and what was to be copied is added
    pub dropped_step : (more : List ℕ) → more ≡ new ++ slice_range body from at → is_one_of response_numbers n ≡ false → IsOnWay up_to es next_left body (at + len) (at + len) old more
    dropped_step more added dropped =
        let none : pieces (kept response_numbers (next.e ∷ [])) ≡ [] = let here : is_one_of response_numbers next.e.0 ≡ false = ap (is_one_of response_numbers) next.number ∙ dropped in rw here refl in
        let empty : slice_range body (at + len) (at + len) ≡ [] = let d : at + len - (at + len) ≡ 0 = omega arith in rw d refl in
        record {
          taken = IsOnWay.taken way ++ next.e ∷ [];
          later = next.more;
          whole = regrouped;
          below = bounded;
          numbers = next.numbers;
          good = next.good;
          bytes = behind;
          pushed = ap (λ xs. more ++ xs) empty ∙ append-nil more ∙ added ∙ IsOnWay.pushed way
              ∙ ap (λ xs. old ++ xs) (sym (append-nil (pieces (kept response_numbers (IsOnWay.taken way)))) ∙ ap (λ xs. pieces (kept response_numbers (IsOnWay.taken way)) ++ xs) (sym none) ∙ sym (kept-append (IsOnWay.taken way) (next.e ∷ [])));
        }

  pub finish : (last rest : List ℕ) → last ≡ new ++ slice_range body from at → rest ≡ drop at body → left < 2 ^ (64 - up_to) → IsTaken up_to es left rest old last
  finish last rest added is few = record {
    taken = IsOnWay.taken way;
    later = IsOnWay.later way;
    whole = IsOnWay.whole way;
    below = IsOnWay.below way;
    few = few;
    numbers = IsOnWay.numbers way;
    good = IsOnWay.good way;
    bytes = is ∙ IsOnWay.bytes way;
    pushed = added ∙ IsOnWay.pushed way;
  }
