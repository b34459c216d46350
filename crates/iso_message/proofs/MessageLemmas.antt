-- What is set, taken out or kept leaves a message a message.
use Rattle.std.specs.Prelude.{unwrap_or, is_some, OnOk, OnErr}
use Rattle.std.proofs.lemmas.List.Folds.{list_all-append}
use Rattle.std.proofs.lemmas.List.{length-append, length-replicate}
use Rattle.card_digits.specs.Numbers.{pad11}
use Rattle.iso_message.specs.Fields.{Fields, get, has, el}
use Rattle.iso_message.specs.Made.{has_own_key, original_data, is_one_of, kept}
use Rattle.iso_message.proofs.Found.{here, good_found, id_length}
use Rattle.std.proofs.Common.{◌-◌, ◌++◌, zero, suc, replicate, Result, Ok, Err, ◌+◌, get_or, drop, ◌≡◌, ℕ, ◌<◌, ◌≤◌, Bool, true, false, not, ◌&&◌, ltb, leb, eqb, List, [], ◌∷◌, length, map, filter, Option, Some, None, refl, sym, ap, ◌∙◌, arith, inl, inr, Bor, MatchOption}
use Rattle.std.specs.List.{list_all}
use Rattle.std.proofs.lemmas.Bool.{and_parts, and_from, ltb-true, leb-true, eqb-true, lt-ltb, le-ltb, le-leb, eq-eqb, ne_eqb, cases_lt, cases_eq, cases_Bool}
use Rattle.std.specs.Option.{option_copied}
use Rattle.hex.specs.Hex.{IsBytes}
use Rattle.message_elements.specs.declared.fault.DecodeFault.TheVariants as faults
use Rattle.message_elements.specs.declared.kind.Kind.{Kind}
use Rattle.message_elements.specs.declared.form.Class.{Class}
use Rattle.message_elements.specs.declared.form.Class.TheVariants.{Digits, Text}
use Rattle.message_elements.specs.declared.form.Form.{Form}
use Rattle.message_elements.specs.declared.form.Form.TheVariants.{Fixed, Llvar, Lllvar, Binary}
use Rattle.message_elements.specs.Table.{Row, table, form_in, form_of}
use Rattle.message_elements.specs.Values.{fits, value_fault, set_fault, AreOf}
use Rattle.iso_message.specs.Finding.{put, without}
use Rattle.iso_message.specs.Spelling.{Ascends, IsGood, AreGood, IsMessage}
use Rattle.iso_message.specs.declared.elements.Span.{Span}
use Rattle.iso_message.specs.Spans.{shown, seen, AreWithin}
use Rattle.std.proofs.lemmas.List.{drop_more}
use Rattle.iso_message.proofs.Canonical.{weaker}

-- ---- the table

abbrev is_bounded : Form → Bool
is_bounded (Fixed class size) = ltb size 1000
is_bounded (Llvar class most) = ltb most 100
is_bounded (Lllvar class most) = ltb most 1000
is_bounded Binary = true

abbrev is_sound : Row → Bool
is_sound r = ltb 1 r.first && leb r.last 128 && is_bounded r.form

record IsListed (n : ℕ) (form : Form) : Type 0 where
  above : 1 < n
  up_to : n ≤ 128
  bounded : is_bounded form ≡ true

in_rows : (rows : List Row) (n : ℕ) (form : Form) → list_all is_sound rows ≡ true → form_in rows n ≡ Some form → IsListed n form
in_rows [] n form h e = absurd cc
in_rows (r ∷ rs) n form h e =
    let parts = and_parts (is_sound r) (list_all is_sound rs) h in
    let sound = and_parts (ltb 1 r.first && leb r.last 128) (is_bounded r.form) parts.0 in
    let range = and_parts (ltb 1 r.first) (leb r.last 128) sound.0 in
    elim (cases_Bool (leb r.first n && leb n r.last)) [
      | inl here ↦
          let bounds = and_parts (leb r.first n) (leb n r.last) here in
          let found : Some r.form ≡ Some form = rw here at e in
          let same : r.form ≡ form = cc in
          record {
            above = omega (arith, ltb-true 1 r.first range.0, leb-true r.first n bounds.0);
            up_to = omega (arith, leb-true r.last 128 range.1, leb-true n r.last bounds.1);
            bounded = ap is_bounded (sym same) ∙ sound.1;
          }
      | inr other ↦ in_rows rs n form parts.1 (rw other at e)
    ]

listed : (n : ℕ) (form : Form) → form_of n ≡ Some form → IsListed n form
unfolding form_of table
listed n form e = in_rows table n form refl e

abbrev pub most_of : Form → ℕ
most_of (Fixed class size) = size
most_of (Llvar class most) = most
most_of (Lllvar class most) = most
most_of Binary = 8

few_bounded : (form : Form) → is_bounded form ≡ true → most_of form < 1000
few_bounded (Fixed class size) b = ltb-true size 1000 b
few_bounded (Llvar class most) b = omega (arith, ltb-true most 100 b)
few_bounded (Lllvar class most) b = ltb-true most 1000 b
few_bounded Binary b = omega arith

-- no element has a thousand bytes
pub few_listed : (n : ℕ) (form : Form) → form_of n ≡ Some form → most_of form < 1000
few_listed n form e = few_bounded form (listed n form e).bounded

good_most : (form : Form) (value : List ℕ) → IsGood (Some form) value → length value ≤ most_of form
good_most (Fixed class size) value g = omega (arith, g.0)
good_most (Llvar class most) value g = g.0
good_most (Lllvar class most) value g = g.0
good_most Binary value g = omega (arith, g.0)

pub few_good : (n : ℕ) (value : List ℕ) → IsGood (form_of n) value → length value < 1000
few_good n value g = go (form_of n) refl g
  where
    go : (form : Option Form) → form_of n ≡ form → IsGood form value → length value < 1000
    go None e g = absurd g
    go (Some form) e g = omega (arith, good_most form value g, few_listed n form e)

-- ---- values

of_value : (long : Bool) (class : Class) (n : ℕ) (value : List ℕ) → value_fault long class n value ≡ None → (long ≡ true) × AreOf class value
of_value false class n value e = absurd cc
of_value true class n value e = (refl, go (list_all (fits class) value) refl)
  where
    go : (b : Bool) → list_all (fits class) value ≡ b → list_all (fits class) value ≡ true
    go true h = h
    go false h = absurd (let wrong : Some (faults.Character n) ≡ None = rw h at e in cc)

good_by_form : (form : Form) (n : ℕ) (value : List ℕ) → is_bounded form ≡ true → IsBytes value → set_fault (Some form) n value ≡ None → IsGood (Some form) value
good_by_form (Fixed class size) n value b bytes e =
    let v = of_value (eqb (length value) size) class n value e in
    (eqb-true _ _ v.0, v.1)
good_by_form (Llvar class most) n value b bytes e =
    let v = of_value (leb (length value) most) class n value e in
    let few = leb-true (length value) most v.0 in
    (few, omega (arith, few, ltb-true most 100 b), v.1)
good_by_form (Lllvar class most) n value b bytes e =
    let v = of_value (leb (length value) most) class n value e in
    let few = leb-true (length value) most v.0 in
    (few, omega (arith, few, ltb-true most 1000 b), v.1)
good_by_form Binary n value b bytes e = (eight (eqb (length value) 8) refl, bytes)
  where
    eight : (t : Bool) → eqb (length value) 8 ≡ t → length value ≡ 8
    eight true h = eqb-true _ _ h
    eight false h = absurd (let wrong : Some (faults.Length n) ≡ None = rw h at e in cc)

-- an element that may be set is in the table, and its value is good
pub settable : (n : ℕ) (value : List ℕ) → IsBytes value → set_fault (form_of n) n value ≡ None → (1 < n) × (n ≤ 128) × IsGood (form_of n) value
settable n value bytes e = go (form_of n) refl e
  where
    go : (form : Option Form) → form_of n ≡ form → set_fault form n value ≡ None → (1 < n) × (n ≤ 128) × IsGood (form_of n) value
    go None h e = absurd cc
    go (Some form) h e =
        let at = listed n form h in
        (at.above, at.up_to, rw h (good_by_form form n value at.bounded bytes e))

-- a good value may be set
pub fits_again : (form : Option Form) (n : ℕ) (value : List ℕ) → IsGood form value → set_fault form n value ≡ None
fits_again None n value g = absurd g
fits_again (Some (Fixed class size)) n value g = rw (eq-eqb (length value) size g.0, g.1) refl
fits_again (Some (Llvar class most)) n value g = rw (le-leb (length value) most g.0, g.2) refl
fits_again (Some (Lllvar class most)) n value g = rw (le-leb (length value) most g.0, g.2) refl
fits_again (Some Binary) n value g = rw (eq-eqb (length value) 8 g.0) refl

-- ---- lists of elements

pub copied : (r : Option (Bor (List ℕ))) (found : Option (List ℕ)) → MatchOption r (found ≡ None) (λ v. found ≡ Some v.now) → option_copied r ≡ found
copied None found h = sym h
copied (Some v) found h = sym h

pub without_is : (n : ℕ) (es : List (ℕ × List ℕ)) → without n es ≡ filter (λ e. not (eqb e.0 n)) es
unfolding without
without_is n [] = refl
without_is n (e ∷ es) =
    elim (cases_Bool (eqb e.0 n)) [
      | inl t ↦ rw t (without_is n es)
      | inr f ↦ rw f (ap (λ xs. e ∷ xs) (without_is n es))
    ]

pub ascends_kept : (low high : ℕ) (keeps : ℕ × List ℕ → Bool) (es : List (ℕ × List ℕ)) → Ascends low high (map (λ e. e.0) es) → Ascends low high (map (λ e. e.0) (filter keeps es))
ascends_kept low high keeps [] a = tt
ascends_kept low high keeps (e ∷ es) a =
    elim (cases_Bool (keeps e)) [
      | inl t ↦ rw t (a.0, a.1, ascends_kept e.0 high keeps es a.2)
      | inr f ↦ rw f (weaker e.0 low high _ (omega (arith, a.0)) (ascends_kept e.0 high keeps es a.2))
    ]

pub good_kept : (keeps : ℕ × List ℕ → Bool) (es : List (ℕ × List ℕ)) → AreGood es → AreGood (filter keeps es)
good_kept keeps [] g = tt
good_kept keeps (e ∷ es) g =
    elim (cases_Bool (keeps e)) [
      | inl t ↦ rw t (g.0, good_kept keeps es g.1)
      | inr f ↦ rw f (good_kept keeps es g.1)
    ]

pub ascends_put : (low high n : ℕ) (value : List ℕ) (es : List (ℕ × List ℕ)) → low < n → n ≤ high → Ascends low high (map (λ e. e.0) es) → Ascends low high (map (λ e. e.0) (put n value es))
unfolding put
ascends_put low high n value [] above up_to a = (above, up_to, tt)
ascends_put low high n value (e ∷ es) above up_to a =
    elim (cases_lt e.0 n) [
      | inl lt ↦ rw (lt-ltb _ _ lt) (a.0, a.1, ascends_put e.0 high n value es lt up_to a.2)
      | inr le ↦
          elim (cases_eq e.0 n) [
            | inl same ↦ rw (le-ltb _ _ le, eq-eqb _ _ same) (above, up_to, weaker e.0 n high _ (omega arith) a.2)
            | inr other ↦ let less : n < e.0 = omega arith in rw (le-ltb _ _ le, ne_eqb _ _ other) (above, up_to, (less, a.1, a.2))
          ]
    ]

pub good_put : (n : ℕ) (value : List ℕ) (es : List (ℕ × List ℕ)) → IsGood (form_of n) value → AreGood es → AreGood (put n value es)
unfolding put
good_put n value [] v g = (v, tt)
good_put n value (e ∷ es) v g =
    elim (cases_lt e.0 n) [
      | inl lt ↦ rw (lt-ltb _ _ lt) (g.0, good_put n value es v g.1)
      | inr le ↦
          elim (cases_eq e.0 n) [
            | inl same ↦ rw (le-ltb _ _ le, eq-eqb _ _ same) (v, g.1)
            | inr other ↦ rw (le-ltb _ _ le, ne_eqb _ _ other) (v, (g.0, g.1))
          ]
    ]

-- ---- spans

abbrev pub any : Span
any = record { high = 0; low = 0; len = 0; digits = 0; number = 0 }

pub within_kept : (keeps : Span → Bool) (values : List ℕ) (spans : List Span) → AreWithin values spans → AreWithin values (filter keeps spans)
within_kept keeps values [] h = tt
within_kept keeps values (s ∷ ss) h =
    elim (cases_Bool (keeps s)) [
      | inl t ↦ rw t (h.0, within_kept keeps values ss h.1)
      | inr f ↦ rw f (within_kept keeps values ss h.1)
    ]

pub seen_without : (n : ℕ) (values : List ℕ) (spans : List Span) → seen values (filter (λ s. not (eqb s.number n)) spans) ≡ without n (seen values spans)
unfolding without
seen_without n values [] = refl
seen_without n values (s ∷ ss) =
    elim (cases_Bool (eqb s.number n)) [
      | inl t ↦ rw t (seen_without n values ss)
      | inr f ↦ rw f (ap (λ es. shown values s ∷ es) (seen_without n values ss))
    ]

pub kept_at : (numbers values : List ℕ) (spans : List Span) (i : ℕ) → i < length spans → is_one_of numbers (get_or spans i any).number ≡ true
    → kept numbers (seen values (drop i spans)) ≡ shown values (get_or spans i any) ∷ kept numbers (seen values (drop (i + 1) spans))
kept_at numbers values spans i h t = rw (drop_more spans i any h, t) refl

pub passed_at : (numbers values : List ℕ) (spans : List Span) (i : ℕ) → i < length spans → is_one_of numbers (get_or spans i any).number ≡ false
    → kept numbers (seen values (drop i spans)) ≡ kept numbers (seen values (drop (i + 1) spans))
passed_at numbers values spans i h f = rw (drop_more spans i any h, f) refl

-- ---- messages

pub put_stays : (kind : Kind) (n : ℕ) (value : List ℕ) (es : List (ℕ × List ℕ)) → IsBytes value → set_fault (form_of n) n value ≡ None
    → IsMessage (record { kind = kind; elements = es }) → IsMessage (record { kind = kind; elements = put n value es })
put_stays kind n value es bytes none m =
    let may = settable n value bytes none in
    record {
      order = ascends_put 1 128 n value es may.0 may.1 m.order;
      values = good_put n value es may.2 m.values;
    }

pub kept_stays : (kind made : Kind) (numbers : List ℕ) (es : List (ℕ × List ℕ)) → IsMessage (record { kind = kind; elements = es }) → IsMessage (record { kind = made; elements = kept numbers es })
kept_stays kind made numbers es m = record {
  order = ascends_kept 1 128 (λ e. is_one_of numbers e.0) es m.order;
  values = good_kept (λ e. is_one_of numbers e.0) es m.values;
}

-- one of two outcomes, and what follows from each
pub either : {A E X Y P : Type 0} (r : Result A E) → OnOk r X → OnErr r Y → (X → P) → (Y → P) → P
either (Ok a) x y on_ok on_err = on_ok x
either (Err e) x y on_ok on_err = on_err y

-- ---- the elements that are set in what is made

pub code_fits : (code : List ℕ) → length code ≡ 2 → AreOf Text code → set_fault (form_of 39) 39 code ≡ None
unfolding form_of table
code_fits code two text = rw (eq-eqb (length code) 2 two, text) refl

list_digits : (xs ys : List ℕ) → AreOf Digits xs → AreOf Digits ys → AreOf Digits (xs ++ ys)
list_digits xs ys a b = list_all-append (fits Digits) xs ys ∙ and_from _ _ a b

zeros_are : (n : ℕ) → AreOf Digits (replicate n 48)
zeros_are zero = refl
zeros_are (suc n) = zeros_are n

pub id_short : (m : Fields) → IsMessage m → length (el m 32) ≤ 11
unfolding el
id_short m g = go (get m 32) refl
  where
    go : (o : Option (List ℕ)) → get m 32 ≡ o → length (unwrap_or (get m 32) []) ≤ 11
    go None e = rw e (omega arith)
    go (Some v) e = rw e (id_length m g v e)

pub original_fits : (m : Fields) → IsMessage m → has_own_key m ≡ true → set_fault (form_of 90) 90 (original_data m) ≡ None
unfolding form_of table has_own_key
original_fits m g h =
    let parts = and_parts (has m 32 && has m 11) (has m 7) h in
    let two = and_parts (has m 32) (has m 11) parts.0 in
    let id = good_found m 32 (el m 32) g (here m 32 two.0) in
    let trace = good_found m 11 (el m 11) g (here m 11 two.1) in
    let time = good_found m 7 (el m 7) g (here m 7 parts.1) in
    let padded : AreOf Digits (pad11 (el m 32)) = list_digits (replicate (11 - length (el m 32)) 48) (el m 32) (zeros_are (11 - length (el m 32))) id.2 in
    let eleven : length (pad11 (el m 32)) ≡ 11 = omega (arith, length-append (replicate (11 - length (el m 32)) 48) (el m 32), length-replicate {A = ℕ} (11 - length (el m 32)) 48, id.0) in
    let end = pad11 (el m 32) ++ replicate 11 48 in
    let ids : AreOf Digits end = list_digits (pad11 (el m 32)) (replicate 11 48) padded refl in
    let times : AreOf Digits (el m 7 ++ end) = list_digits (el m 7) end time.1 ids in
    let digits : AreOf Digits (original_data m) = list_digits (el m 11) (el m 7 ++ end) trace.1 times in
    let last : length (pad11 (el m 32) ++ replicate 11 48) ≡ 22 = omega (arith, length-append (pad11 (el m 32)) (replicate 11 48), eleven) in
    let later : length (el m 7 ++ (pad11 (el m 32) ++ replicate 11 48)) ≡ 32 = omega (arith, length-append (el m 7) (pad11 (el m 32) ++ replicate 11 48), last, time.0) in
    let all : length (el m 11 ++ (el m 7 ++ (pad11 (el m 32) ++ replicate 11 48))) ≡ 38 = omega (arith, length-append (el m 11) (el m 7 ++ (pad11 (el m 32) ++ replicate 11 48)), later, trace.0) in
    let long : length (original_data m) ≡ 42 = ap (λ n. suc (suc (suc (suc n)))) all in
    rw (eq-eqb (length (original_data m)) 42 long, digits) refl

-- what a reference shows is there where the reference is
pub copied_there : (r : Option (Bor (List ℕ))) → is_some r ≡ is_some (option_copied r)
copied_there None = refl
copied_there (Some v) = refl
