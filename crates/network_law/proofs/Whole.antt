-- What a node makes of messages can be written again.
use Rattle.std.proofs.Common.{leb, ◌≡◌, ℕ, zero, suc, ◌-◌, ◌<◌, ◌≤◌, List, [], ◌∷◌, ◌++◌, length, map, replicate, Option, Some, None, Bool, true, false, not, refl, sym, subst, arith, eqb, unwrap_or, ◌+◌}
use Rattle.std.proofs.lemmas.Bool.{le-leb, and_parts, and_from}
use Rattle.std.proofs.lemmas.List.{length-map, length-append, length-replicate}
use Rattle.std.specs.Prelude.{codes}
use Rattle.std.specs.List.{list_all}
use Rattle.std.specs.Char.{is_ascii_digit}
use Rattle.card_digits.specs.Numbers.{pad11}
use Rattle.message_elements.specs.declared.kind.Kind.{Kind}
use Rattle.message_elements.specs.declared.kind.Kind.TheVariants.{K0120, K0420}
use Rattle.message_elements.specs.declared.form.Class.TheVariants.{Digits}
use Rattle.message_elements.specs.Table.{form_of, table}
use Rattle.message_elements.specs.Values.{AreOf}
use Rattle.iso_message.specs.Finding.{find_element}
use Rattle.iso_message.specs.Fields.{Fields, get, el, has, set_element, remove_element, as_kind}
use Rattle.iso_message.specs.Spelling.{IsMessage, IsGood, AreGood, Ascends}
use Rattle.message_elements.specs.Codes.{code_00, code_68}
use Rattle.message_elements.specs.Groups.{response_kind}
use Rattle.iso_message.specs.Made.{kept, is_one_of, response_numbers, advice_numbers, response, made_from, made_stand_in, made_reversal, original_data}
use Rattle.iso_message.proofs.Found.{good_found}
use Rattle.iso_message.proofs.MessageLemmas.{without_is, ascends_kept, good_kept, ascends_put, good_put}
use Rattle.network_law.specs.Entries.{IsCode}
use Rattle.network_law.specs.Cards.{text_of}
use Rattle.card_digits.specs.Digits.{IsDateLabel, AreDigits}
use Rattle.network_law.proofs.Ids.{IsIdText}
use Rattle.network_law.proofs.ReadRuns.{HasLengths}

-- values

-- an element that is there is good
pub good_el : (m : Fields) (n : ℕ) → IsMessage m → has m n ≡ true → IsGood (form_of n) (el m n)
unfolding has el get
good_el m n g h = go (find_element n m.elements) refl
  where
    go : (o : Option (List ℕ)) → find_element n m.elements ≡ o → IsGood (form_of n) (unwrap_or (find_element n m.elements) [])
    go None e = absurd (no (rw e at h))
      where
        no : false ≡ true → ⊥
        no p = cc
    go (Some v) e = rw e (good_found m n v g e)

-- and one that is absent is empty
absent_or_good : (m : Fields) (n : ℕ) → IsMessage m → (P : List ℕ → Type 0) → P [] → ((v : List ℕ) → IsGood (form_of n) v → P v) → P (el m n)
unfolding el get
absent_or_good m n g P none some = go (find_element n m.elements) refl
  where
    go : (o : Option (List ℕ)) → find_element n m.elements ≡ o → P (unwrap_or (find_element n m.elements) [])
    go None e = rw e none
    go (Some v) e = rw e (some v (good_found m n v g e))

trace_digits : (m : Fields) → IsMessage m → AreOf Digits (el m 11)
unfolding form_of table
trace_digits m g = absent_or_good m 11 g (AreOf Digits) refl (λ v h. h.1)

time_digits : (m : Fields) → IsMessage m → AreOf Digits (el m 7)
unfolding form_of table
time_digits m g = absent_or_good m 7 g (AreOf Digits) refl (λ v h. h.1)

acquirer_digits : (m : Fields) → IsMessage m → AreOf Digits (el m 32)
unfolding form_of table
acquirer_digits m g = absent_or_good m 32 g (AreOf Digits) refl (λ v h. h.2)

-- the lengths of a key whose elements are there
pub lengths : (m : Fields) → IsMessage m → has m 11 ≡ true → has m 7 ≡ true → has m 32 ≡ true → HasLengths m
unfolding form_of table
lengths m g a b c = record { trace = (good_el m 11 g a).0; time = (good_el m 7 g b).0; acquirer = (good_el m 32 g c).0 }

pub code_good : (m : Fields) → IsMessage m → has m 39 ≡ true → IsCode (el m 39)
unfolding form_of table
code_good m g h = good_el m 39 g h

-- changes

pub kind_is : (k : Kind) (m : Fields) → IsMessage m → IsMessage (as_kind k m)
kind_is k m g = record { order = g.order; values = g.values }

pub set_is : (m : Fields) (n : ℕ) (v : List ℕ) → IsMessage m → 1 < n → n ≤ 128 → IsGood (form_of n) v → IsMessage (set_element m n v)
unfolding set_element
set_is m n v g above up_to good = record { order = ascends_put 1 128 n v m.elements above up_to g.order; values = good_put n v m.elements good g.values }

pub remove_is : (m : Fields) (n : ℕ) → IsMessage m → IsMessage (remove_element m n)
unfolding remove_element
remove_is m n g = record {
  order = subst (λ (es : List (ℕ × List ℕ)). Ascends 1 128 (map (λ e. e.0) es)) (sym (without_is n m.elements)) (ascends_kept 1 128 (λ e. not (eqb e.0 n)) m.elements g.order);
  values = subst AreGood (sym (without_is n m.elements)) (good_kept (λ e. not (eqb e.0 n)) m.elements g.values);
}

kept_is : (k : Kind) (ns : List ℕ) (m : Fields) → IsMessage m → IsMessage (record { kind = k; elements = kept ns m.elements })
kept_is k ns m g = record { order = ascends_kept 1 128 (λ e. is_one_of ns e.0) m.elements g.order; values = good_kept (λ e. is_one_of ns e.0) m.elements g.values }

code_is : (m : Fields) (c : List ℕ) → IsMessage m → IsCode c → IsMessage (set_element m 39 c)
unfolding form_of table
code_is m c g h = set_is m 39 c g (omega arith) (omega arith) h

digit_text : (d : ℕ) → d < 10 → is_ascii_digit (d + 48) ≡ true
digit_text d less = and_from (leb 48 (d + 48)) (leb (d + 48) 57) (le-leb 48 (d + 48) (omega arith)) (le-leb (d + 48) 57 (omega (arith, less)))

digits_text : (ds : List ℕ) → AreDigits ds → list_all is_ascii_digit (text_of ds) ≡ true
digits_text [] a = refl
digits_text (d ∷ ds) a = and_from (is_ascii_digit (d + 48)) (list_all is_ascii_digit (text_of ds)) (digit_text d a.0) (digits_text ds a.1)

pub date_is : (m : Fields) (d : List ℕ) → IsMessage m → IsDateLabel d → IsMessage (set_element m 15 (text_of d))
unfolding form_of table
date_is m d g h = set_is m 15 (text_of d) g (omega arith) (omega arith) (long, digits_text d h.digits)
  where
    long : length (text_of d) ≡ 4
    long =
        let a = length-map d (λ x. x + 48) in
        let b = h.not_short in
        let c = h.not_long in
        omega (arith, a, b, c)

pub response_is : (m : Fields) (c : List ℕ) → IsMessage m → IsCode c → IsMessage (response m c)
unfolding response
response_is m c g h = code_is (record { kind = response_kind m.kind; elements = kept response_numbers m.elements }) c (kept_is (response_kind m.kind) response_numbers m g) h

id_is : (m : Fields) (id : List ℕ) → IsMessage m → IsIdText id → IsMessage (set_element m 33 id)
unfolding form_of table
id_is m id g h = let few = h.fits in set_is m 33 id g (omega arith) (omega arith) (few, omega (arith, few), h.digits)

made_is : (k : Kind) (m : Fields) (id c : List ℕ) → IsMessage m → IsIdText id → IsCode c → IsMessage (made_from k m id c)
unfolding made_from
made_is k m id c g i h = code_is (set_element (record { kind = k; elements = kept advice_numbers m.elements }) 33 id) c (id_is (record { kind = k; elements = kept advice_numbers m.elements }) id (kept_is k advice_numbers m g) i) h

pub stand_in_is : (m : Fields) (id : List ℕ) → IsMessage m → IsIdText id → IsMessage (made_stand_in m id)
unfolding made_stand_in
stand_in_is m id g i = made_is K0120 m id code_00 g i (refl, refl)

-- element 90

all_both : (p : ℕ → Bool) (a b : List ℕ) → list_all p a ≡ true → list_all p b ≡ true → list_all p (a ++ b) ≡ true
all_both p [] b h k = k
all_both p (x ∷ a) b h k = let q = and_parts (p x) (list_all p a) h in and_from (p x) (list_all p (a ++ b)) q.0 (all_both p a b q.1 k)

zeros_digits : (n : ℕ) → list_all is_ascii_digit (replicate n 48) ≡ true
zeros_digits zero = refl
zeros_digits (suc n) = zeros_digits n

original_good : (m : Fields) → IsMessage m → HasLengths m → (length (original_data m) ≡ 42) × AreOf Digits (original_data m)
original_good m g h = (
  long,
  all_both is_ascii_digit (codes "0100") (el m 11 ++ (el m 7 ++ (pad11 (el m 32) ++ replicate 11 48))) refl
      (all_both is_ascii_digit (el m 11) (el m 7 ++ (pad11 (el m 32) ++ replicate 11 48)) (trace_digits m g)
      (all_both is_ascii_digit (el m 7) (pad11 (el m 32) ++ replicate 11 48) (time_digits m g)
      (all_both is_ascii_digit (pad11 (el m 32)) (replicate 11 48)
      (all_both is_ascii_digit (replicate (11 - length (el m 32)) 48) (el m 32) (zeros_digits (11 - length (el m 32))) (acquirer_digits m g)) refl))),
)
  where
    long : length (original_data m) ≡ 42
    long =
        let a = length-append (codes "0100") (el m 11 ++ (el m 7 ++ (pad11 (el m 32) ++ replicate 11 48))) in
        let b = length-append (el m 11) (el m 7 ++ (pad11 (el m 32) ++ replicate 11 48)) in
        let c = length-append (el m 7) (pad11 (el m 32) ++ replicate 11 48) in
        let d = length-append (pad11 (el m 32)) (replicate 11 48) in
        let e = length-append (replicate (11 - length (el m 32)) 48) (el m 32) in
        let f = length-replicate {A = ℕ} (11 - length (el m 32)) 48 in
        let x = h.trace in
        let y = h.time in
        let z = h.acquirer in
        omega (arith, a, b, c, d, e, f, x, y, z)

pub reversal_is : (m : Fields) (id : List ℕ) → IsMessage m → HasLengths m → IsIdText id → IsMessage (made_reversal m id)
unfolding made_reversal form_of table
reversal_is m id g h i = set_is (made_from K0420 m id code_68) 90 (original_data m) (made_is K0420 m id code_68 g i (refl, refl)) (omega arith) (omega arith) (original_good m g h)
