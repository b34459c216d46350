-- What is known of bytes, as these are read.
use Rattle.std.proofs.Common.{◌≡◌, ℕ, ◌+◌, ◌-◌, ◌≤◌, true, List, ◌++◌, length, take, drop, refl, sym, ap, subst, ◌∙◌, arith, inl, inr}
use Rattle.std.proofs.lemmas.Bool.{and_parts, cases_lt, leb-true, le-leb}
use Rattle.std.proofs.lemmas.List.{take-append-drop, length-append, length-take-le}
use Rattle.std.proofs.lemmas.List.Folds.{list_all-append}
use Rattle.std.proofs.Math.Seq.{take-append-add}
use Rattle.std.specs.List.{list_all, slice_index}
use Rattle.message_elements.specs.Values.{fits}
use Rattle.message_elements.specs.declared.form.Class.{Class}
use Rattle.message_elements.specs.declared.form.Class.TheVariants.{Digits, Text}
use Rattle.message_bytes.specs.declared.runs.Known.{Known}
use Rattle.message_bytes.specs.Known.{IsKnown, PassBetween}
use Rattle.message_bytes.proofs.LaneLemmas.{front_passes}

-- the same holds of the bytes behind a front
behind : (class : Class) (left : ℕ) (v rest : List ℕ) → list_all (fits class) (take (length (v ++ rest) - left) (v ++ rest)) ≡ true → list_all (fits class) (take (length rest - left) rest) ≡ true
behind class left v rest h =
    elim (cases_lt (length rest) left) [
      | inl few ↦ let none : length rest - left ≡ 0 = omega arith in rw none refl
      | inr le ↦
          let n : length (v ++ rest) - left ≡ length v + (length rest - left) = omega (arith, length-append v rest) in
          let parts = ap (λ k. take k (v ++ rest)) n ∙ take-append-add v rest (length rest - left) in
          (and_parts (list_all (fits class) v) (list_all (fits class) (take (length rest - left) rest)) (sym (list_all-append (fits class) v (take (length rest - left) rest)) ∙ ap (list_all (fits class)) (sym parts) ∙ h)).1
    ]

pub known_behind : (k : Known) (v rest : List ℕ) → IsKnown k (v ++ rest) → IsKnown k rest
known_behind k v rest h = record { digits = behind Digits k.digits v rest h.digits; text = behind Text k.text v rest h.text }

pub known_dropped : (k : Known) (n : ℕ) (bytes : List ℕ) → IsKnown k bytes → IsKnown k (drop n bytes)
known_dropped k n bytes h = known_behind k (take n bytes) (drop n bytes) (subst (λ (bs : List ℕ). IsKnown k bs) (sym (take-append-drop n bytes)) h)

-- a front that ends before the bytes of which nothing is known
pub front_known : (class : Class) (left n : ℕ) (bytes : List ℕ) → n ≤ length bytes → left ≤ length bytes - n → list_all (fits class) (take (length bytes - left) bytes) ≡ true → list_all (fits class) (take n bytes) ≡ true
front_known class left n bytes le few h =
    let v = take n bytes in
    let rest = drop n bytes in
    let whole : v ++ rest ≡ bytes = take-append-drop n bytes in
    let long : length v ≡ n = length-take-le n bytes le in
    let more : length bytes - left ≡ length v + (length bytes - left - n) = omega (arith, long) in
    let parts : take (length bytes - left) bytes ≡ v ++ take (length bytes - left - n) rest = ap (λ m. take m bytes) more ∙ ap (take (length v + (length bytes - left - n))) (sym whole) ∙ take-append-add v rest (length bytes - left - n) in
    (and_parts (list_all (fits class) v) (list_all (fits class) (take (length bytes - left - n) rest)) (sym (list_all-append (fits class) v (take (length bytes - left - n) rest)) ∙ ap (list_all (fits class)) (sym parts) ∙ h)).0

-- what a run from the first byte on says of all bytes but those behind it
pub front_of : (class : Class) (bytes : List ℕ) (run : ℕ) → run ≤ length bytes → PassBetween (fits class) bytes 0 run → list_all (fits class) (take (length bytes - (length bytes - run)) bytes) ≡ true
front_of class bytes run le h =
    let same : length bytes - (length bytes - run) ≡ run = omega (arith, le) in
    rw same (front_passes (fits class) bytes run le h)

text_of_digit : (b : ℕ) → fits Digits b ≡ true → fits Text b ≡ true
text_of_digit b h =
    let d = and_parts _ _ h in
    let low = leb-true 48 b d.0 in
    let high = leb-true b 57 d.1 in
    rw (le-leb 32 b (omega (arith, low)), le-leb b 126 (omega (arith, high))) refl

-- all bytes are digits
pub all_digits : (bytes : List ℕ) (run : ℕ) → run ≡ length bytes → PassBetween (fits Digits) bytes 0 run → IsKnown (record { digits = 0; text = 0 }) bytes
all_digits bytes run e h =
    let le : run ≤ length bytes = omega (arith, e) in
    let all : length bytes - 0 ≡ run = omega (arith, e) in
    record {
      digits = ap (λ k. list_all (fits Digits) (take k bytes)) all ∙ front_passes (fits Digits) bytes run le h;
      text = ap (λ k. list_all (fits Text) (take k bytes)) all ∙ front_passes (fits Text) bytes run le (λ k from below. text_of_digit (slice_index bytes k) (h k from below));
    }
