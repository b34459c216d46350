-- Lanes of hexadecimal digits.
use Rattle.std.proofs.Common.{◌≡◌, ℕ, suc, eqb, ◌+◌, ◌*◌, ◌/◌, ◌%◌, ◌^◌, ◌<◌, Bool, true, false, cond, List, [], ◌∷◌, ◌++◌, map, length, get_or, replicate, take, take_all, leb, Option, Some, None, Ok, Fits, w8, refl, sym, ap, ◌∙◌, arith}
use Rattle.std.proofs.lemmas.Bool.{agree_below, agree_below_at, eqb-true, leb-false}
use Rattle.std.proofs.lemmas.List.{length-map}
use Rattle.std.proofs.Math.Nat.{mod-eq_of_lt}
use Rattle.std.proofs.lemmas.Nat.{mod_below, div_below}
use Rattle.std.proofs.lemmas.Simd.{map-map, mask_l-mod, none_from_empty_mask}
use Rattle.message_bytes.proofs.LaneLemmas.{joined, splat_is, itself}
use lib.Lanes.{sel_l, top, zip2, pick_l, mask_l}
use Rattle.std.specs.List.{AllByRecursion}
use Rattle.std.specs.Prelude.{slice_index}
use Rattle.hex.specs.Hex.{decode_sized, decode_pairs, hex_digit_value, encode_upper, encode_with, upper_digits}
use Rattle.message_bytes.specs.HexDigits.{value_or_none, digit_value}

selected : (p : ℕ → Bool) (f g : ℕ → ℕ) (v : List ℕ) → sel_l (map p v) (map f v) (map g v) ≡ map (λ x. cond (p x) (f x) (g x)) v
selected p f g [] = refl
selected p f g (x ∷ xs) = ap (λ r. cond (p x) (f x) (g x) ∷ r) (selected p f g xs)

pub sel_l-map : (p : ℕ → Bool) (f g : ℕ → ℕ) (v : List ℕ) {m : List Bool} {a b : List ℕ} → m ≡ map p v → a ≡ map f v → b ≡ map g v → sel_l m a b ≡ map (λ x. cond (p x) (f x) (g x)) v
sel_l-map p f g v em ea eb = rw (em, ea, eb) (selected p f g v)

same_below : (f g : ℕ → ℕ) (b : ℕ) → agree_below (λ n. eqb (f n) (g n)) (λ _. true) 256 ≡ true → b < 256 → f b ≡ g b
same_below f g b all lt = eqb-true _ _ (agree_below_at (λ n. eqb (f n) (g n)) (λ _. true) 256 b all lt)

-- two functions that agree on bytes
pub map_agrees : (f g : ℕ → ℕ) (v : List ℕ) → agree_below (λ n. eqb (f n) (g n)) (λ _. true) 256 ≡ true → ((k : ℕ) → Fits w8 (get_or v k 0)) → map f v ≡ map g v
map_agrees f g [] all fits = refl
map_agrees f g (x ∷ xs) all fits =
    ap (λ y. y ∷ map f xs) (same_below f g x all (fits 0).fits) ∙ ap (λ r. g x ∷ r) (map_agrees f g xs all (λ k. fits (suc k)))

-- two functions that agree below a bound
pub map_agrees_below : (n : ℕ) (f g : ℕ → ℕ) (v : List ℕ) → agree_below (λ k. eqb (f k) (g k)) (λ _. true) n ≡ true → AllByRecursion (λ x. x < n) v → map f v ≡ map g v
map_agrees_below n f g [] all below = refl
map_agrees_below n f g (x ∷ xs) all below =
    ap (λ y. y ∷ map f xs) (eqb-true _ _ (agree_below_at (λ k. eqb (f k) (g k)) (λ _. true) n x all below.0)) ∙ ap (λ r. g x ∷ r) (map_agrees_below n f g xs all below.1)

-- what holds of each list with one element more
more : (n : ℕ) (P : List ℕ → Type 0) → ((x : ℕ) (xs : List ℕ) → length xs ≡ n → P (x ∷ xs)) → (xs : List ℕ) → length xs ≡ suc n → P xs
more n P f [] e = absurd (omega (arith, e))
more n P f (x ∷ xs) e = f x xs (omega (arith, e))

none_more : (P : List ℕ → Type 0) → P [] → (xs : List ℕ) → length xs ≡ 0 → P xs
none_more P p [] e = p
none_more P p (x ∷ xs) e = absurd (omega (arith, e))

-- what holds of each eight elements
pub of_eight : (P : List ℕ → Type 0) → ((b0 b1 b2 b3 b4 b5 b6 b7 : ℕ) → P (b0 ∷ b1 ∷ b2 ∷ b3 ∷ b4 ∷ b5 ∷ b6 ∷ b7 ∷ [])) → (xs : List ℕ) → length xs ≡ 8 → P xs
of_eight P f =
    more 7 P (λ b0. more 6 (λ xs. P (b0 ∷ xs)) (λ b1. more 5 (λ xs. P (b0 ∷ b1 ∷ xs)) (λ b2. more 4 (λ xs. P (b0 ∷ b1 ∷ b2 ∷ xs)) (λ b3.
    more 3 (λ xs. P (b0 ∷ b1 ∷ b2 ∷ b3 ∷ xs)) (λ b4. more 2 (λ xs. P (b0 ∷ b1 ∷ b2 ∷ b3 ∷ b4 ∷ xs)) (λ b5. more 1 (λ xs. P (b0 ∷ b1 ∷ b2 ∷ b3 ∷ b4 ∷ b5 ∷ xs)) (λ b6.
    more 0 (λ xs. P (b0 ∷ b1 ∷ b2 ∷ b3 ∷ b4 ∷ b5 ∷ b6 ∷ xs)) (λ b7. none_more (λ xs. P (b0 ∷ b1 ∷ b2 ∷ b3 ∷ b4 ∷ b5 ∷ b6 ∷ b7 ∷ xs)) (f b0 b1 b2 b3 b4 b5 b6 b7)))))))))

-- what holds of each sixteen elements
pub of_sixteen : (P : List ℕ → Type 0) → ((b0 b1 b2 b3 b4 b5 b6 b7 c0 c1 c2 c3 c4 c5 c6 c7 : ℕ) → P (b0 ∷ b1 ∷ b2 ∷ b3 ∷ b4 ∷ b5 ∷ b6 ∷ b7 ∷ c0 ∷ c1 ∷ c2 ∷ c3 ∷ c4 ∷ c5 ∷ c6 ∷ c7 ∷ [])) → (xs : List ℕ) → length xs ≡ 16 → P xs
of_sixteen P f =
    more 15 P (λ b0. more 14 (λ xs. P (b0 ∷ xs)) (λ b1. more 13 (λ xs. P (b0 ∷ b1 ∷ xs)) (λ b2. more 12 (λ xs. P (b0 ∷ b1 ∷ b2 ∷ xs)) (λ b3.
    more 11 (λ xs. P (b0 ∷ b1 ∷ b2 ∷ b3 ∷ xs)) (λ b4. more 10 (λ xs. P (b0 ∷ b1 ∷ b2 ∷ b3 ∷ b4 ∷ xs)) (λ b5. more 9 (λ xs. P (b0 ∷ b1 ∷ b2 ∷ b3 ∷ b4 ∷ b5 ∷ xs)) (λ b6.
    more 8 (λ xs. P (b0 ∷ b1 ∷ b2 ∷ b3 ∷ b4 ∷ b5 ∷ b6 ∷ xs)) (λ b7.
    of_eight (λ xs. P (b0 ∷ b1 ∷ b2 ∷ b3 ∷ b4 ∷ b5 ∷ b6 ∷ b7 ∷ xs)) (f b0 b1 b2 b3 b4 b5 b6 b7)))))))))

-- a digit whose value is small is one
known : (o : Option ℕ) → value_or_none o < 16 → o ≡ Some (value_or_none o)
known (Some v) lt = refl
known None lt = absurd (omega (arith, lt))

-- two digits that are some before others
pub pair_known : (i h l : ℕ) (rest bytes : List ℕ) → digit_value h < 16 → digit_value l < 16 → decode_pairs (i + 2) rest ≡ Ok bytes
    → decode_pairs i (h ∷ l ∷ rest) ≡ Ok ((digit_value h * 16 % 256 + digit_value l) % 256 ∷ bytes)
unfolding decode_pairs
pair_known i h l rest bytes high low later =
    let value : (digit_value h * 16 % 256 + digit_value l) % 256 ≡ digit_value h * 16 + digit_value l = ap (λ n. (n + digit_value l) % 256) (mod-eq_of_lt (omega (arith, high))) ∙ mod-eq_of_lt (omega (arith, high, low)) in
    rw (known (hex_digit_value h) high, known (hex_digit_value l) low, later, value) refl

-- each lane compared with a number
pub compared : (t : ℕ → ℕ → Bool) (f : ℕ → ℕ) (v : List ℕ) (n y : ℕ) {lanes : List ℕ} → length v ≡ n → lanes ≡ map f v
    → map (top 7) (zip2 (λ a b. cond (t a b) 255 0) lanes (replicate n y)) ≡ map (λ x. top 7 (cond (t (f x) y) 255 0)) v
compared t f v n y long lanes = ap (map (top 7)) (joined (λ a b. cond (t a b) 255 0) f (λ _. y) v lanes (splat_is v n y long)) ∙ map-map (top 7) (λ x. cond (t (f x) y) 255 0) v

abbrev pub evens : List ℕ
evens = 0 ∷ 2 ∷ 4 ∷ 6 ∷ 8 ∷ 10 ∷ 12 ∷ 14 ∷ []

abbrev pub odds : List ℕ
odds = 1 ∷ 3 ∷ 5 ∷ 7 ∷ 9 ∷ 11 ∷ 13 ∷ 15 ∷ []

-- the bytes of sixteen values
abbrev pub packed : List ℕ → List ℕ
packed vs = zip2 (λ a b. (a + b) % 256) (zip2 (λ a b. a * b % 256) (pick_l 0 (vs ++ vs) evens) (replicate 8 16)) (pick_l 0 (vs ++ vs) odds)

abbrev AreValues : List ℕ → Type 0
AreValues vs = (k : ℕ) → k < 16 → get_or vs k 0 < 16

pub decoded : (digits : List ℕ) → length digits ≡ 16 → AreValues (map digit_value digits) → decode_sized digits 8 ≡ Ok (packed (map digit_value digits))
unfolding decode_pairs
decoded =
    of_sixteen (λ ds. AreValues (map digit_value ds) → decode_sized ds 8 ≡ Ok (packed (map digit_value ds))) (λ b0 b1 b2 b3 b4 b5 b6 b7 c0 c1 c2 c3 c4 c5 c6 c7 h.
    pair_known 0 b0 b1 (b2 ∷ b3 ∷ b4 ∷ b5 ∷ b6 ∷ b7 ∷ c0 ∷ c1 ∷ c2 ∷ c3 ∷ c4 ∷ c5 ∷ c6 ∷ c7 ∷ []) _ (h 0 (omega arith)) (h 1 (omega arith)) (
    pair_known 2 b2 b3 (b4 ∷ b5 ∷ b6 ∷ b7 ∷ c0 ∷ c1 ∷ c2 ∷ c3 ∷ c4 ∷ c5 ∷ c6 ∷ c7 ∷ []) _ (h 2 (omega arith)) (h 3 (omega arith)) (
    pair_known 4 b4 b5 (b6 ∷ b7 ∷ c0 ∷ c1 ∷ c2 ∷ c3 ∷ c4 ∷ c5 ∷ c6 ∷ c7 ∷ []) _ (h 4 (omega arith)) (h 5 (omega arith)) (
    pair_known 6 b6 b7 (c0 ∷ c1 ∷ c2 ∷ c3 ∷ c4 ∷ c5 ∷ c6 ∷ c7 ∷ []) _ (h 6 (omega arith)) (h 7 (omega arith)) (
    pair_known 8 c0 c1 (c2 ∷ c3 ∷ c4 ∷ c5 ∷ c6 ∷ c7 ∷ []) _ (h 8 (omega arith)) (h 9 (omega arith)) (
    pair_known 10 c2 c3 (c4 ∷ c5 ∷ c6 ∷ c7 ∷ []) _ (h 10 (omega arith)) (h 11 (omega arith)) (
    pair_known 12 c4 c5 (c6 ∷ c7 ∷ []) _ (h 12 (omega arith)) (h 13 (omega arith)) (
    pair_known 14 c6 c7 [] [] (h 14 (omega arith)) (h 15 (omega arith)) (refl)))))))))

-- high and low halves in turn
abbrev pub in_turn : List ℕ
in_turn = 0 ∷ 8 ∷ 1 ∷ 9 ∷ 2 ∷ 10 ∷ 3 ∷ 11 ∷ 4 ∷ 12 ∷ 5 ∷ 13 ∷ 6 ∷ 14 ∷ 7 ∷ 15 ∷ []

abbrev pub halves : List ℕ → List ℕ
halves bytes = pick_l 0 (map (λ byte. byte / 16) bytes ++ map (λ byte. byte % 16) bytes) in_turn

high : {b : ℕ} → Fits w8 b → b / 16 < 16
high {b} h = div_below b 16 16 (omega arith) h.fits

low : (b : ℕ) → b % 16 < 16
low b = mod_below b 16 (omega arith)

pub halves_small : (bytes : List ℕ) → length bytes ≡ 8 → ((k : ℕ) → Fits w8 (get_or bytes k 0)) → AllByRecursion (λ value. value < 16) (halves bytes)
halves_small =
    of_eight (λ bs. ((k : ℕ) → Fits w8 (get_or bs k 0)) → AllByRecursion (λ value. value < 16) (halves bs)) (λ b0 b1 b2 b3 b4 b5 b6 b7 h. (
      high (h 0),
      (low b0, (high (h 1), (low b1, (high (h 2), (low b2, (high (h 3), (low b3, (high (h 4), (low b4, (high (h 5), (low b5, (high (h 6), (low b6, (high (h 7), (low b7, tt))))))))))))))),
    ))

pub halves_written : (bytes : List ℕ) → length bytes ≡ 8 → map (λ value. slice_index upper_digits value) (halves bytes) ≡ encode_upper bytes
unfolding encode_with
halves_written = of_eight (λ bs. map (λ value. slice_index upper_digits value) (halves bs) ≡ encode_upper bs) (λ b0 b1 b2 b3 b4 b5 b6 b7. refl)

small_if : (y : ℕ) (b : Bool) → leb 16 y ≡ b → top 7 (cond b 255 0) ≡ false → y < 16
small_if y true e h = absurd cc
small_if y false e h = omega (arith, leb-false 16 y e)

-- where no lane stops, each value is small
pub none_stops : (values : List ℕ) → length values ≡ 16 → mask_l (map (top 7) (zip2 (λ a b. cond (leb a b) 255 0) (replicate 16 16) values)) % 2 ^ 64 ≡ 0 → AreValues values
none_stops values long none k lt =
    let stops : ℕ → Bool = λ x. top 7 (cond (leb 16 x) 255 0) in
    let lanes = ap (map (top 7)) (joined (λ a b. cond (leb a b) 255 0) (λ _. 16) (λ x. x) values (splat_is values 16 16 long) (itself values)) ∙ map-map (top 7) (λ x. cond (leb 16 x) 255 0) values in
    let whole : take 16 values ≡ values = take_all 16 values (omega (arith, long)) in
    let empty : mask_l (map stops (take 16 values)) ≡ 0 = ap (λ vs. mask_l (map stops vs)) whole ∙ sym (mask_l-mod (map stops values) 64 (omega (arith, length-map values stops, long))) ∙ ap (λ l. mask_l l % 2 ^ 64) (sym lanes) ∙ none in
    small_if (get_or values k 0) (leb 16 (get_or values k 0)) refl (none_from_empty_mask stops values 0 16 0 (omega (arith, long)) empty k (omega arith) (omega (arith, lt)))
