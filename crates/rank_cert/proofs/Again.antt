-- The text of a certificate, read again.
use Rattle.std.proofs.Common.{◌≡◌, ℕ, ◌+◌, ◌-◌, ◌^◌, ◌<◌, ◌==◌, ◌||◌, ◌++◌, Bool, true, false, not, cond, List, [], ◌∷◌, Some, None, Ok, refl, sym, ◌∙◌, ap, arith, rules, length, nat_lt, ne_eqb, append_assoc, append-nil}
use Rattle.std.specs.Prelude.{codes}
use Rattle.std.specs.Char.{is_ascii_digit, is_ascii_alphanumeric}
use Rattle.std.specs.Fmt.{decimal}
use Rattle.std.specs.List.{list_all}
use Rattle.std.proofs.lemmas.Bool.{and_parts, eqb-true, le-leb, le-ltb}
use Rattle.std.proofs.lemmas.Fmt.{digits_decimal, digits_value-decimal, length-decimal-le, decimal_nonempty}
use Rattle.std.proofs.lemmas.List.{length-map}
use Rattle.std.proofs.lemmas.List.Elements.{All-nil, All-cons, All-append}
use Rattle.std.proofs.lemmas.Str.Parse.{IsNumeralModel, numerals_by_fold}
use Rattle.card_digits.specs.Digits.{AreDigits, IsPrefix, digits_of}
use Rattle.card_digits.specs.Numbers.{decimal_from}
use Rattle.card_digits.specs.Reading.{name_of, read_digits}
use Rattle.rank_rows.specs.declared.rank.Rank.{Rank}
use Rattle.rank_rows.specs.Ranks.{rank_of, IsRow, AddsRows, IsCert}
use Rattle.card_digits.specs.Lines.{lines}
use Rattle.card_digits.proofs.LineCuts.{lines-at}
use Rattle.rank_cert.specs.Reading.{fields, three, number_of, row_of, is_line, rows_in, cert_in}
use Rattle.rank_cert.specs.Writing.{digits_text, line_of, lines_of, text_of}
use Rattle.card_digits.proofs.Cuts.{Others}
use Rattle.rank_cert.proofs.Cuts.{three_of_three}
use Rattle.std.specs.Cmp.Lexicographic.{same_text}

-- ---- bytes that pass a test are other ones than a byte that doesn't

other_than : (p : ℕ → Bool) (c : ℕ) → p c ≡ false → (b : ℕ) (t : Bool) → (b == c) ≡ t → p b ≡ true → t ≡ false
other_than p c fails b false is passes = refl
other_than p c fails b true is passes = let same : b ≡ c = eqb-true b c is in cc

pub others_from : (p : ℕ → Bool) (c : ℕ) → p c ≡ false → (bs : List ℕ) → list_all p bs ≡ true → Others c bs
others_from p c fails [] h = All-nil (λ b. (b == c) ≡ false)
others_from p c fails (b ∷ bs) h =
    let parts = and_parts (p b) (list_all p bs) h in
    All-cons (λ b'. (b' == c) ≡ false) b bs (other_than p c fails b (b == c) refl parts.0) (others_from p c fails bs parts.1)

-- ---- a name, a prefix and a rank, each read again

letters_of : (name : List ℕ) (few : Bool) (all : Bool) → cond (few || not all) None (Some name) ≡ Some name → all ≡ true
letters_of name few true h = refl
letters_of name true false h = cc
letters_of name false false h = cc

pub name_passes : (name : List ℕ) → name_of name ≡ Some name → list_all is_ascii_alphanumeric name ≡ true
name_passes name h = letters_of name (length name == 0 || nat_lt 8 (length name)) (list_all is_ascii_alphanumeric name) h

digit_passes : (d : ℕ) → d < 10 → is_ascii_digit (d + 48) ≡ true
digit_passes d h = rw (le-leb 48 (d + 48) (omega arith), le-leb (d + 48) 57 (omega arith)) refl

pub digits_pass : (ds : List ℕ) → AreDigits ds → list_all is_ascii_digit (digits_text ds) ≡ true
digits_pass [] h = refl
digits_pass (d ∷ ds) h = rw (digit_passes d h.0, digits_pass ds h.1) refl

digits_again : (ds : List ℕ) → digits_of (digits_text ds) ≡ ds
digits_again [] = refl
digits_again (d ∷ ds) = let back : d + 48 - 48 ≡ d = omega arith in rw (back, digits_again ds) refl

pub prefix_again : (ds : List ℕ) → IsPrefix ds → read_digits 1 12 (digits_text ds) ≡ Ok ds
prefix_again ds h =
    let same : length (digits_text ds) ≡ length ds = length-map ds (λ d. d + 48) in
    let enough : nat_lt (length (digits_text ds)) 1 ≡ false = le-ltb (length (digits_text ds)) 1 (omega (arith, same, h.not_short)) in
    let few : nat_lt 12 (length (digits_text ds)) ≡ false = le-ltb 12 (length (digits_text ds)) (omega (arith, same, h.not_long)) in
    rw (digits_pass ds h.digits, enough, few, digits_again ds) refl

own : IsNumeralModel (λ bs. list_all is_ascii_digit bs ≡ true) (decimal_from 0)
own = numerals_by_fold _ (search rules) decimal_from (search rules)

number_passes : (n : ℕ) → n < 65536 → list_all is_ascii_digit (decimal n) ≡ true
number_passes n h = digits_decimal own n (omega arith)

number_again : (n : ℕ) → n < 65536 → number_of (decimal n) ≡ Some n
number_again n h =
    let room : n < 2 ^ 64 = omega arith in
    let some : (length (decimal n) == 0) ≡ false = ne_eqb (length (decimal n)) 0 (λ e. let more = decimal_nonempty n room in omega arith) in
    let few : nat_lt 5 (length (decimal n)) ≡ false = le-ltb 5 (length (decimal n)) (length-decimal-le 5 n (omega arith) (omega arith) room) in
    let small : nat_lt 65535 n ≡ false = le-ltb 65535 n (omega arith) in
    rw (some, few, number_passes n h, digits_value-decimal own n room, small) refl

-- ---- a row

spaced : (a b c : List ℕ) → (a ++ 32 ∷ b) ++ 32 ∷ c ≡ a ++ 32 ∷ (b ++ 32 ∷ c)
spaced a b c = append_assoc a (32 ∷ b) (32 ∷ c)

three_again : (r : Rank) → IsRow r → three (fields (line_of r)) ≡ Some (r.node, digits_text r.prefix, decimal r.rank)
three_again r row =
    three_of_three (line_of r) r.node (digits_text r.prefix ++ 32 ∷ decimal r.rank) (digits_text r.prefix) (decimal r.rank)
    (record { none = others_from is_ascii_alphanumeric 32 refl r.node (name_passes r.node row.node); whole = spaced r.node (digits_text r.prefix) (decimal r.rank) })
    (record { none = others_from is_ascii_digit 32 refl (digits_text r.prefix) (digits_pass r.prefix row.prefix.digits); whole = refl })
    (others_from is_ascii_digit 32 refl (decimal r.rank) (number_passes r.rank row.rank))

row_again : (r : Rank) → IsRow r → row_of (line_of r) ≡ Some r
row_again r row = rw (three_again r row) (rw (row.node, prefix_again r.prefix row.prefix, number_again r.rank row.rank) refl)

no_feed : (r : Rank) → IsRow r → Others 10 (line_of r)
no_feed r row =
    let P = λ (b : ℕ). (b == 10) ≡ false in
    All-append P (r.node ++ 32 ∷ digits_text r.prefix) (32 ∷ decimal r.rank)
    (All-append P r.node (32 ∷ digits_text r.prefix)
    (others_from is_ascii_alphanumeric 10 refl r.node (name_passes r.node row.node))
    (All-cons P 32 (digits_text r.prefix) refl (others_from is_ascii_digit 10 refl (digits_text r.prefix) (digits_pass r.prefix row.prefix.digits))))
    (All-cons P 32 (decimal r.rank) refl (others_from is_ascii_digit 10 refl (decimal r.rank) (number_passes r.rank row.rank)))

-- a row's line isn't the end
not_end : (r : Rank) → IsRow r → (t : Bool) → is_line (line_of r) (codes "END") ≡ t → t ≡ false
not_end r row false is = refl
not_end r row true is =
    let same = same_text (line_of r) (codes "END") (sym is) in
    let none : row_of (line_of r) ≡ None = rw same refl in
    let some = row_again r row in
    cc

-- ---- the rows

abbrev pub end_text : List ℕ
end_text = codes "END" ++ 10 ∷ []

lines_again : (r : Rank) → IsRow r → (rest : List ℕ) → lines ((line_of r ++ 10 ∷ []) ++ rest) ≡ line_of r ∷ lines rest
lines_again r row rest = rw (append_assoc (line_of r) (10 ∷ []) rest) (lines-at (line_of r) rest (no_feed r row))

step : (done : List Rank) (r : Rank) → IsRow r → rank_of done r.node r.prefix ≡ None → (rest : List (List ℕ))
    → rows_in done (line_of r ∷ rest) ≡ rows_in (done ++ r ∷ []) rest
step done r row new rest = rw (not_end r row (is_line (line_of r) (codes "END")) refl, row_again r row, new) refl

rows_again : (done rows : List Rank) → AddsRows done rows → rows_in done (lines (lines_of rows ++ end_text)) ≡ Ok (done ++ rows)
rows_again done [] h = rw append-nil refl
rows_again done (r ∷ rows) h =
    rw (append_assoc (line_of r ++ 10 ∷ []) (lines_of rows) end_text, lines_again r h.0 (lines_of rows ++ end_text))
    (step done r h.0 h.1 (lines (lines_of rows ++ end_text)) ∙ rows_again (done ++ r ∷ []) rows h.2 ∙ rw append_assoc refl)

pub text_again : (rows : List Rank) → IsCert rows → cert_in (text_of rows) ≡ Ok rows
text_again rows h =
    let whole : (lines_of rows ++ codes "END") ++ 10 ∷ [] ≡ lines_of rows ++ end_text = append_assoc (lines_of rows) (codes "END") (10 ∷ []) in
    ap (λ t. rows_in [] (lines t)) whole ∙ rows_again [] rows h
