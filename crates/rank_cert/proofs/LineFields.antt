-- The fields of a line, read from the front.
use Rattle.std.proofs.Common.{◌≡◌, ℕ, ◌<◌, ◌==◌, ◌||◌, ◌++◌, Bool, true, false, not, cond, List, [], ◌∷◌, Option, Some, None, Ok, refl, sym, ap, ◌∙◌, inl, inr, arith, ◌+◌, ◌-◌, length, get_or, take, drop, nat_lt, append_assoc, length-append, Err}
use Rattle.std.proofs.lemmas.List.{take_at, length_push}
use Rattle.std.specs.Prelude.{option_map, codes, is_none, is_some, Result}
use Rattle.std.specs.Cmp.Lexicographic.{same_text}
use Rattle.std.proofs.lemmas.List.Elements.{All-cons, All-append}
use Rattle.std.specs.Char.{is_ascii_digit, is_ascii_alphanumeric}
use Rattle.std.specs.List.{list_all, onto_first}
use Rattle.std.specs.Result.{result_ok}
use Rattle.std.proofs.lemmas.Bool.{cases_Bool, and_parts}
use Rattle.std.proofs.lemmas.List.Splits.{length-slice_split}
use Rattle.card_digits.specs.Cut.{IsCut}
use Rattle.card_digits.specs.Digits.{IsPrefix, digits_of, digits_text}
use Rattle.card_digits.specs.Reading.{name_of, read_digits}
use Rattle.card_digits.specs.declared.card.DigitFault.TheVariants.{NotDigit, Length}
use Rattle.card_digits.proofs.Decimals.{digit_at}
use Rattle.card_digits.specs.Steps.{◌>>=◌}
use Rattle.card_digits.specs.Lines.{lines}
use Rattle.card_digits.proofs.Cuts.{Others}
use Rattle.card_digits.proofs.LineCuts.{lines-at}
use Rattle.rank_rows.specs.declared.rank.Rank.{Rank}
use Rattle.rank_cert.specs.declared.fault.CertFault.TheVariants.{Twice}
use Rattle.rank_cert.specs.Like.{IsSpelled, IsNamed, IsRanked, IsLike}
use Rattle.rank_rows.specs.Ranks.{rank_of}
use Rattle.rank_cert.specs.Reading.{fields, three, number_of, prefix_of, row_of, is_line, line_behind, new_row, then_rows, rows_in}
use Rattle.rank_cert.proofs.Cuts.{fields-at, fields-one}
use Rattle.rank_cert.proofs.Again.{others_from, name_passes, digits_pass, prefix_again}

-- ---- the prefix and what stands behind it

-- the prefix that the first of several fields is, and the fields behind it
abbrev pub prefix_field : List (List ℕ) → Option (List ℕ × List (List ℕ))
prefix_field (text ∷ next ∷ rest) = prefix_of text >>= λ prefix. Some (prefix, next ∷ rest)
prefix_field _ = None

some_fields : (text : List ℕ) → 0 < length (fields text)
some_fields text = omega (arith, length-slice_split (λ b. b == 32) text)

front_of : (text prefix : List ℕ) (rest : List (List ℕ)) → 0 < length rest → prefix_of text ≡ Some prefix → prefix_field (text ∷ rest) ≡ Some (prefix, rest)
front_of text prefix [] some is = absurd (omega arith)
front_of text prefix (next ∷ rest) some is = ap (λ (o : Option (List ℕ)). o >>= λ p. Some (p, next ∷ rest)) is

-- a prefix that is cut off
pub prefix_cut : (text front rest prefix : List ℕ) → IsCut 32 text front rest → prefix_of front ≡ Some prefix → prefix_field (fields text) ≡ Some (prefix, fields rest)
prefix_cut text front rest prefix cut is = rw (fields-at text front rest cut) (front_of front prefix (fields rest) (some_fields rest) is)

-- a prefix that is spelled again
pub prefix_spelled : (text prefix rest : List ℕ) → IsPrefix prefix → text ≡ digits_text prefix ++ 32 ∷ rest → prefix_field (fields text) ≡ Some (prefix, fields rest)
prefix_spelled text prefix rest form whole =
    prefix_cut text (digits_text prefix) rest prefix
    (record { none = others_from is_ascii_digit 32 refl (digits_text prefix) (digits_pass prefix form.digits); whole = whole })
    (ap result_ok (prefix_again prefix form))

pub no_cut : (text : List ℕ) → Others 32 text → prefix_field (fields text) ≡ None
no_cut text none = rw (fields-one text none) refl

no_front : (text : List ℕ) (rest : List (List ℕ)) → prefix_of text ≡ None → prefix_field (text ∷ rest) ≡ None
no_front text [] is = refl
no_front text (next ∷ rest) is = ap (λ (o : Option (List ℕ)). o >>= λ p. Some (p, next ∷ rest)) is

pub no_prefix_cut : (text front rest : List ℕ) → IsCut 32 text front rest → prefix_of front ≡ None → prefix_field (fields text) ≡ None
no_prefix_cut text front rest cut is = rw (fields-at text front rest cut) (no_front front (fields rest) is)

-- ---- the row

-- the row of some fields
abbrev row_in : List (List ℕ) → Option Rank
row_in parts = three parts >>= λ p. name_of p.0 >>= λ node. prefix_of p.1 >>= λ prefix. number_of p.2 >>= λ rank. Some (record { node = node; prefix = prefix; rank = rank })

in_fields : (line name behind : List ℕ) → IsCut 32 line name behind → row_of line ≡ row_in (name ∷ fields behind)
in_fields line name behind cut = ap row_in (fields-at line name behind cut)

pub no_space : (line : List ℕ) → Others 32 line → row_of line ≡ None
no_space line none = ap row_in (fields-one line none)

nameless : (name : List ℕ) (rest : List (List ℕ)) → name_of name ≡ None → row_in (name ∷ rest) ≡ None
nameless name [] is = refl
nameless name (a ∷ []) is = refl
nameless name (a ∷ b ∷ []) is = ap (λ (o : Option (List ℕ)). o >>= λ node. prefix_of a >>= λ prefix. number_of b >>= λ rank. Some (record { node = node; prefix = prefix; rank = rank })) is
nameless name (a ∷ b ∷ c ∷ rest) is = refl

pub no_name : (line name behind : List ℕ) → IsCut 32 line name behind → name_of name ≡ None → row_of line ≡ None
no_name line name behind cut is = in_fields line name behind cut ∙ nameless name (fields behind) is

-- a prefix, and the fields behind it
abbrev and_fields : List (List ℕ) → List ℕ → Option (List ℕ × List (List ℕ))
and_fields rest prefix = Some (prefix, rest)

step_none : (o : Option (List ℕ)) (rest : List (List ℕ)) → (o >>= and_fields rest) ≡ None → o ≡ None
step_none None rest is = refl
step_none (Some p) rest is = absurd cc

-- no row
abbrev no_row : List ℕ → Option Rank
no_row node = None

none_behind : (o : Option (List ℕ)) → (o >>= no_row) ≡ None
none_behind None = refl
none_behind (Some node) = refl

prefixless : (name : List ℕ) (rest : List (List ℕ)) → prefix_field rest ≡ None → row_in (name ∷ rest) ≡ None
prefixless name [] is = refl
prefixless name (a ∷ []) is = refl
prefixless name (a ∷ b ∷ []) is =
    ap (λ (o : Option (List ℕ)). name_of name >>= λ node. o >>= λ prefix. number_of b >>= λ rank. Some (record { node = node; prefix = prefix; rank = rank })) (step_none (prefix_of a) (b ∷ []) is)
    ∙ none_behind (name_of name)
prefixless name (a ∷ b ∷ c ∷ rest) is = refl

pub no_prefix : (line name behind : List ℕ) → IsCut 32 line name behind → prefix_field (fields behind) ≡ None → row_of line ≡ None
no_prefix line name behind cut is = in_fields line name behind cut ∙ prefixless name (fields behind) is

-- ---- the rank, which is the last field

or_true : (b : Bool) (n : ℕ) → cond (b || true) None (cond (nat_lt 65535 n) None (Some n)) ≡ None
or_true true n = refl
or_true false n = refl

-- digits are one field, and nothing else is a rank
number_spaced : (text a b : List ℕ) (rest : List (List ℕ)) → fields text ≡ a ∷ b ∷ rest → number_of text ≡ None
number_spaced text a b rest is = elim (cases_Bool (list_all is_ascii_digit text)) [
  | inl digits ↦ let one = fields-one text (others_from is_ascii_digit 32 refl text digits) in absurd cc
  | inr other ↦ rw other (or_true (length text == 0 || nat_lt 5 (length text)) _)
]

one_by : (b : ℕ) (bs x : List ℕ) (t : Bool) (rest : List (List ℕ)) → 0 < length rest → ((y : List ℕ) → rest ≡ y ∷ [] → y ≡ bs) → cond t ([] ∷ rest) (onto_first b rest) ≡ x ∷ [] → x ≡ b ∷ bs
one_by b bs x true [] some one is = absurd (omega arith)
one_by b bs x true (f ∷ rest) some one is = absurd cc
one_by b bs x false [] some one is = absurd (omega arith)
one_by b bs x false (f ∷ []) some one is = let same : f ≡ bs = one f refl in cc
one_by b bs x false (f ∷ g ∷ rest) some one is = absurd cc

-- a lone field is the whole text
one_field : (text x : List ℕ) → fields text ≡ x ∷ [] → x ≡ text
one_field [] x is = cc
one_field (b ∷ bs) x is = one_by b bs x (b == 32) (fields bs) (some_fields bs) (one_field bs) is

-- the row of a name and a prefix
abbrev row_with : List ℕ → List ℕ → ℕ → Rank
row_with node prefix rank = record { node = node; prefix = prefix; rank = rank }

map_of : (node prefix : List ℕ) (o : Option ℕ) → (o >>= λ rank. Some (row_with node prefix rank)) ≡ option_map (row_with node prefix) o
map_of node prefix None = refl
map_of node prefix (Some n) = refl

ranked_by : (name node text prefix rank : List ℕ) (ranks : List (List ℕ)) → 0 < length ranks → ((x : List ℕ) → ranks ≡ x ∷ [] → x ≡ rank)
    → ((a b : List ℕ) (rest : List (List ℕ)) → ranks ≡ a ∷ b ∷ rest → number_of rank ≡ None) → name_of name ≡ Some node → prefix_of text ≡ Some prefix
    → row_in (name ∷ text ∷ ranks) ≡ option_map (row_with node prefix) (number_of rank)
ranked_by name node text prefix rank [] some one more n p = absurd (omega arith)
ranked_by name node text prefix rank (x ∷ []) some one more n p =
    ap (λ (o : Option (List ℕ)). o >>= λ node'. prefix_of text >>= λ prefix'. number_of x >>= λ k. Some (row_with node' prefix' k)) n
    ∙ ap (λ (o : Option (List ℕ)). o >>= λ prefix'. number_of x >>= λ k. Some (row_with node prefix' k)) p
    ∙ ap (λ (y : List ℕ). number_of y >>= λ k. Some (row_with node prefix k)) (one x refl)
    ∙ map_of node prefix (number_of rank)
ranked_by name node text prefix rank (a ∷ b ∷ rest) some one more n p = sym (ap (option_map (row_with node prefix)) (more a b rest refl))

step_some : (o : Option (List ℕ)) (rest ranks : List (List ℕ)) (prefix : List ℕ) → (o >>= and_fields rest) ≡ Some (prefix, ranks) → (o ≡ Some prefix) × (rest ≡ ranks)
step_some None rest ranks prefix is = absurd cc
step_some (Some p) rest ranks prefix is =
    let prefixes : Some p ≡ Some prefix = ap (option_map (λ (q : List ℕ × List (List ℕ)). q.0)) is in
    let others : Some rest ≡ Some ranks = ap (option_map (λ (q : List ℕ × List (List ℕ)). q.1)) is in
    (prefixes, cc)

with_fields : (name node prefix rank : List ℕ) (rest : List (List ℕ)) → name_of name ≡ Some node → prefix_field rest ≡ Some (prefix, fields rank) → row_in (name ∷ rest) ≡ option_map (row_with node prefix) (number_of rank)
with_fields name node prefix rank [] n is = absurd cc
with_fields name node prefix rank (a ∷ []) n is = absurd cc
with_fields name node prefix rank (a ∷ b ∷ rest) n is =
    let parts = step_some (prefix_of a) (b ∷ rest) (fields rank) prefix is in
    ap (λ (ranks : List (List ℕ)). row_in (name ∷ a ∷ ranks)) parts.1
    ∙ ranked_by name node a prefix rank (fields rank) (some_fields rank) (one_field rank) (number_spaced rank) n parts.0

pub a_row : (line name node behind prefix rank : List ℕ) → IsCut 32 line name behind → name_of name ≡ Some node → prefix_field (fields behind) ≡ Some (prefix, fields rank)
    → row_of line ≡ option_map (row_with node prefix) (number_of rank)
a_row line name node behind prefix rank cut n is = in_fields line name behind cut ∙ with_fields name node prefix rank (fields behind) n is

-- ---- a line of the prefix of the line before it

letters : (name node : List ℕ) (few all : Bool) → cond (few || not all) None (Some name) ≡ Some node → all ≡ true
letters name node few true h = refl
letters name node true false h = cc
letters name node false false h = cc

-- the line
abbrev line_like : List ℕ → List ℕ → List ℕ → List ℕ
line_like prefix name digits = name ++ 32 ∷ (digits_text prefix ++ 32 ∷ digits)

row_like : (prefix name digits node : List ℕ) (rank : ℕ) → IsPrefix prefix → Others 32 name → name_of name ≡ Some node → number_of digits ≡ Some rank → row_of (line_like prefix name digits) ≡ Some (row_with node prefix rank)
row_like prefix name digits node rank form one_name is number =
    a_row (line_like prefix name digits) name node (digits_text prefix ++ 32 ∷ digits) prefix digits (record { none = one_name; whole = refl }) is
    (prefix_spelled (digits_text prefix ++ 32 ∷ digits) prefix digits form refl)
    ∙ ap (option_map (row_with node prefix)) number

feedless : (prefix name digits node : List ℕ) → IsPrefix prefix → Others 10 digits → name_of name ≡ Some node → Others 10 (line_like prefix name digits)
feedless prefix name digits node form one_line is =
    let P = λ (b : ℕ). (b == 10) ≡ false in
    let passes = letters name node (length name == 0 || nat_lt 8 (length name)) (list_all is_ascii_alphanumeric name) is in
    All-append P name (32 ∷ (digits_text prefix ++ 32 ∷ digits))
    (others_from is_ascii_alphanumeric 10 refl name passes)
    (All-cons P 32 (digits_text prefix ++ 32 ∷ digits) refl
    (All-append P (digits_text prefix) (32 ∷ digits)
    (others_from is_ascii_digit 10 refl (digits_text prefix) (digits_pass prefix form.digits))
    (All-cons P 32 digits refl one_line)))

whole_like : (prefix name digits text behind spelled after rest : List ℕ) → text ≡ name ++ 32 ∷ behind → behind ≡ spelled ++ after → spelled ≡ digits_text prefix ++ 32 ∷ [] → after ≡ digits ++ 10 ∷ rest
    → text ≡ line_like prefix name digits ++ 10 ∷ rest
whole_like prefix name digits text behind spelled after rest is cut same ranked =
    let parts : behind ≡ digits_text prefix ++ 32 ∷ (digits ++ 10 ∷ rest) =
    cut ∙ (ap (λ (xs : List ℕ). xs ++ after) same ∙ (append_assoc (digits_text prefix) (32 ∷ []) after ∙ ap (λ (xs : List ℕ). digits_text prefix ++ 32 ∷ xs) ranked)) in
    let apart : line_like prefix name digits ++ 10 ∷ rest ≡ name ++ 32 ∷ (digits_text prefix ++ 32 ∷ (digits ++ 10 ∷ rest)) =
    append_assoc name (32 ∷ (digits_text prefix ++ 32 ∷ digits)) (10 ∷ rest) ∙ ap (λ (xs : List ℕ). name ++ 32 ∷ xs) (append_assoc (digits_text prefix) (32 ∷ digits) (10 ∷ rest)) in
    is ∙ (ap (λ (xs : List ℕ). name ++ 32 ∷ xs) parts ∙ sym apart)

-- a name, the prefix as it is spelled, and a rank
pub is_like : (text name behind prefix spelled after rest node : List ℕ) (rank : ℕ) → IsCut 32 text name behind → name_of name ≡ Some node → IsSpelled prefix spelled → behind ≡ spelled ++ after → IsRanked after rank rest
    → IsLike text (row_with node prefix rank) rest
is_like text name behind prefix spelled after rest node rank cut is spells goes_on ranked =
    let whole : text ≡ line_like prefix name ranked.digits ++ 10 ∷ rest = whole_like prefix name ranked.digits text behind spelled after rest cut.whole goes_on spells.spelled ranked.whole in
    record {
      line = line_like prefix name ranked.digits;
      first = ap lines whole ∙ lines-at (line_like prefix name ranked.digits) rest (feedless prefix name ranked.digits node spells.form ranked.one_line is);
      row = row_like prefix name ranked.digits node rank spells.form cut.none is ranked.number;
      shorter = omega (arith, ap length whole, length-append (line_like prefix name ranked.digits) (10 ∷ rest));
    }

-- a name that stands in front of a space
pub named : (text name behind : List ℕ) → name_of name ≡ Some name → text ≡ name ++ behind → 0 < length behind → get_or behind 0 0 ≡ 32 → IsNamed text name (drop 1 behind)
named text name [] is whole some at = absurd (omega arith)
named text name (b ∷ rest) is whole some at = record {
  cut = record { none = others_from is_ascii_alphanumeric 32 refl name (name_passes name is); whole = whole ∙ ap (λ (c : ℕ). name ++ c ∷ rest) at };
  is = is;
}

-- a line that is a row isn't the end
not_end : (line : List ℕ) (r : Rank) → row_of line ≡ Some r → (t : Bool) → is_line line (codes "END") ≡ t → t ≡ false
not_end line r some false is = refl
not_end line r some true is =
    let same = same_text line (codes "END") (sym is) in
    let none : row_of line ≡ None = rw same refl in
    cc

rows_like : (done : List Rank) (text rest : List ℕ) (r : Rank) → IsLike text r rest → rows_in done (lines text) ≡ then_rows (new_row done (Some r)) (λ s. rows_in (done ++ s ∷ []) (lines rest))
rows_like done text rest r h =
    ap (rows_in done) h.first
    ∙ rw (not_end h.line r h.row (is_line h.line (codes "END")) refl, h.row) refl

pub one_more : (done new : List Rank) (text rest : List ℕ) (r : Rank) → IsLike text r rest → is_none (rank_of done r.node r.prefix) ≡ true → new ≡ done ++ r ∷ [] → rows_in done (lines text) ≡ rows_in new (lines rest)
one_more done new text rest r h new_pair more =
    rows_like done text rest r h ∙ added (rank_of done r.node r.prefix) new_pair
  where
    added : (o : Option ℕ) → is_none o ≡ true → then_rows (cond (is_some o) (Err (Twice (line_behind done))) (Ok r)) (λ s. rows_in (done ++ s ∷ []) (lines rest)) ≡ rows_in new (lines rest)
    added None is_new = rw more refl
    added (Some k) is_new = absurd cc

pub twice : (done : List Rank) (text rest : List ℕ) (r : Rank) → IsLike text r rest → is_none (rank_of done r.node r.prefix) ≡ false → rows_in done (lines text) ≡ Err (Twice (line_behind done))
twice done text rest r h old_pair =
    rows_like done text rest r h ∙ refused (rank_of done r.node r.prefix) old_pair
  where
    refused : (o : Option ℕ) → is_none o ≡ false → then_rows (cond (is_some o) (Err (Twice (line_behind done))) (Ok r)) (λ s. rows_in (done ++ s ∷ []) (lines rest)) ≡ Err (Twice (line_behind done))
    refused None is_old = absurd cc
    refused (Some k) is_old = refl

-- ---- how a line spells its prefix

digits_back : (text : List ℕ) → list_all is_ascii_digit text ≡ true → digits_text (digits_of text) ≡ text
digits_back [] h = refl
digits_back (b ∷ bs) h =
    let parts = and_parts (is_ascii_digit b) (list_all is_ascii_digit bs) h in
    let byte = digit_at (b ∷ bs) 0 h (omega arith) in
    let back : b - 48 + 48 ≡ b = omega (arith, byte.low) in
    rw (back, digits_back bs parts.1) refl

text_of_digits : (text prefix : List ℕ) → read_digits 1 12 text ≡ Ok prefix → digits_text prefix ≡ text
text_of_digits text prefix is = by (list_all is_ascii_digit text) (nat_lt (length text) 1 || nat_lt 12 (length text)) refl is
  where
    by : (all far : Bool) → list_all is_ascii_digit text ≡ all → cond (not all) (Err NotDigit) (cond far (Err Length) (Ok (digits_of text))) ≡ Ok prefix → digits_text prefix ≡ text
    by false far passes read = absurd cc
    by true true passes read = absurd cc
    by true false passes read = let same : digits_of text ≡ prefix = cc in rw (← same) (digits_back text passes)

pub ok_from : {A E : Type 0} (r : Result A E) (x : A) → result_ok r ≡ Some x → r ≡ Ok x
ok_from (Ok y) x is = let same : y ≡ x = cc in rw same refl
ok_from (Err e) x is = absurd cc

-- the digits that were read as a prefix, and the space behind them
pub spelled_as : (behind text rank prefix : List ℕ) → IsCut 32 behind text rank → read_digits 1 12 text ≡ Ok prefix → IsPrefix prefix → IsSpelled prefix (take (length text + 1) behind)
spelled_as behind text rank prefix cut is form = record {
  form = form;
  spelled =
      let whole : behind ≡ (text ++ 32 ∷ []) ++ rank = cut.whole ∙ sym (append_assoc text (32 ∷ []) rank) in
      let front : take (length text + 1) behind ≡ text ++ 32 ∷ [] = ap (take (length text + 1)) whole ∙ take_at (text ++ 32 ∷ []) rank (length text + 1) (length_push text 32) in
      front ∙ ap (λ (xs : List ℕ). xs ++ 32 ∷ []) (sym (text_of_digits text prefix is));
}
