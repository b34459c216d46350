-- A bare key without dots.
use Rattle.std.proofs.Common.{◌≡◌, ℕ, ◌<◌, Bool, true, false, not, ◌&&◌, ◌||◌, ◌==◌, List, [], ◌∷◌, ◌++◌, length, take, drop, slice_index, get_or-drop, add-zero, Some, refl, sym, ap, ◌∙◌, arith}
use Rattle.std.proofs.lemmas.Bool.Decides.{nat_tests}
use Rattle.std.proofs.lemmas.List.Sums.{prefix_len_passes}
use Rattle.std.proofs.lemmas.List.{take-append-drop}
use Rattle.std.specs.List.{prefix_len, list_all}
use Rattle.toml_parser.proofs.LexicalLemmas.{prefix_len-run}
use Rattle.toml_parser.specs.Lexical.{first, is_bare, is_ws, split_while, skip_ws}
use Rattle.toml_parser.specs.Strings.{starts_string, simple_key, key}
use Rattle.toml_parser.proofs.StringsLemmas.{key_after_turn}
use Rattle.toml_parser.proofs.LexicalLemmas.{skip_ws_none, skip_ws_space}
use Rattle.toml.specs.Parse.{key_equals, header_key}
use Rattle.std.proofs.lemmas.Bool.{and_parts, false≢true, eqb-true, not-true}

no_quote : (c : ℕ) → is_bare c ≡ true → (c == 34 || c == 39) ≡ false
no_quote c bare = grind (arith, nat_tests)

one_part : (text : List ℕ) → 0 < prefix_len is_bare text → simple_key text ≡ Some (split_while is_bare text)
unfolding simple_key
one_part text some =
    let bare : is_bare (first text) ≡ true = prefix_len_passes is_bare text 0 0 some in
    let none : starts_string text ≡ false = no_quote (first text) bare in
    rw (none, bare)

pub bare_word : (text : List ℕ) → 0 < prefix_len is_bare text → (first (skip_ws (split_while is_bare text).1) == 46) ≡ false
    → key text ≡ Some (([], (split_while is_bare text).0), skip_ws (split_while is_bare text).1)
bare_word text some stop = key_after_turn 80 [] text (omega arith) ∙ rw (one_part text some, stop)

-- a word of bytes of keys that stands in front, where the next byte is of no key
pub word_in_front : (text word : List ℕ) → take (length word) text ≡ word → is_bare (slice_index text (length word)) ≡ false → list_all is_bare word ≡ true → prefix_len is_bare text ≡ length word
word_in_front text word is stop bare =
    let rest : List ℕ = drop (length word) text in
    let stops : is_bare (first rest) ≡ false = rw (get_or-drop (length word) text 0 0, add-zero) stop in
    let whole : word ++ rest ≡ text = ap (λ (front : List ℕ). front ++ rest) (sym is) ∙ take-append-drop (length word) text in
    ap (prefix_len is_bare) (sym whole) ∙ prefix_len-run is_bare word rest bare stops

pub bare_in_front : (text word : List ℕ) → 0 < length word → take (length word) text ≡ word → is_bare (slice_index text (length word)) ≡ false → list_all is_bare word ≡ true
    → (first (skip_ws (drop (length word) text)) == 46) ≡ false → key text ≡ Some (([], word), skip_ws (drop (length word) text))
bare_in_front text word some is stop bare dot =
    let len = word_in_front text word is stop bare in
    let read : key text ≡ Some (([], take (length word) text), skip_ws (drop (length word) text)) = rw len at (bare_word text (rw len some) (rw len dot)) in
    rw is at read

-- ` = ` and no white space behind it
abbrev pub begins_equals : List ℕ → Bool
begins_equals text = ((slice_index text 0 == 32 && slice_index text 1 == 61) && slice_index text 2 == 32) && not (is_ws (slice_index text 3))

record IsSpaced (text : List ℕ) : Type 0 where
  whole : text ≡ 32 ∷ 61 ∷ 32 ∷ drop 3 text
  stop : is_ws (first (drop 3 text)) ≡ false

spaced : (text : List ℕ) → begins_equals text ≡ true → IsSpaced text
spaced [] h = absurd (false≢true h)
spaced (a ∷ []) h = absurd (false≢true (sym (no_second a) ∙ h))
  where
    no_second : (a : ℕ) → begins_equals (a ∷ []) ≡ false
    no_second a = grind (arith, nat_tests)
spaced (a ∷ b ∷ []) h = absurd (false≢true (sym (no_third a b) ∙ h))
  where
    no_third : (a b : ℕ) → begins_equals (a ∷ b ∷ []) ≡ false
    no_third a b = grind (arith, nat_tests)
spaced (a ∷ b ∷ c ∷ text) h =
    let (front, stop) = and_parts ((a == 32 && b == 61) && c == 32) (not (is_ws (first text))) h in
    let (both, last) = and_parts (a == 32 && b == 61) (c == 32) front in
    let (one, two) = and_parts (a == 32) (b == 61) both in
    record {
      whole = rw (eqb-true a 32 one, eqb-true b 61 two, eqb-true c 32 last) refl;
      stop = not-true (is_ws (first text)) stop;
    }

pub key_spaced : (text word : List ℕ) → 0 < length word → take (length word) text ≡ word → list_all is_bare word ≡ true → begins_equals (drop (length word) text) ≡ true
    → key_equals text ≡ Some (([], word), drop 3 (drop (length word) text))
unfolding key_equals
key_spaced text word some is bare h =
    let after : List ℕ = drop (length word) text in
    let rest : List ℕ = drop 3 after in
    let shape = spaced after h in
    let skipped : skip_ws after ≡ 61 ∷ 32 ∷ rest = ap skip_ws shape.whole ∙ skip_ws_space (61 ∷ 32 ∷ rest) ∙ skip_ws_none (61 ∷ 32 ∷ rest) refl in
    let at_end : slice_index text (length word) ≡ 32 = sym (rw add-zero at (get_or-drop (length word) text 0 0)) ∙ ap first shape.whole in
    let read = bare_in_front text word some is (rw at_end refl) bare (rw skipped refl) in
    rw (read, skipped, skip_ws_space rest, skip_ws_none rest shape.stop) refl

no_space : (c : ℕ) → is_bare c ≡ true → is_ws c ≡ false
no_space c bare = grind (arith, nat_tests)

bracket : (c : ℕ) → (c == 93) ≡ true → (is_ws c ≡ false) × ((c == 46) ≡ false) × (is_bare c ≡ false)
bracket c is = (grind (arith, nat_tests), grind (arith, nat_tests), grind (arith, nat_tests))

-- a word of bytes of keys and the closing bracket right behind it
pub header_bare : (text word : List ℕ) → 0 < length word → take (length word) text ≡ word → list_all is_bare word ≡ true → (first (drop (length word) text) == 93) ≡ true
    → header_key text ≡ Some (([], word), drop 1 (drop (length word) text))
unfolding header_key
header_bare text word some is bare closes =
    let after : List ℕ = drop (length word) text in
    let end = bracket (first after) closes in
    let at_end : slice_index text (length word) ≡ first after = sym (rw add-zero at (get_or-drop (length word) text 0 0)) in
    let len = word_in_front text word is (rw at_end end.2) bare in
    let begins : skip_ws text ≡ text = skip_ws_none text (no_space (first text) (prefix_len_passes is_bare text 0 0 (rw len some))) in
    let ends : skip_ws after ≡ after = skip_ws_none after end.0 in
    let read = bare_in_front text word some is (rw at_end end.2) bare (rw ends end.1) in
    rw (begins, read, ends, closes) refl
