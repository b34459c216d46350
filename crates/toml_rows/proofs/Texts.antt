-- A list of strings, read string by string, is the value of its line.
use Rattle.std.proofs.Common.{◌≡◌, eqb-true, ℕ, ◌-◌, ◌<◌, ◌≤◌, ◌==◌, true, false, List, [], ◌∷◌, ◌++◌, map, length, drop, length-drop, Some, refl, ap, ◌∙◌, arith, append_assoc}
use Rattle.std.proofs.lemmas.Bool.{false≢true}
use Rattle.std.proofs.lemmas.Bool.Decides.{nat_tests}
use Rattle.std.proofs.lemmas.List.{append-nil}
use Rattle.toml_parser.specs.Lexical.{first, skip_blank}
use Rattle.toml_parser.specs.Strings.{quoted}
use Rattle.toml.specs.Data.{string, no_items, item, push_item}
use Rattle.toml.specs.View.{items_of}
use Rattle.toml.specs.Parse.{atom, val, items, line, expression}
use Rattle.toml.proofs.Blanks.{skip_within}
use Rattle.toml.proofs.Turns.{items_end, items_more, val_atom, val_open_array}
use Rattle.toml_rows.specs.Rows.{IsLine, pair_line}
use Rattle.toml_rows.specs.Texts.{IsOpened, IsText, IsClosed, AreTexts, texts_data}

-- a string at its quote, as a value
pub text_value : (depth : ℕ) (s text rest : List ℕ) → (first s == 34) ≡ true → quoted s ≡ Some (text, rest) → val depth s ≡ Some (string text, rest)
unfolding atom
text_value depth [] text rest begins read = absurd (false≢true begins)
text_value depth (c ∷ cs) text rest begins read =
    let quote : c ≡ 34 = eqb-true c 34 begins in
    let a : (c == 91) ≡ false = grind (arith, nat_tests) in
    let b : (c == 123) ≡ false = grind (arith, nat_tests) in
    val_atom depth (c ∷ cs) a b ∙ rw (begins, read) refl

-- a string more in a list
pub texts_more : (ts : List (List ℕ)) (t text next rest : List ℕ) → AreTexts ts text next → IsText t next rest → AreTexts (ts ++ t ∷ []) text rest
texts_more [] t text next rest are is = (rest, rw (← are) at is, refl)
texts_more (s ∷ ts) t text next rest are is =
    let (after, here, below) = are in
    (after, here, texts_more ts t after next rest below is)

pub within : (ts : List (List ℕ)) (text rest : List ℕ) → AreTexts ts text rest → length rest ≤ length text
within [] text rest are = rw are (omega arith)
within (t ∷ ts) text rest are =
    let (next, here, below) = are in
    omega (arith, here.shorter, within ts next rest below)

pushed : (done : List (List ℕ)) (t : List ℕ) → push_item (items_of (map string done)) (string t) ≡ items_of (map string (done ++ t ∷ []))
pushed [] t = refl
pushed (d ∷ done) t = ap (item (string d)) (pushed done t)

items_read : (ts done : List (List ℕ)) (depth n : ℕ) (text next rest : List ℕ) → length text < n → AreTexts ts text next → IsClosed next rest
    → items (val depth) n (items_of (map string done)) text ≡ Some (items_of (map string (done ++ ts)), rest)
items_read [] done depth n text next rest room are is =
    rw are (items_end (val depth) n _ next (omega (arith, ap length are)) is.closes ∙ rw (← is.after, append-nil done))
items_read (t ∷ ts) done depth n text next rest room are is =
    let (after, here, below) = are in
    let more = items_read ts (done ++ t ∷ []) depth (n - 1) after next rest (omega (arith, here.shorter)) below is in
    items_more (val depth) n _ text (string t) here.after after (omega arith) here.other (here.read depth) here.goes_on ∙ rw (pushed done t) (more ∙ rw (append_assoc done (t ∷ []) ts))

opens_some : (value : List ℕ) → (first value == 91) ≡ true → 0 < length value
opens_some [] opens = absurd (false≢true opens)
opens_some (c ∷ cs) opens = omega arith

inside_less : (value inside : List ℕ) → (first value == 91) ≡ true → inside ≡ drop 1 value → length inside < length value
inside_less value inside opens is = rw is (omega (arith, length-drop 1 value, opens_some value opens))

not_over : (n : ℕ) (text : List ℕ) → n < length text → (length text == 0) ≡ false
not_over n [] h = absurd (omega arith)
not_over n (c ∷ cs) h = grind (arith, nat_tests)

-- the line of a key and these strings
pub texts_line : (word : List ℕ) (ts : List (List ℕ)) (text inside next rest : List ℕ) → IsOpened word text inside → AreTexts ts inside next → IsClosed next rest → IsLine (pair_line (word, texts_data ts)) text rest
unfolding line expression
texts_line word ts text inside next rest opened are closed =
    let value = opened.value in
    let less = inside_less value inside opened.opens opened.goes_on in
    let all : items (val 79) (length value) no_items inside ≡ Some (items_of (map string ts), rest) = items_read ts [] 79 (length value) inside next rest less are closed in
    let read : val 80 value ≡ Some (texts_data ts, rest) = val_open_array 80 value (omega arith) opened.opens ∙ rw (← opened.goes_on, all) refl in
    record {
      some = not_over (length value) (skip_blank text) opened.within;
      read = rw (opened.other, opened.key, read, closed.ends) refl;
      shorter = rw closed.after (omega (arith, length-drop 1 (skip_blank next), skip_within next, within ts inside next are, less, opened.within, skip_within text));
    }
