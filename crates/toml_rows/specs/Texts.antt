-- A line with a key and a list of strings, string by string.
use Rattle.std.specs.Prelude.{◌≡◌, ℕ, ◌<◌, ◌==◌, true, false, List, [], ◌∷◌, map, length, drop, Some}
use Rattle.toml_parser.specs.Lexical.{left_bracket, right_bracket, first, skip_ws, skip_blank}
use Rattle.toml.specs.Data.{Data, string, array}
use Rattle.toml.specs.View.{items_of}
use Rattle.toml.specs.Parse.{key_equals, val, after_element, ends_line}

-- the next line has this key, and a list begins there
pub record IsOpened (word text inside : List ℕ) : Type 0 where
  pub other : (first (skip_blank text) == left_bracket) ≡ false
  pub value : List ℕ
  pub key : key_equals (skip_blank text) ≡ Some (([], word), value)
  pub opens : (first value == left_bracket) ≡ true
  pub goes_on : inside ≡ drop 1 value
  pub within : length value < length (skip_blank text)

-- the next element of a list is this string
pub record IsText (string_text text rest : List ℕ) : Type 0 where
  pub other : (first (skip_blank text) == right_bracket) ≡ false
  pub after : List ℕ
  pub read : (depth : ℕ) → val depth (skip_blank text) ≡ Some (string string_text, after)
  pub goes_on : after_element right_bracket after ≡ Some rest
  pub shorter : length rest < length text

-- a list ends, and its line with it
pub record IsClosed (text rest : List ℕ) : Type 0 where
  pub closes : (first (skip_blank text) == right_bracket) ≡ true
  pub after : rest ≡ drop 1 (skip_blank text)
  pub ends : ends_line (skip_ws rest) ≡ true

-- these strings stand in a list
abbrev pub AreTexts : List (List ℕ) → List ℕ → List ℕ → Type 0
AreTexts [] text rest = text ≡ rest
AreTexts (t ∷ ts) text rest = (next : List ℕ) × IsText t text next × AreTexts ts next rest

-- the list of these strings
abbrev pub texts_data : List (List ℕ) → Data
texts_data texts = array (items_of (map string texts))
