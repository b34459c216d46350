-- Which elements of a message were taken.
use Rattle.std.specs.Prelude.{◌≡◌, ℕ, ◌-◌, ◌<◌, ◌≤◌, ◌^◌, Bool, true, List, [], ◌∷◌, ◌++◌, map}
use Rattle.message_elements.specs.declared.kind.Kind.{Kind}
use Rattle.iso_message.specs.Fields.{Fields}
use Rattle.iso_message.specs.Finding.{put}
use Rattle.iso_message.specs.Made.{kept, response_numbers}
use Rattle.iso_message.specs.Messages.{marks}
use Rattle.iso_message.specs.Spelling.{AreGood, IsMessage, bits, high_numbers, numbers_of, pieces}

abbrev pub Elements : Type 0
Elements = List (ℕ × List ℕ)

-- the numbers of elements
abbrev pub numbers : Elements → List ℕ
numbers es = map (λ e. e.0) es

-- the elements of the response to a message of these elements, with this code
abbrev pub answered : List ℕ → Elements → Elements
answered code es = put 39 code (kept response_numbers es)

-- P of all elements that have these bits in the first map and these bytes as their pieces
abbrev pub ForElements : ℕ → List ℕ → (Elements → Type 0) → Type 0
ForElements first body P = (es : Elements) → AreGood es → numbers es ≡ marks 64 64 first → body ≡ pieces es → P es

-- P of all messages of this type with no element above 64 that have these bits in the first map and these bytes as their pieces
abbrev pub ForMessage : Kind → ℕ → List ℕ → (Fields → Type 0) → Type 0
ForMessage kind first body P = (m : Fields) → IsMessage m → high_numbers (numbers_of m) ≡ [] → kind ≡ m.kind → first ≡ bits 64 (numbers_of m) → body ≡ pieces m.elements → P m

-- all of a text was written behind the old bytes
abbrev pub WroteAll : List ℕ → List ℕ → List ℕ → Bool → Type 0
WroteAll old new text all = (all ≡ true) × (new ≡ old ++ text)

-- no number is above this one
abbrev pub AreUpTo : ℕ → Elements → Type 0
AreUpTo n [] = Unit {0}
AreUpTo n (e ∷ es) = (e.0 ≤ n) × AreUpTo n es

-- of these elements those up to a number were taken, of which the pieces that a response carries were added to the old bytes; the bits and
-- the bytes are those of the others
pub record IsTaken (up_to : ℕ) (es : Elements) (left : ℕ) (rest old new : List ℕ) : Type 0 where
  pub taken : Elements
  pub later : Elements
  pub whole : es ≡ taken ++ later
  pub below : AreUpTo up_to taken
  pub few : left < 2 ^ (64 - up_to)
  pub numbers : map (λ e. e.0) later ≡ marks 64 64 left
  pub good : AreGood later
  pub bytes : rest ≡ pieces later
  pub pushed : new ≡ old ++ pieces (kept response_numbers taken)
