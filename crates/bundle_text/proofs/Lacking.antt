-- The lines of a text that lacks a byte.
use Rattle.std.proofs.Common.{◌≡◌, ℕ, ◌==◌, Bool, false, List, [], ◌∷◌, refl, inl, inr}
use Rattle.std.specs.List.{AllByRecursion, slice_split, onto_first}
use Rattle.std.proofs.lemmas.Bool.{cases_Bool}
use Rattle.std.proofs.lemmas.List.Elements.{All-nil, All-cons, All-head, All-tail}
use Rattle.card_digits.proofs.Cuts.{Others}
use Rattle.bundle_text.specs.Parts.{between_feeds}

-- no line has a byte of that value
abbrev pub Lack : ℕ → List (List ℕ) → Type 0
Lack c lines = AllByRecursion (Others c) lines

lack_onto : (c b : ℕ) (lines : List (List ℕ)) → (b == c) ≡ false → Lack c lines → Lack c (onto_first b lines)
lack_onto c b [] h l = (All-cons (λ x. (x == c) ≡ false) b [] h (All-nil (λ x. (x == c) ≡ false)), tt)
lack_onto c b (line ∷ lines) h l = (All-cons (λ x. (x == c) ≡ false) b line h l.0, l.1)

pub lines_lack : (c : ℕ) (bytes : List ℕ) → Others c bytes → Lack c (between_feeds bytes)
lines_lack c [] none = (none, tt)
lines_lack c (b ∷ bytes) none =
    let rest = lines_lack c bytes (All-tail (λ x. (x == c) ≡ false) b bytes none) in
    elim (cases_Bool (b == 10)) [
      | inl ends ↦ rw ends (All-nil (λ x. (x == c) ≡ false), rest)
      | inr goes ↦ rw goes (lack_onto c b (between_feeds bytes) (All-head (λ x. (x == c) ≡ false) b bytes none) rest)
    ]

-- a split has a first part
pub record HasFirst {X : Type 0} (parts : List (List X)) : Type 0 where
  pub first : List X
  pub others : List (List X)
  pub is : parts ≡ first ∷ others

onto_first_has : {X : Type 0} (x : X) (parts : List (List X)) → HasFirst (onto_first x parts)
onto_first_has x [] = record { first = x ∷ []; others = []; is = refl }
onto_first_has x (part ∷ parts) = record { first = x ∷ part; others = parts; is = refl }

pub split_has : {X : Type 0} (p : X → Bool) (xs : List X) → HasFirst (slice_split p xs)
split_has p [] = record { first = []; others = []; is = refl }
split_has p (x ∷ xs) = elim (cases_Bool (p x)) [
  | inl does ↦ rw does (record { first = []; others = slice_split p xs; is = refl })
  | inr fails ↦ rw fails (onto_first_has x (slice_split p xs))
]
