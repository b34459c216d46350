-- Where bytes are cut, their lines and parts are.
use Rattle.std.proofs.Common.{◌≡◌, ℕ, ◌<◌, ◌==◌, List, [], ◌∷◌, Some, None, refl, arith, length}
use Rattle.std.proofs.lemmas.List.Splits.{slice_split_at, slice_split_none, length-slice_split}
use Rattle.card_digits.specs.Cut.{IsCut}
use Rattle.card_digits.proofs.Cuts.{Others}
use Rattle.rank_cert.specs.Reading.{fields, three}

pub fields-at : (bytes front behind : List ℕ) → IsCut 32 bytes front behind → fields bytes ≡ front ∷ fields behind
fields-at bytes front behind cut = rw cut.whole (slice_split_at (λ b. b == 32) front 32 behind cut.none refl)

pub fields-one : (bytes : List ℕ) → Others 32 bytes → fields bytes ≡ bytes ∷ []
fields-one bytes none = slice_split_none (λ b. b == 32) bytes none

more_than_three : (a b c : List ℕ) (rest : List (List ℕ)) → 0 < length rest → three (a ∷ b ∷ c ∷ rest) ≡ None
more_than_three a b c [] h = absurd (omega arith)
more_than_three a b c (d ∷ rest) h = refl

pub three_of_one : (line : List ℕ) → Others 32 line → three (fields line) ≡ None
three_of_one line none = rw (fields-one line none) refl

pub three_of_two : (line a behind : List ℕ) → IsCut 32 line a behind → Others 32 behind → three (fields line) ≡ None
three_of_two line a behind cut none = rw (fields-at line a behind cut, fields-one behind none) refl

pub three_of_three : (line a behind b c : List ℕ) → IsCut 32 line a behind → IsCut 32 behind b c → Others 32 c → three (fields line) ≡ Some (a, b, c)
three_of_three line a behind b c cut next none = rw (fields-at line a behind cut, fields-at behind b c next, fields-one c none) refl

pub three_of_more : (line a behind b last c d : List ℕ) → IsCut 32 line a behind → IsCut 32 behind b last → IsCut 32 last c d → three (fields line) ≡ None
three_of_more line a behind b last c d cut next further =
    rw (fields-at line a behind cut, fields-at behind b last next, fields-at last c d further)
    (more_than_three a b c (fields d) (omega (arith, length-slice_split (λ e. e == 32) d)))
