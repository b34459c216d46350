-- Lines cut at their first space.
use Rattle.std.proofs.Common.{◌≡◌, ℕ, ◌==◌, false, List, [], ◌∷◌, ◌++◌, Option, Some, None, MatchOption, Bor, refl}
use Rattle.std.proofs.lemmas.List.Elements.{All-head, All-tail}
use Rattle.card_digits.specs.Cut.{IsCut}
use Rattle.card_digits.proofs.Cuts.{Others}
use Rattle.replay_script.specs.Words.{word_and_rest}

at_space : (front behind : List ℕ) → Others 32 front → word_and_rest (front ++ 32 ∷ behind) ≡ Some (front, behind)
at_space [] behind none = refl
at_space (b ∷ front) behind none =
    rw (All-head (λ c. (c == 32) ≡ false) b front none, at_space front behind (All-tail (λ c. (c == 32) ≡ false) b front none)) refl

no_space : (text : List ℕ) → Others 32 text → word_and_rest text ≡ None
no_space [] none = refl
no_space (b ∷ text) none =
    rw (All-head (λ c. (c == 32) ≡ false) b text none, no_space text (All-tail (λ c. (c == 32) ≡ false) b text none)) refl

pub cut_is : (text : List ℕ) (r : Option (Bor (List ℕ) × Bor (List ℕ))) → MatchOption r (Others 32 text) (λ p. IsCut 32 text p.0.now p.1.now)
    → MatchOption r (word_and_rest text ≡ None) (λ p. word_and_rest text ≡ Some (p.0.now, p.1.now))
cut_is text None none = no_space text none
cut_is text (Some p) cut = rw cut.whole (at_space p.0.now p.1.now cut.none)
