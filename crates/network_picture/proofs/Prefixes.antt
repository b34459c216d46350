-- The longest of classes, one class after the other.
use Rattle.std.proofs.Common.{◌≡◌, ◌∙◌, ℕ, ◌<◌, ◌+◌, cond, List, take, get_or, length, Option, sym, ap}
use Rattle.std.proofs.lemmas.List.{take_more}
use Rattle.card_digits.specs.Longest.{begins, kept, longest}
use Rattle.card_digits.proofs.Deepest.{longest-push}

-- the longest so far stays or is the new one
pub class_step : (classes : List (List ℕ)) (i : ℕ) (x digits : List ℕ) (old new : Option (List ℕ)) → i < length classes → x ≡ get_or classes i x → old ≡ longest (λ p. p) (take i classes) digits
    → new ≡ cond (begins x digits) (kept (λ p. p) old x) old → new ≡ longest (λ p. p) (take (i + 1) classes) digits
class_step classes i x digits old new lt is so_far now =
    let more : longest (λ p. p) (take (i + 1) classes) digits ≡ cond (begins x digits) (kept (λ p. p) (longest (λ p. p) (take i classes) digits) x) (longest (λ p. p) (take i classes) digits) = rw (take_more classes i x, ← is) (longest-push (λ p. p) (take i classes) x digits) in
    now ∙ ap (λ (o : Option (List ℕ)). cond (begins x digits) (kept (λ p. p) o x) o) so_far ∙ sym more
