-- A text that was written into memory.
use Rattle.std.proofs.Common.{◌≡◌, List, [], ◌++◌, ℕ, Some, sym, ap, subst, ◌∙◌}
use Rattle.bundle_text.specs.Answers.{Said, Wrote}
use Rattle.bundle_text.specs.declared.answer.Status.{Status}

-- what was written where nothing stood is one such answer
pub gathered : (IsOne : Said → Type 0) (old new : List ℕ) (status : Status) → old ≡ [] → Wrote IsOne (Some old) (Some new) status → IsOne (record { text = new; status = status })
gathered IsOne old new status empty w =
    let text : new ≡ w.0.text = w.2 ∙ ap (λ xs. xs ++ w.0.text) empty in
    let with_status : IsOne (record { text = w.0.text; status = status }) = subst (λ (s : Status). IsOne (record { text = w.0.text; status = s })) (sym w.3) w.1 in
    subst (λ (t : List ℕ). IsOne (record { text = t; status = status })) (sym text) with_status
