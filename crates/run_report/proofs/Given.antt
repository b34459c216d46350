-- Answers, one output or entry after another.
use Rattle.std.proofs.Common.{◌≡◌, ℕ, ◌+◌, ◌<◌, ◌≤◌, List, [], ◌∷◌, ◌++◌, length, get_or, take, reverse, Bool, not, refl, sym, ap, ◌∙◌, subst}
use Rattle.std.proofs.lemmas.List.{take_all, take_more, reverse-append}
use Rattle.network_law.specs.Entries.{Entry, Output}
use Rattle.run_report.specs.declared.answered.Answered.{Answered}
use Rattle.run_report.specs.declared.tally.Tally.{Tally}
use Rattle.run_report.specs.Counted.{counted}
use Rattle.run_report.specs.Own.{output_answer, with_answer, answers_onto, answers_given, brings_answer, own_among}
use Rattle.run_report.specs.Tally.{Counts}

-- the outputs of an entry

answers_append : (alone : Bool) (os : List Output) (o : Output) (before : List Answered) → answers_onto alone (os ++ o ∷ []) before ≡ with_answer (output_answer alone o) (answers_onto alone os before)
answers_append alone [] o before = refl
answers_append alone (p ∷ os) o before = answers_append alone os o (with_answer (output_answer alone p) before)

pub answers_more : (alone : Bool) (os : List Output) (i : ℕ) (o : Output) (before : List Answered) → i < length os → o ≡ get_or os i o → with_answer (output_answer alone o) (answers_onto alone (take i os) before) ≡ answers_onto alone (take (i + 1) os) before
answers_more alone os i o before within read =
    sym (ap (λ ps. answers_onto alone ps before) (take_more os i o within) ∙ ap (λ p. answers_onto alone (take i os ++ p ∷ []) before) (sym read) ∙ answers_append alone (take i os) o before)

pub outputs_more : (t : Tally) (alone : Bool) (os : List Output) (i : ℕ) (o : Output) (before : List Answered) → i < length os → o ≡ get_or os i o → Counts t (with_answer (output_answer alone o) (answers_onto alone (take i os) before)) → Counts t (answers_onto alone (take (i + 1) os) before)
outputs_more t alone os i o before within read h = subst (Counts t) (answers_more alone os i o before within read) h

pub outputs_all : (t : Tally) (alone : Bool) (os : List Output) (i : ℕ) (before : List Answered) → length os ≤ i → Counts t (answers_onto alone (take i os) before) → Counts t (answers_onto alone os before)
outputs_all t alone os i before past h = subst (λ ps. Counts t (answers_onto alone ps before)) (take_all i os past) h

-- the entries of a trace

pub entries_more : (t : Tally) (es : List Entry) (k : ℕ) (e : Entry) → k < length es → e ≡ get_or es k e → Counts t (answers_onto (not (brings_answer e.input)) e.outputs (answers_given (reverse (take k es)))) → Counts t (answers_given (reverse (take (k + 1) es)))
entries_more t es k e within read h =
    let one_on : reverse (take (k + 1) es) ≡ e ∷ reverse (take k es) = ap reverse (take_more es k e within ∙ ap (λ d. take k es ++ d ∷ []) (sym read)) ∙ reverse-append (take k es) (e ∷ []) in
    subst (λ ds. Counts t (answers_given ds)) (sym one_on) h

pub entries_all : (t : Tally) (es trace : List Entry) (k : ℕ) → length es ≤ k → reverse es ≡ trace → Counts t (answers_given (reverse (take k es))) → t.own ≡ counted (own_among (answers_given trace))
entries_all t es trace k past is h = h.own ∙ ap (λ ds. counted (own_among (answers_given (reverse ds)))) (take_all k es past) ∙ ap (λ ds. counted (own_among (answers_given ds))) is
