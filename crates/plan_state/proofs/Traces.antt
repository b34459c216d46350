-- Where a trace goes on from a cursor.
use Rattle.std.proofs.Common.{◌≡◌, ℕ, suc, ◌+◌, ◌<◌, List, [], ◌∷◌, ◌++◌, length, get_or, drop, filter_map, Option, refl, sym, ap, ◌∙◌, add-one, inl, inr}
use Rattle.std.specs.List.{flat_map}
use Rattle.std.proofs.Math.Seq.{drop-cons}
use Rattle.std.proofs.lemmas.Bool.{cases_lt, lt-ltb, le-ltb}
use Rattle.std.proofs.lemmas.List.{drop_all, get_or_default}
use Rattle.std.proofs.lemmas.List.Elements.{filter_map-append}
use Rattle.network_law.specs.Entries.{Entry, Output}
use Rattle.plan_state.specs.declared.trace_search.Cursor.{Cursor}
use Rattle.plan_state.specs.Found.{behind, found_from, outputs_after}

-- what is looked for in the entries behind one
abbrev pub later : {X : Type 0} → (Output → Option X) → List Entry → ℕ → List X
later looked trace k = filter_map looked (flat_map (λ x. x.outputs) (drop (suc k) trace))

found_here : {X : Type 0} (looked : Output → Option X) (trace : List Entry) (k j : ℕ) (d : Entry) → k < length trace → found_from looked trace (record { entry = k; output = j }) ≡ filter_map looked (drop j (get_or trace k d).outputs) ++ later looked trace k
found_here looked trace k j d h =
    ap (λ es. filter_map looked (outputs_after j es)) (drop-cons trace k d h)
    ∙ filter_map-append looked (drop j (get_or trace k d).outputs) (flat_map (λ x. x.outputs) (drop (suc k) trace))

all_outputs : (es : List Entry) → outputs_after 0 es ≡ flat_map (λ x. x.outputs) es
all_outputs [] = refl
all_outputs (e ∷ es) = refl

found_past : {X : Type 0} (looked : Output → Option X) (trace : List Entry) (k : ℕ) → found_from looked trace (record { entry = k + 1; output = 0 }) ≡ later looked trace k
found_past looked trace k = ap (λ i. found_from looked trace (record { entry = i; output = 0 })) (add-one k) ∙ ap (filter_map looked) (all_outputs (drop (suc k) trace))

found_behind : {X : Type 0} (looked : Output → Option X) (trace : List Entry) (k j : ℕ) (d : Entry) → k < length trace → found_from looked trace (behind k j (length (get_or trace k d).outputs)) ≡ filter_map looked (drop (j + 1) (get_or trace k d).outputs) ++ later looked trace k
found_behind looked trace k j d h =
    let outputs = (get_or trace k d).outputs in
    elim (cases_lt (j + 1) (length outputs)) [
      | inl more ↦ rw (lt-ltb (j + 1) (length outputs) more) (found_here looked trace k (j + 1) d h)
      | inr last ↦ rw (le-ltb (j + 1) (length outputs) last, drop_all (j + 1) outputs last) (found_past looked trace k)
    ]

-- the same where the cursor has come to an entry with these outputs
found_at : {X : Type 0} (looked : Output → Option X) (trace : List Entry) (c : Cursor) (k : ℕ) (e : Entry) (outs : List Output) → k < length trace → c.entry ≡ k → e ≡ get_or trace k e → outs ≡ e.outputs → found_from looked trace c ≡ filter_map looked (drop c.output outs) ++ later looked trace k
found_at looked trace c k e outs within at is same =
    ap (λ i. found_from looked trace (record { entry = i; output = c.output })) at
    ∙ found_here looked trace k c.output e within
    ∙ ap (λ os. filter_map looked (drop c.output os) ++ later looked trace k) (sym (same ∙ ap (λ x. x.outputs) is))

found_next : {X : Type 0} (looked : Output → Option X) (trace : List Entry) (new : Cursor) (k place count : ℕ) (e : Entry) (outs : List Output) → k < length trace → e ≡ get_or trace k e → outs ≡ e.outputs → count ≡ length outs → new ≡ behind k place count → found_from looked trace new ≡ filter_map looked (drop (place + 1) outs) ++ later looked trace k
found_next looked trace new k place count e outs within is same counted next =
    let all : outs ≡ (get_or trace k e).outputs = same ∙ ap (λ x. x.outputs) is in
    ap (found_from looked trace) (next ∙ ap (behind k place) (counted ∙ ap length all)) ∙ found_behind looked trace k place e within ∙ ap (λ os. filter_map looked (drop (place + 1) os) ++ later looked trace k) (sym all)

-- an entry that is read twice has as many outputs both times
pub one_entry : (trace : List Entry) (k : ℕ) (e f : Entry) (outs others : List Output) → k < length trace → e ≡ get_or trace k e → f ≡ get_or trace k f → outs ≡ e.outputs → others ≡ f.outputs → length others ≡ length outs
one_entry trace k e f outs others within is is_f same same_f =
    let one : f ≡ e = is_f ∙ get_or_default trace k f e within ∙ sym is in
    ap length (same_f ∙ ap (λ x. x.outputs) one ∙ sym same)

-- what is found is the first among the outputs that are left of the entry that the cursor has come to
pub next_found : {X : Type 0} (looked : Output → Option X) (trace : List Entry) (c start new : Cursor) (k place count : ℕ) (x : X) (e : Entry) (outs : List Output) → k < length trace → c.entry ≡ k → found_from looked trace c ≡ found_from looked trace start → e ≡ get_or trace k e → outs ≡ e.outputs → filter_map looked (drop c.output outs) ≡ x ∷ filter_map looked (drop (place + 1) outs) → count ≡ length outs → new ≡ behind k place count → found_from looked trace start ≡ x ∷ found_from looked trace new
next_found looked trace c start new k place count x e outs within at before is same found counted next =
    sym before ∙ found_at looked trace c k e outs within at is same ∙ ap (λ xs. xs ++ later looked trace k) found
    ∙ ap (λ xs. x ∷ xs) (sym (found_next looked trace new k place count e outs within is same counted next))

-- there is none among the outputs that are left of that entry
pub none_found : {X : Type 0} (looked : Output → Option X) (trace : List Entry) (c start : Cursor) (k : ℕ) (e : Entry) (outs : List Output) → k < length trace → c.entry ≡ k → found_from looked trace c ≡ found_from looked trace start → e ≡ get_or trace k e → outs ≡ e.outputs → filter_map looked (drop c.output outs) ≡ [] → found_from looked trace (record { entry = k + 1; output = 0 }) ≡ found_from looked trace start
none_found looked trace c start k e outs within at before is same none =
    found_past looked trace k ∙ sym (sym before ∙ found_at looked trace c k e outs within at is same ∙ ap (λ xs. xs ++ later looked trace k) none)
