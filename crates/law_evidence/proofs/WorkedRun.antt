-- The worked networks are checked, and the worked run is one.
use Rattle.std.proofs.Common.{◌≡◌, ℕ, zero, suc, ◌≤◌, ◌<◌, List, [], ◌∷◌, Some, None, Bool, true, false, refl, subst, inl, inr, ⊎_elim, arith, eqb, rules}
use Rattle.std.proofs.lemmas.Bool.{eqb-true}
use Rattle.std.specs.Prelude.{⊤, Contains, codes}
use Rattle.std.proofs.lemmas.Option.{same_Some}
use Rattle.card_digits.specs.Longest.{begins}
use Rattle.net_rows.specs.Network.{issuer, day, other_end}
use Rattle.net_rows.specs.declared.row.Issuer.{Issuer}
use Rattle.network_law.specs.Tables.{route_links}
use Rattle.network_law.specs.Traces.{IsIn}
use Rattle.network_law.specs.Decision.{decide}
use Rattle.network_law.specs.Refusals.{refusal}
use Rattle.network_law.specs.Entries.{Input, Take, Put, Entry, read_history, spelled, spelled_input, spelled_trace}
use Rattle.network_law.specs.Checked.{IsChecked, IsRanked, IsBounded, Falls, sum_below}
use Rattle.network_law.specs.Runs.{IsLegal, IsRun}
use Rattle.law_evidence.specs.Worked.{base, limited, diamond, lenders, reversed_run, lent_run, base_ranks, lender_ranks, card_number}
use Rattle.network_law.proofs.ReadRuns.{IsLegalRead}
use Rattle.network_law.proofs.Packets.{within_is}
use Rattle.law_evidence.proofs.Spelled.{legal_spelled}

pub base_checked : IsChecked base
base_checked = search rules

pub limited_checked : IsChecked limited
limited_checked = search rules

pub diamond_checked : IsChecked diamond
diamond_checked = search rules

pub lenders_checked : IsChecked lenders
lenders_checked = search rules

pub base_ranked : IsRanked base base_ranks
unfolding route_links
base_ranked c s zero l is less away on = go (begins (4 ∷ []) c) refl on
  where
    go : (b : Bool) → begins (4 ∷ []) c ≡ b → IsIn l (route_links base 0 c) → Falls (base_ranks (other_end base 0 l) c) (Some 1)
    go false at on = absurd (rw at at on)
    go true at on =
        let l0 : 0 ≡ l = ⊎_elim (λ e. e) (λ bad. absurd bad) (rw at at on) in
        subst (λ k. Falls (base_ranks (other_end base 0 k) c) (Some 1)) l0 (record { from = 1; to = 0; is_from = refl; is_to = refl; less = omega arith; bound = omega arith })
base_ranked c s (suc n) l is less away on = go (eqb 0 (suc n)) refl on
  where
    go : (b : Bool) → eqb 0 (suc n) ≡ b → IsIn l (route_links base (suc n) c) → Falls (base_ranks (other_end base (suc n) l) c) (Some 0)
    go true at on = let same : 0 ≡ suc n = eqb-true 0 (suc n) at in absurd (omega (arith, same))
    go false at on = absurd (rw at at on)

pub lenders_ranked : IsRanked lenders lender_ranks
unfolding route_links
lenders_ranked c s zero l is less away on = go (begins (4 ∷ []) c) refl on
  where
    go : (b : Bool) → begins (4 ∷ []) c ≡ b → IsIn l (route_links lenders 0 c) → Falls (lender_ranks (other_end lenders 0 l) c) (Some 1)
    go false at on = absurd (rw at at on)
    go true at on =
        let l1 : 1 ≡ l = ⊎_elim (λ e. e) (λ bad. absurd bad) (rw at at on) in
        subst (λ k. Falls (lender_ranks (other_end lenders 0 k) c) (Some 1)) l1 (record { from = 1; to = 0; is_from = refl; is_to = refl; less = omega arith; bound = omega arith })
lenders_ranked c s (suc zero) l is less away on = go (begins (4 ∷ []) c) refl on
  where
    go : (b : Bool) → begins (4 ∷ []) c ≡ b → IsIn l (route_links lenders 1 c) → Falls (lender_ranks (other_end lenders 1 l) c) (Some 1)
    go false at on = absurd (rw at at on)
    go true at on =
        let l2 : 2 ≡ l = ⊎_elim (λ e. e) (λ bad. absurd bad) (rw at at on) in
        subst (λ k. Falls (lender_ranks (other_end lenders 1 k) c) (Some 1)) l2 (record { from = 1; to = 0; is_from = refl; is_to = refl; less = omega arith; bound = omega arith })
lenders_ranked c s (suc (suc zero)) l is less away on = absurd on
lenders_ranked c s (suc (suc (suc n))) l is less away on = absurd (omega (arith, less))

lenders_issuer : Issuer
lenders_issuer = record { name = codes "I"; prefix = 4 ∷ []; home = 2; named = 0 ∷ 1 ∷ []; ceiling = 500 }

-- a card has this issuer or none
lenders_issued : (c : List ℕ) (s : Issuer) → issuer lenders c ≡ Some s → (begins (4 ∷ []) c ≡ true) × (lenders_issuer ≡ s)
unfolding lenders_issuer
lenders_issued c s is = go (begins (4 ∷ []) c) refl
  where
    go : (b : Bool) → begins (4 ∷ []) c ≡ b → (begins (4 ∷ []) c ≡ true) × (lenders_issuer ≡ s)
    go true at = (at, same_Some _ _ (rw at at is))
    go false at = absurd (no (rw at at is))
      where
        no : None ≡ Some s → ⊥
        no p = cc

lenders_named : (c : List ℕ) (s : Issuer) (n : ℕ) → issuer lenders c ≡ Some s → n < 3 → 0 < day lenders n c → Contains s.named n
unfolding lenders_issuer
lenders_named c s zero is less some = subst (λ (z : Issuer). Contains z.named 0) (lenders_issued c s is).1 (0, omega arith, refl)
lenders_named c s (suc zero) is less some = subst (λ (z : Issuer). Contains z.named 1) (lenders_issued c s is).1 (1, omega arith, refl)
lenders_named c s (suc (suc zero)) is less some = absurd (omega (arith, some))
lenders_named c s (suc (suc (suc n))) is less some = absurd (omega (arith, less))

lenders_within : (c : List ℕ) (s : Issuer) → issuer lenders c ≡ Some s → sum_below (λ n. day lenders n c) 3 ≤ s.ceiling
unfolding lenders_issuer
lenders_within c s is =
    let i = lenders_issued c s is in
    subst (λ (z : Issuer). sum_below (λ n. day lenders n c) 3 ≤ z.ceiling) i.1 (rw i.0 (omega arith))

pub lenders_bounded : IsBounded lenders
lenders_bounded = record { named = lenders_named; within = lenders_within }

not_request : {A : Type 0} → false ≡ true → A
not_request p = cc

legal_a : IsLegalRead base 0 (reversed_run 0)
unfolding read_history decide refusal
legal_a = (
  (
    (
      (
        (omega arith, record { own = omega arith; formed = λ _. record { trace = refl; time = refl; acquirer = omega arith }; accepted = refl; outputs = refl }),
        record { own = omega arith; formed = omega arith; accepted = refl; outputs = refl },
      ),
      record { own = omega arith; formed = omega arith; accepted = refl; outputs = refl },
    ),
    record { own = omega arith; formed = omega arith; accepted = refl; outputs = refl },
  ),
  record { own = refl; formed = λ r. not_request r; accepted = refl; outputs = refl },
)

legal_h : IsLegalRead base 1 (reversed_run 1)
unfolding read_history decide refusal
legal_h = (omega arith, record { own = refl; formed = λ r. not_request r; accepted = refl; outputs = refl })

legal_each : (n : ℕ) → n < 2 → IsLegal base n (spelled_trace (reversed_run n))
unfolding spelled_input Rattle.law_evidence.proofs.Spelled.trace_good
legal_each zero less = legal_spelled base 0 (reversed_run 0) refl (tt, (tt, (tt, (tt, (tt, tt))))) (omega arith) legal_a
legal_each (suc zero) less = legal_spelled base 1 (reversed_run 1) refl (tt, tt) (omega arith) legal_h
legal_each (suc (suc n)) less = absurd (omega (arith, less))

none : (n : ℕ) → 2 ≤ n → spelled_trace (reversed_run n) ≡ []
unfolding spelled_trace
none zero le = absurd (omega (arith, le))
none (suc zero) le = absurd (omega (arith, le))
none (suc (suc n)) le = refl

-- a take has its put
abbrev HasPut : ℕ → Input → Type 0
HasPut n (Take l s bytes) = (f : Entry) × IsIn f (spelled_trace (reversed_run (other_end base n l))) × IsIn (Put l s bytes) f.outputs
HasPut n _ = ⊤

put_of : (n : ℕ) (e : Entry) → IsIn e (spelled_trace (reversed_run n)) → HasPut n e.input
unfolding spelled_trace spelled spelled_input
put_of zero e has = ⊎_elim (λ p. at p (_, inl refl, inl refl)) (λ has. ⊎_elim (λ p. at p tt) (λ has. ⊎_elim (λ p. at p tt) (λ has. ⊎_elim (λ p. at p tt) (λ has. ⊎_elim (λ p. at p tt) (λ bad. absurd bad) has) has) has) has) has
  where
    at : {x : Entry} → x ≡ e → HasPut 0 x.input → HasPut 0 e.input
    at p h = subst (λ (z : Entry). HasPut 0 z.input) p h
put_of (suc zero) e has = ⊎_elim (λ p. subst (λ (z : Entry). HasPut 1 z.input) p (_, inr (inl refl), inl refl)) (λ bad. absurd bad) has
put_of (suc (suc n)) e has = absurd has

pub base_run : IsRun base (λ n. spelled_trace (reversed_run n))
base_run = record { legal = legal_each; no_others = none; linked = λ n l s bytes e has is. subst (HasPut n) is (put_of n e has) }

-- the run with a grant

lent_a : IsLegalRead lenders 0 (lent_run 0)
unfolding read_history decide refusal
lent_a = (
  (omega arith, record { own = omega arith; formed = omega arith; accepted = refl; outputs = refl }),
  record { own = refl; formed = omega arith; accepted = refl; outputs = refl },
)

lent_b : IsLegalRead lenders 1 (lent_run 1)
unfolding read_history decide refusal
lent_b = (
  (omega arith, record { own = refl; formed = omega arith; accepted = refl; outputs = refl }),
  record { own = refl; formed = omega arith; accepted = refl; outputs = refl },
)

lent_each : (n : ℕ) → n < 3 → IsLegal lenders n (spelled_trace (lent_run n))
unfolding spelled_input Rattle.law_evidence.proofs.Spelled.trace_good
lent_each zero less = legal_spelled lenders 0 (lent_run 0) refl (tt, ((within_is 8 19 card_number refl, within_is 4 4 (0 ∷ 3 ∷ 1 ∷ 4 ∷ []) refl, omega arith), tt)) (omega arith) lent_a
lent_each (suc zero) less = legal_spelled lenders 1 (lent_run 1) refl (tt, (tt, tt)) (omega arith) lent_b
lent_each (suc (suc n)) less = legal_spelled lenders (suc (suc n)) [] refl tt (omega arith) (omega arith)

lent_none : (n : ℕ) → 3 ≤ n → spelled_trace (lent_run n) ≡ []
unfolding spelled_trace
lent_none zero le = absurd (omega (arith, le))
lent_none (suc zero) le = absurd (omega (arith, le))
lent_none (suc (suc n)) le = refl

abbrev LentPut : ℕ → Input → Type 0
LentPut n (Take l s bytes) = (f : Entry) × IsIn f (spelled_trace (lent_run (other_end lenders n l))) × IsIn (Put l s bytes) f.outputs
LentPut n _ = ⊤

lent_put : (n : ℕ) (e : Entry) → IsIn e (spelled_trace (lent_run n)) → LentPut n e.input
unfolding spelled_trace spelled spelled_input
lent_put zero e has = ⊎_elim (λ p. at p (_, inr (inl refl), inl refl)) (λ has. ⊎_elim (λ p. at p tt) (λ bad. absurd bad) has) has
  where
    at : {x : Entry} → x ≡ e → LentPut 0 x.input → LentPut 0 e.input
    at p h = subst (λ (z : Entry). LentPut 0 z.input) p h
lent_put (suc zero) e has = ⊎_elim (λ p. at p (_, inr (inl refl), inl refl)) (λ has. ⊎_elim (λ p. at p (_, inr (inl refl), inl refl)) (λ bad. absurd bad) has) has
  where
    at : {x : Entry} → x ≡ e → LentPut 1 x.input → LentPut 1 e.input
    at p h = subst (λ (z : Entry). LentPut 1 z.input) p h
lent_put (suc (suc n)) e has = absurd has

pub lent_is_run : IsRun lenders (λ n. spelled_trace (lent_run n))
lent_is_run = record { legal = lent_each; no_others = lent_none; linked = λ n l s bytes e has is. subst (LentPut n) is (lent_put n e has) }
