-- A run of two hops.
use Rattle.std.proofs.Common.{◌≡◌, ℕ, zero, suc, ◌≤◌, ◌<◌, List, [], ◌∷◌, Some, None, Bool, true, false, refl, subst, inl, inr, ⊎_elim, arith}
use Rattle.std.proofs.lemmas.Option.{same_Some}
use Rattle.std.specs.Prelude.{⊤, Contains, codes}
use Rattle.card_digits.specs.Longest.{begins}
use Rattle.net_rows.specs.Network.{issuer, day, other_end}
use Rattle.net_rows.specs.declared.row.Issuer.{Issuer}
use Rattle.network_law.specs.Tables.{route_links}
use Rattle.network_law.specs.Traces.{IsIn}
use Rattle.network_law.specs.Decision.{decide}
use Rattle.network_law.specs.Refusals.{refusal}
use Rattle.network_law.specs.Entries.{Input, Take, Put, Entry, read_history, spelled, spelled_input, spelled_trace}
use Rattle.network_law.specs.Checked.{IsRanked, IsBounded, Falls, sum_below}
use Rattle.network_law.specs.Runs.{IsLegal, IsRun}
use Rattle.law_evidence.specs.Worked.{two_hops, hop_ranks, hops_run}
use Rattle.network_law.proofs.ReadRuns.{IsLegalRead}
use Rattle.law_evidence.proofs.Spelled.{legal_spelled}

pub hops_ranked : IsRanked two_hops hop_ranks
unfolding route_links
hops_ranked c s zero l is less away on = go (begins (4 ∷ []) c) refl on
  where
    go : (b : Bool) → begins (4 ∷ []) c ≡ b → IsIn l (route_links two_hops 0 c) → Falls (hop_ranks (other_end two_hops 0 l) c) (Some 2)
    go false at on = absurd (rw at at on)
    go true at on =
        let l0 : 0 ≡ l = ⊎_elim (λ e. e) (λ bad. absurd bad) (rw at at on) in
        subst (λ k. Falls (hop_ranks (other_end two_hops 0 k) c) (Some 2)) l0 (record { from = 2; to = 1; is_from = refl; is_to = refl; less = omega arith; bound = omega arith })
hops_ranked c s (suc zero) l is less away on = go (begins (4 ∷ []) c) refl on
  where
    go : (b : Bool) → begins (4 ∷ []) c ≡ b → IsIn l (route_links two_hops 1 c) → Falls (hop_ranks (other_end two_hops 1 l) c) (Some 1)
    go false at on = absurd (rw at at on)
    go true at on =
        let l1 : 1 ≡ l = ⊎_elim (λ e. e) (λ bad. absurd bad) (rw at at on) in
        subst (λ k. Falls (hop_ranks (other_end two_hops 1 k) c) (Some 1)) l1 (record { from = 1; to = 0; is_from = refl; is_to = refl; less = omega arith; bound = omega arith })
hops_ranked c s (suc (suc zero)) l is less away on = absurd on
hops_ranked c s (suc (suc (suc n))) l is less away on = absurd (omega (arith, less))

hops_issuer : Issuer
hops_issuer = record { name = codes "I"; prefix = 4 ∷ []; home = 2; named = 0 ∷ []; ceiling = 1000 }

hops_issued : (c : List ℕ) (s : Issuer) → issuer two_hops c ≡ Some s → (begins (4 ∷ []) c ≡ true) × (hops_issuer ≡ s)
unfolding hops_issuer
hops_issued c s is = go (begins (4 ∷ []) c) refl
  where
    go : (b : Bool) → begins (4 ∷ []) c ≡ b → (begins (4 ∷ []) c ≡ true) × (hops_issuer ≡ s)
    go true at = (at, same_Some _ _ (rw at at is))
    go false at = absurd (no (rw at at is))
      where
        no : None ≡ Some s → ⊥
        no p = cc

hops_named : (c : List ℕ) (s : Issuer) (n : ℕ) → issuer two_hops c ≡ Some s → n < 3 → 0 < day two_hops n c → Contains s.named n
unfolding hops_issuer
hops_named c s zero is less some = subst (λ (z : Issuer). Contains z.named 0) (hops_issued c s is).1 (0, omega arith, refl)
hops_named c s (suc zero) is less some = absurd (omega (arith, some))
hops_named c s (suc (suc zero)) is less some = absurd (omega (arith, some))
hops_named c s (suc (suc (suc n))) is less some = absurd (omega (arith, less))

hops_within : (c : List ℕ) (s : Issuer) → issuer two_hops c ≡ Some s → sum_below (λ n. day two_hops n c) 3 ≤ s.ceiling
unfolding hops_issuer
hops_within c s is =
    let i = hops_issued c s is in
    subst (λ (z : Issuer). sum_below (λ n. day two_hops n c) 3 ≤ z.ceiling) i.1 (rw i.0 (omega arith))

pub hops_bounded : IsBounded two_hops
hops_bounded = record { named = hops_named; within = hops_within }

not_request : {A : Type 0} → false ≡ true → A
not_request p = cc

hops_at_a : IsLegalRead two_hops 0 (hops_run 0)
unfolding read_history decide refusal
hops_at_a = (((((((((((omega arith, record { own = omega arith; formed = λ _. record { trace = refl; time = refl; acquirer = omega arith }; accepted = refl; outputs = refl }), record { own = refl; formed = λ r. not_request r; accepted = refl; outputs = refl }), record { own = refl; formed = omega arith; accepted = refl; outputs = refl }), record { own = omega arith; formed = λ _. record { trace = refl; time = refl; acquirer = omega arith }; accepted = refl; outputs = refl }), record { own = refl; formed = omega arith; accepted = refl; outputs = refl }), record { own = omega arith; formed = omega arith; accepted = refl; outputs = refl }), record { own = refl; formed = λ r. not_request r; accepted = refl; outputs = refl }), record { own = omega arith; formed = λ r. not_request r; accepted = refl; outputs = refl }), record { own = refl; formed = λ r. not_request r; accepted = refl; outputs = refl }), record { own = refl; formed = omega arith; accepted = refl; outputs = refl }), record { own = omega arith; formed = λ _. record { trace = refl; time = refl; acquirer = omega arith }; accepted = refl; outputs = refl })

hops_at_b : IsLegalRead two_hops 1 (hops_run 1)
unfolding read_history decide refusal
hops_at_b = ((((((omega arith, record { own = refl; formed = λ _. record { trace = refl; time = refl; acquirer = omega arith }; accepted = refl; outputs = refl }), record { own = refl; formed = λ r. not_request r; accepted = refl; outputs = refl }), record { own = refl; formed = λ r. not_request r; accepted = refl; outputs = refl }), record { own = refl; formed = λ r. not_request r; accepted = refl; outputs = refl }), record { own = refl; formed = λ r. not_request r; accepted = refl; outputs = refl }), record { own = refl; formed = λ r. not_request r; accepted = refl; outputs = refl })

hops_at_h : IsLegalRead two_hops 2 (hops_run 2)
unfolding read_history decide refusal
hops_at_h = ((((omega arith, record { own = refl; formed = λ _. record { trace = refl; time = refl; acquirer = omega arith }; accepted = refl; outputs = refl }), record { own = omega arith; formed = omega arith; accepted = refl; outputs = refl }), record { own = refl; formed = λ r. not_request r; accepted = refl; outputs = refl }), record { own = refl; formed = λ r. not_request r; accepted = refl; outputs = refl })

hops_each : (n : ℕ) → n < 3 → IsLegal two_hops n (spelled_trace (hops_run n))
unfolding spelled_input Rattle.law_evidence.proofs.Spelled.trace_good
hops_each zero less = legal_spelled two_hops 0 (hops_run 0) refl (tt, (tt, (tt, (tt, (tt, (tt, (tt, (tt, (tt, (tt, (tt, tt))))))))))) (omega arith) hops_at_a
hops_each (suc zero) less = legal_spelled two_hops 1 (hops_run 1) refl (tt, (tt, (tt, (tt, (tt, (tt, tt)))))) (omega arith) hops_at_b
hops_each (suc (suc zero)) less = legal_spelled two_hops 2 (hops_run 2) refl (tt, (tt, ((refl, refl), (tt, tt)))) (omega arith) hops_at_h
hops_each (suc (suc (suc n))) less = absurd (omega (arith, less))

hops_none : (n : ℕ) → 3 ≤ n → spelled_trace (hops_run n) ≡ []
unfolding spelled_trace
hops_none zero le = absurd (omega (arith, le))
hops_none (suc zero) le = absurd (omega (arith, le))
hops_none (suc (suc zero)) le = absurd (omega (arith, le))
hops_none (suc (suc (suc n))) le = refl

abbrev HasPut : ℕ → Input → Type 0
HasPut n (Take l s bytes) = (f : Entry) × IsIn f (spelled_trace (hops_run (other_end two_hops n l))) × IsIn (Put l s bytes) f.outputs
HasPut n _ = ⊤

hops_put : (n : ℕ) (e : Entry) → IsIn e (spelled_trace (hops_run n)) → HasPut n e.input
unfolding spelled_trace spelled spelled_input
hops_put zero e has = ⊎_elim (λ p. at p tt) (λ has. ⊎_elim (λ p. at p tt) (λ has. ⊎_elim (λ p. at p (_, inr (inl refl), inl refl)) (λ has. ⊎_elim (λ p. at p tt) (λ has. ⊎_elim (λ p. at p (_, inr (inr (inr (inl refl))), inl refl)) (λ has. ⊎_elim (λ p. at p tt) (λ has. ⊎_elim (λ p. at p tt) (λ has. ⊎_elim (λ p. at p tt) (λ has. ⊎_elim (λ p. at p tt) (λ has. ⊎_elim (λ p. at p (_, inr (inr (inr (inr (inl refl)))), inl refl)) (λ has. ⊎_elim (λ p. at p tt) (λ bad. absurd bad) has) has) has) has) has) has) has) has) has) has) has
  where
    at : {x : Entry} → x ≡ e → HasPut 0 x.input → HasPut 0 e.input
    at p h = subst (λ (z : Entry). HasPut 0 z.input) p h
hops_put (suc zero) e has = ⊎_elim (λ p. at p (_, inl refl, inl refl)) (λ has. ⊎_elim (λ p. at p (_, inr (inr (inr (inl refl))), inr (inl refl))) (λ has. ⊎_elim (λ p. at p (_, inr (inl refl), inl refl)) (λ has. ⊎_elim (λ p. at p (_, inr (inr (inr (inr (inr (inl refl))))), inl refl)) (λ has. ⊎_elim (λ p. at p (_, inr (inr (inl refl)), inl refl)) (λ has. ⊎_elim (λ p. at p (_, inr (inr (inr (inr (inr (inr (inr (inr (inr (inr (inl refl)))))))))), inl refl)) (λ bad. absurd bad) has) has) has) has) has) has
  where
    at : {x : Entry} → x ≡ e → HasPut 1 x.input → HasPut 1 e.input
    at p h = subst (λ (z : Entry). HasPut 1 z.input) p h
hops_put (suc (suc zero)) e has = ⊎_elim (λ p. at p (_, inr (inl refl), inr (inl refl))) (λ has. ⊎_elim (λ p. at p (_, inr (inr (inr (inl refl))), inr (inl refl))) (λ has. ⊎_elim (λ p. at p tt) (λ has. ⊎_elim (λ p. at p (_, inr (inr (inr (inr (inr (inl refl))))), inl refl)) (λ bad. absurd bad) has) has) has) has
  where
    at : {x : Entry} → x ≡ e → HasPut 2 x.input → HasPut 2 e.input
    at p h = subst (λ (z : Entry). HasPut 2 z.input) p h
hops_put (suc (suc (suc n))) e has = absurd has

pub hops_are_run : IsRun two_hops (λ n. spelled_trace (hops_run n))
hops_are_run = record { legal = hops_each; no_others = hops_none; linked = λ n l s bytes e has is. subst (HasPut n) is (hops_put n e has) }
