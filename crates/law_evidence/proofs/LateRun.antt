-- The run in which an approval comes late.
use Rattle.std.proofs.Common.{◌≡◌, ℕ, zero, suc, ◌≤◌, ◌<◌, [], true, false, refl, subst, inl, inr, ⊎_elim, arith}
use Rattle.std.specs.Prelude.{⊤}
use Rattle.net_rows.specs.Network.{other_end}
use Rattle.network_law.specs.Traces.{IsIn}
use Rattle.network_law.specs.Decision.{decide}
use Rattle.network_law.specs.Refusals.{refusal}
use Rattle.network_law.specs.Entries.{Input, Take, Put, Entry, read_history, spelled, spelled_input, spelled_trace}
use Rattle.network_law.specs.Runs.{IsLegal, IsRun}
use Rattle.law_evidence.specs.Worked.{two_hops}
use Rattle.law_evidence.specs.WorkedLate.{late_run}
use Rattle.network_law.proofs.ReadRuns.{IsLegalRead}
use Rattle.law_evidence.proofs.Spelled.{legal_spelled}

not_request : {A : Type 0} → false ≡ true → A
not_request p = cc

at_a : IsLegalRead two_hops 0 (late_run 0)
unfolding read_history decide refusal
at_a = ((((((((omega arith, record { own = omega arith; formed = λ _. record { trace = refl; time = refl; acquirer = omega arith }; accepted = refl; outputs = refl }), record { own = omega arith; formed = omega arith; accepted = refl; outputs = refl }), record { own = omega arith; formed = omega arith; accepted = refl; outputs = refl }), record { own = omega arith; formed = omega arith; accepted = refl; outputs = refl }), record { own = refl; formed = λ r. not_request r; accepted = refl; outputs = refl }), record { own = refl; formed = λ r. not_request r; accepted = refl; outputs = refl }), record { own = omega arith; formed = omega arith; accepted = refl; outputs = refl }), record { own = refl; formed = λ r. not_request r; accepted = refl; outputs = refl })

at_b : IsLegalRead two_hops 1 (late_run 1)
unfolding read_history decide refusal
at_b = (((((((omega arith, record { own = refl; formed = λ _. record { trace = refl; time = refl; acquirer = omega arith }; accepted = refl; outputs = refl }), record { own = refl; formed = λ r. not_request r; accepted = refl; outputs = refl }), record { own = refl; formed = λ r. not_request r; accepted = refl; outputs = refl }), record { own = refl; formed = λ r. not_request r; accepted = refl; outputs = refl }), record { own = refl; formed = λ r. not_request r; accepted = refl; outputs = refl }), record { own = refl; formed = λ r. not_request r; accepted = refl; outputs = refl }), record { own = refl; formed = λ r. not_request r; accepted = refl; outputs = refl })

at_h : IsLegalRead two_hops 2 (late_run 2)
unfolding read_history decide refusal
at_h = ((((omega arith, record { own = refl; formed = λ _. record { trace = refl; time = refl; acquirer = omega arith }; accepted = refl; outputs = refl }), record { own = omega arith; formed = omega arith; accepted = refl; outputs = refl }), record { own = refl; formed = λ r. not_request r; accepted = refl; outputs = refl }), record { own = refl; formed = λ r. not_request r; accepted = refl; outputs = refl })

each : (n : ℕ) → n < 3 → IsLegal two_hops n (spelled_trace (late_run n))
unfolding spelled_input Rattle.law_evidence.proofs.Spelled.trace_good
each zero less = legal_spelled two_hops 0 (late_run 0) refl (tt, (tt, (tt, (tt, (tt, (tt, (tt, (tt, tt)))))))) (omega arith) at_a
each (suc zero) less = legal_spelled two_hops 1 (late_run 1) refl (tt, (tt, (tt, (tt, (tt, (tt, (tt, tt))))))) (omega arith) at_b
each (suc (suc zero)) less = legal_spelled two_hops 2 (late_run 2) refl (tt, (tt, ((refl, refl), (tt, tt)))) (omega arith) at_h
each (suc (suc (suc n))) less = absurd (omega (arith, less))

none : (n : ℕ) → 3 ≤ n → spelled_trace (late_run n) ≡ []
unfolding spelled_trace
none zero le = absurd (omega (arith, le))
none (suc zero) le = absurd (omega (arith, le))
none (suc (suc zero)) le = absurd (omega (arith, le))
none (suc (suc (suc n))) le = refl

abbrev HasPut : ℕ → Input → Type 0
HasPut n (Take l s bytes) = (f : Entry) × IsIn f (spelled_trace (late_run (other_end two_hops n l))) × IsIn (Put l s bytes) f.outputs
HasPut n _ = ⊤

-- a take has its put
put_of : (n : ℕ) (e : Entry) → IsIn e (spelled_trace (late_run n)) → HasPut n e.input
unfolding spelled_trace spelled spelled_input
put_of zero e has = ⊎_elim (λ p. at p (_, inr (inr (inl refl)), inl refl)) (λ has. ⊎_elim (λ p. at p tt) (λ has. ⊎_elim (λ p. at p (_, inr (inr (inr (inl refl))), inl refl)) (λ has. ⊎_elim (λ p. at p (_, inr (inr (inr (inr (inr (inl refl))))), inl refl)) (λ has. ⊎_elim (λ p. at p tt) (λ has. ⊎_elim (λ p. at p tt) (λ has. ⊎_elim (λ p. at p tt) (λ has. ⊎_elim (λ p. at p tt) (λ bad. absurd bad) has) has) has) has) has) has) has) has
  where
    at : {x : Entry} → x ≡ e → HasPut 0 x.input → HasPut 0 e.input
    at p h = subst (λ (z : Entry). HasPut 0 z.input) p h
put_of (suc zero) e has = ⊎_elim (λ p. at p (_, inl refl, inl refl)) (λ has. ⊎_elim (λ p. at p (_, inr (inl refl), inl refl)) (λ has. ⊎_elim (λ p. at p (_, inr (inl refl), inl refl)) (λ has. ⊎_elim (λ p. at p (_, inr (inr (inr (inr (inl refl)))), inr (inr (inl refl)))) (λ has. ⊎_elim (λ p. at p (_, inr (inr (inr (inr (inl refl)))), inl refl)) (λ has. ⊎_elim (λ p. at p (_, inr (inr (inl refl)), inl refl)) (λ has. ⊎_elim (λ p. at p (_, inr (inr (inr (inr (inr (inr (inr (inl refl))))))), inl refl)) (λ bad. absurd bad) has) has) has) has) has) has) has
  where
    at : {x : Entry} → x ≡ e → HasPut 1 x.input → HasPut 1 e.input
    at p h = subst (λ (z : Entry). HasPut 1 z.input) p h
put_of (suc (suc zero)) e has = ⊎_elim (λ p. at p (_, inr (inr (inr (inl refl))), inr (inl refl))) (λ has. ⊎_elim (λ p. at p (_, inr (inr (inr (inr (inl refl)))), inr (inl refl))) (λ has. ⊎_elim (λ p. at p tt) (λ has. ⊎_elim (λ p. at p (_, inr (inr (inr (inr (inr (inr (inl refl)))))), inl refl)) (λ bad. absurd bad) has) has) has) has
  where
    at : {x : Entry} → x ≡ e → HasPut 2 x.input → HasPut 2 e.input
    at p h = subst (λ (z : Entry). HasPut 2 z.input) p h
put_of (suc (suc (suc n))) e has = absurd has

pub late_is_run : IsRun two_hops (λ n. spelled_trace (late_run n))
late_is_run = record { legal = each; no_others = none; linked = λ n l s bytes e has is. subst (HasPut n) is (put_of n e has) }
