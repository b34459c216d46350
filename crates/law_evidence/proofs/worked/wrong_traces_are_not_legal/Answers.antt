use Rattle.std.proofs.Common.{◌≡◌, ℕ, List, [], ◌∷◌, length, true, false, bytes_eq, refl, ap, arith}
use Rattle.std.specs.Prelude.{codes}
use Rattle.message_keys.specs.Keys.{code_of}
use Rattle.network_law.specs.Traces.{Answer, Out, History}
use Rattle.network_law.specs.Decision.{decide}
use Rattle.network_law.specs.Entries.{read_history}
use Rattle.law_evidence.specs.Worked.{next_alternate_in_time, base, limited, diamond, next_alternate, stood_in_though_reversed, late_approval_dropped, same_tick_not_counted, advice_dropped_when_sent, own_reversal_frees, lenders, partial_frees_all, repeated_grant_counted, lent_amount_used, grant_dropped_when_put}
use Rattle.law_evidence.proofs.Spelled.{trace_good, legal_in_messages}
use Rattle.law_evidence.proofs.WorkedRun.{base_checked, limited_checked, diamond_checked, lenders_checked}
use Rattle.law_evidence.proofs.worked.wrong_traces_are_not_legal.Goals as goal

pub returns-clause-next_alternate : goal.returns-clause-next_alternate
unfolding trace_good read_history decide
returns-clause-next_alternate c l =
    let p : ◌≡◌ {A = ℕ} 4 6 = ap length ((legal_in_messages diamond 0 diamond_checked (omega arith) next_alternate refl l).1.outputs) in
    omega (arith, p)

pub returns-clause-next_alternate_in_time : goal.returns-clause-next_alternate_in_time
unfolding trace_good read_history decide
returns-clause-next_alternate_in_time c l =
    let p : ◌≡◌ {A = ℕ} 6 8 = ap length ((legal_in_messages diamond 0 diamond_checked (omega arith) next_alternate_in_time refl l).1.outputs) in
    omega (arith, p)

pub returns-clause-stood_in_though_reversed : goal.returns-clause-stood_in_though_reversed
unfolding trace_good read_history decide
returns-clause-stood_in_though_reversed c l =
    let p : ◌≡◌ {A = ℕ} 11 9 = ap length ((legal_in_messages limited 0 limited_checked (omega arith) stood_in_though_reversed refl l).1.outputs) in
    omega (arith, p)

pub returns-clause-late_approval_dropped : goal.returns-clause-late_approval_dropped
unfolding trace_good read_history decide
returns-clause-late_approval_dropped c l =
    let p : ◌≡◌ {A = ℕ} 5 6 = ap length ((legal_in_messages base 0 base_checked (omega arith) late_approval_dropped refl l).1.outputs) in
    omega (arith, p)

pub returns-clause-same_tick_not_counted : goal.returns-clause-same_tick_not_counted
unfolding trace_good read_history decide
returns-clause-same_tick_not_counted c l =
    let p : ◌≡◌ {A = ℕ} 13 12 = ap length ((legal_in_messages limited 0 limited_checked (omega arith) same_tick_not_counted refl l).1.outputs) in
    omega (arith, p)

pub returns-clause-advice_dropped_when_sent : goal.returns-clause-advice_dropped_when_sent
unfolding trace_good read_history decide
returns-clause-advice_dropped_when_sent c l =
    let p : ◌≡◌ {A = ℕ} 57 58 = ap length ((legal_in_messages base 0 base_checked (omega arith) advice_dropped_when_sent refl l).1.outputs) in
    omega (arith, p)

-- the code of the newest answer
newest_code : History → List ℕ
newest_code (Out i (Answer m) ∷ h) = code_of m
newest_code _ = []

pub returns-clause-own_reversal_frees : goal.returns-clause-own_reversal_frees
unfolding trace_good read_history decide newest_code
returns-clause-own_reversal_frees c l =
    let p : true ≡ false = ap (λ h. bytes_eq (newest_code h) (codes "00")) ((legal_in_messages limited 0 limited_checked (omega arith) own_reversal_frees refl l).1.outputs) in
    no p
  where
    no : true ≡ false → ⊥
    no p = cc

pub returns-clause-repeated_grant_counted : goal.returns-clause-repeated_grant_counted
unfolding trace_good read_history decide newest_code
returns-clause-repeated_grant_counted c l =
    let p : true ≡ false = ap (λ h. bytes_eq (newest_code h) (codes "00")) ((legal_in_messages lenders 1 lenders_checked (omega arith) repeated_grant_counted refl l).1.outputs) in
    no p
  where
    no : true ≡ false → ⊥
    no p = cc

pub returns-clause-lent_amount_used : goal.returns-clause-lent_amount_used
unfolding trace_good read_history decide newest_code
returns-clause-lent_amount_used c l =
    let p : true ≡ false = ap (λ h. bytes_eq (newest_code h) (codes "00")) ((legal_in_messages lenders 0 lenders_checked (omega arith) lent_amount_used refl l).1.outputs) in
    no p
  where
    no : true ≡ false → ⊥
    no p = cc

pub returns-clause-grant_dropped_when_put : goal.returns-clause-grant_dropped_when_put
unfolding trace_good read_history decide
returns-clause-grant_dropped_when_put c l =
    let p : ◌≡◌ {A = ℕ} 52 53 = ap length ((legal_in_messages lenders 0 lenders_checked (omega arith) grant_dropped_when_put refl l).1.outputs) in
    omega (arith, p)

pub returns-clause-partial_frees_all : goal.returns-clause-partial_frees_all
unfolding trace_good read_history decide newest_code
returns-clause-partial_frees_all c l =
    let p : true ≡ false = ap (λ h. bytes_eq (newest_code h) (codes "00")) ((legal_in_messages limited 0 limited_checked (omega arith) partial_frees_all refl l).1.outputs) in
    no p
  where
    no : true ≡ false → ⊥
    no p = cc
