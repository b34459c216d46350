-- What was found in the traces of stations, and what makes them a run.
use Rattle.std.proofs.Common.{◌≡◌, ◌⊎◌, inl, inr, ⊎_elim, ℕ, zero, suc, ◌<◌, List, [], ◌∷◌, ◌++◌, length, reverse, All, slice_get, Some, None, Option, Bool, true, false, ◌&&◌, ◌==◌, eqb-true, eq-eqb, bytes_eq, arith, refl, sym, ap, ◌∙◌, subst}
use Rattle.std.specs.Prelude.{MatchBool}
use Rattle.std.specs.List.{list_any, AllByRecursion}
use mathlib.Core.List.{reverse-cons}
use Rattle.std.proofs.lemmas.List.Elements.{recursion_from_All}
use Rattle.std.proofs.lemmas.Bool.{and_parts}
use Rattle.std.proofs.lemmas.Option.{slice_get_past, same_Some}
use Rattle.message_keys.proofs.Equality.{bytes_eq_is, bytes_eq_refl}
use Rattle.network_law.proofs.Exposure.{any_is}
use Rattle.network_law.specs.Cards.{Bytes}
use Rattle.network_law.specs.Traces.{IsIn}
use Rattle.network_law.specs.Entries.{Entry, Take, Output, Put, Answer, Ask, Post}
use Rattle.network_law.specs.Runs.{IsLegal, IsRun, WasPut}
use Rattle.net_rows.specs.Network.{Network, other_end}
use Rattle.net_threads.specs.Found.{is_put, is_answer, entry_puts, entry_answers}
use Rattle.net_threads.specs.Station.{StationView}
use Rattle.net_threads.specs.declared.ended.Ended.{Ended}
use Rattle.net_threads.specs.declared.ended.Verdict.{Verdict}
use Rattle.net_threads.specs.declared.ended.Verdict.TheVariants.{Linked}
use Rattle.net_threads.specs.Verdicts.{trace_of, trace_or_none, WasAnswered, AreOf, AreLinked, IsLinked, Holds}

-- members

not_both : (b : Bool) → b ≡ true → b ≡ false → ⊥
not_both b p q = cc

append_left : {X : Type 0} (xs ys : List X) (x : X) → IsIn x xs → IsIn x (xs ++ ys)
append_left [] ys x m = absurd m
append_left (z ∷ zs) ys x m = ⊎_elim (λ e. inl e) (λ r. inr (append_left zs ys x r)) m

append_right : {X : Type 0} (xs ys : List X) (x : X) → IsIn x ys → IsIn x (xs ++ ys)
append_right [] ys x m = m
append_right (z ∷ zs) ys x m = inr (append_right zs ys x m)

in_append : {X : Type 0} (xs ys : List X) (x : X) → IsIn x (xs ++ ys) → IsIn x xs ⊎ IsIn x ys
in_append [] ys x m = inr m
in_append (z ∷ zs) ys x m = ⊎_elim (λ e. inl (inl e)) (λ r. ⊎_elim (λ a. inl (inr a)) inr (in_append zs ys x r)) m

pub in_reverse : {X : Type 0} (xs : List X) (x : X) → IsIn x (reverse xs) → IsIn x xs
in_reverse [] x m = m
in_reverse (y ∷ ys) x m = ⊎_elim (λ a. inr (in_reverse ys x a)) (λ b. ⊎_elim inl (λ c. absurd c) b) (in_append (reverse ys) (y ∷ []) x (subst (IsIn x) (reverse-cons y ys) m))

pub reverse_in : {X : Type 0} (xs : List X) (x : X) → IsIn x xs → IsIn x (reverse xs)
reverse_in [] x m = m
reverse_in (y ∷ ys) x m = subst (IsIn x) (sym (reverse-cons y ys)) (⊎_elim (λ e. append_right (reverse ys) (y ∷ []) x (inl e)) (λ r. append_left (reverse ys) (y ∷ []) x (reverse_in ys x r)) m)

any_member : {X : Type 0} (p : X → Bool) (xs : List X) → list_any p xs ≡ true → (x : X) × IsIn x xs × (p x ≡ true)
any_member p [] e = absurd (not_both false e refl)
any_member p (x ∷ xs) e = go (p x) refl (any_member p xs)
  where
    go : (b : Bool) → p x ≡ b → (list_any p xs ≡ true → (y : _) × IsIn y xs × (p y ≡ true)) → (y : _) × IsIn y (x ∷ xs) × (p y ≡ true)
    go true at rest = (x, inl refl, at)
    go false at rest = let r = rest (rw at at e) in (r.0, inr r.1, r.2)

all_in : {X : Type 0} (P : X → Type 0) (xs : List X) (x : X) → AllByRecursion P xs → IsIn x xs → P x
all_in P [] x all m = absurd m
all_in P (y ∷ ys) x all m = ⊎_elim (λ e. subst P e all.0) (λ r. all_in P ys x all.1 r) m

at_place : {X : Type 0} (P : X → Type 0) (xs : List X) (i : ℕ) (x : X) → AllByRecursion P xs → slice_get xs i ≡ Some x → P x
at_place P [] i x all e = absurd (no e)
  where
    no : None ≡ Some x → ⊥
    no p = cc
at_place P (y ∷ xs) zero x all e = subst P (same_Some y x e) all.0
at_place P (y ∷ xs) (suc i) x all e = at_place P xs i x all.1 e

-- puts and answers

put_is : (l s : ℕ) (b : Bytes) (o : Output) → is_put l s b o ≡ true → o ≡ Put l s b
put_is l s b (Put k r c) e =
    let p = and_parts ((k == l) && (r == s)) (bytes_eq c b) e in
    let q = and_parts (k == l) (r == s) p.0 in
    rw (eqb-true k l q.0, eqb-true r s q.1, bytes_eq_is c b p.1) refl
put_is l s b (Answer c) e = absurd (not_both false e refl)
put_is l s b (Ask a c) e = absurd (not_both false e refl)
put_is l s b (Post c) e = absurd (not_both false e refl)

is_put_of : (l s : ℕ) (b : Bytes) → is_put l s b (Put l s b) ≡ true
is_put_of l s b = rw (eq-eqb l l refl, eq-eqb s s refl, bytes_eq_refl b) refl

answer_is : (b : Bytes) (o : Output) → is_answer b o ≡ true → o ≡ Answer b
answer_is b (Answer c) e = ap Answer (bytes_eq_is c b e)
answer_is b (Put k r c) e = absurd (not_both false e refl)
answer_is b (Ask a c) e = absurd (not_both false e refl)
answer_is b (Post c) e = absurd (not_both false e refl)

-- by what a search of the trace, the oldest first, found
pub put_found : (l s : ℕ) (b : Bytes) (es : List Entry) (found : Bool) → found ≡ list_any (entry_puts l s b) es → MatchBool found (WasPut (reverse es) l s b) (¬ WasPut (reverse es) l s b)
put_found l s b es true e =
    let w = any_member (entry_puts l s b) es (sym e) in
    let v = any_member (is_put l s b) w.0.outputs w.2 in
    (w.0, reverse_in es w.0 w.1, subst (λ z. IsIn z w.0.outputs) (put_is l s b v.0 v.2) v.1)
put_found l s b es false e = λ w. not_both (list_any (entry_puts l s b) es) (any_is (entry_puts l s b) es w.0 (in_reverse es w.0 w.1) (any_is (is_put l s b) w.0.outputs (Put l s b) w.2 (is_put_of l s b))) (sym e)

pub answer_found : (b : Bytes) (es : List Entry) (found : Bool) → found ≡ list_any (entry_answers b) es → MatchBool found (WasAnswered (reverse es) b) (¬ WasAnswered (reverse es) b)
answer_found b es true e =
    let w = any_member (entry_answers b) es (sym e) in
    let v = any_member (is_answer b) w.0.outputs w.2 in
    (w.0, reverse_in es w.0 w.1, subst (λ z. IsIn z w.0.outputs) (answer_is b v.0 v.2) v.1)
answer_found b es false e = λ w. not_both (list_any (entry_answers b) es) (any_is (entry_answers b) es w.0 (in_reverse es w.0 w.1) (any_is (is_answer b) w.0.outputs (Answer b) w.2 (bytes_eq_refl b))) (sym e)

pub trace_there : (stations : List StationView) (n : ℕ) (s : StationView) → slice_get stations n ≡ Some s → trace_of stations n ≡ s.trace
trace_there stations n s at = ap trace_or_none at

pub none_put : (stations : List StationView) (n l s : ℕ) (b : Bytes) → slice_get stations n ≡ None → ¬ WasPut (trace_of stations n) l s b
none_put stations n l s b at = λ w. subst (IsIn w.0) (ap trace_or_none at) w.1

pub none_answered : (stations : List StationView) (n : ℕ) (b : Bytes) → slice_get stations n ≡ None → ¬ WasAnswered (trace_of stations n) b
none_answered stations n b at = λ w. subst (IsIn w.0) (ap trace_or_none at) w.1

pub put_there : (stations : List StationView) (n l s : ℕ) (b : Bytes) (v : StationView) (es : List Entry) (found : Bool) → slice_get stations n ≡ Some v → reverse es ≡ v.trace → found ≡ list_any (entry_puts l s b) es → MatchBool found (WasPut (trace_of stations n) l s b) (¬ WasPut (trace_of stations n) l s b)
put_there stations n l s b v es found at is e = subst (λ z. MatchBool found (WasPut z l s b) (¬ WasPut z l s b)) (is ∙ sym (trace_there stations n v at)) (put_found l s b es found e)

pub answer_there : (stations : List StationView) (n : ℕ) (b : Bytes) (v : StationView) (es : List Entry) (found : Bool) → slice_get stations n ≡ Some v → reverse es ≡ v.trace → found ≡ list_any (entry_answers b) es → MatchBool found (WasAnswered (trace_of stations n) b) (¬ WasAnswered (trace_of stations n) b)
answer_there stations n b v es found at is e = subst (λ z. MatchBool found (WasAnswered z b) (¬ WasAnswered z b)) (is ∙ sym (trace_there stations n v at)) (answer_found b es found e)

-- entries whose inputs are linked, the oldest first
pub all_linked : (t : Network) (stations : List StationView) (n : ℕ) (v : StationView) (es : List Entry) → reverse es ≡ v.trace → All (λ (e : Entry). IsLinked t stations n e.input) es → (e : Entry) → IsIn e v.trace → IsLinked t stations n e.input
all_linked t stations n v es is all e m = all_in (λ (d : Entry). IsLinked t stations n d.input) es e (recursion_from_All (λ (d : Entry). IsLinked t stations n d.input) es all) (in_reverse es e (subst (IsIn e) (sym is) m))

pub entry_there : (v : StationView) (es : List Entry) (e : Entry) → reverse es ≡ v.trace → IsIn e es → IsIn e v.trace
entry_there v es e is m = subst (IsIn e) is (reverse_in es e m)

-- the stations of all nodes, with each take linked, are a run
pub are_run : (t : Network) (stations : List StationView) → length stations ≡ length t.nodes → All (λ (s : StationView). IsLegal s.t s.n s.trace) stations → AreOf t stations → AreLinked t stations → IsRun t (trace_of stations)
are_run t stations whole legal are linked = record {
  legal = λ n less. at_legal n less (slice_get stations n) refl;
  no_others = λ n more. ap trace_or_none (slice_get_past stations n (omega (arith, more, whole)));
  linked = λ n l s bytes e at taken. found n l s bytes e (slice_get stations n) refl at taken;
}
  where
    all : AllByRecursion (λ (s : StationView). IsLegal s.t s.n s.trace) stations
    all = recursion_from_All (λ (s : StationView). IsLegal s.t s.n s.trace) stations legal

    at_legal : (n : ℕ) → n < length t.nodes → (o : Option StationView) → slice_get stations n ≡ o → IsLegal t n (trace_of stations n)
    at_legal n less None at = subst (IsLegal t n) (sym (ap trace_or_none at)) tt
    at_legal n less (Some s) at =
        let of = are n s at in
        let here : IsLegal s.t s.n s.trace = at_place (λ (z : StationView). IsLegal z.t z.n z.trace) stations n s all at in
        subst (IsLegal t n) (sym (trace_there stations n s at)) (subst (λ z. IsLegal z n s.trace) of.0 (subst (λ z. IsLegal s.t z s.trace) of.1 here))

    found : (n l s : ℕ) (bytes : Bytes) (e : Entry) (o : Option StationView) → slice_get stations n ≡ o → IsIn e (trace_of stations n) → e.input ≡ Take l s bytes → WasPut (trace_of stations (other_end t n l)) l s bytes
    found n l s bytes e None at m taken = absurd (subst (IsIn e) (ap trace_or_none at) m)
    found n l s bytes e (Some v) at m taken =
        subst (IsLinked t stations n) taken (linked n v at e (subst (IsIn e) (trace_there stations n v at) m))

-- linked stations are a run
pub linked_run : (t : Network) (stations : List StationView) (ended : Ended) (v : Verdict) → Holds t stations ended v → v ≡ Linked → IsRun t (trace_of stations)
linked_run t stations ended v holds is = (subst (Holds t stations ended) is holds).0
