-- Steps to which lines lead are a run.
use Rattle.std.proofs.Common.{◌≡◌, ℕ, ◌<◌, ◌≤◌, List, [], ◌∷◌, length, Bool, true, false, cond, eqb, eqb-true, refl, sym, ap, ◌∙◌, subst, arith, inl, inr, ⊎_elim, ◌⊎◌}
use Rattle.net_rows.specs.Network.{Network, other_end}
use Rattle.network_law.specs.Cards.{Bytes}
use Rattle.network_law.specs.Traces.{IsIn}
use Rattle.network_law.specs.Entries.{Entry, Input}
use Rattle.network_law.specs.Entries as inputs
use Rattle.network_law.specs.Runs.{IsRun, IsLegal, NamesOwnLink}
use Rattle.network_law.specs.Checked.{IsChecked}
use Rattle.net_replay.proofs.Ends.{end_there}
use Rattle.std.proofs.lemmas.Bool.{cases_lt}
use Rattle.replay_script.specs.Lines.{Event, Enter, Take, LinkUp, LinkDown, Tick, HostAnswer, NewDate, Lend}
use Rattle.net_replay.specs.Steps.{Step, entries_at}
use Rattle.net_replay.specs.Replays.{IsInput, IsStepOf, Leads, WasSent}
use Rattle.net_replay.specs.Traces.{TracesView, AreTraces, trace_of, trace_or_none}
use Rattle.std.proofs.lemmas.Option.{slice_get_past}

-- each take has its put
abbrev pub AreLinked : Network → List Step → Type 0
AreLinked t steps = (n l s : ℕ) (bytes : Bytes) (e : Entry) → IsIn e (entries_at n steps) → e.input ≡ inputs.Take l s bytes → WasSent t steps n l s bytes

-- a step more keeps what was put
stays_in : (x : Step) (steps : List Step) (m : ℕ) (f : Entry) → IsIn f (entries_at m steps) → IsIn f (entries_at m (x ∷ steps))
stays_in x steps m f at = go (eqb x.node m) refl
  where
    go : (b : Bool) → eqb x.node m ≡ b → IsIn f (cond (eqb x.node m) (x.entry ∷ entries_at m steps) (entries_at m steps))
    go true same = rw same (inr at)
    go false other = rw other at

is_in : (x : Step) (steps : List Step) (m : ℕ) (f : Entry) → IsIn f (entries_at m (x ∷ steps)) → ((x.node ≡ m) × (x.entry ≡ f)) ⊎ IsIn f (entries_at m steps)
is_in x steps m f at = go (eqb x.node m) refl at
  where
    go : (b : Bool) → eqb x.node m ≡ b → IsIn f (cond (eqb x.node m) (x.entry ∷ entries_at m steps) (entries_at m steps)) → ((x.node ≡ m) × (x.entry ≡ f)) ⊎ IsIn f (entries_at m steps)
    go true same e = ⊎_elim (λ here. inl (eqb-true x.node m same, here)) (λ below. inr below) (rw same at e)
    go false other e = inr (rw other at e)

-- what comes by a take was sent
taken_was_sent : (t : Network) (steps : List Step) (n : ℕ) (v : Event) (i : Input) → IsInput t steps n v i → (l s : ℕ) (bytes : Bytes) → i ≡ inputs.Take l s bytes → WasSent t steps n l s bytes
taken_was_sent t steps n (Take k r) i b l s bytes e =
    let same : inputs.Take k r b.0 ≡ inputs.Take l s bytes = sym b.1 ∙ e in
    subst (λ z. WasSent t steps n z s bytes) (links same) (subst (λ z. WasSent t steps n k z bytes) (serials same) (subst (λ z. WasSent t steps n k r z) (bodies same) b.2))
  where
    links : {a c d f : ℕ} {x y : Bytes} → inputs.Take a c x ≡ inputs.Take d f y → a ≡ d
    links p = cc

    serials : {a c d f : ℕ} {x y : Bytes} → inputs.Take a c x ≡ inputs.Take d f y → c ≡ f
    serials p = cc

    bodies : {a c d f : ℕ} {x y : Bytes} → inputs.Take a c x ≡ inputs.Take d f y → x ≡ y
    bodies p = cc
taken_was_sent t steps n (Enter x) i b l s bytes e = absurd (no (sym b ∙ e))
  where
    no : inputs.Enter x ≡ inputs.Take l s bytes → ⊥
    no p = cc
taken_was_sent t steps n (LinkUp x) i b l s bytes e = absurd (no (sym b ∙ e))
  where
    no : inputs.LinkUp x ≡ inputs.Take l s bytes → ⊥
    no p = cc
taken_was_sent t steps n (LinkDown x) i b l s bytes e = absurd (no (sym b ∙ e))
  where
    no : inputs.LinkDown x ≡ inputs.Take l s bytes → ⊥
    no p = cc
taken_was_sent t steps n Tick i b l s bytes e = absurd (no (sym b ∙ e))
  where
    no : inputs.Tick ≡ inputs.Take l s bytes → ⊥
    no p = cc
taken_was_sent t steps n (HostAnswer x y) i b l s bytes e = absurd (no (sym b ∙ e))
  where
    no : inputs.HostAnswer x y ≡ inputs.Take l s bytes → ⊥
    no p = cc
taken_was_sent t steps n (NewDate x) i b l s bytes e = absurd (no (sym b ∙ e))
  where
    no : inputs.NewDate x ≡ inputs.Take l s bytes → ⊥
    no p = cc
taken_was_sent t steps n (Lend x y z w) i b l s bytes e = absurd (no (sym b ∙ e))
  where
    no : inputs.Lend x y z w ≡ inputs.Take l s bytes → ⊥
    no p = cc

linked_more : (t : Network) (steps : List Step) (line : Bytes) (x : Step) → IsStepOf t steps line x → AreLinked t steps → AreLinked t (x ∷ steps)
linked_more t steps line x is before n l s bytes e at taken =
    let w = ⊎_elim
    (λ here. subst (λ z. WasSent t steps z l s bytes) (sym is.2.node ∙ here.0) (taken_was_sent t steps is.0.node is.0.event x.entry.input is.2.input l s bytes (ap (λ (z : Entry). z.input) here.1 ∙ taken)))
    (λ below. before n l s bytes e below taken)
    (is_in x steps n e at) in
    (w.0, stays_in x steps (other_end t n l) w.0 w.1, w.2)

pub leads_linked : (t : Network) (lines : List Bytes) (steps last : List Step) → AreLinked t steps → Leads t steps lines last → AreLinked t last
leads_linked t [] steps last before leads = subst (AreLinked t) (sym leads) before
leads_linked t (line ∷ lines) steps last before leads = leads_linked t lines (leads.0 ∷ steps) last (linked_more t steps line leads.0 leads.1 before) leads.2

legal_own : (t : Network) (n : ℕ) (es : List Entry) (e : Entry) → IsLegal t n es → IsIn e es → NamesOwnLink t n e.input
legal_own t n [] e legal at = absurd at
legal_own t n (x ∷ es) e legal at = ⊎_elim (λ here. subst (λ (z : Entry). NamesOwnLink t n z.input) here legal.1.own) (λ below. legal_own t n es e legal.0 below) at

-- traces that are those of the steps are a run
pub are_run : (t : Network) → IsChecked t → (lines : List Bytes) (steps : List Step) (v : TracesView) → Leads t [] lines steps → AreTraces t steps v → ((n : ℕ) → n < length t.nodes → IsLegal t n (entries_at n steps)) → IsRun t (trace_of v)
are_run t checked lines steps v leads are legal = record {
  legal = λ n less. subst (IsLegal t n) (sym (same n less)) (legal n less);
  no_others = past;
  linked = λ n l s bytes e at taken. ⊎_elim
      (λ less.
      (let here = subst (IsIn e) (same n less) at in
      let own = subst (NamesOwnLink t n) taken (legal_own t n (entries_at n steps) e (legal n less) here) in
      let w = linked n l s bytes e here taken in
      (w.0, subst (IsIn w.0) (sym (same (other_end t n l) (end_there t checked n l own))) w.1, w.2)))
      (λ more. absurd (subst (IsIn e) (past n more) at))
      (cases_lt n (length t.nodes));
}
  where
    same : (n : ℕ) → n < length t.nodes → trace_of v n ≡ entries_at n steps
    same n less = ap trace_or_none (are.nodes.1 n less)

    past : (n : ℕ) → length t.nodes ≤ n → trace_of v n ≡ []
    past n more = ap trace_or_none (slice_get_past v.nodes n (omega (arith, more, are.nodes.0)))

    linked : AreLinked t steps
    linked = leads_linked t lines [] steps (λ n l s bytes e at. absurd at) leads
