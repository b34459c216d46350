-- The next line of a script, and what it leads to.
use Rattle.std.proofs.Common.{◌≡◌, ℕ, suc, ◌+◌, List, [], ◌∷◌, Option, Some, None, Result, Ok, Err, refl, ap, subst, inl, inr, arith}
use Rattle.net_rows.specs.Network.{Network}
use Rattle.network_law.specs.Cards.{Bytes}
use Rattle.replay_script.specs.Lines.{Said, Unread, read_line, said_or, next_line, behind}
use Rattle.replay_script.specs.declared.script.MalformedLine.{MalformedLine}
use Rattle.net_replay.specs.declared.fault.ReplayFault.{ReplayFault}
use Rattle.net_replay.specs.Steps.{Step}
use Rattle.net_replay.specs.Replays.{IsSaidStep, IsSaidFault, Leads, Fails}

read_is : (t : Network) (line : Bytes) (m : MalformedLine) (x : Said) → Some (said_or m (read_line t line)) ≡ Some (Ok x) → read_line t line ≡ Some x
read_is t line m x e = go (read_line t line) e
  where
    go : (o : Option Said) → Some (said_or m o) ≡ Some (Ok x) → o ≡ Some x
    go (Some y) e = ap Some (same e)
      where
        same : ◌≡◌ {A = Option (Result Said MalformedLine)} (Some (Ok y)) (Some (Ok x)) → y ≡ x
        same p = cc
    go None e = absurd (no e)
      where
        no : ◌≡◌ {A = Option (Result Said MalformedLine)} (Some (Err m)) (Some (Ok x)) → ⊥
        no p = cc

nothing_next : (x : Said) → ◌≡◌ {A = Option (Result Said MalformedLine)} None (Some (Ok x)) → ⊥
nothing_next x p = cc

pub step_leads : (t : Network) (steps : List Step) (number : ℕ) (lines : List Bytes) (x : Said) (s : Step) → next_line t (record { number = number; lines = lines }) ≡ Some (Ok x) → IsSaidStep t steps x s
    → (last : List Step) → Leads t (s ∷ steps) (Unread.lines (behind (record { number = number; lines = lines }))) last → Leads t steps lines last
step_leads t steps number [] x s e is last leads = absurd (nothing_next x e)
step_leads t steps number (line ∷ lines) x s e is last leads = (s, (x, read_is t line (record { 0 = number }) x e, is), leads)

pub step_fails : (t : Network) (steps : List Step) (number : ℕ) (lines : List Bytes) (x : Said) (s : Step) → next_line t (record { number = number; lines = lines }) ≡ Some (Ok x) → IsSaidStep t steps x s
    → (f : ReplayFault) → Fails t (s ∷ steps) (Unread.number (behind (record { number = number; lines = lines }))) (Unread.lines (behind (record { number = number; lines = lines }))) f → Fails t steps number lines f
step_fails t steps number [] x s e is f fails = absurd (nothing_next x e)
step_fails t steps number (line ∷ lines) x s e is f fails =
    let more : number + 1 ≡ suc number = omega arith in
    inr (s, (x, read_is t line (record { 0 = number }) x e, is), subst (λ z. Fails t (s ∷ steps) z lines f) more fails)

pub said_fails : (t : Network) (steps : List Step) (number : ℕ) (lines : List Bytes) (x : Said) → next_line t (record { number = number; lines = lines }) ≡ Some (Ok x) → (f : ReplayFault) → IsSaidFault t steps number x f → Fails t steps number lines f
said_fails t steps number [] x e f is = absurd (nothing_next x e)
said_fails t steps number (line ∷ lines) x e f is = inl (inr (x, read_is t line (record { 0 = number }) x e, is))

pub none_left : (t : Network) (steps : List Step) (number : ℕ) (lines : List Bytes) → next_line t (record { number = number; lines = lines }) ≡ None → Leads t steps lines steps
none_left t steps number [] e = refl
none_left t steps number (line ∷ lines) e = absurd (no e)
  where
    no : {r : Result Said MalformedLine} → ◌≡◌ {A = Option (Result Said MalformedLine)} (Some r) None → ⊥
    no p = cc
