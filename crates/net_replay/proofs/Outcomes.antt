-- Steps to which lines lead, and faults, are those of the function.
use Rattle.std.proofs.Common.{◌≡◌, ℕ, zero, suc, ◌<◌, List, [], ◌∷◌, length, Option, Some, None, Ok, Err, Bool, true, false, cond, eqb, eqb-true, refl, sym, ap, ◌∙◌, subst, inl, inr}
use Rattle.std.specs.Option.{option_map}
use Rattle.net_rows.specs.Network.{Network, other_end}
use Rattle.network_law.specs.Cards.{Bytes}
use Rattle.network_law.specs.Checked.{IsChecked}
use Rattle.network_law.specs.Tables.{is_link_of}
use Rattle.network_law.specs.Entries.{Input}
use Rattle.network_law.specs.Entries as inputs
use Rattle.network_law.specs.Runs.{IsLegal, IsStep, step_outputs}
use Rattle.replay_script.specs.Lines.{Event, Said, Enter, Take, LinkUp, LinkDown, Tick, HostAnswer, NewDate, Lend, read_line}
use Rattle.net_replay.specs.declared.fault.ReplayFault.{ReplayFault}
use Rattle.net_replay.specs.declared.fault.ReplayFault.TheVariants.{Line, NoSuchPacket, Step as StepOf, Memory}
use Rattle.net_replay.specs.Steps.{Step, entries_at, packets}
use Rattle.net_replay.specs.Packets.{by_serial}
use Rattle.net_replay.specs.Replays.{WasSent, IsInput, LacksPacket, IsSaidStep, IsStepOf, IsSaidFault, IsFaultOf, Leads, Fails}
use Rattle.net_replay.specs.Outcome.{packet_at, input_of, step_of, unless_refused, made_of, line_outcome, and_then, outcome_from}
use Rattle.net_replay.proofs.Ends.{end_there}
use Rattle.net_replay.proofs.Reading.{IsOwn, line_placed}
use Rattle.net_replay.proofs.Serials.{packet_was_put, put_is_packet}

abbrev pub AreLegal : Network → List Step → Type 0
AreLegal t steps = (n : ℕ) → n < length t.nodes → IsLegal t n (entries_at n steps)

-- a step more
legal_more : (t : Network) (steps : List Step) (s : Step) → AreLegal t steps → IsStep t s.node (entries_at s.node steps) s.entry → AreLegal t (s ∷ steps)
legal_more t steps s legal step m less = go (eqb s.node m) refl
  where
    go : (b : Bool) → eqb s.node m ≡ b → IsLegal t m (cond (eqb s.node m) (s.entry ∷ entries_at m steps) (entries_at m steps))
    go true same = rw same (legal m less, subst (λ z. IsStep t z (entries_at z steps) s.entry) (eqb-true s.node m same) step)
    go false other = rw other (legal m less)

-- what was sent is the packet of its serial
sent_packet : (t : Network) → IsChecked t → (steps : List Step) → AreLegal t steps → (n l s : ℕ) (bytes : Bytes) → is_link_of t n l ≡ true → WasSent t steps n l s bytes → packet_at t steps n l s ≡ Some bytes
sent_packet t checked steps legal n l s bytes own w =
    let less = end_there t checked n l own in
    let p = put_is_packet t checked (other_end t n l) less (entries_at (other_end t n l) steps) (legal (other_end t n l) less) l s bytes w in
    ap (λ z. by_serial z (packets l (entries_at (other_end t n l) steps))) p.1 ∙ p.2

-- and a packet was sent
packet_sent : (t : Network) → IsChecked t → (steps : List Step) → AreLegal t steps → (n l s : ℕ) (bytes : Bytes) → is_link_of t n l ≡ true → packet_at t steps n l s ≡ Some bytes → WasSent t steps n l s bytes
packet_sent t checked steps legal n l zero bytes own at = absurd (no at)
  where
    no : ◌≡◌ {A = Option Bytes} None (Some bytes) → ⊥
    no q = cc
packet_sent t checked steps legal n l (suc s) bytes own at =
    let less = end_there t checked n l own in
    packet_was_put t checked (other_end t n l) less (entries_at (other_end t n l) steps) (legal (other_end t n l) less) l s bytes at

input_is : (t : Network) → IsChecked t → (steps : List Step) → AreLegal t steps → (n : ℕ) (v : Event) (i : Input) → IsOwn t n v → IsInput t steps n v i → input_of t steps n v ≡ Some i
input_is t checked steps legal n (Take l s) i own is = ap (option_map (inputs.Take l s)) (sent_packet t checked steps legal n l s is.0 own is.2) ∙ ap Some (sym is.1)
input_is t checked steps legal n (Enter bytes) i own is = ap Some (sym is)
input_is t checked steps legal n (LinkUp l) i own is = ap Some (sym is)
input_is t checked steps legal n (LinkDown l) i own is = ap Some (sym is)
input_is t checked steps legal n Tick i own is = ap Some (sym is)
input_is t checked steps legal n (HostAnswer a code) i own is = ap Some (sym is)
input_is t checked steps legal n (NewDate date) i own is = ap Some (sym is)
input_is t checked steps legal n (Lend m card date amount) i own is = ap Some (sym is)

lacks_input : (t : Network) → IsChecked t → (steps : List Step) → AreLegal t steps → (n : ℕ) (v : Event) → IsOwn t n v → LacksPacket t steps n v → input_of t steps n v ≡ None
lacks_input t checked steps legal n (Take l s) own lacks = go (packet_at t steps n l s) refl
  where
    go : (o : Option Bytes) → packet_at t steps n l s ≡ o → option_map (inputs.Take l s) (packet_at t steps n l s) ≡ None
    go None at = ap (option_map (inputs.Take l s)) at
    go (Some bytes) at = absurd (lacks bytes (packet_sent t checked steps legal n l s bytes own at))
lacks_input t checked steps legal n (Enter bytes) own lacks = absurd lacks
lacks_input t checked steps legal n (LinkUp l) own lacks = absurd lacks
lacks_input t checked steps legal n (LinkDown l) own lacks = absurd lacks
lacks_input t checked steps legal n Tick own lacks = absurd lacks
lacks_input t checked steps legal n (HostAnswer a code) own lacks = absurd lacks
lacks_input t checked steps legal n (NewDate date) own lacks = absurd lacks
lacks_input t checked steps legal n (Lend m card date amount) own lacks = absurd lacks

-- a line that leads to a step has it as its outcome

said_outcome : (t : Network) → IsChecked t → (steps : List Step) → AreLegal t steps → (number : ℕ) (x : Said) (s : Step) → IsOwn t x.node x.event → IsSaidStep t steps x s → line_outcome t steps number (Some x) ≡ Ok s
said_outcome t checked steps legal number x s own is =
    ap (made_of t steps number x.node) (input_is t checked steps legal x.node x.event s.entry.input own is.input)
    ∙ (ap (λ f. unless_refused number f (step_of t steps x.node s.entry.input)) is.step.accepted
    ∙ ap Ok (whole s is.node is.step.outputs))
  where
    whole : (s : Step) → s.node ≡ x.node → s.entry.outputs ≡ step_outputs t x.node (entries_at x.node steps) s.entry.input → step_of t steps x.node s.entry.input ≡ s
    whole s at outputs = ap (λ z. record { node = x.node; entry = record { input = s.entry.input; outputs = z } }) (sym outputs) ∙ ap (λ z. record { node = z; entry = s.entry }) (sym at)

step_outcome : (t : Network) → IsChecked t → (steps : List Step) → AreLegal t steps → (number : ℕ) (line : Bytes) (s : Step) → IsStepOf t steps line s → line_outcome t steps number (read_line t line) ≡ Ok s
step_outcome t checked steps legal number line s is = ap (line_outcome t steps number) is.1 ∙ said_outcome t checked steps legal number is.0 s (line_placed t line is.0 is.1).1 is.2

step_legal : (t : Network) (steps : List Step) → AreLegal t steps → (line : Bytes) (s : Step) → IsStepOf t steps line s → AreLegal t (s ∷ steps)
step_legal t steps legal line s is = legal_more t steps s legal (subst (λ z. IsStep t z (entries_at z steps) s.entry) (sym is.2.node) is.2.step)

-- lines that lead to steps have these as their outcome
pub leads_outcome : (t : Network) → IsChecked t → (lines : List Bytes) (steps : List Step) (number : ℕ) (last : List Step) → AreLegal t steps → Leads t steps lines last → outcome_from t steps number lines ≡ Ok last
leads_outcome t checked [] steps number last legal leads = ap Ok (sym leads)
leads_outcome t checked (line ∷ lines) steps number last legal leads =
    ap (λ r. and_then r (λ s. outcome_from t (s ∷ steps) (suc number) lines)) (step_outcome t checked steps legal number line leads.0 leads.1)
    ∙ leads_outcome t checked lines (leads.0 ∷ steps) (suc number) last (step_legal t steps legal line leads.0 leads.1) leads.2

-- a fault of what a line says is its outcome
said_fault : (t : Network) → IsChecked t → (steps : List Step) → AreLegal t steps → (number : ℕ) (x : Said) (f : ReplayFault) → IsOwn t x.node x.event → IsSaidFault t steps number x f → line_outcome t steps number (Some x) ≡ Err f
said_fault t checked steps legal number x (NoSuchPacket n) own is =
    ap (made_of t steps number x.node) (lacks_input t checked steps legal x.node x.event own is.1) ∙ ap (λ z. Err (NoSuchPacket z)) (sym is.0)
said_fault t checked steps legal number x (StepOf n f) own is =
    ap (made_of t steps number x.node) (input_is t checked steps legal x.node x.event is.1.0 own is.1.1)
    ∙ (ap (λ z. unless_refused number z (step_of t steps x.node is.1.0)) is.1.2 ∙ ap (λ z. Err (StepOf z f)) (sym is.0))
said_fault t checked steps legal number x (Line n) own is = absurd is
said_fault t checked steps legal number x Memory own is = absurd is

fault_outcome : (t : Network) → IsChecked t → (steps : List Step) → AreLegal t steps → (number : ℕ) (line : Bytes) (f : ReplayFault) → IsFaultOf t steps number line f → line_outcome t steps number (read_line t line) ≡ Err f
fault_outcome t checked steps legal number line f (inl is) = ap (line_outcome t steps number) is.1 ∙ ap Err (sym is.0)
fault_outcome t checked steps legal number line f (inr is) = ap (line_outcome t steps number) is.1 ∙ said_fault t checked steps legal number is.0 f (line_placed t line is.0 is.1).1 is.2

-- and the fault of lines
pub fails_outcome : (t : Network) → IsChecked t → (lines : List Bytes) (steps : List Step) (number : ℕ) (f : ReplayFault) → AreLegal t steps → Fails t steps number lines f → outcome_from t steps number lines ≡ Err f
fails_outcome t checked [] steps number f legal fails = absurd fails
fails_outcome t checked (line ∷ lines) steps number f legal (inl is) =
    ap (λ r. and_then r (λ s. outcome_from t (s ∷ steps) (suc number) lines)) (fault_outcome t checked steps legal number line f is)
fails_outcome t checked (line ∷ lines) steps number f legal (inr is) =
    ap (λ r. and_then r (λ s. outcome_from t (s ∷ steps) (suc number) lines)) (step_outcome t checked steps legal number line is.0 is.1)
    ∙ fails_outcome t checked lines (is.0 ∷ steps) (suc number) f (step_legal t steps legal line is.0 is.1) is.2
