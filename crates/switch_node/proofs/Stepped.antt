-- One step of a node: the machine over lists joins the legal trace.
use Rattle.std.proofs.Common.{◌≡◌, ℕ, suc, ◌<◌, ◌≤◌, List, [], ◌∷◌, map, filter, reverse, length, Bool, true, false, Option, Some, None, Result, Ok, Err, inl, inr, refl, sym, ap, subst, ◌∙◌, arith, nat_le}
use Rattle.std.proofs.lemmas.Bool.{cases_Bool, leb-false}
use Rattle.std.specs.List.{AllByRecursion, list_all}
use Rattle.std.specs.Option.{option_map_or}
use Rattle.card_digits.specs.Longest.{begins, better, deepest}
use Rattle.message_elements.specs.declared.fault.DecodeFault.{DecodeFault}
use Rattle.iso_message.specs.Fields.{Fields}
use Rattle.iso_message.specs.Messages.{read}
use Rattle.net_rows.specs.Network.{Network, route, routes_of}
use Rattle.net_rows.specs.Sound.{IsSound, is_end}
use Rattle.net_rows.specs.declared.row.Route.{Route}
use Rattle.network_law.specs.declared.fault.StepFault.{StepFault}
use Rattle.network_law.specs.declared.fault.StepFault.TheVariants.{HistoryFull}
use Rattle.network_law.specs.declared.grant.GrantPacket.{GrantPacket}
use Rattle.network_law.specs.Grants.{read_packet}
use Rattle.network_law.specs.Tables.{route_links}
use Rattle.network_law.specs.Checked.{IsChecked, IsBounded}
use Rattle.network_law.specs.Traces.{ReadInput, LinkUp, IsIn}
use Rattle.network_law.specs.Decision.{decide}
use Rattle.network_law.specs.Refusals.{refusal}
use Rattle.network_law.specs.Entries.{Input, Entry, read_input, read_as, packet_or, history, spelled, newest_outputs}
use Rattle.network_law.specs.Runs.{IsLegal, NamesOwnLink, IsTyped, step_refusal, step_outputs, fault_of}
use Rattle.node_machine.specs.Machine.{refuse}
use Rattle.node_machine.specs.Lists.{Lists, view, RoutesFit, InputFits}
use Rattle.node_machine.specs.Steps as steps
use Rattle.node_machine.specs.Steps.{Progress, Ran}
use Rattle.node_machine.specs.Claim.{AreOf, Decides}
use Rattle.node_machine.specs.Counts.{AreWithinEntries}
use Rattle.node_machine.proofs.Decided.{lists_decide, lists_begin, next_are_of}
use Rattle.node_machine.proofs.Growth.{stays_within, begins_within}
use Rattle.node_books.specs.Values.{AreFew}
use Rattle.node_machine.proofs.Readings.{input_fits}
use Rattle.switch_node.specs.Node.{Given, fault_in}

-- routes

same_some : {X : Type 0} (x y : X) → Some x ≡ Some y → x ≡ y
same_some x y e = cc

deepest_in : (rows : List Route) (s : Route) → deepest (λ r. r.prefix) rows ≡ Some s → IsIn s rows
deepest_in [] s e = let q : Path (Option Route) None (Some s) = e in absurd cc
deepest_in (r ∷ rs) s e = go (deepest_in rs s) (deepest (λ r. r.prefix) rs) refl e
  where
    go : (deepest (λ (r : Route). r.prefix) rs ≡ Some s → IsIn s rs) → (w : Option Route) → deepest (λ (r : Route). r.prefix) rs ≡ w → better (λ (r : Route). r.prefix) r w ≡ Some s → IsIn s (r ∷ rs)
    go more None at f = inl (same_some r s f)
    go more (Some b) at f = elim (cases_Bool (Rattle.std.specs.Prelude.nat_lt (length r.prefix) (length b.prefix))) [
      | inl t ↦ inr (more (at ∙ (rw t at f)))
      | inr g ↦ inl (same_some r s (rw g at f))
    ]

filter_out : {X : Type 0} (p : X → Bool) (xs : List X) (x : X) → IsIn x (filter p xs) → IsIn x xs
filter_out p [] x m = m
filter_out p (y ∷ ys) x m = elim (cases_Bool (p y)) [
  | inl t ↦ (elim (rw t at m) [ inl e ↦ inl e | inr k ↦ inr (filter_out p ys x k) ])
  | inr f ↦ inr (filter_out p ys x (rw f at m))
]

all_in : {X : Type 0} (P : X → Type 0) (xs : List X) (x : X) → AllByRecursion P xs → IsIn x xs → P x
all_in P [] x a m = absurd m
all_in P (y ∷ ys) x a (inl e) = subst P e a.0
all_in P (y ∷ ys) x a (inr m) = all_in P ys x a.1 m

list_all_in : (p : ℕ → Bool) (xs : List ℕ) (x : ℕ) → list_all p xs ≡ true → IsIn x xs → p x ≡ true
list_all_in p [] x a m = absurd m
list_all_in p (y ∷ ys) x a m = elim (cases_Bool (p y)) [
  | inl t ↦ (elim m [ inl e ↦ subst (λ z. p z ≡ true) e t | inr k ↦ list_all_in p ys x (rw t at a) k ])
  | inr f ↦ (let q : false ≡ true = rw f at a in absurd cc)
]

pub routes_fit : (t : Network) (n : ℕ) → IsSound t → RoutesFit t n (length t.links)
unfolding route_links
routes_fit t n sound = record { routes = λ card l m. go card l (route t n card) refl m; network = omega arith }
  where
    go : (card : List ℕ) (l : ℕ) (w : Option Route) → route t n card ≡ w → IsIn l (option_map_or (λ (r : Route). r.links) w []) → l < length t.links
    go card l None e k = absurd k
    go card l (Some r) e k =
        let there : IsIn r t.routes = filter_out (λ (q : Route). Rattle.std.specs.Prelude.◌==◌ q.node n) t.routes r (filter_out (λ (q : Route). begins q.prefix card) (routes_of t n) r (deepest_in (filter (λ (q : Route). begins q.prefix card) (routes_of t n)) r e)) in
        let own : is_end t.links r.node l ≡ true = list_all_in (is_end t.links r.node) r.links l (all_in (λ (q : Route). list_all (is_end t.links q.node) q.links ≡ true) t.routes r (IsSound.routes sound) there) k in
        input_fits t r.node (LinkUp l) own

-- a step

pub record Stepped (t : Network) (n : ℕ) (trace : List Entry) (e : Entry) (x : Lists) : Type 0 where
  pub given : Given t n (e ∷ trace) x
  pub accepted : step_refusal t n trace e.input ≡ None
  pub outputs : e.outputs ≡ step_outputs t n trace e.input

same_ok : (i j : ReadInput) → Path (Result ReadInput DecodeFault) (Ok i) (Ok j) → i ≡ j
same_ok i j e = cc

-- the input as it is read fits
reads_fit : (t : Network) (n : ℕ) (i : Input) (j : ReadInput) → read_input i ≡ Ok j → NamesOwnLink t n i → InputFits (length t.links) j
unfolding read_input
reads_fit t n (Rattle.network_law.specs.Entries.Enter bytes) j e own = from_read (Rattle.network_law.specs.Traces.Enter) (read bytes) j e (λ m. tt)
  where
    from_read : (f : Fields → ReadInput) (r : Result Fields DecodeFault) (j : ReadInput) → read_as f r ≡ Ok j → ((m : Fields) → InputFits (length t.links) (f m)) → InputFits (length t.links) j
    from_read f (Ok m) j e h = subst (InputFits (length t.links)) (same_ok (f m) j e) (h m)
    from_read f (Err z) j e h = let q : Path (Result ReadInput DecodeFault) (Err z) (Ok j) = e in absurd cc
reads_fit t n (Rattle.network_law.specs.Entries.Take l s bytes) j e own = go (read_packet bytes) e
  where
    from_read : (r : Result Fields DecodeFault) → read_as (Rattle.network_law.specs.Traces.Take l s) r ≡ Ok j → InputFits (length t.links) j
    from_read (Ok m) e = subst (InputFits (length t.links)) (same_ok (Rattle.network_law.specs.Traces.Take l s m) j e) (input_fits t n (Rattle.network_law.specs.Traces.Take l s m) own)
    from_read (Err z) e = let q : Path (Result ReadInput DecodeFault) (Err z) (Ok j) = e in absurd cc

    go : (w : Option GrantPacket) → packet_or (Rattle.network_law.specs.Traces.TakePacket l s) w (read_as (Rattle.network_law.specs.Traces.Take l s) (read bytes)) ≡ Ok j → InputFits (length t.links) j
    go (Some p) e = subst (InputFits (length t.links)) (same_ok (Rattle.network_law.specs.Traces.TakePacket l s p) j e) (input_fits t n (Rattle.network_law.specs.Traces.TakePacket l s p) own)
    go None e = from_read (read bytes) e
reads_fit t n (Rattle.network_law.specs.Entries.LinkUp l) j e own = subst (InputFits (length t.links)) (same_ok _ j e) (input_fits t n (LinkUp l) own)
reads_fit t n (Rattle.network_law.specs.Entries.LinkDown l) j e own = subst (InputFits (length t.links)) (same_ok _ j e) (input_fits t n (Rattle.network_law.specs.Traces.LinkDown l) own)
reads_fit t n Rattle.network_law.specs.Entries.Tick j e own = subst (InputFits (length t.links)) (same_ok _ j e) tt
reads_fit t n (Rattle.network_law.specs.Entries.HostAnswer a c) j e own = subst (InputFits (length t.links)) (same_ok _ j e) tt
reads_fit t n (Rattle.network_law.specs.Entries.NewDate d) j e own = subst (InputFits (length t.links)) (same_ok _ j e) tt
reads_fit t n (Rattle.network_law.specs.Entries.Lend m card date amount) j e own = subst (InputFits (length t.links)) (same_ok _ j e) tt

abbrev lists_in : Lists → Result Ran StepFault → Lists
lists_in x (Ok r) = r.lists
lists_in x (Err f) = x

abbrev outputs_in : Result Ran StepFault → List Rattle.network_law.specs.Traces.ReadOutput
outputs_in (Ok r) = r.outputs
outputs_in (Err f) = []

-- what the lists refuse is refused
pub faulted : (t : Network) (n : ℕ) (trace : List Entry) (x : Lists) (input : Input) (f : StepFault) → Given t n trace x → NamesOwnLink t n input → nat_le 1000000 (length trace) ≡ false → fault_in t n x (read_input input) ≡ Some f → step_refusal t n trace input ≡ Some f
unfolding step_refusal steps.run
faulted t n trace x input f g own room e = rw room (go (read_input input) refl e)
  where
    with_reads : (i : ReadInput) → read_input input ≡ Ok i → refuse t n (view t n x) i ≡ Some f → refusal t n (history trace) i ≡ Some f
    with_reads i reads r = last (refusal t n (history trace) i) refl
      where
        d : Decides t n (length t.links) trace i x
        d = lists_decide t (Given.checked g) n (length t.links) trace i x (Given.node g) (Given.legal g) (routes_fit t n (IsChecked.sound (Given.checked g))) (reads_fit t n input i reads own) (Given.are g)

        ran : steps.run t n x i ≡ Err f
        ran = rw r refl

        last : (w : Option StepFault) → refusal t n (history trace) i ≡ w → w ≡ Some f
        last None q = let bad : Path (Result Ran StepFault) (Err f) (Ok _) = sym ran ∙ Decides.outputs d q in absurd cc
        last (Some h) q = let is : Path (Result Ran StepFault) (Err h) (Err f) = sym (Decides.fault d h q) ∙ ran in cc

    go : (r : Result ReadInput DecodeFault) → read_input input ≡ r → fault_in t n x r ≡ Some f → fault_of t n (history trace) r ≡ Some f
    go (Ok i) at q = with_reads i at q
    go (Err z) at q = q

pub full : (t : Network) (n : ℕ) (trace : List Entry) (input : Input) → nat_le 1000000 (length trace) ≡ true → step_refusal t n trace input ≡ Some HistoryFull
unfolding step_refusal
full t n trace input e = rw e refl

few_entries : (entries : ℕ) → nat_le 1000000 entries ≡ false → entries < 1000000
few_entries entries room = omega (arith, leb-false 1000000 entries room)

few_within : (entries : ℕ) (x : Lists) → entries ≤ 1000000 → AreWithinEntries entries x → AreFew x
few_within entries x most w = record {
  puts = λ l. (let a = w.in_links l in omega (arith, a, most));
  ticks = (let a = w.in_count in omega (arith, a, most));
}

-- after one entry more, puts and ticks are few
pub few_next : (t : Network) (n : ℕ) (trace : List Entry) (x : Lists) (i : ReadInput) (p : Progress) → Given t n trace x → nat_le 1000000 (length trace) ≡ false → p ≡ steps.step t n x i → AreFew p.lists
few_next t n trace x i p g room done =
    let less : length trace < 1000000 = few_entries (length trace) room in
    subst (λ (z : Progress). AreFew z.lists) (sym done) (few_within (suc (length trace)) _ (omega (arith, less)) (stays_within t n (length trace) i x less (Given.within g)))

module _ (t : Network) (n : ℕ) (trace : List Entry) (x : Lists) (e : Entry) (i : ReadInput) (p : Progress) (g : Given t n trace x) (own : NamesOwnLink t n e.input) (typed : IsTyped e.input) (reads : read_input e.input ≡ Ok i) (room : nat_le 1000000 (length trace) ≡ false) (accepted : refuse t n (view t n x) i ≡ None) (done : p ≡ steps.step t n x i) (outs : e.outputs ≡ map spelled (reverse p.outs)) where
  abbrev d : Decides t n (length t.links) trace i x
  d = lists_decide t (Given.checked g) n (length t.links) trace i x (Given.node g) (Given.legal g) (routes_fit t n (IsChecked.sound (Given.checked g))) (reads_fit t n e.input i reads own) (Given.are g)

  ran : steps.run t n x i ≡ Ok (record { lists = p.lists; outputs = reverse p.outs })
  unfolding steps.run
  ran = rw (accepted, done) refl

  none : refusal t n (history trace) i ≡ None
  none = go (refusal t n (history trace) i) refl
    where
      go : (w : Option StepFault) → refusal t n (history trace) i ≡ w → w ≡ None
      go None q = refl
      go (Some f) q = let bad : Path (Result Ran StepFault) (Ok (record { lists = p.lists; outputs = reverse p.outs })) (Err f) = sym ran ∙ Decides.fault d f q in absurd cc

  same : Path (Result Ran StepFault) (Ok (record { lists = p.lists; outputs = reverse p.outs })) (Ok (record { lists = Decides.next d; outputs = newest_outputs (decide t n (history trace) i) }))
  same = sym ran ∙ Decides.outputs d none

  lists_same : p.lists ≡ Decides.next d
  lists_same = ap (lists_in x) same

  outputs_same : reverse p.outs ≡ newest_outputs (decide t n (history trace) i)
  outputs_same = ap outputs_in same

  step_accepted : step_refusal t n trace e.input ≡ None
  unfolding step_refusal
  step_accepted = rw (room, reads) none

  step_outs : e.outputs ≡ step_outputs t n trace e.input
  unfolding step_outputs
  step_outs = rw reads (outs ∙ ap (map spelled) outputs_same)

  legal_more : IsLegal t n (e ∷ trace)
  legal_more = (Given.legal g, record { own = own; typed = typed; accepted = step_accepted; outputs = step_outs })

  within_more : AreWithinEntries (length (e ∷ trace)) p.lists
  within_more = subst (λ (z : Progress). AreWithinEntries (suc (length trace)) z.lists) (sym done) (stays_within t n (length trace) i x (few_entries (length trace) room) (Given.within g))

  pub stepped : Stepped t n trace e p.lists
  stepped = record {
    given = record {
      checked = Given.checked g;
      bounded = Given.bounded g;
      node = Given.node g;
      legal = legal_more;
      are = subst (AreOf t n (length t.links) (e ∷ trace)) (sym lists_same) (next_are_of t (Given.checked g) n (length t.links) e trace i x (Given.node g) legal_more reads d);
      within = within_more;
    };
    accepted = step_accepted;
    outputs = step_outs;
  }

-- a node to which nothing came yet
pub new_node : (t : Network) (n : ℕ) (d : Rattle.node_books.specs.Effects.Drafted) → IsChecked t → IsBounded t → n < length t.nodes → d ≡ record { base = Rattle.node_machine.specs.Lists.empty t (length t.links); effects = [] } → Rattle.switch_node.specs.Node.IsNode t n [] d
new_node t n d checked bounded less e = rw e (record { given = record { checked = checked; bounded = bounded; node = less; legal = tt; are = lists_begin t n (length t.links); within = begins_within t (length t.links) }; empty = refl })
