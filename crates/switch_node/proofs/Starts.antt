-- Inputs that are done at once.
use Rattle.std.proofs.Common.{◌≡◌, ℕ, ◌+◌, List, [], ◌∷◌, filter, Some, None, true, false, not, length, Bool, cond, suc, ◌++◌, subst, refl, ap, sym, ◌∙◌, arith}
use Rattle.network_law.specs.declared.fault.StepFault.{StepFault}
use Rattle.net_rows.specs.Network.{Network}
use Rattle.network_law.specs.Entries as entries
use Rattle.network_law.specs.Entries.{read_input}
use Rattle.network_law.specs.Traces as messages
use Rattle.node_machine.specs.Books.{Stored, Advised, Granted}
use Rattle.node_books.specs.declared.effect.Effect.TheVariants as effects
use Rattle.node_machine.specs.Machine as machine
use Rattle.node_machine.specs.Machine.{refuse}
use Rattle.node_machine.specs.Lists.{Lists, view, ask_at}
use Rattle.network_law.specs.declared.grant.Grant.{Grant}
use Rattle.network_law.specs.declared.grant.GrantPacket.{GrantPacket}
use Rattle.advice_store.specs.Advices.{packet_acked}
use Rattle.node_machine.specs.Steps as steps
use Rattle.node_books.specs.Effects.{Drafted, progress, with_effect}
use Rattle.node_books.specs.declared.effect.Effect.{Effect}
use Rattle.step_draft.specs.Used.{IsQuiet}
use Rattle.message_steps.proofs.Stays.{stays, zero_plus}
use Rattle.switch_node.specs.Node.{Does, fault_in}

pub does_up : (t : Network) (n l : ℕ) (before after : Drafted) → progress after ≡ steps.step t n before.base (messages.LinkUp l) → Does t n (entries.LinkUp l) before after
unfolding read_input refuse
does_up t n l before after e = record { read = messages.LinkUp l; reads = refl; accepted = refl; done = e }

pub does_dated : (t : Network) (n : ℕ) (date : List ℕ) (before after : Drafted) → progress after ≡ steps.step t n before.base (messages.NewDate date) → Does t n (entries.NewDate date) before after
unfolding read_input refuse
does_dated t n date before after e = record { read = messages.NewDate date; reads = refl; accepted = refl; done = e }

up_acks : (l : ℕ) (a : Stored) → machine.acks (messages.LinkUp l) a ≡ false
up_acks l (Advised a) = refl
up_acks l (Granted g) = refl

date_acks : (date : List ℕ) (a : Stored) → machine.acks (messages.NewDate date) a ≡ false
date_acks date (Advised a) = refl
date_acks date (Granted g) = refl

answer_acks : (ask : ℕ) (c : List ℕ) (a : Stored) → machine.acks (messages.HostAnswer ask c) a ≡ false
answer_acks ask c (Advised a) = refl
answer_acks ask c (Granted g) = refl

pub starts_up : (t : Network) (n l : ℕ) (x : Lists) → progress (record { base = x; effects = effects.LinkIs l true ∷ [] }) ≡ steps.step t n x (messages.LinkUp l)
unfolding steps.step
starts_up t n l x = rw (stays (messages.LinkUp l) (up_acks l) x.store, zero_plus x.count) refl

pub starts_dated : (t : Network) (n : ℕ) (date : List ℕ) (x : Lists) → progress (record { base = x; effects = effects.Dated date ∷ [] }) ≡ steps.step t n x (messages.NewDate date)
unfolding steps.step
starts_dated t n date x = rw (stays (messages.NewDate date) (date_acks date) x.store, zero_plus x.count) refl

-- an input that changes nothing as it comes in
quiet_start : (t : Network) (n a : ℕ) (c : List ℕ) (x : Lists) → steps.start t n (messages.HostAnswer a c) x ≡ progress (record { base = x; effects = [] })
quiet_start t n a c x = rw (stays (messages.HostAnswer a c) (answer_acks a c) x.store, zero_plus x.count) refl

down_acks : (l : ℕ) (a : Stored) → machine.acks (messages.LinkDown l) a ≡ false
down_acks l (Advised a) = refl
down_acks l (Granted g) = refl

tick_acks : (a : Stored) → machine.acks messages.Tick a ≡ false
tick_acks (Advised a) = refl
tick_acks (Granted g) = refl

pub starts_down : (t : Network) (n l : ℕ) (x : Lists) → progress (record { base = x; effects = effects.LinkIs l false ∷ [] }) ≡ steps.start t n (messages.LinkDown l) x
starts_down t n l x = rw (stays (messages.LinkDown l) (down_acks l) x.store, zero_plus x.count) refl

one_plus : (n : ℕ) → 1 + n ≡ suc n
one_plus n = omega arith

pub starts_tick : (t : Network) (n : ℕ) (x : Lists) → progress (record { base = x; effects = effects.Ticked ∷ [] }) ≡ steps.start t n messages.Tick x
starts_tick t n x = rw (stays messages.Tick tick_acks x.store, one_plus x.count) refl

-- one change of the books
pub changed : (x : Lists) (e : Effect) (d d' : Drafted) → d.effects ≡ [] → d.base ≡ x → d' ≡ with_effect e d → d' ≡ record { base = x; effects = e ∷ [] }
changed x e d d' empty base is = is ∙ (λ j. record { base = base j; effects = (ap (λ (es : List Effect). es ++ e ∷ []) empty) j })

pub down_quiet : (x : Lists) (l : ℕ) (up : Bool) (d : Drafted) → d ≡ record { base = x; effects = effects.LinkIs l up ∷ [] } → IsQuiet d.base (progress d).lists
down_quiet x l up d e = subst (λ (z : Drafted). IsQuiet z.base (progress z).lists) (sym e) (record { marks = refl; loans = refl; borrowed = refl })

pub downs : (t : Network) (n l : ℕ) (x : Lists) (d d' : Drafted) (p : steps.Progress) → d ≡ record { base = x; effects = effects.LinkIs l false ∷ [] } → p ≡ steps.fail_all t n (view t n d.base) (machine.failing t (view t n d.base) (messages.LinkDown l)) (progress d) → p ≡ steps.step t n x (messages.LinkDown l)
unfolding steps.step
downs t n l x d d' p e f =
    f
    ∙ (ap (λ (z : Drafted). steps.fail_all t n (view t n z.base) (machine.failing t (view t n z.base) (messages.LinkDown l)) (progress z)) e
    ∙ ap (λ z. steps.fail_all t n (view t n x) (machine.failing t (view t n x) (messages.LinkDown l)) z) (starts_down t n l x))

pub does_down : (t : Network) (n l : ℕ) (before after : Drafted) → progress after ≡ steps.step t n before.base (messages.LinkDown l) → Does t n (entries.LinkDown l) before after
unfolding read_input refuse
does_down t n l before after e = record { read = messages.LinkDown l; reads = refl; accepted = refl; done = e }

-- the host's code
pub does_host : (t : Network) (n a : ℕ) (c : List ℕ) (before after : Drafted) → before.effects ≡ [] → None ≡ refuse t n (view t n before.base) (messages.HostAnswer a c) → progress after ≡ steps.on_host t n (view t n before.base) c (ask_at before.base.asks a) (progress before) → Does t n (entries.HostAnswer a c) before after
unfolding read_input steps.step
does_host t n a c before after empty none e = record {
  read = messages.HostAnswer a c;
  reads = refl;
  accepted = sym none;
  done = e ∙ ap (steps.on_host t n (view t n before.base) c (ask_at before.base.asks a)) (ap (λ es. progress (record { base = before.base; effects = es })) empty ∙ sym (quiet_start t n a c before.base));
}

pub faults_host : (t : Network) (n a : ℕ) (c : List ℕ) (x : Lists) (f : StepFault) → Some f ≡ refuse t n (view t n x) (messages.HostAnswer a c) → fault_in t n x (read_input (entries.HostAnswer a c)) ≡ Some f
unfolding read_input
faults_host t n a c x f e = sym e

pub tick_quiet : (x : Lists) (d : Drafted) → d ≡ record { base = x; effects = effects.Ticked ∷ [] } → IsQuiet d.base (progress d).lists
tick_quiet x d e = subst (λ (z : Drafted). IsQuiet z.base (progress z).lists) (sym e) (record { marks = refl; loans = refl; borrowed = refl })

pub ticks : (t : Network) (n : ℕ) (x y : Lists) (d : Drafted) (p p' : steps.Progress) → d ≡ record { base = x; effects = effects.Ticked ∷ [] } → y ≡ x → p ≡ steps.send_all t n (machine.due t (view t n d.base)) (progress d) → p' ≡ steps.fail_all t n (view t n y) (machine.failing t (view t n y) messages.Tick) p → p' ≡ steps.step t n x messages.Tick
unfolding steps.step
ticks t n x y d p p' e ey f g =
    g
    ∙ (ap (λ (z : Lists). steps.fail_all t n (view t n z) (machine.failing t (view t n z) messages.Tick) p) ey
    ∙ ap (λ z. steps.fail_all t n (view t n x) (machine.failing t (view t n x) messages.Tick) z)
    (f
    ∙ (ap (λ (z : Drafted). steps.send_all t n (machine.due t (view t n z.base)) (progress z)) e
    ∙ ap (λ z. steps.send_all t n (machine.due t (view t n x)) z) (starts_tick t n x))))

pub does_tick : (t : Network) (n : ℕ) (before after : Drafted) → progress after ≡ steps.step t n before.base messages.Tick → Does t n entries.Tick before after
unfolding read_input refuse
does_tick t n before after e = record { read = messages.Tick; reads = refl; accepted = refl; done = e }

packet_store : (l s : ℕ) (p : GrantPacket) (xs : List Stored) → filter (λ a. not (packet_acked p a)) xs ≡ filter (λ a. not (machine.acks (messages.TakePacket l s p) a)) xs
packet_store l s p [] = refl
packet_store l s p (Advised a ∷ xs) = ap (λ z. Advised a ∷ z) (packet_store l s p xs)
packet_store l s p (Granted g ∷ xs) = ap (λ z. cond (not (machine.packet_acks p g)) (Granted g ∷ z) z) (packet_store l s p xs)

starts_packet : (t : Network) (n l s : ℕ) (p : GrantPacket) (x : Lists) → progress (record { base = x; effects = effects.PacketTaken p ∷ [] }) ≡ steps.start t n (messages.TakePacket l s p) x
starts_packet t n l s p x = rw (packet_store l s p x.store, zero_plus x.count) refl

pub packets_taken : (t : Network) (n l s : ℕ) (pk : GrantPacket) (x : Lists) (d : Drafted) (p : steps.Progress) → d ≡ record { base = x; effects = effects.PacketTaken pk ∷ [] } → p ≡ steps.on_packet t n l pk (progress d) → p ≡ steps.step t n x (messages.TakePacket l s pk)
unfolding steps.step
packets_taken t n l s pk x d p e f = f ∙ (ap (λ (z : Drafted). steps.on_packet t n l pk (progress z)) e ∙ ap (steps.on_packet t n l pk) (starts_packet t n l s pk x))

starts_lend : (t : Network) (n m : ℕ) (card date : List ℕ) (amount : ℕ) (x : Lists) → progress (record { base = x; effects = effects.Lent (record { grant = machine.new_grant t n (suc (length x.loans)) m card date amount; borrower = m; count = x.count }) ∷ [] }) ≡ steps.start t n (messages.Lend m card date amount) x
starts_lend t n m card date amount x = rw (zero_plus x.count) refl

pub lends : (t : Network) (n m : ℕ) (card date : List ℕ) (amount : ℕ) (g : Grant) (x : Lists) (d : Drafted) (p : steps.Progress) → g ≡ machine.new_grant t n (suc (length x.loans)) m card date amount → d ≡ record { base = x; effects = effects.Lent (record { grant = g; borrower = m; count = x.count }) ∷ [] } → p ≡ steps.send_grant t n m g (progress d) → p ≡ steps.step t n x (messages.Lend m card date amount)
unfolding steps.step
lends t n m card date amount g x d p eg e f =
    f
    ∙ (ap (λ (z : Drafted). steps.send_grant t n m g (progress z)) e
    ∙ (ap (λ (z : Grant). steps.send_grant t n m z (progress (record { base = x; effects = effects.Lent (record { grant = z; borrower = m; count = x.count }) ∷ [] }))) eg
    ∙ ap (λ z. steps.send_grant t n m (machine.new_grant t n (suc (length x.loans)) m card date amount) z) (starts_lend t n m card date amount x)))

pub does_lend : (t : Network) (n m : ℕ) (card date : List ℕ) (amount : ℕ) (before after : Drafted) → None ≡ refuse t n (view t n before.base) (messages.Lend m card date amount) → progress after ≡ steps.step t n before.base (messages.Lend m card date amount) → Does t n (entries.Lend m card date amount) before after
unfolding read_input
does_lend t n m card date amount before after none done = record { read = messages.Lend m card date amount; reads = refl; accepted = sym none; done = done }

pub faults_lend : (t : Network) (n m : ℕ) (card date : List ℕ) (amount : ℕ) (x : Lists) (f : StepFault) → Some f ≡ refuse t n (view t n x) (messages.Lend m card date amount) → fault_in t n x (read_input (entries.Lend m card date amount)) ≡ Some f
unfolding read_input
faults_lend t n m card date amount x f e = sym e
