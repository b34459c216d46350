-- Bytes as they are read.
use Rattle.std.proofs.Common.{◌≡◌, ℕ, false, refl, sym, ap, ◌∙◌, Option, Some, None, Result, Ok, Err, ◌⊎◌, inl, inr}
use Rattle.iso_message.specs.Fields.{Fields}
use Rattle.card_digits.specs.Attempts.{Gives}
use Rattle.iso_message.specs.Messages.{read, is_memory}
use Rattle.message_elements.specs.declared.fault.DecodeFault.{DecodeFault}
use Rattle.message_elements.specs.declared.fault.DecodeFault.TheVariants as decoding
use Rattle.net_rows.specs.Network.{Network}
use Rattle.network_law.specs.declared.fault.StepFault.{StepFault}
use Rattle.network_law.specs.declared.fault.StepFault.TheVariants.{Decode, Memory}
use Rattle.network_law.specs.Cards.{Bytes}
use Rattle.network_law.specs.Entries as entries
use Rattle.network_law.specs.Entries.{read_input, read_as, packet_or}
use Rattle.network_law.specs.Grants.{read_packet}
use Rattle.network_law.specs.declared.grant.GrantPacket.{GrantPacket}
use Rattle.std.specs.Prelude.{is_some}
use Rattle.network_law.specs.Traces as messages
use Rattle.node_machine.specs.Machine.{refuse}
use Rattle.node_machine.specs.Lists.{Lists, view}
use Rattle.node_machine.specs.Steps as steps
use Rattle.node_books.specs.Effects.{Drafted, progress}
use Rattle.switch_node.specs.Node.{Does, fault_in, unread}

pub does_enter : (t : Network) (n : ℕ) (bytes : Bytes) (m : Fields) (before after : Drafted) → read bytes ≡ Ok m → None ≡ refuse t n (view t n before.base) (messages.Enter m) → progress after ≡ steps.step t n before.base (messages.Enter m) → Does t n (entries.Enter bytes) before after
unfolding read_input
does_enter t n bytes m before after e none done = record { read = messages.Enter m; reads = ap (read_as messages.Enter) e; accepted = sym none; done = done }

pub faults_enter : (t : Network) (n : ℕ) (x : Lists) (bytes : Bytes) (m : Fields) (f : StepFault) → read bytes ≡ Ok m → Some f ≡ refuse t n (view t n x) (messages.Enter m) → fault_in t n x (read_input (entries.Enter bytes)) ≡ Some f
unfolding read_input
faults_enter t n x bytes m f e some = ap (λ r. fault_in t n x (read_as messages.Enter r)) e ∙ sym some

read_fault : (r : Result Fields DecodeFault) (e : DecodeFault) → Gives {X = Fields} is_memory (λ m. m) (Err e) r → (unread e ≡ Memory) ⊎ ((r ≡ Err e) × (unread e ≡ Decode e))
read_fault r decoding.Memory g = inl refl
read_fault r decoding.Short g = inr (g, refl)
read_fault r decoding.BadType g = inr (g, refl)
read_fault r decoding.BitMap g = inr (g, refl)
read_fault r (decoding.Element k) g = inr (g, refl)
read_fault r (decoding.Length k) g = inr (g, refl)
read_fault r (decoding.Character k) g = inr (g, refl)
read_fault r decoding.Trailing g = inr (g, refl)

pub unread_enter : (t : Network) (n : ℕ) (x : Lists) (bytes : Bytes) (e : DecodeFault) → Gives {X = Fields} is_memory (λ m. m) (Err e) (read bytes) → (unread e ≡ Memory) ⊎ (fault_in t n x (read_input (entries.Enter bytes)) ≡ Some (unread e))
unfolding read_input
unread_enter t n x bytes e g = elim (read_fault (read bytes) e g) [
  | inl memory ↦ inl memory
  | inr w ↦ inr (ap (λ r. fault_in t n x (read_as messages.Enter r)) w.0 ∙ ap Some (sym w.1))
]

pub does_take : (t : Network) (n l s : ℕ) (bytes : Bytes) (m : Fields) (before after : Drafted) → None ≡ read_packet bytes → read bytes ≡ Ok m → None ≡ refuse t n (view t n before.base) (messages.Take l s m) → progress after ≡ steps.step t n before.base (messages.Take l s m) → Does t n (entries.Take l s bytes) before after
unfolding read_input
does_take t n l s bytes m before after packet e none done = record { read = messages.Take l s m; reads = ap (λ w. packet_or (messages.TakePacket l s) w (read_as (messages.Take l s) (read bytes))) (sym packet) ∙ ap (read_as (messages.Take l s)) e; accepted = sym none; done = done }

pub faults_take : (t : Network) (n : ℕ) (x : Lists) (l s : ℕ) (bytes : Bytes) (m : Fields) (f : StepFault) → None ≡ read_packet bytes → read bytes ≡ Ok m → Some f ≡ refuse t n (view t n x) (messages.Take l s m) → fault_in t n x (read_input (entries.Take l s bytes)) ≡ Some f
unfolding read_input
faults_take t n x l s bytes m f packet e some = ap (λ w. fault_in t n x (packet_or (messages.TakePacket l s) w (read_as (messages.Take l s) (read bytes)))) (sym packet) ∙ (ap (λ r. fault_in t n x (read_as (messages.Take l s) r)) e ∙ sym some)

pub unread_take : (t : Network) (n : ℕ) (x : Lists) (l s : ℕ) (bytes : Bytes) (e : DecodeFault) → None ≡ read_packet bytes → Gives {X = Fields} is_memory (λ m. m) (Err e) (read bytes) → (unread e ≡ Memory) ⊎ (fault_in t n x (read_input (entries.Take l s bytes)) ≡ Some (unread e))
unfolding read_input
unread_take t n x l s bytes e packet g = elim (read_fault (read bytes) e g) [
  | inl memory ↦ inl memory
  | inr w ↦ inr (ap (λ z. fault_in t n x (packet_or (messages.TakePacket l s) z (read_as (messages.Take l s) (read bytes)))) (sym packet) ∙ (ap (λ r. fault_in t n x (read_as (messages.Take l s) r)) w.0 ∙ ap Some (sym w.1)))
]

pub not_some : {X : Type 0} (w : Option X) → is_some w ≡ false → None ≡ w
not_some None e = refl
not_some (Some x) e = cc

pub does_packet : (t : Network) (n l s : ℕ) (bytes : Bytes) (p : GrantPacket) (before after : Drafted) → Some p ≡ read_packet bytes → None ≡ refuse t n (view t n before.base) (messages.TakePacket l s p) → progress after ≡ steps.step t n before.base (messages.TakePacket l s p) → Does t n (entries.Take l s bytes) before after
unfolding read_input
does_packet t n l s bytes p before after packet none done = record { read = messages.TakePacket l s p; reads = ap (λ w. packet_or (messages.TakePacket l s) w (read_as (messages.Take l s) (read bytes))) (sym packet); accepted = sym none; done = done }

pub faults_packet : (t : Network) (n : ℕ) (x : Lists) (l s : ℕ) (bytes : Bytes) (p : GrantPacket) (f : StepFault) → Some p ≡ read_packet bytes → Some f ≡ refuse t n (view t n x) (messages.TakePacket l s p) → fault_in t n x (read_input (entries.Take l s bytes)) ≡ Some f
unfolding read_input
faults_packet t n x l s bytes p f packet some = ap (λ w. fault_in t n x (packet_or (messages.TakePacket l s) w (read_as (messages.Take l s) (read bytes)))) (sym packet) ∙ sym some
