-- What a node is given and puts out, with the bytes of messages; and the same with the messages that the bytes spell.
use Rattle.std.specs.Prelude.{ℕ, ◌≡◌, List, [], ◌∷◌, length, map, Option, Some, None, Result, Ok, Err}
use Rattle.message_elements.specs.declared.fault.DecodeFault.{DecodeFault}
use Rattle.message_elements.specs.declared.form.Class.TheVariants.{Text}
use Rattle.message_elements.specs.Values.{AreOf}
use Rattle.iso_message.specs.Fields.{Fields}
use Rattle.iso_message.specs.Messages.{read}
use Rattle.iso_message.specs.Spelling.{spelling}
use Rattle.network_law.specs.Cards.{Bytes}
use Rattle.network_law.specs.declared.grant.GrantPacket.{GrantPacket}
use Rattle.network_law.specs.Grants.{read_packet, packet_bytes}
use Rattle.network_law.specs.Traces.{ReadInput, ReadOutput, In, Out, History}
use Rattle.network_law.specs.Traces as messages

-- two characters
abbrev pub IsCode : Bytes → Type 0
IsCode code = (length code ≡ 2) × AreOf Text code

-- the bytes of a message that an acquirer enters or that comes by a link, as a grant and what acknowledges one may; a link of the
-- node; the host's code for an ask of the node; the digits of the new settlement date; what the node is to lend to another
pub data Input : Type 0 where
  Enter : (bytes : Bytes) → Input
  Take : (link serial : ℕ) (bytes : Bytes) → Input
  LinkUp : (link : ℕ) → Input
  LinkDown : (link : ℕ) → Input
  Tick : Input
  HostAnswer : (ask : ℕ) (code : Bytes) → Input
  NewDate : (date : List ℕ) → Input
  Lend : (borrower : ℕ) (card date : List ℕ) (amount : ℕ) → Input

-- serials of a node's puts on one link, and its asks, count from 1
pub data Output : Type 0 where
  Put : (link serial : ℕ) (bytes : Bytes) → Output
  Answer : (bytes : Bytes) → Output
  Ask : (ask : ℕ) (bytes : Bytes) → Output
  Post : (bytes : Bytes) → Output

pub record Entry : Type 0 where
  pub input : Input
  pub outputs : List Output

-- reading

abbrev pub read_as : {X : Type 0} → (Fields → X) → Result Fields DecodeFault → Result X DecodeFault
read_as f (Ok m) = Ok (f m)
read_as f (Err fault) = Err fault

-- a packet, or else the message that the bytes spell
abbrev pub packet_or : {X : Type 0} → (GrantPacket → X) → Option GrantPacket → Result X DecodeFault → Result X DecodeFault
packet_or f (Some p) other = Ok (f p)
packet_or f None other = other

unfoldable pub read_input : Input → Result ReadInput DecodeFault
read_input (Enter bytes) = read_as messages.Enter (read bytes)
read_input (Take l s bytes) = packet_or (messages.TakePacket l s) (read_packet bytes) (read_as (messages.Take l s) (read bytes))
read_input (LinkUp l) = Ok (messages.LinkUp l)
read_input (LinkDown l) = Ok (messages.LinkDown l)
read_input Tick = Ok messages.Tick
read_input (HostAnswer a code) = Ok (messages.HostAnswer a code)
read_input (NewDate date) = Ok (messages.NewDate date)
read_input (Lend m card date amount) = Ok (messages.Lend m card date amount)

unfoldable pub read_output : Output → Result ReadOutput DecodeFault
read_output (Put l s bytes) = packet_or (messages.PutPacket l s) (read_packet bytes) (read_as (messages.Put l s) (read bytes))
read_output (Answer bytes) = read_as messages.Answer (read bytes)
read_output (Ask a bytes) = read_as (messages.Ask a) (read bytes)
read_output (Post bytes) = read_as messages.Post (read bytes)

-- with what could be read
abbrev pub with_read : {X : Type 0} → Result X DecodeFault → List X → List X
with_read (Ok x) xs = x ∷ xs
with_read (Err fault) xs = xs

abbrev pub read_outputs : List Output → List ReadOutput
read_outputs [] = []
read_outputs (o ∷ os) = with_read (read_output o) (read_outputs os)

pub record ReadEntry : Type 0 where
  pub input : ReadInput
  pub outputs : List ReadOutput

abbrev pub read_entry : Entry → Result ReadEntry DecodeFault
read_entry e = entry_of (read_input e.input)
  where
    entry_of : Result ReadInput DecodeFault → Result ReadEntry DecodeFault
    entry_of (Ok i) = Ok (record { input = i; outputs = read_outputs e.outputs })
    entry_of (Err fault) = Err fault

-- the trace in messages; traces stand with their newest entry first
unfoldable pub read_trace : List Entry → List ReadEntry
unfolding read_input read_output
read_trace [] = []
read_trace (e ∷ es) = with_read (read_entry e) (read_trace es)

-- histories

-- the outputs on top of a history, the last one first
abbrev pub put_out : ReadInput → List ReadOutput → History → History
put_out i [] h = h
put_out i (o ∷ os) h = put_out i os (Out i o ∷ h)

unfoldable pub read_history : List ReadEntry → History
read_history [] = []
read_history (e ∷ es) = put_out e.input e.outputs (In e.input ∷ read_history es)

-- the history of a trace
unfoldable pub history : List Entry → History
unfolding read_history read_trace
history es = read_history (read_trace es)

-- writing

-- the output with its message spelled
unfoldable pub spelled : ReadOutput → Output
unfolding spelling
spelled (messages.Put l s m) = Put l s (spelling m)
spelled (messages.Answer m) = Answer (spelling m)
spelled (messages.Ask a m) = Ask a (spelling m)
spelled (messages.Post m) = Post (spelling m)
spelled (messages.PutPacket l s p) = Put l s (packet_bytes p)

unfoldable pub spelled_input : ReadInput → Input
unfolding spelling
spelled_input (messages.Enter m) = Enter (spelling m)
spelled_input (messages.Take l s m) = Take l s (spelling m)
spelled_input (messages.LinkUp l) = LinkUp l
spelled_input (messages.LinkDown l) = LinkDown l
spelled_input messages.Tick = Tick
spelled_input (messages.HostAnswer a code) = HostAnswer a code
spelled_input (messages.NewDate date) = NewDate date
spelled_input (messages.TakePacket l s p) = Take l s (packet_bytes p)
spelled_input (messages.Lend m card date amount) = Lend m card date amount

-- the trace with its messages spelled
unfoldable pub spelled_trace : List ReadEntry → List Entry
unfolding spelled spelled_input
spelled_trace es = map (λ e. record { input = spelled_input e.input; outputs = map spelled e.outputs }) es

-- the outputs since the newest input, in order, and then os
abbrev pub newest_onto : List ReadOutput → History → List ReadOutput
newest_onto os [] = os
newest_onto os (In i ∷ h) = os
newest_onto os (Out i o ∷ h) = newest_onto (o ∷ os) h

abbrev pub newest_outputs : History → List ReadOutput
newest_outputs h = newest_onto [] h
