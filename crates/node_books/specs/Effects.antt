-- What an entry does to the lists, one change after the other.
use Rattle.std.specs.Prelude.{suc, List, [], ◌∷◌, ◌++◌, reverse, filter, ◌&&◌, not, if◌then◌else◌}
use Rattle.message_elements.specs.Groups.{is_04xx}
use Rattle.message_keys.specs.Keys.{key_of, identity_of}
use Rattle.network_law.specs.Traces.{ReadOutput, PutPacket}
use Rattle.node_machine.specs.Books.{Advised, Granted}
use Rattle.node_machine.specs.Lists as lists
use Rattle.node_machine.specs.Lists.{Lists, Row, Take, LinkState, is_among, with_up, give_back_to, leaves}
use Rattle.node_machine.specs.Machine.{packet_borrowed}
use Rattle.node_machine.specs.Steps.{Progress}
use Rattle.advice_store.specs.Advices.{has_id, packet_acked}
use Rattle.pending_book.specs.Rows.{opened}
use Rattle.node_books.specs.Values.{NewAdvice}
use Rattle.node_books.specs.declared.effect.Effect.{Effect}
use Rattle.node_books.specs.declared.effect.Effect.TheVariants as effects

-- an advice that was made here, or accepted
abbrev pub keep_in : NewAdvice → Lists → Lists
keep_in a x =
    if is_among (identity_of a.message) x.known then x
    else record {
      rows = x.rows;
      marks = if not a.own && is_04xx a.message.kind then x.marks ++ record { key = key_of a.message; actual = leaves a.message } ∷ [] else x.marks;
      takes = if not a.own && is_04xx a.message.kind then give_back_to (key_of a.message) (leaves a.message) x.takes else x.takes;
      store = if a.home then x.store else x.store ++ Advised (record { message = a.message; count = a.count; put = a.put }) ∷ [];
      known = x.known ++ identity_of a.message ∷ [];
      loans = x.loans;
      borrowed = x.borrowed;
      links = x.links;
      asks = x.asks;
      date = x.date;
      count = x.count;
    }

abbrev pub applied_one : Effect → Lists → Lists
applied_one (effects.Sent o) x = lists.after_output o x
applied_one (effects.Kept a) x = keep_in a x
applied_one (effects.Approved a) x = record { rows = x.rows; marks = x.marks; takes = x.takes ++ a ∷ []; store = x.store; known = x.known; loans = x.loans; borrowed = x.borrowed; links = x.links; asks = x.asks; date = x.date; count = x.count }
applied_one (effects.Opened r) x = record { rows = opened r x.rows; marks = x.marks; takes = x.takes; store = x.store; known = x.known; loans = x.loans; borrowed = x.borrowed; links = x.links; asks = x.asks; date = x.date; count = x.count }
applied_one (effects.Acknowledged id) x = record { rows = x.rows; marks = x.marks; takes = x.takes; store = filter (λ a. not (has_id id a)) x.store; known = x.known; loans = x.loans; borrowed = x.borrowed; links = x.links; asks = x.asks; date = x.date; count = x.count }
applied_one (effects.LinkIs l up) x = record { rows = x.rows; marks = x.marks; takes = x.takes; store = x.store; known = x.known; loans = x.loans; borrowed = x.borrowed; links = with_up l up x.links; asks = x.asks; date = x.date; count = x.count }
applied_one (effects.Dated date) x = record { rows = x.rows; marks = x.marks; takes = x.takes; store = x.store; known = x.known; loans = x.loans; borrowed = x.borrowed; links = x.links; asks = x.asks; date = date; count = x.count }
applied_one effects.Ticked x = record { rows = x.rows; marks = x.marks; takes = x.takes; store = x.store; known = x.known; loans = x.loans; borrowed = x.borrowed; links = x.links; asks = x.asks; date = x.date; count = suc x.count }
applied_one (effects.PacketSent l s p) x = lists.after_output (PutPacket l s p) x
applied_one (effects.Lent g) x = record { rows = x.rows; marks = x.marks; takes = x.takes; store = x.store ++ Granted g ∷ []; known = x.known; loans = x.loans ++ record { card = g.grant.card; date = g.grant.date; amount = g.grant.amount } ∷ []; borrowed = x.borrowed; links = x.links; asks = x.asks; date = x.date; count = x.count }
applied_one (effects.PacketTaken p) x = record { rows = x.rows; marks = x.marks; takes = x.takes; store = filter (λ a. not (packet_acked p a)) x.store; known = x.known; loans = x.loans; borrowed = packet_borrowed p x.borrowed; links = x.links; asks = x.asks; date = x.date; count = x.count }

-- the oldest first
abbrev pub applied : List Effect → Lists → Lists
applied [] x = x
applied (e ∷ es) x = applied es (applied_one e x)

-- the outputs among them, in order
abbrev pub sent_in : List Effect → List ReadOutput
sent_in [] = []
sent_in (effects.Sent o ∷ es) = o ∷ sent_in es
sent_in (effects.PacketSent l s p ∷ es) = PutPacket l s p ∷ sent_in es
sent_in (e ∷ es) = sent_in es

-- the books before an entry, and what it did so far
pub record Drafted : Type 0 where
  pub base : Lists
  pub effects : List Effect

abbrev pub progress : Drafted → Progress
progress d = record { lists = applied d.effects d.base; outs = reverse (sent_in d.effects) }

abbrev pub with_effect : Effect → Drafted → Drafted
with_effect e d = record { base = d.base; effects = d.effects ++ e ∷ [] }
