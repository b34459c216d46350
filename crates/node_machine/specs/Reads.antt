-- What is read in a node's books, and what an input or an output does to them.
use Rattle.std.specs.Prelude.{ℕ, suc, ◌+◌, ◌*◌, ◌-◌, List, [], ◌∷◌, ◌++◌, length, map, filter, reverse, find, count_by, Bool, false, ◌&&◌, ◌||◌, not, if◌then◌else◌, ◌==◌, bytes_eq, Option, Some, None, is_some, is_none}
use Rattle.std.specs.Option.{option_or, option_and_then}
use Rattle.std.specs.List.{list_any}
use Rattle.card_digits.specs.Numbers.{decimal, pad11}
use Rattle.card_digits.specs.declared.key.Key.{Key}
use Rattle.message_keys.specs.declared.keys.AdviceId.{AdviceId}
use Rattle.iso_message.specs.Fields.{Fields, el}
use Rattle.message_elements.specs.Groups.{group, is_request, is_reversal}
use Rattle.message_keys.specs.Keys.{key_eq, key_of, content, content_eq, identity_of, identity_eq, code_of}
use Rattle.message_elements.specs.Codes.{code_00}
use Rattle.iso_message.specs.Made.{without_forwarder}
use Rattle.net_rows.specs.Network.{Network, day, stand_in}
use Rattle.network_law.specs.Tables.{node_id, route_links, single}
use Rattle.network_law.specs.declared.grant.Grant.{Grant}
use Rattle.network_law.specs.declared.grant.GrantPacket.{GrantPacket}
use Rattle.network_law.specs.declared.grant.GrantPacket.TheVariants as packets
use Rattle.network_law.specs.Cards.{Bytes, card_of, label_of}
use Rattle.network_law.specs.Traces.{Source, Gate, ByLink, ReadInput, Enter, Take, LinkDown, Tick, TakePacket, Lend, ReadOutput, Put, Answer, PutPacket, date_after, ticks_in, up_after, puts_on, asks_in, key_asked, Handled, dated, key_handled, with_new, sent, answers, forwards, asks, ticks_by, is_link, is_put_of, is_ack, code_is_not_00, added}
use Rattle.network_law.specs.Decision.{code_by_limits, is_due_again}
use Rattle.node_machine.specs.Books.{Request, Taken, Kept, KeptGrant, Stored, Advised, Granted, Borrowed, Loan, borrowed_of, AdviceBook, Books}

-- what is read in the books

abbrev pub is_pending : Books → Key → Bool
is_pending b k = is_some (b.opening k) && is_none (b.answer k)

abbrev pub is_due_at : ℕ → Option Request → Option ℕ → Bool
is_due_at now (Some r) (Some ticks) = r.count + ticks == now
is_due_at now _ _ = false

abbrev pub fails : Network → Books → ReadInput → Key → Bool
fails t b (LinkDown l) k = is_pending b k && is_link l (b.link k)
fails t b Tick k = is_pending b k && is_due_at (suc b.count) (b.opening k) (ticks_by t (b.link k) (b.asked k))
fails t b _ k = false

-- the keys that fail, in opening order
abbrev pub failing : Network → Books → ReadInput → List Key
failing t b i = filter (fails t b i) (reverse b.opened)

abbrev pub is_known : Books → AdviceId → Bool
is_known b id = b.advices.known id

abbrev pub is_reversed : Books → Key → Bool
is_reversed b k = b.advices.reversed k

-- the stored advices and grants that are due, in stored order
abbrev pub is_due : ℕ → ℕ → Stored → Bool
is_due ticks now (Advised a) = is_due_again ticks now a.count
is_due ticks now (Granted g) = is_due_again ticks now g.count

abbrev pub due : Network → Books → List Stored
due t b = filter (is_due t.settings.advice_ticks (suc b.count)) b.advices.stored

-- the advice of this identity was put, if it is stored
abbrev pub was_put : AdviceId → Stored → Bool
was_put id (Advised a) = identity_eq (identity_of a.message) id && a.put
was_put id (Granted g) = false

abbrev pub put_before : Books → AdviceId → Bool
put_before b id = list_any (was_put id) b.advices.stored

abbrev pub load : Books → ℕ
load b = length b.advices.stored + 2 * count_by (is_pending b) b.opened

abbrev pub counts : Books → List ℕ → List ℕ → Taken → ℕ
counts b card date a = if bytes_eq a.card card && bytes_eq a.date date then b.advices.left a.key a.amount else 0

abbrev pub used : Books → List ℕ → List ℕ → ℕ
used b card date = added (counts b card date) b.taken

-- the allowance of a card and date
abbrev pub borrowed_for : List ℕ → List ℕ → Borrowed → ℕ
borrowed_for card date g = if bytes_eq g.card card && bytes_eq g.date date then g.amount else 0

abbrev pub lent_for : List ℕ → List ℕ → Loan → ℕ
lent_for card date g = if bytes_eq g.card card && bytes_eq g.date date then g.amount else 0

abbrev pub borrowed : Books → List ℕ → List ℕ → ℕ
borrowed b card date = added (borrowed_for card date) b.borrowed

abbrev pub lent : Books → List ℕ → List ℕ → ℕ
lent b card date = added (lent_for card date) b.loans

abbrev pub allowance : Network → ℕ → Books → List ℕ → List ℕ → ℕ
allowance t n b card date = day t n card + borrowed b card date - lent b card date

abbrev pub limit : Network → ℕ → Books → List ℕ → List ℕ → ℕ
limit t n b card date = if is_none (stand_in t n card) then 0 else allowance t n b card date

abbrev pub comes_late : Books → Key → Bool
comes_late b k = code_is_not_00 (b.answer k) && not (b.advices.reversing k)

abbrev pub handled : Books → ReadInput → Option Handled
handled b (Enter m) = Some (record { message = dated b.date (without_forwarder m); source = Gate })
handled b (Take l s m) = Some (record { message = m; source = ByLink l })
handled b _ = None

-- an input arrives: the date, the count and the links, what it acknowledges, and the key that it opens

abbrev pub opened_by : Key → ℕ → Option Handled → Option Request
opened_by k n None = None
opened_by k n (Some x) = if is_request x.message.kind && key_eq (key_of x.message) k then Some (record { message = x.message; source = x.source; count = n }) else None

-- what this input acknowledges leaves the store

abbrev pub acks_advice : ReadInput → Kept → Bool
acks_advice (Take l s m) a = is_ack (group m.kind) && bytes_eq (code_of m) code_00 && identity_eq (identity_of a.message) (identity_of m)
acks_advice _ a = false

abbrev pub packet_acks : GrantPacket → KeptGrant → Bool
packet_acks (packets.Ack lender number) g = bytes_eq lender g.grant.lender && number == g.grant.number
packet_acks (packets.Grant x) g = false

abbrev pub acks_grant : ReadInput → KeptGrant → Bool
acks_grant (TakePacket l s p) g = packet_acks p g
acks_grant _ g = false

abbrev pub acks : ReadInput → Stored → Bool
acks i (Advised a) = acks_advice i a
acks i (Granted g) = acks_grant i g

-- a grant that the node makes

abbrev pub new_grant : Network → ℕ → ℕ → ℕ → List ℕ → List ℕ → ℕ → Grant
new_grant t n number m card date amount = record { lender = pad11 (node_id t n); number = number; borrower = pad11 (node_id t m); card = card; date = date; amount = amount }

-- number and count are those of the next grant
abbrev pub store_after : Network → ℕ → ℕ → ℕ → ReadInput → List Stored → List Stored
store_after t n number count (Lend m card date amount) stored = stored ++ Granted (record { grant = new_grant t n number m card date amount; borrower = m; count = count }) ∷ []
store_after t n number count i stored = filter (λ a. not (acks i a)) stored

abbrev pub loans_after : ReadInput → List Loan → List Loan
loans_after (Lend m card date amount) loans = loans ++ record { card = card; date = date; amount = amount } ∷ []
loans_after _ loans = loans

abbrev pub is_number_of : Grant → Borrowed → Bool
is_number_of a b = bytes_eq a.lender b.lender && a.number == b.number

-- of each lender's number the first counts
abbrev pub packet_borrowed : GrantPacket → List Borrowed → List Borrowed
packet_borrowed (packets.Grant g) others = if list_any (is_number_of g) others then others else others ++ borrowed_of g ∷ []
packet_borrowed (packets.Ack lender number) others = others

abbrev pub borrowed_after : ReadInput → List Borrowed → List Borrowed
borrowed_after (TakePacket l s p) others = packet_borrowed p others
borrowed_after _ others = others

abbrev pub after_acks : Network → ℕ → ℕ → ℕ → ReadInput → AdviceBook → AdviceBook
after_acks t n number count i book = record book { stored = store_after t n number count i book.stored }

abbrev pub receive : Network → ℕ → ReadInput → Books → Books
receive t n i b = record b {
  opening = λ k. option_or (b.opening k) (opened_by k b.count (handled b i));
  opened = with_new (is_none (option_and_then b.opening (key_handled (handled b i)))) (key_handled (handled b i)) b.opened;
  advices = after_acks t n (suc (length b.loans)) b.count i b.advices;
  loans = loans_after i b.loans;
  borrowed = borrowed_after i b.borrowed;
  is_up = λ l. up_after i l (b.is_up l);
  date = date_after i b.date;
  count = ticks_in i + b.count;
}

-- outputs: what each does to the books by itself

-- a stored advice that is put is marked
abbrev pub marked : ReadOutput → Stored → Stored
marked o (Advised a) = Advised (record { message = a.message; count = a.count; put = a.put || is_put_of (identity_of a.message) o })
marked o (Granted g) = Granted g

abbrev pub mark_put : ReadOutput → AdviceBook → AdviceBook
mark_put o book = record book { stored = map (marked o) book.stored }

abbrev pub after_output : ReadOutput → Books → Books
after_output o b = record b {
  answer = λ k. option_or (b.answer k) (answers k (sent o));
  link = λ k. option_or (b.link k) (forwards k o);
  asked = λ k. b.asked k || asks k o;
  advices = mark_put o b.advices;
  put_count = λ l. puts_on l o + b.put_count l;
  ask_count = asks_in o + b.ask_count;
  ask_key = λ a. option_or (b.ask_key a) (key_asked a o);
}

abbrev pub next_put : ℕ → Fields → Books → ReadOutput
next_put l m b = Put l (suc (b.put_count l)) m

abbrev pub next_packet : ℕ → GrantPacket → Books → ReadOutput
next_packet l p b = PutPacket l (suc (b.put_count l)) p

abbrev pub reply_output : Source → Fields → Books → ReadOutput
reply_output Gate m b = Answer m
reply_output (ByLink l) m b = next_put l m b

abbrev pub own_way : Network → ℕ → Books → Fields → Option ℕ → Option ℕ
own_way t n b x None = find b.is_up (route_links t n (card_of x))
own_way t n b x (Some l) = if is_reversal x.kind && b.is_up l then Some l else find b.is_up (route_links t n (card_of x))

-- stand-in

abbrev pub standin_code : Network → ℕ → Books → Fields → Bytes
standin_code t n b m = code_by_limits (limit t n b (card_of m) (label_of m)) (single t n (card_of m)) t.settings.currency (used b (card_of m) (label_of m)) m (decimal (el m 4))

-- grants

-- requests

-- reversals and stand-in advices

abbrev pub other_content : Option Request → Fields → Bool
other_content None m = false
other_content (Some r) m = not (content_eq (content r.message) (content m))
