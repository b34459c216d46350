-- What follows from a node's trace. A history is a trace as a list of events, the newest first: each entry is its input, and then its
-- outputs, each with the input that it came from. So an entry that is decided in part has a history too, and each part of a decision
-- counts the parts before it.
use Rattle.std.specs.Prelude.{ℕ, suc, ◌≡◌, ◌⊎◌, ◌+◌, ◌-◌, ◌*◌, min, unwrap_or, List, [], ◌∷◌, ◌++◌, length, map, filter, reverse, count_by, Bool, true, false, cond, ◌&&◌, ◌||◌, not, if◌then◌else◌, ◌==◌, bytes_eq, Option, Some, None, is_some, is_none}
use Rattle.std.specs.Option.{option_or, option_and_then}
use Rattle.std.specs.List.{list_any}
use Rattle.card_digits.specs.Numbers.{decimal}
use Rattle.card_digits.specs.Numbers.{pad11}
use Rattle.net_rows.specs.Network.{Network, issuer, day}
use Rattle.net_rows.specs.declared.row.Issuer.{Issuer}
use Rattle.network_law.specs.Tables.{is_home, node_id, link_ticks}
use Rattle.network_law.specs.declared.grant.Grant.{Grant}
use Rattle.network_law.specs.declared.grant.GrantPacket.{GrantPacket}
use Rattle.network_law.specs.declared.grant.GrantPacket.TheVariants as packets
use Rattle.network_law.specs.Cards.{label_of, text_of, Bytes, card_of}
use Rattle.message_keys.specs.Amounts.{actual_amount}
use Rattle.iso_message.specs.Fields.{Fields, el, set_element, remove_element, as_kind, get}
use Rattle.message_elements.specs.declared.kind.Group.{Group}
use Rattle.message_elements.specs.Groups.{group, is_request, is_answer, is_04xx, is_advice_group}
use Rattle.message_elements.specs.declared.kind.Kind.TheVariants.{K0420, K0120}
use Rattle.card_digits.specs.declared.key.Key.{Key}
use Rattle.message_keys.specs.Keys.{key_eq, key_of, identity_of, identity_eq, own_key, original_key, content, code_of}
use Rattle.message_keys.specs.declared.keys.AdviceId.{AdviceId}
use Rattle.message_elements.specs.Codes.{code_00, code_94}
use Rattle.iso_message.specs.Made.{with_date, without_forwarder, made_reversal, made_stand_in, response, made_from}
use Rattle.iso_message.specs.Finding.{find_element, without, put}
use Rattle.message_elements.specs.declared.kind.Group.TheVariants as groups

-- where a message came from: the acquirers at the gate, or a link
pub data Source : Type 0 where
  Gate : Source
  ByLink : (link : ℕ) → Source

-- inputs and outputs, their messages read
pub data ReadInput : Type 0 where
  Enter : (message : Fields) → ReadInput
  Take : (link serial : ℕ) (message : Fields) → ReadInput
  LinkUp : (link : ℕ) → ReadInput
  LinkDown : (link : ℕ) → ReadInput
  Tick : ReadInput
  HostAnswer : (ask : ℕ) (code : Bytes) → ReadInput
  NewDate : (date : List ℕ) → ReadInput
  TakePacket : (link serial : ℕ) (packet : GrantPacket) → ReadInput
  Lend : (borrower : ℕ) (card date : List ℕ) (amount : ℕ) → ReadInput

pub data ReadOutput : Type 0 where
  Put : (link serial : ℕ) (message : Fields) → ReadOutput
  Answer : (message : Fields) → ReadOutput
  Ask : (ask : ℕ) (message : Fields) → ReadOutput
  Post : (message : Fields) → ReadOutput
  PutPacket : (link serial : ℕ) (packet : GrantPacket) → ReadOutput

pub data Event : Type 0 where
  In : (input : ReadInput) → Event
  Out : (input : ReadInput) (output : ReadOutput) → Event

abbrev pub History : Type 0
History = List Event

-- x is an element
abbrev pub IsIn : {X : Type 0} → X → List X → Type 0
IsIn x [] = ⊥
IsIn x (y ∷ ys) = (y ≡ x) ⊎ IsIn x ys

-- an event stands in a history
abbrev pub Has : Event → History → Type 0
Has e h = IsIn e h

-- the date, the count and the links

-- the digits of the last new date, else of the tables' date
abbrev pub date_after : ReadInput → List ℕ → List ℕ
date_after (NewDate date) old = date
date_after _ old = old

unfoldable pub date_of : Network → History → List ℕ
date_of t [] = t.settings.date
date_of t (In i ∷ h) = date_after i (date_of t h)
date_of t (Out i o ∷ h) = date_of t h

abbrev pub ticks_in : ReadInput → ℕ
ticks_in Tick = 1
ticks_in _ = 0

-- the number of ticks
unfoldable pub count_of : History → ℕ
count_of [] = 0
count_of (In i ∷ h) = ticks_in i + count_of h
count_of (Out i o ∷ h) = count_of h

abbrev pub up_after : ReadInput → ℕ → Bool → Bool
up_after (LinkUp k) l old = cond (k == l) true old
up_after (LinkDown k) l old = cond (k == l) false old
up_after _ l old = old

-- a link is down where its last input was LinkDown
unfoldable pub is_up : History → ℕ → Bool
is_up [] l = true
is_up (In i ∷ h) l = up_after i l (is_up h l)
is_up (Out i o ∷ h) l = is_up h l

-- serials and asks

abbrev pub puts_on : ℕ → ReadOutput → ℕ
puts_on l (Put k s m) = if k == l then 1 else 0
puts_on l (PutPacket k s p) = if k == l then 1 else 0
puts_on l _ = 0

-- how often the node put on a link
unfoldable pub put_count : History → ℕ → ℕ
put_count [] l = 0
put_count (In i ∷ h) l = put_count h l
put_count (Out i o ∷ h) l = puts_on l o + put_count h l

abbrev pub asks_in : ReadOutput → ℕ
asks_in (Ask a m) = 1
asks_in _ = 0

-- how often it asked its host
unfoldable pub ask_count : History → ℕ
ask_count [] = 0
ask_count (In i ∷ h) = ask_count h
ask_count (Out i o ∷ h) = asks_in o + ask_count h

-- the key of an ask

abbrev pub key_asked : ℕ → ReadOutput → Option Key
key_asked a (Ask b m) = if a == b then Some (key_of m) else None
key_asked a _ = None

unfoldable pub ask_key : History → ℕ → Option Key
ask_key [] a = None
ask_key (In i ∷ h) a = ask_key h a
ask_key (Out i o ∷ h) a = option_or (ask_key h a) (key_asked a o)

-- the message that an input brings, as it is handled: entered, it lacks the forwarding institution, and a request gets the
-- settlement date

pub record Handled : Type 0 where
  pub message : Fields
  pub source : Source

abbrev pub dated : List ℕ → Fields → Fields
dated date m = if is_request m.kind then with_date (text_of date) m else m

unfoldable pub handled : Network → History → ReadInput → Option Handled
unfolding date_of remove_element set_element
handled t h (Enter m) = Some (record { message = dated (date_of t h) (without_forwarder m); source = Gate })
handled t h (Take l s m) = Some (record { message = m; source = ByLink l })
handled t h _ = None

-- requests

pub record Opening : Type 0 where
  pub message : Fields
  pub source : Source
  pub count : ℕ
  pub input : ReadInput

abbrev pub opened_by : Key → ℕ → ReadInput → Option Handled → Option Opening
opened_by k n i None = None
opened_by k n i (Some x) = if is_request x.message.kind && key_eq (key_of x.message) k then Some (record { message = x.message; source = x.source; count = n; input = i }) else None

-- the opening of a key: its first request
unfoldable pub opening : Network → History → Key → Option Opening
unfolding handled count_of key_of
opening t [] k = None
opening t (In i ∷ h) k = option_or (opening t h k) (opened_by k (count_of h) i (handled t h i))
opening t (Out i o ∷ h) k = opening t h k

abbrev pub key_handled : Option Handled → Option Key
key_handled None = None
key_handled (Some x) = if is_request x.message.kind then Some (key_of x.message) else None

abbrev pub with_new : {X : Type 0} → Bool → Option X → List X → List X
with_new true (Some x) xs = x ∷ xs
with_new _ _ xs = xs

-- the open keys, the newest first
unfoldable pub opened : Network → History → List Key
unfolding handled opening key_of
opened t [] = []
opened t (In i ∷ h) = with_new (is_none (option_and_then (opening t h) (key_handled (handled t h i)))) (key_handled (handled t h i)) (opened t h)
opened t (Out i o ∷ h) = opened t h

abbrev pub sent : ReadOutput → Option Fields
sent (Put l s m) = Some m
sent (Answer m) = Some m
sent (Ask a m) = None
sent (Post m) = None
sent (PutPacket l s p) = None

abbrev pub answers : Key → Option Fields → Option Fields
answers k None = None
answers k (Some m) = if is_answer m.kind && key_eq (key_of m) k && not (bytes_eq (code_of m) code_94) then Some m else None

-- the answer of a key: the first 0110 of it in the outputs whose code isn't 94
unfoldable pub answer : History → Key → Option Fields
unfolding key_of code_of
answer [] k = None
answer (In i ∷ h) k = answer h k
answer (Out i o ∷ h) k = option_or (answer h k) (answers k (sent o))

-- open, and not answered
abbrev pub pending : Network → History → Key → Bool
pending t h k = is_some (opening t h k) && is_none (answer h k)

-- a put of a request of k
abbrev pub forwards : Key → ReadOutput → Option ℕ
forwards k (Put l s m) = if is_request m.kind && key_eq (key_of m) k then Some l else None
forwards k _ = None

-- the link on which a request of k was put
unfoldable pub forwarded : History → Key → Option ℕ
unfolding key_of
forwarded [] k = None
forwarded (In i ∷ h) k = forwarded h k
forwarded (Out i o ∷ h) k = option_or (forwarded h k) (forwards k o)

abbrev pub asks : Key → ReadOutput → Bool
asks k (Ask a m) = key_eq (key_of m) k
asks k _ = false

-- the host was asked about k
unfoldable pub asked : History → Key → Bool
unfolding key_of
asked [] k = false
asked (In i ∷ h) k = asked h k
asked (Out i o ∷ h) k = asked h k || asks k o

-- how many ticks a request may be pending: forwarded on a link, or asked of the host
abbrev pub ticks_by : Network → Option ℕ → Bool → Option ℕ
ticks_by t (Some l) asked = Some (link_ticks t l)
ticks_by t None asked = if asked then Some t.settings.host_ticks else None

abbrev pub is_due_at : ℕ → Option Opening → Option ℕ → Bool
is_due_at now (Some op) (Some ticks) = op.count + ticks == now
is_due_at now _ _ = false

abbrev pub is_due : Network → History → ℕ → Key → Bool
is_due t h now k = is_due_at now (opening t h k) (ticks_by t (forwarded h k) (asked h k))

abbrev pub is_link : ℕ → Option ℕ → Bool
is_link l None = false
is_link l (Some k) = k == l

-- k fails at an input: its link goes down while it is pending, or its time is over
abbrev pub fails : Network → History → ReadInput → Key → Bool
fails t h (LinkDown l) k = pending t h k && is_link l (forwarded h k)
fails t h Tick k = pending t h k && is_due t h (suc (count_of h)) k
fails t h _ k = false

-- own approvals

abbrev pub is_00_of : Key → Option Fields → Bool
is_00_of k None = false
is_00_of k (Some m) = is_answer m.kind && key_eq (key_of m) k && bytes_eq (code_of m) code_00

-- a 0110 of k with code 00 was put out
unfoldable pub has_00 : History → Key → Bool
unfolding key_of code_of
has_00 [] k = false
has_00 (In i ∷ h) k = has_00 h k
has_00 (Out i o ∷ h) k = has_00 h k || is_00_of k (sent o)

abbrev pub is_key : Key → Option Key → Bool
is_key k None = false
is_key k (Some j) = key_eq j k

-- the input is a 0110 of k with 00, or the host's 00 for k
abbrev pub brings_00 : History → Key → ReadInput → Bool
brings_00 h k (Take l s m) = is_00_of k (Some m)
brings_00 h k (HostAnswer a c) = is_key k (ask_key h a) && bytes_eq c code_00
brings_00 h k _ = false

abbrev pub key_of_00 : Option Fields → Option Key
key_of_00 None = None
key_of_00 (Some m) = if is_answer m.kind && bytes_eq (code_of m) code_00 then Some (key_of m) else None

-- the key that is approved by the node itself in this output
abbrev pub own_in : History → ReadInput → Option Key → Option Key
own_in h i None = None
own_in h i (Some k) = if has_00 h k || brings_00 h k i then None else Some k

abbrev pub own_approval : History → ReadInput → ReadOutput → Option Key
own_approval h i o = own_in h i (key_of_00 (sent o))

pub record Approval : Type 0 where
  pub key : Key
  pub request : Fields

abbrev pub approval_by : Key → Option Opening → List Approval
approval_by k None = []
approval_by k (Some op) = record { key = k; request = op.message } ∷ []

abbrev pub approval_of : Network → History → Option Key → List Approval
approval_of t h None = []
approval_of t h (Some k) = approval_by k (opening t h k)

-- the keys that the node approved by itself, each with its opened request
unfoldable pub approvals : Network → History → List Approval
unfolding opening has_00 ask_key key_of code_of
approvals t [] = []
approvals t (In i ∷ h) = approvals t h
approvals t (Out i o ∷ h) = approval_of t h (own_approval h i o) ++ approvals t h

-- advices

pub record Advice : Type 0 where
  pub message : Fields  -- 0120 or 0420
  pub count : ℕ  -- at its storing
  pub own : Bool  -- made here
  pub acked : Bool

abbrev pub has_identity : AdviceId → Advice → Bool
has_identity id a = identity_eq (identity_of a.message) id

abbrev pub reverses_key : Key → Advice → Bool
reverses_key k a = is_04xx a.message.kind && key_eq (key_of a.message) k

abbrev pub is_ack : Group → Bool
is_ack groups.AdviceResponse = true
is_ack _ = false

abbrev pub is_ack_of : Fields → Advice → Bool
is_ack_of m a = is_ack (group m.kind) && bytes_eq (code_of m) code_00 && has_identity (identity_of m) a

abbrev pub acked_by : ReadInput → Advice → Advice
acked_by (Take l s m) a = record { message = a.message; count = a.count; own = a.own; acked = a.acked || is_ack_of m a }
acked_by _ a = a

abbrev pub add_advice : Advice → List Advice → List Advice
add_advice a others = if list_any (has_identity (identity_of a.message)) others then others else a ∷ others

abbrev pub add_made : (Fields → Fields) → ℕ → Option Opening → List Advice → List Advice
add_made make count None others = others
add_made make count (Some op) others = add_advice (record { message = make op.message; count = count; own = true; acked = false }) others

abbrev pub code_is_not_00 : Option Fields → Bool
code_is_not_00 None = false
code_is_not_00 (Some m) = not (bytes_eq (code_of m) code_00)

-- a 00 came for k, which is answered otherwise, and no reversal of k was made or accepted
abbrev pub comes_late : History → List Advice → Key → Bool
comes_late h others k = code_is_not_00 (answer h k) && not (list_any (reverses_key k) others)

-- the key of such a 00
abbrev pub late_key : History → List Advice → ReadInput → Option Key
late_key h others (Take l s m) = if is_answer m.kind && bytes_eq (code_of m) code_00 && is_link l (forwarded h (key_of m)) && comes_late h others (key_of m) then Some (key_of m) else None
late_key h others (HostAnswer a c) = option_and_then (λ k. if bytes_eq c code_00 && comes_late h others k then Some k else None) (ask_key h a)
late_key h others _ = None

abbrev pub is_timer : ReadInput → Bool
is_timer (LinkDown l) = true
is_timer Tick = true
is_timer _ = false

-- the key that fails in this output: in an entry of LinkDown or Tick the 0110 of a pending key is that of its failing
abbrev pub failed_key : Network → History → ReadInput → Option Fields → Option Key
failed_key t h i None = None
failed_key t h i (Some m) = if is_timer i && is_answer m.kind && pending t h (key_of m) then Some (key_of m) else None

abbrev pub is_ack_kind : Group → Bool
is_ack_kind groups.AdviceResponse = true
is_ack_kind groups.ReversalResponse = true
is_ack_kind _ = false

abbrev pub is_ok_ack : Option Fields → Bool
is_ok_ack None = false
is_ok_ack (Some m) = is_ack_kind (group m.kind) && bytes_eq (code_of m) code_00

-- the type under which an advice is kept
abbrev pub as_kept : Fields → Fields
as_kept m = as_kind (if is_04xx m.kind then K0420 else K0120) m

abbrev pub add_accepted : ℕ → Bool → Option Handled → List Advice → List Advice
add_accepted count true (Some x) others = if is_advice_group (group x.message.kind) then add_advice (record { message = as_kept x.message; count = count; own = false; acked = false }) others else others
add_accepted count _ _ others = others

-- all advices that were made or accepted, each identity once, the newest first: a reversal for a late 00; at an output a reversal for
-- the key that fails, a stand-in advice for the key that the node approved itself, and the advice that is acknowledged
unfoldable pub advices : Network → ℕ → History → List Advice
unfolding opening answer forwarded asked ask_key handled count_of has_00 get find_element el put without set_element remove_element own_key original_key key_of content identity_of code_of response made_from made_stand_in made_reversal
advices t n [] = []
advices t n (In i ∷ h) = add_made (λ m. made_reversal m (node_id t n)) (count_of h) (option_and_then (opening t h) (late_key h (advices t n h) i)) (map (acked_by i) (advices t n h))
advices t n (Out i o ∷ h) =
    add_accepted (count_of h) (is_ok_ack (sent o)) (handled t h i)
    (add_made (λ m. made_stand_in m (node_id t n)) (count_of h) (option_and_then (opening t h) (own_approval h i o))
    (add_made (λ m. made_reversal m (node_id t n)) (count_of h) (option_and_then (opening t h) (failed_key t h i (sent o)))
    (advices t n h)))

-- an advice of the identity was made or accepted
unfoldable pub known : Network → ℕ → History → AdviceId → Bool
unfolding advices
known t n h id = list_any (has_identity id) (advices t n h)

-- a reversal of k was accepted; one that the node made itself doesn't count
unfoldable pub reversed : Network → ℕ → History → Key → Bool
unfolding advices
reversed t n h k = list_any (λ a. not a.own && reverses_key k a) (advices t n h)

abbrev pub home_is : ℕ → Option Issuer → Bool
home_is n None = false
home_is n (Some s) = is_home s n

abbrev pub is_at_home : Network → ℕ → Fields → Bool
is_at_home t n m = home_is n (issuer t (card_of m))

-- the store, oldest first: what isn't acknowledged, where this node isn't the home of its card
unfoldable pub stored : Network → ℕ → History → List Advice
unfolding advices card_of
stored t n h = reverse (filter (λ a. not a.acked && not (is_at_home t n a.message)) (advices t n h))

-- grants

-- a grant that the node made
pub record Lent : Type 0 where
  pub grant : Grant
  pub borrower : ℕ
  pub count : ℕ  -- at its storing
  pub advices : ℕ  -- made or accepted before it, so many
  pub acked : Bool

abbrev pub lent_acked : Bytes → ℕ → Lent → Lent
lent_acked lender number g = record { grant = g.grant; borrower = g.borrower; count = g.count; advices = g.advices; acked = g.acked || (bytes_eq lender g.grant.lender && number == g.grant.number) }

abbrev pub lent_after : Network → ℕ → ℕ → ℕ → ReadInput → List Lent → List Lent
lent_after t n count advices (Lend m card date amount) others = record { grant = record { lender = pad11 (node_id t n); number = suc (length others); borrower = pad11 (node_id t m); card = card; date = date; amount = amount }; borrower = m; count = count; advices = advices; acked = false } ∷ others
lent_after t n count advices (TakePacket l s (packets.Ack lender number)) others = map (lent_acked lender number) others
lent_after t n count advices _ others = others

-- all grants that the node made, the newest first
unfoldable pub grants : Network → ℕ → History → List Lent
unfolding advices count_of
grants t n [] = []
grants t n (In i ∷ h) = lent_after t n (count_of h) (length (advices t n h)) i (grants t n h)
grants t n (Out i o ∷ h) = grants t n h

-- those that aren't acknowledged are stored
unfoldable pub stored_grants : Network → ℕ → History → List Lent
unfolding grants
stored_grants t n h = filter (λ g. not g.acked) (grants t n h)

abbrev pub has_number : Grant → Grant → Bool
has_number a b = bytes_eq a.lender b.lender && a.number == b.number

abbrev pub taken_after : ReadInput → List Grant → List Grant
taken_after (TakePacket l s (packets.Grant g)) others = if list_any (has_number g) others then others else g ∷ others
taken_after _ others = others

-- the grants that were taken, of each lender's number the first one
unfoldable pub taken : History → List Grant
taken [] = []
taken (In i ∷ h) = taken_after i (taken h)
taken (Out i o ∷ h) = taken h

-- the places taken: one by each stored advice and grant, two by each pending request
unfoldable pub load : Network → ℕ → History → ℕ
unfolding stored stored_grants opened opening answer
load t n h = length (stored t n h) + length (stored_grants t n h) + 2 * count_by (pending t h) (opened t h)

abbrev pub is_put_of : AdviceId → ReadOutput → Bool
is_put_of id (Put l s m) = is_advice_group (group m.kind) && identity_eq (identity_of m) id
is_put_of id _ = false

-- this node has put the advice
unfoldable pub was_put : History → AdviceId → Bool
unfolding identity_of
was_put [] id = false
was_put (In i ∷ h) id = was_put h id
was_put (Out i o ∷ h) id = was_put h id || is_put_of id o

-- what is left of an amount: the least of it and the actual amounts of the key's accepted reversals, of which one without an actual
-- amount is whole and leaves nothing
abbrev pub left_by : Key → Advice → ℕ → ℕ
left_by k a amount = if not a.own && reverses_key k a then min (unwrap_or (actual_amount a.message) 0) amount else amount

abbrev pub left_of : Key → List Advice → ℕ → ℕ
left_of k [] amount = amount
left_of k (a ∷ others) amount = left_by k a (left_of k others amount)

unfoldable pub left : Network → ℕ → History → Approval → ℕ
unfolding advices el actual_amount
left t n h a = left_of a.key (advices t n h) (decimal (el a.request 4))

-- used of a card and date: what is left of the amounts of the own approvals
abbrev pub counted : Network → ℕ → History → List ℕ → List ℕ → Approval → ℕ
counted t n h card date a = if bytes_eq (card_of a.request) card && bytes_eq (label_of a.request) date then left t n h a else 0

abbrev pub added : {X : Type 0} → (X → ℕ) → List X → ℕ
added f [] = 0
added f (x ∷ xs) = f x + added f xs

unfoldable pub used : Network → ℕ → History → List ℕ → List ℕ → ℕ
unfolding approvals left card_of label_of
used t n h card date = added (counted t n h card date) (approvals t h)

-- the allowance of a card and date: the node's limit, more by what it borrowed, and less by what it lent
abbrev pub amount_for : List ℕ → List ℕ → Grant → ℕ
amount_for card date g = if bytes_eq g.card card && bytes_eq g.date date then g.amount else 0

unfoldable pub borrowed : History → List ℕ → List ℕ → ℕ
unfolding taken
borrowed h card date = added (amount_for card date) (taken h)

unfoldable pub lent : Network → ℕ → History → List ℕ → List ℕ → ℕ
unfolding grants
lent t n h card date = added (λ g. amount_for card date g.grant) (grants t n h)

abbrev pub allowance : Network → ℕ → History → List ℕ → List ℕ → ℕ
allowance t n h card date = day t n card + borrowed h card date - lent t n h card date
