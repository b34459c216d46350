-- The decision: what a node puts out for an input. Each part adds outputs to the history h. Terms are read at the history before the
-- input (past), but for used amounts, serials, asks, whether an advice was put before, and the links, which are read at h.
use Rattle.std.specs.Prelude.{ℕ, suc, ◌+◌, ◌-◌, ◌%◌, List, [], ◌∷◌, ◌++◌, length, map, filter, reverse, find, Bool, true, false, ◌&&◌, not, if◌then◌else◌, ◌==◌, nat_lt, bytes_eq, Option, Some, None, is_none}
use Rattle.card_digits.specs.Numbers.{decimal}
use Rattle.net_rows.specs.Network.{Network, issuer, stand_in}
use Rattle.net_rows.specs.declared.row.Issuer.{Issuer}
use Rattle.network_law.specs.Tables.{is_home, node_id, route_links, single, links_between}
use Rattle.network_law.specs.declared.grant.GrantPacket.{GrantPacket}
use Rattle.network_law.specs.declared.grant.GrantPacket.TheVariants as packets
use Rattle.network_law.specs.Traces.{Source, Gate, ByLink, ReadInput, Enter, Take, LinkUp, LinkDown, Tick, HostAnswer, NewDate, TakePacket, Lend, ReadOutput, Put, Answer, Ask, Post, PutPacket, Event, In, Out, History, count_of, is_up, put_count, ask_count, ask_key, Handled, handled, Opening, opening, opened, answer, pending, forwarded, fails, Advice, advices, known, reversed, Lent, grants, taken, load, was_put, used, borrowed, lent, allowance, as_kept, is_at_home, comes_late, is_link}
use Rattle.network_law.specs.Cards.{label_of, Bytes, is_good_card, card_of}
use Rattle.iso_message.specs.Fields.{Fields, el, get, as_kind, set_element, remove_element}
use Rattle.message_elements.specs.declared.kind.Kind.{Kind}
use Rattle.message_elements.specs.declared.kind.Kind.TheVariants.{K0100, K0120, K0121, K0420, K0421}
use Rattle.message_elements.specs.declared.kind.Group.{Group}
use Rattle.message_elements.specs.Groups.{group, is_reversal, is_04xx, is_advice_group}
use Rattle.card_digits.specs.declared.key.Key.{Key}
use Rattle.message_keys.specs.Keys.{key_of, own_key, content, content_eq, identity_of, original_key, code_of}
use Rattle.message_elements.specs.Codes.{code_00, code_05, code_14, code_57, code_61, code_68, code_91, code_92, code_94, code_96}
use Rattle.iso_message.specs.Made.{made_reversal, made_stand_in, response, made_from}
use Rattle.iso_message.specs.Finding.{find_element, without, put}
use Rattle.message_elements.specs.declared.kind.Group.TheVariants as groups

-- outputs

abbrev pub emit : ReadInput → ReadOutput → History → History
emit i o h = Out i o ∷ h

abbrev pub next_put : ℕ → Fields → History → ReadOutput
next_put l m h = Put l (suc (put_count h l)) m

abbrev pub put_on : ReadInput → ℕ → Fields → History → History
put_on i l m h = Out i (next_put l m h) ∷ h

abbrev pub reply_output : Source → Fields → History → ReadOutput
reply_output Gate m h = Answer m
reply_output (ByLink l) m h = next_put l m h

abbrev pub reply : ReadInput → Source → Fields → History → History
reply i src m h = Out i (reply_output src m h) ∷ h

-- the first link that is up
abbrev pub first_up : History → List ℕ → Option ℕ
first_up h links = find (is_up h) links

-- advices

-- the way of an advice: a reversal goes where its request went, else the first link of the route that is up is taken
abbrev pub own_way : Network → ℕ → History → Fields → Option ℕ → Option ℕ
own_way t n h x None = first_up h (route_links t n (card_of x))
own_way t n h x (Some l) = if is_reversal x.kind && is_up h l then Some l else first_up h (route_links t n (card_of x))

-- the type of a reversal or stand-in advice, put before or not
abbrev pub sent_kind : Bool → Bool → Kind
sent_kind true true = K0421
sent_kind true false = K0420
sent_kind false true = K0121
sent_kind false false = K0120

abbrev pub send_by : ReadInput → Fields → Option ℕ → History → History
send_by i x None h = h
send_by i x (Some l) h = put_on i l (as_kind (sent_kind (is_04xx x.kind) (was_put h (identity_of x))) x) h

-- an advice goes out, where a link is up
unfoldable pub send : Network → ℕ → ReadInput → Fields → History → History
unfolding was_put identity_of el card_of key_of forwarded is_up put_count route_links
send t n i x h = send_by i x (own_way t n h x (forwarded h (key_of x))) h

-- an advice that isn't known is posted at the home of its card, and elsewhere stored and sent
unfoldable pub keep : Network → ℕ → History → ReadInput → Fields → History → History
unfolding send known identity_of card_of
keep t n past i x h = if known t n past (identity_of x) then h else if is_at_home t n x then emit i (Post x) h else send t n i x h

-- stand-in

-- day and single are the node's limits for the card, and used_now what is used of day, which is the allowance
abbrev pub code_by_limits : (day single : ℕ) → Bytes → ℕ → Fields → ℕ → Bytes
code_by_limits day single currency used_now m amount =
    if day == 0 then code_91
    else if not (bytes_eq (el m 49) currency) then code_57
    else if nat_lt single amount then code_61
    else if nat_lt day (used_now + amount) then code_61
    else code_00

-- the allowance, where the node has a stand-in row for the card
abbrev pub limit : Network → ℕ → History → List ℕ → List ℕ → ℕ
limit t n h card date = if is_none (stand_in t n card) then 0 else allowance t n h card date

unfoldable pub standin_code : Network → ℕ → History → Fields → Bytes
unfolding el card_of label_of used borrowed lent
standin_code t n h m = code_by_limits (limit t n h (card_of m) (label_of m)) (single t n (card_of m)) t.settings.currency (used t n h (card_of m) (label_of m)) m (decimal (el m 4))

abbrev pub standin_by : Network → ℕ → History → ReadInput → Opening → Bytes → History → History
standin_by t n past i op c h =
    if bytes_eq c code_00
    then keep t n past i (made_stand_in op.message (node_id t n)) (reply i op.source (response op.message c) h)
    else reply i op.source (response op.message c) h

-- the node answers an opened request by its own limits
unfoldable pub standin : Network → ℕ → History → ReadInput → Opening → History → History
unfolding standin_code keep response made_stand_in put_count
standin t n past i op h = standin_by t n past i op (standin_code t n h op.message) h

-- a request fails: its reversal is kept, and then the node stands in
unfoldable pub fail : Network → ℕ → History → ReadInput → Option Opening → History → History
unfolding standin keep made_reversal
fail t n past i None h = h
fail t n past i (Some op) h = standin t n past i op (keep t n past i (made_reversal op.message (node_id t n)) h)

unfoldable pub fail_all : Network → ℕ → History → ReadInput → List Key → History → History
unfolding fail opening
fail_all t n past i [] h = h
fail_all t n past i (k ∷ ks) h = fail_all t n past i ks (fail t n past i (opening t past k) h)

-- the keys that fail at an input, in opening order
unfoldable pub failing : Network → History → ReadInput → List Key
unfolding opened opening answer forwarded Rattle.network_law.specs.Traces.asked count_of
failing t past i = filter (fails t past i) (reverse (opened t past))

-- grants

-- a grant goes out on the first link in table order that joins the two nodes and is up
abbrev pub send_grant_by : ReadInput → Lent → Option ℕ → History → History
send_grant_by i g None h = h
send_grant_by i g (Some l) h = Out i (PutPacket l (suc (put_count h l)) (packets.Grant g.grant)) ∷ h

unfoldable pub send_grant : Network → ℕ → ReadInput → Lent → History → History
unfolding links_between is_up put_count
send_grant t n i g h = send_grant_by i g (first_up h (links_between t n g.borrower)) h

-- the newest of these grants goes out
abbrev pub send_newest : Network → ℕ → ReadInput → List Lent → History → History
send_newest t n i [] h = h
send_newest t n i (g ∷ others) h = send_grant t n i g h

-- a taken grant is acknowledged on the link that it came by
abbrev pub on_packet : ReadInput → ℕ → GrantPacket → History → History
on_packet i l (packets.Grant g) h = Out i (PutPacket l (suc (put_count h l)) (packets.Ack g.lender g.number)) ∷ h
on_packet i l (packets.Ack lender number) h = h

-- what is due

pub data Due : Type 0 where
  DueAdvice : (advice : Advice) → Due
  DueGrant : (grant : Lent) → Due

-- all advices and grants in one order, the newest first
abbrev pub grants_made_after : ℕ → List Lent → List Due
grants_made_after advices others = map DueGrant (filter (λ g. g.advices == advices) others)

abbrev pub in_order : List Advice → List Lent → List Due
in_order [] others = grants_made_after 0 others
in_order (a ∷ older) others = grants_made_after (suc (length older)) others ++ DueAdvice a ∷ in_order older others

-- stored at this count, and due at that one
abbrev pub is_due_again : ℕ → ℕ → ℕ → Bool
is_due_again ticks now count = nat_lt count now && ((now - count) % ticks == 0)

-- the advice or grant is stored, and due
abbrev pub is_sent_again : Network → ℕ → ℕ → Due → Bool
is_sent_again t n now (DueAdvice a) = not a.acked && not (is_at_home t n a.message) && is_due_again t.settings.advice_ticks now a.count
is_sent_again t n now (DueGrant g) = not g.acked && is_due_again t.settings.advice_ticks now g.count

-- the advices and grants that are due at the next tick, in stored order
unfoldable pub due : Network → ℕ → History → List Due
unfolding advices grants card_of count_of
due t n past = filter (is_sent_again t n (suc (count_of past))) (reverse (in_order (advices t n past) (grants t n past)))

abbrev pub send_due : Network → ℕ → ReadInput → Due → History → History
send_due t n i (DueAdvice a) h = send t n i a.message h
send_due t n i (DueGrant g) h = send_grant t n i g h

unfoldable pub send_all : Network → ℕ → ReadInput → List Due → History → History
unfolding send send_grant
send_all t n i [] h = h
send_all t n i (x ∷ others) h = send_all t n i others (send_due t n i x h)

-- requests

abbrev pub same_source : Source → Source → Bool
same_source Gate Gate = true
same_source (ByLink a) (ByLink b) = a == b
same_source Gate (ByLink b) = false
same_source (ByLink a) Gate = false

-- away from the home: put on the first link that is up, or stood in for
abbrev pub on_forward : Network → ℕ → History → ReadInput → Fields → Source → Option ℕ → History
on_forward t n past i m src None = standin t n past i (record { message = m; source = src; count = count_of past; input = i }) (In i ∷ past)
on_forward t n past i m src (Some l) = put_on i l (as_kind K0100 m) (In i ∷ past)

-- of a card with an issuer: asked of the host at its home
abbrev pub on_issuer : Network → ℕ → History → ReadInput → Fields → Source → Option Issuer → History
on_issuer t n past i m src None = reply i src (response m code_92) (In i ∷ past)
on_issuer t n past i m src (Some s) =
    if nat_lt 65536 (load t n past + 2) then reply i src (response m code_96) (In i ∷ past)
    else if is_home s n then emit i (Ask (suc (ask_count past)) (as_kind K0100 m)) (In i ∷ past)
    else on_forward t n past i m src (first_up past (route_links t n (card_of m)))

abbrev pub on_repeat : ReadInput → Source → Option Fields → History → History
on_repeat i src None h = h
on_repeat i src (Some a) h = reply i src a h

-- a request, with the opening of its key
unfoldable pub on_request : Network → ℕ → History → ReadInput → Fields → Source → Option Opening → History
unfolding standin put_count response load ask_count is_good_card reversed answer content key_of el card_of is_up route_links count_of
on_request t n past i m src (Some op) =
    if same_source op.source src && content_eq (content op.message) (content m)
    then on_repeat i src (answer past (key_of m)) (In i ∷ past)
    else reply i src (response m code_94) (In i ∷ past)
on_request t n past i m src None =
    if reversed t n past (key_of m) then reply i src (response m code_68) (In i ∷ past)
    else if not (is_good_card (el m 2)) then reply i src (response m code_14) (In i ∷ past)
    else on_issuer t n past i m src (issuer t (card_of m))

-- reversals and stand-in advices

-- the key is open with other content
abbrev pub other_content : Option Opening → Fields → Bool
other_content None m = false
other_content (Some op) m = not (content_eq (content op.message) (content m))

abbrev pub answer_pending : Network → ReadInput → Bool → Option Opening → Bytes → History → History
answer_pending t i true (Some op) c h = reply i op.source (response op.message c) h
answer_pending t i _ _ c h = h

unfoldable pub on_reversal : Network → ℕ → History → ReadInput → Fields → Source → History
unfolding put_count response is_good_card content key_of el card_of known identity_of opening answer keep
on_reversal t n past i m src =
    if not (is_good_card (el m 2)) then reply i src (response m code_14) (In i ∷ past)
    else if is_none (issuer t (card_of m)) then reply i src (response m code_92) (In i ∷ past)
    else if other_content (opening t past (key_of m)) m then reply i src (response m code_94) (In i ∷ past)
    else if known t n past (identity_of m) then reply i src (response m code_00) (In i ∷ past)
    else keep t n past i (as_kept m) (reply i src (response m code_00) (answer_pending t i (pending t past (key_of m)) (opening t past (key_of m)) code_68 (In i ∷ past)))

unfoldable pub on_advice : Network → ℕ → History → ReadInput → Fields → Source → History
unfolding put_count response is_good_card el card_of known identity_of keep
on_advice t n past i m src =
    if not (is_good_card (el m 2)) then reply i src (response m code_14) (In i ∷ past)
    else if is_none (issuer t (card_of m)) then reply i src (response m code_92) (In i ∷ past)
    else if known t n past (identity_of m) then reply i src (response m code_00) (In i ∷ past)
    else keep t n past i (as_kept m) (reply i src (response m code_00) (In i ∷ past))

-- answers

abbrev pub as_code : Bytes → Bytes → Bytes
as_code other c = if bytes_eq c code_94 then other else c

-- what an answer with this code for k does: close k, or undo what comes late
abbrev pub on_code : Network → ℕ → History → ReadInput → Key → Bytes → Bytes → Option Opening → History
on_code t n past i k c other None = In i ∷ past
on_code t n past i k c other (Some op) =
    if pending t past k then reply i op.source (response op.message (as_code other c)) (In i ∷ past)
    else if bytes_eq c code_00 && comes_late past (advices t n past) k then keep t n past i (made_reversal op.message (node_id t n)) (In i ∷ past)
    else In i ∷ past

-- an answer counts on the link on which its key was forwarded
unfoldable pub on_answer : Network → ℕ → History → ReadInput → Fields → Source → History
unfolding key_of code_of opening answer forwarded put_count response keep advices made_reversal
on_answer t n past i m Gate = In i ∷ past
on_answer t n past i m (ByLink l) =
    if is_link l (forwarded past (key_of m)) then on_code t n past i (key_of m) (code_of m) code_96 (opening t past (key_of m)) else In i ∷ past

unfoldable pub on_host : Network → ℕ → History → ReadInput → Bytes → Option Key → History
unfolding code_of opening answer put_count response keep advices made_reversal
on_host t n past i c None = In i ∷ past
on_host t n past i c (Some k) = on_code t n past i k c code_05 (opening t past k)

abbrev pub on_group : Network → ℕ → History → ReadInput → Fields → Source → Group → History
on_group t n past i m src groups.AuthorizationRequest = on_request t n past i m src (opening t past (key_of m))
on_group t n past i m src groups.AuthorizationResponse = on_answer t n past i m src
on_group t n past i m src groups.Advice = on_advice t n past i m src
on_group t n past i m src groups.Reversal = on_reversal t n past i m src
on_group t n past i m src groups.AdviceResponse = In i ∷ past
on_group t n past i m src groups.ReversalResponse = In i ∷ past

abbrev pub on_handled : Network → ℕ → History → ReadInput → Option Handled → History
on_handled t n past i None = In i ∷ past
on_handled t n past i (Some x) = on_group t n past i x.message x.source (group x.message.kind)

-- the history after the entry of an input
unfoldable pub decide : Network → ℕ → History → ReadInput → History
unfolding on_request on_reversal on_advice on_answer on_host handled opening fail_all failing send_all due send_grant grants put_count ask_key get find_element el put without set_element remove_element own_key original_key key_of content identity_of code_of response made_from made_stand_in made_reversal
decide t n past (Enter m) = on_handled t n past (Enter m) (handled t past (Enter m))
decide t n past (Take l s m) = on_handled t n past (Take l s m) (handled t past (Take l s m))
decide t n past (LinkUp l) = In (LinkUp l) ∷ past
decide t n past (LinkDown l) = fail_all t n past (LinkDown l) (failing t past (LinkDown l)) (In (LinkDown l) ∷ past)
decide t n past Tick = fail_all t n past Tick (failing t past Tick) (send_all t n Tick (due t n past) (In Tick ∷ past))
decide t n past (HostAnswer a c) = on_host t n past (HostAnswer a c) c (ask_key past a)
decide t n past (NewDate date) = In (NewDate date) ∷ past
decide t n past (TakePacket l s p) = on_packet (TakePacket l s p) l p (In (TakePacket l s p) ∷ past)
decide t n past (Lend m card date amount) = send_newest t n (Lend m card date amount) (grants t n (In (Lend m card date amount) ∷ past)) (In (Lend m card date amount) ∷ past)
