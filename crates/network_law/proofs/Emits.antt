-- What an entry may put out, case by case; and that the decision puts out nothing else.
use Rattle.std.proofs.Common.{◌≡◌, ℕ, suc, ◌+◌, List, [], ◌∷◌, ◌++◌, find, filter, map, length, nat_lt, eqb, reverse, Option, Some, None, is_some, is_none, Bool, true, false, cond, not, ◌&&◌, refl, sym, ap, ◌∙◌, subst, inl, inr, ⊎_elim, ◌⊎◌, bytes_eq}
use Rattle.std.proofs.lemmas.Bool.{cond_both, and_parts, not-true, eqb-true, or_right}
use Rattle.std.proofs.lemmas.Option.{same_Some}
use Rattle.std.specs.Option.{option_or}
use mathlib.Core.List.{reverse-cons}
use Rattle.net_rows.specs.Network.{Network, issuer}
use Rattle.net_rows.specs.declared.row.Issuer.{Issuer}
use Rattle.network_law.specs.Tables.{is_home, node_id, route_links, links_between}
use Rattle.network_law.specs.Traces.{Source, Gate, ByLink, ReadInput, Enter, Take, LinkUp, LinkDown, Tick, HostAnswer, NewDate, TakePacket, Lend, ReadOutput, Put, Answer, Ask, Post, PutPacket, In, Out, History, count_of, put_count, ask_count, ask_key, Handled, handled, Opening, opening, opened, answer, pending, forwarded, fails, Advice, advices, known, Lent, grants, as_kept, is_at_home, brings_00, is_link, comes_late, ticks_by, is_due_at, asked, asks, key_asked, is_timer, was_put, reversed, load, is_up, IsIn}
use Rattle.network_law.specs.declared.grant.Grant.{Grant}
use Rattle.network_law.specs.declared.grant.GrantPacket.{GrantPacket}
use Rattle.network_law.specs.declared.grant.GrantPacket.TheVariants as packets
use Rattle.network_law.specs.Decision.{Due, DueAdvice, DueGrant, grants_made_after, in_order, is_sent_again, is_due_again, send_grant, send_grant_by, send_newest, on_packet, decide, reply, reply_output, next_put, emit, keep, send, send_by, own_way, sent_kind, standin, standin_code, fail, fail_all, send_all, failing, on_request, on_issuer, on_forward, on_repeat, on_reversal, on_advice, on_answer, on_host, on_code, on_group, on_handled, same_source, first_up, as_code, answer_pending, other_content}
use Rattle.network_law.specs.Cards.{Bytes, is_good_card, card_of}
use Rattle.network_law.specs.Entries.{IsCode}
use Rattle.iso_message.specs.Fields.{Fields, el, as_kind}
use Rattle.message_elements.specs.declared.kind.Kind.{Kind}
use Rattle.message_elements.specs.declared.kind.Group.{Group}
use Rattle.message_elements.specs.Groups.{group, is_request, is_answer, is_reversal, is_04xx}
use Rattle.message_elements.specs.declared.kind.Kind.TheVariants.{K0100, K0101, K0110, K0120, K0121, K0130, K0400, K0401, K0410, K0420, K0421, K0430}
use Rattle.card_digits.specs.declared.key.Key.{Key}
use Rattle.message_keys.proofs.Equality.{key_eq_refl}
use Rattle.message_keys.specs.Keys.{key_eq, key_of, content, content_eq, identity_of, code_of}
use Rattle.message_elements.specs.Codes.{code_00, code_05, code_14, code_68, code_92, code_94, code_96}
use Rattle.iso_message.specs.Made.{made_reversal, made_stand_in, response}
use Rattle.message_elements.specs.declared.kind.Group.TheVariants as groups

abbrev pub handled_as : Network → History → ReadInput → Fields → Source → Type 0
handled_as t past i m src = handled t past i ≡ Some (record { message = m; source = src })

abbrev pub is_kept_group : Group → Bool
is_kept_group groups.Advice = true
is_kept_group groups.Reversal = true
is_kept_group _ = false

-- where a message that is sent or posted as an advice comes from
pub record Accepts (t : Network) (n : ℕ) (past : History) (i : ReadInput) (h : History) (x : Fields) : Type 0 where
  pub message : Fields
  pub source : Source
  pub is_handled : handled_as t past i message source
  pub kept_group : is_kept_group (group message.kind) ≡ true
  pub issued : is_none (issuer t (card_of message)) ≡ false
  pub agrees : is_reversal message.kind ≡ true → other_content (opening t past (key_of message)) message ≡ false
  pub unknown : known t n past (identity_of message) ≡ false
  pub is : x ≡ as_kept message
  pub before : History
  pub at : h ≡ reply i source (response message code_00) before
  pub was : (before ≡ In i ∷ past) ⊎ ((op : Opening) × (before ≡ reply i op.source (response op.message code_68) (In i ∷ past)))

pub data Kept (t : Network) (n : ℕ) (past : History) (i : ReadInput) (h : History) (x : Fields) : Type 0 where
  -- it is stored
  due : (a : Advice) → IsIn a (advices t n past) → x ≡ a.message → Kept t n past i h x
  -- it is made: k failed, or a 00 came late
  reversing : (key : Key) (op : Opening) → opening t past key ≡ Some op → is_some (ticks_by t (forwarded past key) (asked past key)) ≡ true → x ≡ made_reversal op.message (node_id t n) → Kept t n past i h x
  -- it is made: k was approved by the node itself
  standing : (key : Key) (op : Opening) → opening t (In i ∷ past) key ≡ Some op → (s : Issuer) → issuer t (card_of op.message) ≡ Some s → x ≡ made_stand_in op.message (node_id t n) → Kept t n past i h x
  -- it is accepted
  accepting : Accepts t n past i h x → Kept t n past i h x

-- the request is put on a link
pub record Forwarding (t : Network) (n : ℕ) (past : History) (i : ReadInput) (h : History) (o : ReadOutput) : Type 0 where
  pub message : Fields
  pub source : Source
  pub link : ℕ
  pub s : Issuer
  pub is_handled : handled_as t past i message source
  pub request : is_request message.kind ≡ true
  pub fresh : opening t past (key_of message) ≡ None
  pub issued : issuer t (card_of message) ≡ Some s
  pub away : is_home s n ≡ false
  pub on_route : IsIn link (route_links t n (card_of message))
  pub not_reversed : reversed t n past (key_of message) ≡ false
  pub first : h ≡ In i ∷ past
  pub is : o ≡ next_put link (as_kind K0100 message) h

pub record Asking (t : Network) (n : ℕ) (past : History) (i : ReadInput) (h : History) (o : ReadOutput) : Type 0 where
  pub message : Fields
  pub source : Source
  pub s : Issuer
  pub is_handled : handled_as t past i message source
  pub request : is_request message.kind ≡ true
  pub fresh : opening t past (key_of message) ≡ None
  pub issued : issuer t (card_of message) ≡ Some s
  pub home : is_home s n ≡ true
  pub not_reversed : reversed t n past (key_of message) ≡ false
  pub first : h ≡ In i ∷ past
  pub is : o ≡ Ask (suc (ask_count past)) (as_kind K0100 message)

-- a request that is open in this entry
pub record IsOpenNow (t : Network) (past : History) (i : ReadInput) (op : Opening) : Type 0 where
  pub key : Key
  pub is : opening t (In i ∷ past) key ≡ Some op

-- the key was opened by this entry's input, and nothing was put out yet
pub record OpenedFirst (t : Network) (past : History) (i : ReadInput) (h : History) (key : Key) : Type 0 where
  pub fresh : opening t past key ≡ None
  pub first : h ≡ In i ∷ past
  pub no_timer : is_timer i ≡ false

-- k fails at this input, and had ticks
abbrev pub FailsNow : Network → History → ReadInput → Key → Type 0
FailsNow t past i k = (is_some (ticks_by t (forwarded past k) (asked past k)) ≡ true) × (fails t past i k ≡ true)

-- the key was pending, and fails
pub record Failed (t : Network) (past : History) (i : ReadInput) (key : Key) (op : Opening) : Type 0 where
  pub timer : is_timer i ≡ true
  pub fails_now : fails t past i key ≡ true
  pub was : opening t past key ≡ Some op
  pub ticks : is_some (ticks_by t (forwarded past key) (asked past key)) ≡ true

-- the key was pending, and its reversal is accepted in this entry
pub record Reversing (t : Network) (n : ℕ) (past : History) (i : ReadInput) (h : History) (key : Key) (op : Opening) : Type 0 where
  pub message : Fields
  pub source : Source
  pub is_handled : handled_as t past i message source
  pub reversal : group message.kind ≡ groups.Reversal
  pub key_is : key_of message ≡ key
  pub was : opening t past key ≡ Some op
  pub good : not (is_good_card (el message 2)) ≡ false
  pub issued : is_none (issuer t (card_of message)) ≡ false
  pub same : other_content (opening t past (key_of message)) message ≡ false
  pub unknown : known t n past (identity_of message) ≡ false
  pub first : h ≡ In i ∷ past

-- stand-in answers a key
pub record StandingIn (t : Network) (n : ℕ) (past : History) (i : ReadInput) (h : History) (o : ReadOutput) : Type 0 where
  pub op : Opening
  pub s : Issuer
  pub opens : IsOpenNow t past i op
  pub issued : issuer t (card_of op.message) ≡ Some s
  pub how : OpenedFirst t past i h opens.key ⊎ Failed t past i opens.key op
  pub not_reversed : opening t past opens.key ≡ None → reversed t n past opens.key ≡ false
  pub is : o ≡ reply_output op.source (response op.message (standin_code t n h op.message)) h

-- an answer came by the link on which k was forwarded, or from the host that was asked
pub record ViaLink (past : History) (i : ReadInput) (key : Key) : Type 0 where
  pub link : ℕ
  pub serial : ℕ
  pub message : Fields
  pub input : i ≡ Take link serial message
  pub answer_kind : is_answer message.kind ≡ true
  pub key_is : key_of message ≡ key
  pub forwarded_on : forwarded past key ≡ Some link

pub record ViaHost (past : History) (i : ReadInput) (key : Key) : Type 0 where
  pub ask : ℕ
  pub code : Bytes
  pub input : i ≡ HostAnswer ask code
  pub key_asked : ask_key past ask ≡ Some key

abbrev pub Via : Network → History → ReadInput → Key → Type 0
Via t past i key = ViaLink past i key ⊎ ViaHost past i key

-- the code is that of the answer that came
pub data Brought (i : ReadInput) (code : Bytes) : Type 0 where
  by_link : (l s : ℕ) (m : Fields) → i ≡ Take l s m → is_answer m.kind ≡ true → code ≡ code_of m → Brought i code
  by_host : (a : ℕ) → i ≡ HostAnswer a code → Brought i code

-- an answer that came is passed on
pub record Passing (t : Network) (n : ℕ) (past : History) (i : ReadInput) (h : History) (o : ReadOutput) : Type 0 where
  pub op : Opening
  pub key : Key
  pub code : Bytes
  pub opens : opening t past key ≡ Some op
  pub brought : bytes_eq code code_00 ≡ true → brings_00 past key i ≡ true
  pub via : Via t past i key
  pub code_from : IsCode code ⊎ Brought i code
  pub not_94 : bytes_eq code code_94 ≡ false
  pub is : o ≡ reply_output op.source (response op.message code) h

-- a request is answered with a code that is neither 00 nor 94
pub record Declining (t : Network) (n : ℕ) (past : History) (i : ReadInput) (h : History) (o : ReadOutput) : Type 0 where
  pub op : Opening
  pub code : Bytes
  pub opens : IsOpenNow t past i op
  pub is_code : IsCode code
  pub not_00 : bytes_eq code code_00 ≡ false
  pub not_94 : bytes_eq code code_94 ≡ false
  pub how : OpenedFirst t past i h opens.key ⊎ Reversing t n past i h opens.key op
  pub is : o ≡ reply_output op.source (response op.message code) h

-- the same answer again
pub record Repeating (t : Network) (n : ℕ) (past : History) (i : ReadInput) (h : History) (o : ReadOutput) : Type 0 where
  pub key : Key
  pub source : Source
  pub before : Fields
  pub answered : answer past key ≡ Some before
  pub no_timer : is_timer i ≡ false
  pub is : o ≡ reply_output source before h

-- 94 to a message of a known key from another source or with other content
pub record Refusing (t : Network) (n : ℕ) (past : History) (i : ReadInput) (h : History) (o : ReadOutput) : Type 0 where
  pub message : Fields
  pub source : Source
  pub op : Opening
  pub is_handled : handled_as t past i message source
  pub opens : opening t past (key_of message) ≡ Some op
  pub differs : ((is_request message.kind ≡ true) × ((same_source op.source source && content_eq (content op.message) (content message)) ≡ false)) ⊎ ((is_reversal message.kind ≡ true) × (content_eq (content op.message) (content message) ≡ false))
  pub is : o ≡ reply_output source (response message code_94) h

-- what an advice or reversal must be to be acknowledged
pub record IsGood (t : Network) (past : History) (m : Fields) : Type 0 where
  pub issued : is_none (issuer t (card_of m)) ≡ false
  pub agrees : is_reversal m.kind ≡ true → other_content (opening t past (key_of m)) m ≡ false

-- an advice or reversal is acknowledged or refused
pub record Acking (t : Network) (n : ℕ) (past : History) (i : ReadInput) (h : History) (o : ReadOutput) : Type 0 where
  pub message : Fields
  pub source : Source
  pub code : Bytes
  pub is_handled : handled_as t past i message source
  pub kind : is_kept_group (group message.kind) ≡ true
  pub is_code : IsCode code
  pub not_94 : bytes_eq code code_94 ≡ false
  pub good : bytes_eq code code_00 ≡ true → IsGood t past message
  pub settled : bytes_eq code code_00 ≡ true → is_reversal message.kind ≡ true → (known t n past (identity_of message) ≡ true) ⊎ (h ≡ answer_pending t i (pending t past (key_of message)) (opening t past (key_of message)) code_68 (In i ∷ past))
  pub is : o ≡ reply_output source (response message code) h

-- an advice is put on a link or posted
pub record Sending (t : Network) (n : ℕ) (past : History) (i : ReadInput) (h : History) (o : ReadOutput) : Type 0 where
  pub message : Fields
  pub link : ℕ
  pub again : Bool
  pub kept : Kept t n past i h message
  pub away : is_at_home t n message ≡ false
  pub way : own_way t n h message (forwarded h (key_of message)) ≡ Some link
  pub is : o ≡ next_put link (as_kind (sent_kind (is_04xx message.kind) again) message) h

pub record Posting (t : Network) (n : ℕ) (past : History) (i : ReadInput) (h : History) (o : ReadOutput) : Type 0 where
  pub message : Fields
  pub kept : Kept t n past i h message
  pub home : is_at_home t n message ≡ true
  pub unknown : known t n past (identity_of message) ≡ false
  pub is : o ≡ Post message

-- a grant that the node made is put on a link, or a taken one is acknowledged
pub record PuttingPacket (t : Network) (n : ℕ) (past : History) (i : ReadInput) (h : History) (o : ReadOutput) : Type 0 where
  pub link : ℕ
  pub packet : GrantPacket
  pub from : ((g : Lent) × IsIn g (grants t n (In i ∷ past)) × (packet ≡ packets.Grant g.grant)) ⊎ ((l : ℕ) × (s : ℕ) × (g : Grant) × (i ≡ TakePacket l s (packets.Grant g)) × (packet ≡ packets.Ack g.lender g.number))
  pub is : o ≡ PutPacket link (suc (put_count h link)) packet

pub data Allowed (t : Network) (n : ℕ) (past : History) (i : ReadInput) (h : History) (o : ReadOutput) : Type 0 where
  forwarding : Forwarding t n past i h o → Allowed t n past i h o
  asking : Asking t n past i h o → Allowed t n past i h o
  standing_in : StandingIn t n past i h o → Allowed t n past i h o
  passing : Passing t n past i h o → Allowed t n past i h o
  declining : Declining t n past i h o → Allowed t n past i h o
  repeating : Repeating t n past i h o → Allowed t n past i h o
  refusing : Refusing t n past i h o → Allowed t n past i h o
  acking : Acking t n past i h o → Allowed t n past i h o
  sending : Sending t n past i h o → Allowed t n past i h o
  posting : Posting t n past i h o → Allowed t n past i h o
  putting_packet : PuttingPacket t n past i h o → Allowed t n past i h o

-- small facts

pub request_from_group : (k : Kind) → group k ≡ groups.AuthorizationRequest → is_request k ≡ true
request_from_group K0100 e = refl
request_from_group K0101 e = refl
request_from_group K0110 e = cc
request_from_group K0120 e = cc
request_from_group K0121 e = cc
request_from_group K0130 e = cc
request_from_group K0400 e = cc
request_from_group K0401 e = cc
request_from_group K0410 e = cc
request_from_group K0420 e = cc
request_from_group K0421 e = cc
request_from_group K0430 e = cc

pub reversal_from_group : (k : Kind) → group k ≡ groups.Reversal → is_reversal k ≡ true
reversal_from_group K0100 e = cc
reversal_from_group K0101 e = cc
reversal_from_group K0110 e = cc
reversal_from_group K0120 e = cc
reversal_from_group K0121 e = cc
reversal_from_group K0130 e = cc
reversal_from_group K0400 e = refl
reversal_from_group K0401 e = refl
reversal_from_group K0410 e = cc
reversal_from_group K0420 e = refl
reversal_from_group K0421 e = refl
reversal_from_group K0430 e = cc

pub answer_from_group : (k : Kind) → group k ≡ groups.AuthorizationResponse → is_answer k ≡ true
answer_from_group K0100 e = cc
answer_from_group K0101 e = cc
answer_from_group K0110 e = refl
answer_from_group K0120 e = cc
answer_from_group K0121 e = cc
answer_from_group K0130 e = cc
answer_from_group K0400 e = cc
answer_from_group K0401 e = cc
answer_from_group K0410 e = cc
answer_from_group K0420 e = cc
answer_from_group K0421 e = cc
answer_from_group K0430 e = cc

pub found_is_in : {X : Type 0} (p : X → Bool) (xs : List X) (x : X) → find p xs ≡ Some x → IsIn x xs
found_is_in p [] x e = cc
found_is_in p (y ∷ ys) x e = go (p y) refl (found_is_in p ys x)
  where
    go : (b : Bool) → p y ≡ b → (find p ys ≡ Some x → IsIn x ys) → (y ≡ x) ⊎ IsIn x ys
    go true at rest = inl (same_Some y x (rw at at e))
    go false at rest = inr (rest (rw at at e))

-- an opening in the past is one now
pub stays_open : (t : Network) (past : History) (i : ReadInput) (k : Key) (op : Opening) → opening t past k ≡ Some op → opening t (In i ∷ past) k ≡ Some op
unfolding opening
stays_open t past i k op e = rw e refl

abbrev pub opening_now : History → ReadInput → Fields → Source → Opening
opening_now past i m src = record { message = m; source = src; count = count_of past; input = i }

pub opens_now : (t : Network) (past : History) (i : ReadInput) (m : Fields) (src : Source) → handled_as t past i m src → is_request m.kind ≡ true → opening t past (key_of m) ≡ None → opening t (In i ∷ past) (key_of m) ≡ Some (opening_now past i m src)
unfolding opening
opens_now t past i m src e r f = rw (f, e, r, key_eq_refl (key_of m)) refl

pub from_link : (t : Network) (past : History) (i : ReadInput) (m : Fields) (l : ℕ) → handled_as t past i m (ByLink l) → (s : ℕ) × (i ≡ Take l s m)
unfolding handled
from_link t past (Enter x) m l e = absurd (gate≢link (ap source_of (same_Some _ _ e)))
  where
    source_of : Handled → Source
    source_of x = x.source

    gate≢link : Gate ≡ ByLink l → ⊥
    gate≢link p = cc
from_link t past (Take k s x) m l e =
    let p = same_Some _ _ e in
    let a : x ≡ m = ap (λ (h : Handled). h.message) p in
    let b : ByLink k ≡ ByLink l = ap (λ (h : Handled). h.source) p in
    (s, cc)
from_link t past (LinkUp k) m l e = cc
from_link t past (LinkDown k) m l e = cc
from_link t past Tick m l e = cc
from_link t past (HostAnswer a c) m l e = cc
from_link t past (NewDate d) m l e = cc
from_link t past (TakePacket lk sr pk) m l e = cc
from_link t past (Lend br cd dt am) m l e = cc

-- what is pending at a link, at a tick or at the host has an issuer
abbrev pub Issued : Network → Fields → Type 0
Issued t m = (s : Issuer) × (issuer t (card_of m) ≡ Some s)

abbrev pub KeepsIssuers : Network → History → Type 0
KeepsIssuers t past = (k : Key) (op : Opening) → opening t past k ≡ Some op → is_some (ticks_by t (forwarded past k) (asked past k)) ≡ true → Issued t op.message

pub handled_no_timer : (t : Network) (past : History) (i : ReadInput) (m : Fields) (src : Source) → handled_as t past i m src → is_timer i ≡ false
unfolding handled
handled_no_timer t past (Enter x) m src e = refl
handled_no_timer t past (Take k s x) m src e = refl
handled_no_timer t past (LinkUp k) m src e = refl
handled_no_timer t past (LinkDown k) m src e = cc
handled_no_timer t past Tick m src e = cc
handled_no_timer t past (HostAnswer a c) m src e = refl
handled_no_timer t past (NewDate d) m src e = refl
handled_no_timer t past (TakePacket lk sr pk) m src e = refl
handled_no_timer t past (Lend br cd dt am) m src e = refl

advice_no_reversal : (k : Kind) → group k ≡ groups.Advice → is_reversal k ≡ true → ⊥
advice_no_reversal K0100 e r = cc
advice_no_reversal K0101 e r = cc
advice_no_reversal K0110 e r = cc
advice_no_reversal K0120 e r = cc
advice_no_reversal K0121 e r = cc
advice_no_reversal K0130 e r = cc
advice_no_reversal K0400 e r = cc
advice_no_reversal K0401 e r = cc
advice_no_reversal K0410 e r = cc
advice_no_reversal K0420 e r = cc
advice_no_reversal K0421 e r = cc
advice_no_reversal K0430 e r = cc

pub is_link_is : (l : ℕ) (o : Option ℕ) → is_link l o ≡ true → o ≡ Some l
is_link_is l None e = cc
is_link_is l (Some k) e = ap Some (eqb-true k l e)

option_or_some : {X : Type 0} (a b : Option X) (x : X) → option_or a b ≡ Some x → (a ≡ Some x) ⊎ ((a ≡ None) × (b ≡ Some x))
option_or_some None b x e = inr (refl, e)
option_or_some (Some a) b x e = inl e

-- a key that an ask names was asked
pub ask_key_asked : (h : History) (a : ℕ) (k : Key) → ask_key h a ≡ Some k → asked h k ≡ true
unfolding ask_key asked
ask_key_asked [] a k e = cc
ask_key_asked (In i ∷ h) a k e = ask_key_asked h a k e
ask_key_asked (Out i o ∷ h) a k e = ⊎_elim (λ was. rw (ask_key_asked h a k was) refl) (λ now. or_right (asked h k) (asks k o) (here o now.1)) (option_or_some (ask_key h a) (key_asked a o) k e)
  where
    here : (p : ReadOutput) → key_asked a p ≡ Some k → asks k p ≡ true
    here (Ask b m) f = test (eqb a b) refl
      where
        test : (c : Bool) → eqb a b ≡ c → key_eq (key_of m) k ≡ true
        test true at = ap (λ z. key_eq z k) (same_Some (key_of m) k (rw at at f)) ∙ key_eq_refl k
        test false at = absurd (no (rw at at f))
          where
            no : None ≡ Some k → ⊥
            no p = cc
    here (Put l s m) f = cc
    here (Answer m) f = cc
    here (Post m) f = cc
    here (PutPacket l s p) f = cc

pub via_ticks : (t : Network) (past : History) (i : ReadInput) (k : Key) → Via t past i k → is_some (ticks_by t (forwarded past k) (asked past k)) ≡ true
via_ticks t past i k (inl v) = rw v.forwarded_on refl
via_ticks t past i k (inr v) = go (forwarded past k)
  where
    go : (w : Option ℕ) → is_some (ticks_by t w (asked past k)) ≡ true
    go None = rw (ask_key_asked past v.ask k v.key_asked) refl
    go (Some l) = refl

-- what is due comes from what is kept and lent
abbrev pub IsDueFrom : Network → ℕ → History → ReadInput → Due → Type 0
IsDueFrom t n past i (DueAdvice a) = IsIn a (advices t n past) × (is_at_home t n a.message ≡ false)
IsDueFrom t n past i (DueGrant g) = IsIn g (grants t n (In i ∷ past))

module _ (t : Network) (n : ℕ) (past : History) (i : ReadInput) (Q : History → Type 0) (close : (h : History) (o : ReadOutput) → Q h → Allowed t n past i h o → Q (Out i o ∷ h)) where
  pub send_keeps : (x : Fields) (h : History) → Kept t n past i h x → is_at_home t n x ≡ false → Q h → Q (send t n i x h)
  unfolding send
  send_keeps x h kept away q = go (own_way t n h x (forwarded h (key_of x))) refl
    where
      go : (w : Option ℕ) → own_way t n h x (forwarded h (key_of x)) ≡ w → Q (send_by i x w h)
      go None e = q
      go (Some l) e = close h (next_put l (as_kind (sent_kind (is_04xx x.kind) (was_put h (identity_of x))) x) h) q (sending (record { message = x; link = l; again = was_put h (identity_of x); kept = kept; away = away; way = e; is = refl }))

  pub keep_keeps : (x : Fields) (h : History) → Kept t n past i h x → Q h → Q (keep t n past i x h)
  unfolding keep
  keep_keeps x h kept q =
      cond_both (known t n past (identity_of x)) h (cond (is_at_home t n x) (emit i (Post x) h) (send t n i x h)) Q (λ _. q)
      (λ unknown. cond_both (is_at_home t n x) (emit i (Post x) h) (send t n i x h) Q
      (λ home. close h (Post x) q (posting (record { message = x; kept = kept; home = home; unknown = unknown; is = refl })))
      (λ away. send_keeps x h kept away q))

  pub standin_keeps : (key : Key) (op : Opening) (h : History) → opening t (In i ∷ past) key ≡ Some op → OpenedFirst t past i h key ⊎ Failed t past i key op → (opening t past key ≡ None → reversed t n past key ≡ false) → Issued t op.message → Q h → Q (standin t n past i op h)
  unfolding standin
  standin_keeps key op h now how nr issued q =
      let c : Bytes = standin_code t n h op.message in
      let replied : Q (reply i op.source (response op.message c) h) = close h (reply_output op.source (response op.message c) h) q (standing_in (record { op = op; s = issued.0; opens = record { key = key; is = now }; issued = issued.1; how = how; not_reversed = nr; is = refl })) in
      cond_both (bytes_eq c code_00) (keep t n past i (made_stand_in op.message (node_id t n)) (reply i op.source (response op.message c) h)) (reply i op.source (response op.message c) h) Q
      (λ _. keep_keeps (made_stand_in op.message (node_id t n)) (reply i op.source (response op.message c) h) (standing key op now issued.0 issued.1 refl) replied) (λ _. replied)

  pub fail_keeps : (k : Key) (o : Option Opening) (h : History) → is_timer i ≡ true → opening t past k ≡ o → FailsNow t past i k → ((op : Opening) → opening t past k ≡ Some op → Issued t op.message) → Q h → Q (fail t n past i o h)
  unfolding fail
  fail_keeps k None h timer e ticks issued q = q
  fail_keeps k (Some op) h timer e ticks issued q = standin_keeps k op (keep t n past i (made_reversal op.message (node_id t n)) h) (stays_open t past i k op e) (inr (record { timer = timer; fails_now = ticks.1; was = e; ticks = ticks.0 })) (λ fresh. absurd (no (sym fresh ∙ e))) (issued op e) (keep_keeps (made_reversal op.message (node_id t n)) h (reversing k op e ticks.0 refl) q)
    where
      no : None ≡ Some op → ⊥
      no p = cc

  pub fail_all_keeps : (ks : List Key) (h : History) → is_timer i ≡ true → ((k : Key) → IsIn k ks → FailsNow t past i k) → KeepsIssuers t past → Q h → Q (fail_all t n past i ks h)
  unfolding fail_all
  fail_all_keeps [] h timer ticks issued q = q
  fail_all_keeps (k ∷ ks) h timer ticks issued q = fail_all_keeps ks (fail t n past i (opening t past k) h) timer (λ j m. ticks j (inr m)) issued (fail_keeps k (opening t past k) h timer refl (ticks k (inl refl)) (λ op e. issued k op e (ticks k (inl refl)).0) q)

  pub send_grant_keeps : (g : Lent) (h : History) → IsIn g (grants t n (In i ∷ past)) → Q h → Q (send_grant t n i g h)
  unfolding send_grant
  send_grant_keeps g h from q = go (first_up h (links_between t n g.borrower))
    where
      go : (w : Option ℕ) → Q (send_grant_by i g w h)
      go None = q
      go (Some l) = close h (PutPacket l (suc (put_count h l)) (packets.Grant g.grant)) q (putting_packet (record { link = l; packet = packets.Grant g.grant; from = inl (g, from, refl); is = refl }))

  pub newest_keeps : (gs : List Lent) (h : History) → ((g : Lent) → IsIn g gs → IsIn g (grants t n (In i ∷ past))) → Q h → Q (send_newest t n i gs h)
  newest_keeps [] h from q = q
  newest_keeps (g ∷ gs) h from q = send_grant_keeps g h (from g (inl refl)) q

  pub packet_keeps : (l s : ℕ) (p : GrantPacket) → i ≡ TakePacket l s p → Q (In i ∷ past) → Q (on_packet i l p (In i ∷ past))
  packet_keeps l s (packets.Grant g) is q = close (In i ∷ past) (PutPacket l (suc (put_count (In i ∷ past) l)) (packets.Ack g.lender g.number)) q (putting_packet (record { link = l; packet = packets.Ack g.lender g.number; from = inr (l, s, g, is, refl); is = refl }))
  packet_keeps l s (packets.Ack lender number) is q = q

  pub send_all_keeps : (xs : List Due) (h : History) → ((x : Due) → IsIn x xs → IsDueFrom t n past i x) → Q h → Q (send_all t n i xs h)
  unfolding send_all
  send_all_keeps [] h from q = q
  send_all_keeps (DueAdvice a ∷ xs) h from q = send_all_keeps xs (send t n i a.message h) (λ b m. from b (inr m)) (send_keeps a.message h (due a (from (DueAdvice a) (inl refl)).0 refl) (from (DueAdvice a) (inl refl)).1 q)
  send_all_keeps (DueGrant g ∷ xs) h from q = send_all_keeps xs (send_grant t n i g h) (λ b m. from b (inr m)) (send_grant_keeps g h (from (DueGrant g) (inl refl)) q)

  declines : (m : Fields) (src : Source) (c : Bytes) → IsCode c → handled_as t past i m src → is_request m.kind ≡ true → opening t past (key_of m) ≡ None → bytes_eq c code_00 ≡ false → bytes_eq c code_94 ≡ false → Q (In i ∷ past) → Q (reply i src (response m c) (In i ∷ past))
  declines m src c written e r f n00 n94 q = close (In i ∷ past) (reply_output src (response m c) (In i ∷ past)) q (declining (record { op = opening_now past i m src; code = c; opens = record { key = key_of m; is = opens_now t past i m src e r f }; is_code = written; not_00 = n00; not_94 = n94; how = inl (record { fresh = f; first = refl; no_timer = handled_no_timer t past i m src e }); is = refl }))

  forward_keeps : (m : Fields) (src : Source) (s : Issuer) (w : Option ℕ) → handled_as t past i m src → is_request m.kind ≡ true → opening t past (key_of m) ≡ None → reversed t n past (key_of m) ≡ false → issuer t (card_of m) ≡ Some s → is_home s n ≡ false → first_up past (route_links t n (card_of m)) ≡ w → Q (In i ∷ past) → Q (on_forward t n past i m src w)
  forward_keeps m src s None e r f nr si away w q = standin_keeps (key_of m) (opening_now past i m src) (In i ∷ past) (opens_now t past i m src e r f) (inl (record { fresh = f; first = refl; no_timer = handled_no_timer t past i m src e })) (λ _. nr) (s, si) q
  forward_keeps m src s (Some l) e r f nr si away w q = close (In i ∷ past) (next_put l (as_kind K0100 m) (In i ∷ past)) q (forwarding (record { message = m; source = src; link = l; s = s; is_handled = e; request = r; fresh = f; issued = si; away = away; on_route = found_is_in (is_up past) (route_links t n (card_of m)) l w; not_reversed = nr; first = refl; is = refl }))

  issuer_keeps : (m : Fields) (src : Source) (o : Option Issuer) → handled_as t past i m src → is_request m.kind ≡ true → opening t past (key_of m) ≡ None → reversed t n past (key_of m) ≡ false → issuer t (card_of m) ≡ o → Q (In i ∷ past) → Q (on_issuer t n past i m src o)
  issuer_keeps m src None e r f nr si q = declines m src code_92 (refl, refl) e r f refl refl q
  issuer_keeps m src (Some s) e r f nr si q =
      cond_both (nat_lt 65536 (load t n past + 2)) (reply i src (response m code_96) (In i ∷ past)) (cond (is_home s n) (emit i (Ask (suc (ask_count past)) (as_kind K0100 m)) (In i ∷ past)) (on_forward t n past i m src (first_up past (route_links t n (card_of m))))) Q
      (λ _. declines m src code_96 (refl, refl) e r f refl refl q)
      (λ _. cond_both (is_home s n) (emit i (Ask (suc (ask_count past)) (as_kind K0100 m)) (In i ∷ past)) (on_forward t n past i m src (first_up past (route_links t n (card_of m)))) Q
      (λ home. close (In i ∷ past) (Ask (suc (ask_count past)) (as_kind K0100 m)) q (asking (record { message = m; source = src; s = s; is_handled = e; request = r; fresh = f; issued = si; home = home; not_reversed = nr; first = refl; is = refl })))
      (λ away. forward_keeps m src s (first_up past (route_links t n (card_of m))) e r f nr si away refl q))

  repeat_keeps : (m : Fields) (src : Source) (o : Option Fields) → handled_as t past i m src → answer past (key_of m) ≡ o → Q (In i ∷ past) → Q (on_repeat i src o (In i ∷ past))
  repeat_keeps m src None h e q = q
  repeat_keeps m src (Some a) h e q = close (In i ∷ past) (reply_output src a (In i ∷ past)) q (repeating (record { key = key_of m; source = src; before = a; answered = e; no_timer = handled_no_timer t past i m src h; is = refl }))

  pub request_keeps : (m : Fields) (src : Source) (o : Option Opening) → handled_as t past i m src → is_request m.kind ≡ true → opening t past (key_of m) ≡ o → Q (In i ∷ past) → Q (on_request t n past i m src o)
  unfolding on_request
  request_keeps m src (Some op) e r f q =
      cond_both (same_source op.source src && content_eq (content op.message) (content m)) (on_repeat i src (answer past (key_of m)) (In i ∷ past)) (reply i src (response m code_94) (In i ∷ past)) Q
      (λ _. repeat_keeps m src (answer past (key_of m)) e refl q)
      (λ differs. close (In i ∷ past) (reply_output src (response m code_94) (In i ∷ past)) q (refusing (record { message = m; source = src; op = op; is_handled = e; opens = f; differs = inl (r, differs); is = refl })))
  request_keeps m src None e r f q =
      cond_both (reversed t n past (key_of m)) (reply i src (response m code_68) (In i ∷ past)) (cond (not (is_good_card (el m 2))) (reply i src (response m code_14) (In i ∷ past)) (on_issuer t n past i m src (issuer t (card_of m)))) Q
      (λ _. declines m src code_68 (refl, refl) e r f refl refl q)
      (λ nr. cond_both (not (is_good_card (el m 2))) (reply i src (response m code_14) (In i ∷ past)) (on_issuer t n past i m src (issuer t (card_of m))) Q
      (λ _. declines m src code_14 (refl, refl) e r f refl refl q)
      (λ _. issuer_keeps m src (issuer t (card_of m)) e r f nr refl q))

  abbrev Settled : Fields → History → Type 0
  Settled m h = (known t n past (identity_of m) ≡ true) ⊎ (h ≡ answer_pending t i (pending t past (key_of m)) (opening t past (key_of m)) code_68 (In i ∷ past))

  acks : (m : Fields) (src : Source) (c : Bytes) (h : History) → IsCode c → handled_as t past i m src → is_kept_group (group m.kind) ≡ true → bytes_eq c code_94 ≡ false → (bytes_eq c code_00 ≡ true → IsGood t past m) → (bytes_eq c code_00 ≡ true → is_reversal m.kind ≡ true → Settled m h) → Q h → Q (reply i src (response m c) h)
  acks m src c h written e g n94 good settled q = close h (reply_output src (response m c) h) q (acking (record { message = m; source = src; code = c; is_handled = e; kind = g; is_code = written; not_94 = n94; good = good; settled = settled; is = refl }))

  bad_code : {A : Type 0} → false ≡ true → A
  bad_code e = cc

  answer_pending_keeps : (m : Fields) (src : Source) (b : Bool) (o : Option Opening) → handled_as t past i m src → group m.kind ≡ groups.Reversal → not (is_good_card (el m 2)) ≡ false → is_none (issuer t (card_of m)) ≡ false → other_content (opening t past (key_of m)) m ≡ false → known t n past (identity_of m) ≡ false → opening t past (key_of m) ≡ o → Q (In i ∷ past) → Q (answer_pending t i b o code_68 (In i ∷ past))
  answer_pending_keeps m src true (Some op) h g good issued same unknown e q = close (In i ∷ past) (reply_output op.source (response op.message code_68) (In i ∷ past)) q (declining (record { op = op; code = code_68; opens = record { key = key_of m; is = stays_open t past i (key_of m) op e }; is_code = (refl, refl); not_00 = refl; not_94 = refl; how = inr (record { message = m; source = src; is_handled = h; reversal = g; key_is = refl; was = e; good = good; issued = issued; same = same; unknown = unknown; first = refl }); is = refl }))
  answer_pending_keeps m src true None h g good issued same unknown e q = q
  answer_pending_keeps m src false o h g good issued same unknown e q = q

  pub pending_was : (b : Bool) (o : Option Opening) → (answer_pending t i b o code_68 (In i ∷ past) ≡ In i ∷ past) ⊎ ((op : Opening) × (answer_pending t i b o code_68 (In i ∷ past) ≡ reply i op.source (response op.message code_68) (In i ∷ past)))
  pending_was true (Some op) = inr (op, refl)
  pending_was true None = inl refl
  pending_was false o = inl refl

  pub reversal_keeps : (m : Fields) (src : Source) → handled_as t past i m src → group m.kind ≡ groups.Reversal → Q (In i ∷ past) → Q (on_reversal t n past i m src)
  unfolding on_reversal
  reversal_keeps m src e g q =
      let ok : is_kept_group (group m.kind) ≡ true = rw g refl in
      cond_both (not (is_good_card (el m 2))) (reply i src (response m code_14) (In i ∷ past)) _ Q
      (λ _. acks m src code_14 (In i ∷ past) (refl, refl) e ok refl (λ z. bad_code z) (λ z _. bad_code z) q)
      (λ good. cond_both (is_none (issuer t (card_of m))) (reply i src (response m code_92) (In i ∷ past)) _ Q
      (λ _. acks m src code_92 (In i ∷ past) (refl, refl) e ok refl (λ z. bad_code z) (λ z _. bad_code z) q)
      (λ issued. cond_both (other_content (opening t past (key_of m)) m) (reply i src (response m code_94) (In i ∷ past)) _ Q
      (λ other. refuses (opening t past (key_of m)) refl other)
      (λ same. cond_both (known t n past (identity_of m)) (reply i src (response m code_00) (In i ∷ past)) _ Q
      (λ known_now. acks m src code_00 (In i ∷ past) (refl, refl) e ok refl (λ _. record { issued = issued; agrees = λ _. same }) (λ _ _. inl known_now) q)
      (λ unknown. keep_keeps (as_kept m) _ (accepting (record { message = m; source = src; is_handled = e; kept_group = ok; issued = issued; agrees = λ _. same; unknown = unknown; is = refl; before = answer_pending t i (pending t past (key_of m)) (opening t past (key_of m)) code_68 (In i ∷ past); at = refl; was = pending_was (pending t past (key_of m)) (opening t past (key_of m)) })) (acks m src code_00 _ (refl, refl) e ok refl (λ _. record { issued = issued; agrees = λ _. same }) (λ _ _. inr refl) (answer_pending_keeps m src (pending t past (key_of m)) (opening t past (key_of m)) e g good issued same unknown refl q))))))
    where
      refuses : (o : Option Opening) → opening t past (key_of m) ≡ o → other_content o m ≡ true → Q (reply i src (response m code_94) (In i ∷ past))
      refuses None f other = cc
      refuses (Some op) f other = close (In i ∷ past) (reply_output src (response m code_94) (In i ∷ past)) q (refusing (record { message = m; source = src; op = op; is_handled = e; opens = f; differs = inr (reversal_from_group m.kind g, not-true _ other); is = refl }))

  pub advice_keeps : (m : Fields) (src : Source) → handled_as t past i m src → group m.kind ≡ groups.Advice → Q (In i ∷ past) → Q (on_advice t n past i m src)
  unfolding on_advice
  advice_keeps m src e g q =
      let ok : is_kept_group (group m.kind) ≡ true = rw g refl in
      cond_both (not (is_good_card (el m 2))) (reply i src (response m code_14) (In i ∷ past)) _ Q
      (λ _. acks m src code_14 (In i ∷ past) (refl, refl) e ok refl (λ z. bad_code z) (λ z _. bad_code z) q)
      (λ _. cond_both (is_none (issuer t (card_of m))) (reply i src (response m code_92) (In i ∷ past)) _ Q
      (λ _. acks m src code_92 (In i ∷ past) (refl, refl) e ok refl (λ z. bad_code z) (λ z _. bad_code z) q)
      (λ issued. cond_both (known t n past (identity_of m)) (reply i src (response m code_00) (In i ∷ past)) _ Q
      (λ _. acks m src code_00 (In i ∷ past) (refl, refl) e ok refl (λ _. record { issued = issued; agrees = λ r. absurd (advice_no_reversal m.kind g r) }) (λ _ r. absurd (advice_no_reversal m.kind g r)) q)
      (λ unknown. keep_keeps (as_kept m) _ (accepting (record { message = m; source = src; is_handled = e; kept_group = ok; issued = issued; agrees = λ r. absurd (advice_no_reversal m.kind g r); unknown = unknown; is = refl; before = In i ∷ past; at = refl; was = inl refl })) (acks m src code_00 _ (refl, refl) e ok refl (λ _. record { issued = issued; agrees = λ r. absurd (advice_no_reversal m.kind g r) }) (λ _ r. absurd (advice_no_reversal m.kind g r)) q))))

  -- an answer's code as it is passed on
  passes : (op : Opening) (k : Key) (c other : Bytes) → Brought i c → IsCode other → opening t past k ≡ Some op → Via t past i k → (bytes_eq c code_00 ≡ true → brings_00 past k i ≡ true) → bytes_eq other code_00 ≡ false → bytes_eq other code_94 ≡ false → Q (In i ∷ past) → Q (reply i op.source (response op.message (as_code other c)) (In i ∷ past))
  passes op k c other from written e via brought n00 n94 q = go (bytes_eq c code_94) refl
    where
      as_other : Bool → Bytes
      as_other b = cond b other c

      go : (b : Bool) → bytes_eq c code_94 ≡ b → Q (reply i op.source (response op.message (as_code other c)) (In i ∷ past))
      go true at = rw at (close (In i ∷ past) (reply_output op.source (response op.message other) (In i ∷ past)) q (passing (record { op = op; key = k; code = other; opens = e; via = via; code_from = inl written; brought = λ p. cc; not_94 = n94; is = refl })))
      go false at = rw at (close (In i ∷ past) (reply_output op.source (response op.message c) (In i ∷ past)) q (passing (record { op = op; key = k; code = c; opens = e; via = via; code_from = inr from; brought = brought; not_94 = at; is = refl })))

  code_keeps : (k : Key) (c other : Bytes) (o : Option Opening) → Brought i c → IsCode other → opening t past k ≡ o → Via t past i k → (bytes_eq c code_00 ≡ true → brings_00 past k i ≡ true) → bytes_eq other code_00 ≡ false → bytes_eq other code_94 ≡ false → Q (In i ∷ past) → Q (on_code t n past i k c other o)
  code_keeps k c other None from written e via brought n00 n94 q = q
  code_keeps k c other (Some op) from written e via brought n00 n94 q =
      cond_both (pending t past k) (reply i op.source (response op.message (as_code other c)) (In i ∷ past)) _ Q
      (λ _. passes op k c other from written e via brought n00 n94 q)
      (λ _. cond_both (bytes_eq c code_00 && comes_late past (advices t n past) k) (keep t n past i (made_reversal op.message (node_id t n)) (In i ∷ past)) (In i ∷ past) Q
      (λ _. keep_keeps (made_reversal op.message (node_id t n)) (In i ∷ past) (reversing k op e (via_ticks t past i k via) refl) q)
      (λ _. q))

  pub answer_keeps : (m : Fields) (src : Source) → handled_as t past i m src → group m.kind ≡ groups.AuthorizationResponse → Q (In i ∷ past) → Q (on_answer t n past i m src)
  unfolding on_answer
  answer_keeps m Gate e g q = q
  answer_keeps m (ByLink l) e g q =
      cond_both (is_link l (forwarded past (key_of m))) (on_code t n past i (key_of m) (code_of m) code_96 (opening t past (key_of m))) (In i ∷ past) Q
      (λ on. code_keeps (key_of m) (code_of m) code_96 (opening t past (key_of m)) (by_link l (from_link t past i m l e).0 m (from_link t past i m l e).1 (answer_from_group m.kind g) refl) (refl, refl) refl (inl (record { link = l; serial = (from_link t past i m l e).0; message = m; input = (from_link t past i m l e).1; answer_kind = answer_from_group m.kind g; key_is = refl; forwarded_on = is_link_is l (forwarded past (key_of m)) on })) (λ z. brought z) refl refl q)
      (λ _. q)
    where
      brought : bytes_eq (code_of m) code_00 ≡ true → brings_00 past (key_of m) i ≡ true
      brought z =
          let f = from_link t past i m l e in
          rw (f.1, answer_from_group m.kind g, key_eq_refl (key_of m), z) refl

  pub host_keeps : (a : ℕ) (c : Bytes) (o : Option Key) → i ≡ HostAnswer a c → ask_key past a ≡ o → Q (In i ∷ past) → Q (on_host t n past i c o)
  unfolding on_host
  host_keeps a c None is e q = q
  host_keeps a c (Some k) is e q = code_keeps k c code_05 (opening t past k) (by_host a is) (refl, refl) refl (inr (record { ask = a; code = c; input = is; key_asked = e })) (λ z. rw (is, e, key_eq_refl k, z) refl) refl refl q

  group_keeps : (m : Fields) (src : Source) (g : Group) → handled_as t past i m src → group m.kind ≡ g → Q (In i ∷ past) → Q (on_group t n past i m src g)
  group_keeps m src groups.AuthorizationRequest e g q = request_keeps m src (opening t past (key_of m)) e (request_from_group m.kind g) refl q
  group_keeps m src groups.AuthorizationResponse e g q = answer_keeps m src e g q
  group_keeps m src groups.Advice e g q = advice_keeps m src e g q
  group_keeps m src groups.Reversal e g q = reversal_keeps m src e g q
  group_keeps m src groups.AdviceResponse e g q = q
  group_keeps m src groups.ReversalResponse e g q = q

  pub handled_keeps : (o : Option Handled) → handled t past i ≡ o → Q (In i ∷ past) → Q (on_handled t n past i o)
  handled_keeps None e q = q
  handled_keeps (Some x) e q = group_keeps x.message x.source (group x.message.kind) e refl q

-- a key that fails is due or was put on a link
pub in_filter : {X : Type 0} (p : X → Bool) (xs : List X) (x : X) → IsIn x (filter p xs) → p x ≡ true
in_filter p [] x m = absurd m
in_filter p (y ∷ ys) x m = go (p y) refl (in_filter p ys x)
  where
    go : (b : Bool) → p y ≡ b → (IsIn x (filter p ys) → p x ≡ true) → p x ≡ true
    go true at rest = ⊎_elim (λ e. subst (λ z. p z ≡ true) e at) rest (rw at at m)
    go false at rest = rest (rw at at m)

due_has_ticks : (now : ℕ) (o : Option Opening) (w : Option ℕ) → is_due_at now o w ≡ true → is_some w ≡ true
due_has_ticks now o None e = absurd (none_due now o e)
  where
    none_due : (now : ℕ) (o : Option Opening) → is_due_at now o None ≡ true → ⊥
    none_due now None e = cc
    none_due now (Some op) e = cc
due_has_ticks now o (Some w) e = refl

link_has_ticks : (t : Network) (l : ℕ) (w : Option ℕ) (b : Bool) → is_link l w ≡ true → is_some (ticks_by t w b) ≡ true
link_has_ticks t l None b e = cc
link_has_ticks t l (Some k) b e = refl

pub failing_ticks : (t : Network) (past : History) (i : ReadInput) (k : Key) → IsIn k (failing t past i) → FailsNow t past i k
unfolding failing
failing_ticks t past i k m = (let f = in_filter (fails t past i) (reverse (opened t past)) k m in (ticks i f, f))
  where
    ticks : (i : ReadInput) → fails t past i k ≡ true → is_some (ticks_by t (forwarded past k) (asked past k)) ≡ true
    ticks (LinkDown l) f = link_has_ticks t l (forwarded past k) (asked past k) ((and_parts _ _ f).1)
    ticks Tick f = due_has_ticks (suc (count_of past)) (opening t past k) (ticks_by t (forwarded past k) (asked past k)) ((and_parts _ _ f).1)
    ticks (Enter x) f = cc
    ticks (Take l s x) f = cc
    ticks (LinkUp l) f = cc
    ticks (HostAnswer a c) f = cc
    ticks (NewDate d) f = cc
    ticks (TakePacket lk sr pk) f = cc
    ticks (Lend br cd dt am) f = cc

pub filtered_in : {X : Type 0} (p : X → Bool) (xs : List X) (x : X) → IsIn x (filter p xs) → IsIn x xs
filtered_in p [] x m = m
filtered_in p (y ∷ ys) x m = go (p y) refl (filtered_in p ys x)
  where
    go : (b : Bool) → p y ≡ b → (IsIn x (filter p ys) → IsIn x ys) → (y ≡ x) ⊎ IsIn x ys
    go true at rest = ⊎_elim inl (λ r. inr (rest r)) (rw at at m)
    go false at rest = inr (rest (rw at at m))

pub in_append : {X : Type 0} (xs ys : List X) (x : X) → IsIn x (xs ++ ys) → IsIn x xs ⊎ IsIn x ys
in_append [] ys x m = inr m
in_append (z ∷ zs) ys x m = ⊎_elim (λ e. inl (inl e)) (λ r. ⊎_elim (λ a. inl (inr a)) inr (in_append zs ys x r)) m

pub in_reverse : {X : Type 0} (xs : List X) (x : X) → IsIn x (reverse xs) → IsIn x xs
in_reverse [] x m = m
in_reverse (y ∷ ys) x m = ⊎_elim (λ a. inr (in_reverse ys x a)) (λ b. ⊎_elim inl (λ c. absurd c) b) (in_append (reverse ys) (y ∷ []) x (subst (IsIn x) (reverse-cons y ys) m))

-- what is due is kept or lent

abbrev FromOrder : List Advice → List Lent → Due → Type 0
FromOrder as' gs (DueAdvice a) = IsIn a as'
FromOrder as' gs (DueGrant g) = IsIn g gs

grants_from : (as' : List Advice) (all gs : List Lent) (x : Due) → ((g : Lent) → IsIn g gs → IsIn g all) → IsIn x (map DueGrant gs) → FromOrder as' all x
grants_from as' all [] x each m = absurd m
grants_from as' all (g ∷ gs) x each m = ⊎_elim (λ e. subst (FromOrder as' all) e (each g (inl refl))) (λ below. grants_from as' all gs x (λ y w. each y (inr w)) below) m

made_after_from : (as' : List Advice) (k : ℕ) (gs : List Lent) (x : Due) → IsIn x (grants_made_after k gs) → FromOrder as' gs x
made_after_from as' k gs x m = grants_from as' gs (filter (λ g. eqb g.advices k) gs) x (λ g w. filtered_in (λ g. eqb g.advices k) gs g w) m

order_older : (a : Advice) (as' : List Advice) (gs : List Lent) (x : Due) → FromOrder as' gs x → FromOrder (a ∷ as') gs x
order_older a as' gs (DueAdvice b) m = inr m
order_older a as' gs (DueGrant g) m = m

order_from : (as' : List Advice) (gs : List Lent) (x : Due) → IsIn x (in_order as' gs) → FromOrder as' gs x
order_from [] gs x m = made_after_from [] 0 gs x m
order_from (a ∷ as') gs x m = ⊎_elim (λ w. made_after_from (a ∷ as') (suc (length as')) gs x w) (λ w. ⊎_elim (λ e. subst (FromOrder (a ∷ as') gs) e (inl refl)) (λ below. order_older a as' gs x (order_from as' gs x below)) w)
    (in_append (grants_made_after (suc (length as')) gs) (DueAdvice a ∷ in_order as' gs) x m)

pub due_from : (t : Network) (n : ℕ) (past : History) (x : Due) → IsIn x (Rattle.network_law.specs.Decision.due t n past) → IsDueFrom t n past Tick x
unfolding Rattle.network_law.specs.Decision.due grants
due_from t n past x m = go x (order_from (advices t n past) (grants t n past) x (in_reverse (in_order (advices t n past) (grants t n past)) x (filtered_in (is_sent_again t n (suc (count_of past))) (reverse (in_order (advices t n past) (grants t n past))) x m))) (in_filter (is_sent_again t n (suc (count_of past))) (reverse (in_order (advices t n past) (grants t n past))) x m)
  where
    go : (x : Due) → FromOrder (advices t n past) (grants t n past) x → is_sent_again t n (suc (count_of past)) x ≡ true → IsDueFrom t n past Tick x
    go (DueAdvice a) from e = (from, not-true _ ((and_parts (not a.acked) (not (is_at_home t n a.message)) (and_parts (not a.acked && not (is_at_home t n a.message)) (is_due_again t.settings.advice_ticks (suc (count_of past)) a.count) e).0).1))
    go (DueGrant g) from e = from

-- the decision keeps what its input and each allowed output keep
pub decide_keeps : (t : Network) (n : ℕ) (past : History) (i : ReadInput) (Q : History → Type 0) → ((h : History) (o : ReadOutput) → Q h → Allowed t n past i h o → Q (Out i o ∷ h)) → KeepsIssuers t past → Q (In i ∷ past) → Q (decide t n past i)
unfolding decide
decide_keeps t n past (Enter m) Q close keeps q = handled_keeps t n past (Enter m) Q close (handled t past (Enter m)) refl q
decide_keeps t n past (Take l s m) Q close keeps q = handled_keeps t n past (Take l s m) Q close (handled t past (Take l s m)) refl q
decide_keeps t n past (LinkUp l) Q close keeps q = q
decide_keeps t n past (LinkDown l) Q close keeps q = fail_all_keeps t n past (LinkDown l) Q close (failing t past (LinkDown l)) (In (LinkDown l) ∷ past) refl (failing_ticks t past (LinkDown l)) keeps q
decide_keeps t n past Tick Q close keeps q = fail_all_keeps t n past Tick Q close (failing t past Tick) (send_all t n Tick (Rattle.network_law.specs.Decision.due t n past) (In Tick ∷ past)) refl (failing_ticks t past Tick) keeps (send_all_keeps t n past Tick Q close (Rattle.network_law.specs.Decision.due t n past) (In Tick ∷ past) (due_from t n past) q)
decide_keeps t n past (HostAnswer a c) Q close keeps q = host_keeps t n past (HostAnswer a c) Q close a c (ask_key past a) refl refl q
decide_keeps t n past (NewDate d) Q close keeps q = q
decide_keeps t n past (TakePacket l s p) Q close keeps q = packet_keeps t n past (TakePacket l s p) Q close l s p refl q
decide_keeps t n past (Lend m c d a) Q close keeps q = newest_keeps t n past (Lend m c d a) Q close (grants t n (In (Lend m c d a) ∷ past)) (In (Lend m c d a) ∷ past) (λ g w. w) q
