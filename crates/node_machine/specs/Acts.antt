-- What a node does, over whatever keeps its books: maps for the proof, and the lists that code has. b is the books before the input.
use Rattle.std.specs.Prelude.{ℕ, suc, ◌+◌, List, [], ◌∷◌, find, Bool, true, false, ◌&&◌, not, if◌then◌else◌, nat_lt, bytes_eq, Option, Some, None, is_some, is_none}
use Rattle.card_digits.specs.declared.key.Key.{Key}
use Rattle.message_elements.specs.declared.kind.Kind.TheVariants.{K0100}
use Rattle.message_elements.specs.declared.kind.Group.{Group}
use Rattle.message_elements.specs.declared.kind.Group.TheVariants as groups
use Rattle.iso_message.specs.Fields.{Fields, el, as_kind}
use Rattle.message_elements.specs.Groups.{group, is_04xx}
use Rattle.message_keys.specs.Keys.{key_of, content, content_eq, identity_of, code_of}
use Rattle.message_elements.specs.Codes.{code_00, code_05, code_14, code_68, code_92, code_94, code_96}
use Rattle.iso_message.specs.Made.{made_reversal, made_stand_in, response}
use Rattle.net_rows.specs.Network.{Network, issuer}
use Rattle.net_rows.specs.declared.row.Issuer.{Issuer}
use Rattle.network_law.specs.Tables.{is_home, node_id, route_links, links_between}
use Rattle.network_law.specs.declared.grant.Grant.{Grant}
use Rattle.network_law.specs.declared.grant.GrantPacket.{GrantPacket}
use Rattle.network_law.specs.declared.grant.GrantPacket.TheVariants as packets
use Rattle.network_law.specs.Cards.{Bytes, is_good_card, card_of}
use Rattle.network_law.specs.Traces.{Source, Gate, ByLink, ReadOutput, Ask, Post, Handled, is_link, is_at_home, as_kept}
use Rattle.network_law.specs.Decision.{sent_kind, same_source, as_code}
use Rattle.node_machine.specs.Books.{Request, Stored, Advised, Granted, Books}
use Rattle.node_machine.specs.Reads.{is_known, is_pending, is_reversed, comes_late, other_content, reply_output, next_put, next_packet, own_way, put_before, standin_code, load}

-- what a state is seen as, and what changes it: an output goes out; an advice is made or accepted; an own approval is taken
pub record Acts (D : Type 0) : Type 0 where
  pub view : D → Books
  pub emit : ReadOutput → D → D
  pub store : Network → ℕ → Bool → Fields → ℕ → Bool → D → D
  pub take : Fields → D → D

abbrev pub put_on : {D : Type 0} → Acts D → ℕ → Fields → D → D
put_on acts l m d = acts.emit (next_put l m (acts.view d)) d

abbrev pub reply : {D : Type 0} → Acts D → Source → Fields → D → D
reply acts src m d = acts.emit (reply_output src m (acts.view d)) d

-- advices

abbrev pub is_sent : {D : Type 0} → Acts D → Network → ℕ → Books → Fields → D → Bool
is_sent acts t n b m d = not (is_known b (identity_of m)) && (not (is_at_home t n m) && is_some (own_way t n (acts.view d) m ((acts.view d).link (key_of m))))

abbrev pub send_by : {D : Type 0} → Acts D → Fields → Option ℕ → D → D
send_by acts x None d = d
send_by acts x (Some l) d = put_on acts l (as_kind (sent_kind (is_04xx x.kind) (put_before (acts.view d) (identity_of x))) x) d

abbrev pub send : {D : Type 0} → Acts D → Network → ℕ → Fields → D → D
send acts t n x d = send_by acts x (own_way t n (acts.view d) x ((acts.view d).link (key_of x))) d

-- by the books before the input
abbrev pub keep : {D : Type 0} → Acts D → Network → ℕ → Books → Fields → D → D
keep acts t n b x d = if is_known b (identity_of x) then d else if is_at_home t n x then acts.emit (Post x) d else send acts t n x d

-- stand-in

abbrev pub standin_by : {D : Type 0} → Acts D → Network → ℕ → Books → Request → Bytes → D → D
standin_by acts t n b r c d =
    if bytes_eq c code_00
    then keep acts t n b (made_stand_in r.message (node_id t n)) (acts.store t n true (made_stand_in r.message (node_id t n)) (acts.view d).count false (acts.take r.message (reply acts r.source (response r.message c) d)))
    else reply acts r.source (response r.message c) d

abbrev pub standin : {D : Type 0} → Acts D → Network → ℕ → Books → Request → D → D
standin acts t n b r d = standin_by acts t n b r (standin_code t n (acts.view d) r.message) d

-- the code is found before the reversal is stored; put says whether that was sent
abbrev pub fail_from : {D : Type 0} → Acts D → Network → ℕ → Books → Request → Bool → D → D
fail_from acts t n b r put d = standin_by acts t n b r (standin_code t n (acts.view d) r.message) (acts.store t n true (made_reversal r.message (node_id t n)) (acts.view d).count put d)

abbrev pub fail : {D : Type 0} → Acts D → Network → ℕ → Books → Option Request → D → D
fail acts t n b None d = d
fail acts t n b (Some r) d = fail_from acts t n b r (is_sent acts t n b (made_reversal r.message (node_id t n)) d) (keep acts t n b (made_reversal r.message (node_id t n)) d)

abbrev pub fail_all : {D : Type 0} → Acts D → Network → ℕ → Books → List Key → D → D
fail_all acts t n b [] d = d
fail_all acts t n b (k ∷ ks) d = fail_all acts t n b ks (fail acts t n b (b.opening k) d)

-- grants

-- on the first link in table order that joins the two nodes and is up
abbrev pub send_grant_by : {D : Type 0} → Acts D → Grant → Option ℕ → D → D
send_grant_by acts g None d = d
send_grant_by acts g (Some l) d = acts.emit (next_packet l (packets.Grant g) (acts.view d)) d

abbrev pub send_grant : {D : Type 0} → Acts D → Network → ℕ → ℕ → Grant → D → D
send_grant acts t n borrower g d = send_grant_by acts g (find (acts.view d).is_up (links_between t n borrower)) d

-- a taken grant is acknowledged on the link that it came by
abbrev pub on_packet : {D : Type 0} → Acts D → ℕ → GrantPacket → D → D
on_packet acts l (packets.Grant g) d = acts.emit (next_packet l (packets.Ack g.lender g.number) (acts.view d)) d
on_packet acts l (packets.Ack lender number) d = d

abbrev pub send_due : {D : Type 0} → Acts D → Network → ℕ → Stored → D → D
send_due acts t n (Advised a) d = send acts t n a.message d
send_due acts t n (Granted g) d = send_grant acts t n g.borrower g.grant d

abbrev pub send_all : {D : Type 0} → Acts D → Network → ℕ → List Stored → D → D
send_all acts t n [] d = d
send_all acts t n (x ∷ others) d = send_all acts t n others (send_due acts t n x d)

-- requests

abbrev pub on_forward : {D : Type 0} → Acts D → Network → ℕ → Books → Fields → Source → Option ℕ → D → D
on_forward acts t n b m src None d = standin acts t n b (record { message = m; source = src; count = b.count }) d
on_forward acts t n b m src (Some l) d = put_on acts l (as_kind K0100 m) d

abbrev pub on_issuer : {D : Type 0} → Acts D → Network → ℕ → Books → Fields → Source → Option Issuer → D → D
on_issuer acts t n b m src None d = reply acts src (response m code_92) d
on_issuer acts t n b m src (Some s) d =
    if nat_lt 65536 (load b + 2) then reply acts src (response m code_96) d
    else if is_home s n then acts.emit (Ask (suc b.ask_count) (as_kind K0100 m)) d
    else on_forward acts t n b m src (find b.is_up (route_links t n (card_of m))) d

abbrev pub on_repeat : {D : Type 0} → Acts D → Source → Option Fields → D → D
on_repeat acts src None d = d
on_repeat acts src (Some a) d = reply acts src a d

abbrev pub on_request : {D : Type 0} → Acts D → Network → ℕ → Books → Fields → Source → Option Request → D → D
on_request acts t n b m src (Some r) d =
    if same_source r.source src && content_eq (content r.message) (content m)
    then on_repeat acts src (b.answer (key_of m)) d
    else reply acts src (response m code_94) d
on_request acts t n b m src None d =
    if is_reversed b (key_of m) then reply acts src (response m code_68) d
    else if not (is_good_card (el m 2)) then reply acts src (response m code_14) d
    else on_issuer acts t n b m src (issuer t (card_of m)) d

-- reversals and stand-in advices

abbrev pub answer_pending : {D : Type 0} → Acts D → Bool → Option Request → Bytes → D → D
answer_pending acts true (Some r) c d = reply acts r.source (response r.message c) d
answer_pending acts _ _ c d = d

-- it is acknowledged, and kept
abbrev pub accept : {D : Type 0} → Acts D → Network → ℕ → Books → Fields → Source → D → D
accept acts t n b m src d = keep acts t n b (as_kept m) (acts.store t n false (as_kept m) (acts.view d).count false (reply acts src (response m code_00) d))

abbrev pub on_reversal : {D : Type 0} → Acts D → Network → ℕ → Books → Fields → Source → D → D
on_reversal acts t n b m src d =
    if not (is_good_card (el m 2)) then reply acts src (response m code_14) d
    else if is_none (issuer t (card_of m)) then reply acts src (response m code_92) d
    else if other_content (b.opening (key_of m)) m then reply acts src (response m code_94) d
    else if is_known b (identity_of m) then reply acts src (response m code_00) d
    else accept acts t n b m src (answer_pending acts (is_pending b (key_of m)) (b.opening (key_of m)) code_68 d)

abbrev pub on_advice : {D : Type 0} → Acts D → Network → ℕ → Books → Fields → Source → D → D
on_advice acts t n b m src d =
    if not (is_good_card (el m 2)) then reply acts src (response m code_14) d
    else if is_none (issuer t (card_of m)) then reply acts src (response m code_92) d
    else if is_known b (identity_of m) then reply acts src (response m code_00) d
    else accept acts t n b m src d

-- answers

abbrev pub on_code : {D : Type 0} → Acts D → Network → ℕ → Books → Key → Bytes → Bytes → Option Request → D → D
on_code acts t n b k c other None d = d
on_code acts t n b k c other (Some r) d =
    if is_pending b k then reply acts r.source (response r.message (as_code other c)) d
    else if bytes_eq c code_00 && comes_late b k then keep acts t n b (made_reversal r.message (node_id t n)) (acts.store t n true (made_reversal r.message (node_id t n)) b.count false d)
    else d

abbrev pub on_answer : {D : Type 0} → Acts D → Network → ℕ → Books → Fields → Source → D → D
on_answer acts t n b m Gate d = d
on_answer acts t n b m (ByLink l) d =
    if is_link l (b.link (key_of m)) then on_code acts t n b (key_of m) (code_of m) code_96 (b.opening (key_of m)) d else d

abbrev pub on_host : {D : Type 0} → Acts D → Network → ℕ → Books → Bytes → Option Key → D → D
on_host acts t n b c None d = d
on_host acts t n b c (Some k) d = on_code acts t n b k c code_05 (b.opening k) d

abbrev pub on_group : {D : Type 0} → Acts D → Network → ℕ → Books → Fields → Source → Group → D → D
on_group acts t n b m src groups.AuthorizationRequest d = on_request acts t n b m src (b.opening (key_of m)) d
on_group acts t n b m src groups.AuthorizationResponse d = on_answer acts t n b m src d
on_group acts t n b m src groups.Advice d = on_advice acts t n b m src d
on_group acts t n b m src groups.Reversal d = on_reversal acts t n b m src d
on_group acts t n b m src groups.AdviceResponse d = d
on_group acts t n b m src groups.ReversalResponse d = d

abbrev pub on_handled : {D : Type 0} → Acts D → Network → ℕ → Books → Option Handled → D → D
on_handled acts t n b None d = d
on_handled acts t n b (Some x) d = on_group acts t n b x.message x.source (group x.message.kind) d
