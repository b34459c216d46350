-- What is claimed of a network: of the history of each of its nodes.
use Rattle.std.specs.Prelude.{ℕ, ◌+◌, ◌<◌, ◌≤◌, ◌≡◌, ◌≢◌, ◌⊎◌, List, [], ◌∷◌, length, Contains, Bool, true, false, cond, ◌&&◌, ◌||◌, if◌then◌else◌, Option, Some, None, is_some}
use Rattle.std.specs.Option.{option_or}
use Rattle.std.specs.List.{list_any}
use Rattle.card_digits.specs.declared.key.Key.{Key}
use Rattle.message_elements.specs.declared.kind.Kind.{Kind}
use Rattle.message_elements.specs.declared.kind.Kind.TheVariants.{K0110, K0130, K0410, K0430}
use Rattle.message_keys.specs.declared.keys.AdviceId.{AdviceId}
use Rattle.iso_message.specs.Fields.{Fields}
use Rattle.message_elements.specs.Groups.{is_request, is_answer}
use Rattle.message_keys.specs.Keys.{key_of, key_eq, content, identity_of, identity_eq, code_of}
use Rattle.message_elements.specs.Codes.{code_94, code_00}
use Rattle.net_rows.specs.Network.{Network, issuer, other_end, day}
use Rattle.net_rows.specs.declared.row.Issuer.{Issuer}
use Rattle.network_law.specs.Cards.{card_of}
use Rattle.network_law.specs.Checked.{sum_below}
use Rattle.network_law.specs.declared.grant.Grant.{Grant}
use Rattle.network_law.specs.declared.grant.GrantPacket.TheVariants as packets
use Rattle.network_law.specs.Traces.{ReadInput, Take, TakePacket, HostAnswer, ReadOutput, Put, Ask, Post, In, Out, Has, IsIn, History, Opening, opening, Approval, approvals, Advice, advices, stored, is_at_home, reverses_key, answer, answers, sent, forwarded, used, borrowed, lent, allowance, ask_key, is_00_of, is_link}

-- n has put the request x of k on link l with serial s
pub record IsForward (at : ℕ → History) (k : Key) (n l s : ℕ) (x : Fields) : Type 0 where
  pub input : ReadInput
  pub put : Has (Out input (Put l s x)) (at n)
  pub request : is_request x.kind ≡ true
  pub key : key_of x ≡ k

-- n has asked its host about k by this number
pub record IsAsk (at : ℕ → History) (k : Key) (n a : ℕ) : Type 0 where
  pub input : ReadInput
  pub message : Fields
  pub put : Has (Out input (Ask a message)) (at n)
  pub key : key_of message ≡ k

-- a key is forwarded to a node at most once, and asked of a host at most once in all
pub record OnePath (t : Network) (at : ℕ → History) : Type 0 where
  pub forwards : (k : Key) (n l s n' l' s' : ℕ) (x x' : Fields) → IsForward at k n l s x → IsForward at k n' l' s' x' → other_end t n l ≡ other_end t n' l' → (n ≡ n') × (l ≡ l') × (s ≡ s')
  pub asks : (k : Key) (n a n' a' : ℕ) → IsAsk at k n a → IsAsk at k n' a' → (n ≡ n') × (a ≡ a')

-- where n has forwarded k to a node and k is open there, it was opened by the take of that very put
abbrev pub OpenedByThatPut : Network → (ℕ → History) → Type 0
OpenedByThatPut t at = (k : Key) (n l s : ℕ) (x : Fields) (op : Opening) → IsForward at k n l s x → opening t (at (other_end t n l)) k ≡ Some op → op.input ≡ Take l s x

-- a node that approves a key by itself is named by the issuer of its card
abbrev pub NamedApprovers : Network → (ℕ → History) → Type 0
NamedApprovers t at = (n : ℕ) (a : Approval) → IsIn a (approvals t (at n)) → (s : Issuer) × (issuer t (card_of a.request) ≡ Some s) × Contains s.named n

-- what is used of a card and date at all nodes together
abbrev pub exposure : Network → (ℕ → History) → List ℕ → List ℕ → ℕ
exposure t at card date = sum_below (λ n. used t n (at n) card date) (length t.nodes)

-- at most the issuer's ceiling, and nothing without an issuer
abbrev pub AtMost : Option Issuer → ℕ → Type 0
AtMost None n = n ≤ 0
AtMost (Some s) n = n ≤ s.ceiling

-- the unreversed own approvals of a card and date never exceed the ceiling of its issuer
abbrev pub WithinCeiling : Network → (ℕ → History) → Type 0
WithinCeiling t at = (card date : List ℕ) → AtMost (issuer t card) (exposure t at card date)

abbrev pub is_response : Kind → Bool
is_response K0110 = true
is_response K0130 = true
is_response K0410 = true
is_response K0430 = true
is_response _ = false

-- no response put on a link has code 94
abbrev pub NoRepeatReply : (ℕ → History) → Type 0
NoRepeatReply at = (n l s : ℕ) (i : ReadInput) (m : Fields) → Has (Out i (Put l s m)) (at n) → is_response m.kind ≡ true → code_of m ≢ code_94

-- n approved k itself, or had its host's 00 for k
abbrev pub ApprovedAt : Network → (ℕ → History) → Key → ℕ → Type 0
ApprovedAt t at k n =
    ((a : Approval) × IsIn a (approvals t (at n)) × (a.key ≡ k))
    ⊎ ((ask : ℕ) × Has (In (HostAnswer ask code_00)) (at n) × (ask_key (at n) ask ≡ Some k))

-- n has forwarded k to m
abbrev pub ForwardedTo : Network → (ℕ → History) → Key → ℕ → ℕ → Type 0
ForwardedTo t at k n m = (l : ℕ) × (s : ℕ) × (x : Fields) × IsForward at k n l s x × (other_end t n l ≡ m)

-- each has forwarded k to the next, and the last approved it
abbrev pub LeadsToApproval : Network → (ℕ → History) → Key → ℕ → List ℕ → Type 0
LeadsToApproval t at k n [] = ApprovedAt t at k n
LeadsToApproval t at k n (m ∷ ms) = ForwardedTo t at k n m × LeadsToApproval t at k m ms

-- an answer 00 leads from node to node, each having forwarded the key to the next, to the one that approved it
abbrev pub ApprovalsLead : Network → (ℕ → History) → Type 0
ApprovalsLead t at = (k : Key) (n : ℕ) (a : Fields) → answer (at n) k ≡ Some a → code_of a ≡ code_00 → (ns : List ℕ) × LeadsToApproval t at k n ns

-- the input of the entry in which k was answered
unfoldable pub answered_by : History → Key → Option ReadInput
unfolding key_of code_of
answered_by [] k = None
answered_by (In i ∷ h) k = answered_by h k
answered_by (Out i o ∷ h) k = option_or (answered_by h k) (cond (is_some (answers k (sent o))) (Some i) None)

-- the input is a 0110 of k with 00, on the link on which k was forwarded
abbrev pub takes_00 : History → Key → ReadInput → Bool
takes_00 h k (Take l s m) = is_00_of k (Some m) && is_link l (forwarded h k)
takes_00 h k _ = false

-- the node has taken one, after it had forwarded k there
unfoldable pub took_00 : History → Key → Bool
unfolding forwarded key_of code_of
took_00 [] k = false
took_00 (In i ∷ h) k = took_00 h k || takes_00 h k i
took_00 (Out i o ∷ h) k = took_00 h k

-- the input is a 0110 of k
abbrev pub takes_answer : Key → ReadInput → Bool
takes_answer k (Take l s m) = is_answer m.kind && key_eq (key_of m) k
takes_answer k _ = false

-- a reversal of k was made or accepted
unfoldable pub has_reversal : Network → ℕ → History → Key → Bool
unfolding advices
has_reversal t n h k = list_any (reverses_key k) (advices t n h)

-- a 00 that a node took for a key that it had forwarded was its answer, or the key was reversed there; and where a node answered
-- a forwarded key in an entry that took no answer, it has reversed it
pub record LateApprovalsUndone (t : Network) (at : ℕ → History) : Type 0 where
  pub taken : (n : ℕ) (k : Key) → took_00 (at n) k ≡ true → ((i : ReadInput) × (answered_by (at n) k ≡ Some i) × (takes_00 (at n) k i ≡ true)) ⊎ (has_reversal t n (at n) k ≡ true)
  pub answered : (n l : ℕ) (k : Key) (i : ReadInput) → forwarded (at n) k ≡ Some l → answered_by (at n) k ≡ Some i → takes_answer k i ≡ false → has_reversal t n (at n) k ≡ true

-- an advice with this one's identity and content was posted at this node, which is the home of its card
abbrev pub IsPosted : Network → (ℕ → History) → Fields → ℕ → Type 0
IsPosted t at x n = (i : ReadInput) × (y : Fields) × Has (Out i (Post y)) (at n) × (identity_of y ≡ identity_of x) × (content y ≡ content x) × (is_at_home t n x ≡ true)

-- an advice with this one's identity and content stands in this node's store
abbrev pub IsStored : Network → (ℕ → History) → Fields → ℕ → Type 0
IsStored t at x n = (a : Advice) × IsIn a (stored t n (at n)) × (identity_of a.message ≡ identity_of x) × (content a.message ≡ content x)

-- how often an advice of the identity was posted
abbrev pub posts_in : AdviceId → ReadOutput → ℕ
posts_in id (Post x) = if identity_eq (identity_of x) id then 1 else 0
posts_in id _ = 0

unfoldable pub post_count : History → AdviceId → ℕ
unfolding identity_of
post_count [] id = 0
post_count (In i ∷ h) id = post_count h id
post_count (Out i o ∷ h) id = posts_in id o + post_count h id

-- each advice made or accepted at a node stands in a node's store or was posted at the home of its card; an identity is posted
-- once, at one node
pub record AdvicesKept (t : Network) (at : ℕ → History) : Type 0 where
  pub somewhere : (n : ℕ) (a : Advice) → IsIn a (advices t n (at n)) → (m : ℕ) × (IsStored t at a.message m ⊎ IsPosted t at a.message m)
  pub once : (id : AdviceId) (n m : ℕ) → 0 < post_count (at n) id → 0 < post_count (at m) id → n ≡ m
  pub one : (id : AdviceId) (n : ℕ) → post_count (at n) id ≤ 1

-- over all nodes no more of a card and date is borrowed than was lent
abbrev pub BorrowedWasLent : Network → (ℕ → History) → Type 0
BorrowedWasLent t at = (card date : List ℕ) → sum_below (λ n. borrowed (at n) card date) (length t.nodes) ≤ sum_below (λ n. lent t n (at n) card date) (length t.nodes)

-- a lender's number has one content, wherever and however often it is taken
abbrev pub OneContent : (ℕ → History) → Type 0
OneContent at = (n l s n' l' s' : ℕ) (g g' : Grant) → Has (In (TakePacket l s (packets.Grant g))) (at n) → Has (In (TakePacket l' s' (packets.Grant g'))) (at n') → g.lender ≡ g'.lender → g.number ≡ g'.number → g ≡ g'

-- a node approves only what it is named for, no more of a card and date than its allowance, and with what it lent no more than its
-- limit and what it borrowed
pub record IsWithinLimits (t : Network) (n : ℕ) (h : History) : Type 0 where
  pub named : (a : Approval) → IsIn a (approvals t h) → (s : Issuer) × (issuer t (card_of a.request) ≡ Some s) × Contains s.named n
  pub within : (card date : List ℕ) → used t n h card date ≤ allowance t n h card date
  pub with_lent : (card date : List ℕ) → used t n h card date + lent t n h card date ≤ day t n card + borrowed h card date

-- a network is safe: no node is sent a request by two nodes or a second time, only named nodes approve by themselves, and what they
-- approve stays within the issuer's ceiling
pub record Safe (t : Network) (at : ℕ → History) : Type 0 where
  pub one_path : OnePath t at
  pub that_put : OpenedByThatPut t at
  pub named : NamedApprovers t at
  pub ceiling : WithinCeiling t at
  pub no_repeat_reply : NoRepeatReply at

-- nothing that was approved or taken back is lost
pub record Covered (t : Network) (at : ℕ → History) : Type 0 where
  pub advices : AdvicesKept t at
  pub late_approvals : LateApprovalsUndone t at
  pub approvals_lead : ApprovalsLead t at
