-- What holds of every legal trace, whatever the other nodes do.
use Rattle.std.specs.Prelude.{ℕ, ◌≡◌, ◌<◌, ◌≤◌, unwrap_or, length, Ok, List, [], ◌∷◌, Bool, true, false, ◌||◌, Some}
use Rattle.card_digits.specs.declared.key.Key.{Key}
use Rattle.message_keys.specs.Keys.{key_of, identity_of}
use Rattle.iso_message.specs.Made.{made_reversal}
use Rattle.net_rows.specs.Network.{Network}
use Rattle.network_law.specs.Tables.{node_id}
use Rattle.network_law.specs.Traces.{ReadInput, Put, Has, In, Out, History, IsIn, Opening, opening, answer, fails, is_key, failed_key, sent, known, Approval, approvals, Advice, advices, reverses_key, reversed, left}
use Rattle.network_law.specs.Entries.{Entry, read_input, history}
use Rattle.network_law.specs.Decision.{decide}
use Rattle.network_law.specs.Runs.{IsLegal}
use Rattle.card_digits.specs.Numbers.{decimal}
use Rattle.message_keys.specs.Amounts.{actual_amount}
use Rattle.iso_message.specs.Fields.{Fields, el}
use Rattle.message_elements.specs.Groups.{is_request}

-- the newest entry marks k as failed: it is a LinkDown or a Tick, and a 0110 of the pending key is put out
unfoldable pub marked_failed : Network → History → Key → Bool
unfolding opening answer key_of
marked_failed t [] k = false
marked_failed t (In i ∷ h) k = false
marked_failed t (Out i o ∷ h) k = marked_failed t h k || is_key k (failed_key t h i (sent o))

-- where k fails in an entry of a legal trace the mark of its failing stands there, and nowhere else
abbrev pub FailsAreMarked : Network → Type 0
FailsAreMarked t = (n : ℕ) (e : Entry) (es : List Entry) (i : ReadInput) (k : Key) → n < length t.nodes → IsLegal t n (e ∷ es) → read_input e.input ≡ Ok i → marked_failed t (history (e ∷ es)) k ≡ fails t (history es) i k

-- where k fails its reversal is made, or was
abbrev pub FailsAreReversed : Network → Type 0
FailsAreReversed t = (n : ℕ) (e : Entry) (es : List Entry) (i : ReadInput) (k : Key) → n < length t.nodes → IsLegal t n (e ∷ es) → read_input e.input ≡ Ok i → fails t (history es) i k ≡ true → (op : Opening) × (opening t (history es) k ≡ Some op) × (known t n (history (e ∷ es)) (identity_of (made_reversal op.message (node_id t n))) ≡ true)

-- an entry is read as the decision of its input: what a node puts out says to a reader what was decided
abbrev pub IsReadAsDecided : Network → Type 0
IsReadAsDecided t = (n : ℕ) (e : Entry) (es : List Entry) (i : ReadInput) → n < length t.nodes → IsLegal t n (e ∷ es) → read_input e.input ≡ Ok i → history (e ∷ es) ≡ decide t n (history es) i

-- a request is put on a link once, and never again on that link or another
abbrev pub ForwardsOnce : Network → Type 0
ForwardsOnce t = (n : ℕ) (trace : List Entry) (i i' : ReadInput) (l s l' s' : ℕ) (x x' : Fields) → n < length t.nodes → IsLegal t n trace
    → Has (Out i (Put l s x)) (history trace) → Has (Out i' (Put l' s' x')) (history trace) → is_request x.kind ≡ true → is_request x'.kind ≡ true → key_of x ≡ key_of x' → (l ≡ l') × (s ≡ s') × (x ≡ x')

-- an accepted reversal of a key that the node approved by itself leaves no more than the approved amount
abbrev pub ReversalsLeaveLess : Network → Type 0
ReversalsLeaveLess t = (n : ℕ) (trace : List Entry) (a : Approval) (x : Advice) → n < length t.nodes → IsLegal t n trace
    → IsIn a (approvals t (history trace)) → IsIn x (advices t n (history trace)) → x.own ≡ false → reverses_key a.key x ≡ true → unwrap_or (actual_amount x.message) 0 ≤ decimal (el a.request 4)

-- so what is left of a reversed approval is what one of its reversals leaves: the approved amount never decides it
abbrev pub ReversalsDecide : Network → Type 0
ReversalsDecide t = (n : ℕ) (trace : List Entry) (a : Approval) → n < length t.nodes → IsLegal t n trace
    → IsIn a (approvals t (history trace)) → reversed t n (history trace) a.key ≡ true → (x : Advice) × IsIn x (advices t n (history trace)) × (x.own ≡ false) × (reverses_key a.key x ≡ true) × (left t n (history trace) a ≡ unwrap_or (actual_amount x.message) 0)
