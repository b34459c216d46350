-- Approvals that come late, in plain words.
use Rattle.std.specs.Prelude.{ℕ, ◌≡◌, ◌≢◌, true, Some}
use Rattle.card_digits.specs.declared.key.Key.{Key}
use Rattle.iso_message.specs.Fields.{Fields}
use Rattle.message_elements.specs.Groups.{is_answer, is_04xx}
use Rattle.message_keys.specs.Keys.{key_of, code_of}
use Rattle.message_elements.specs.Codes.{code_00}
use Rattle.net_rows.specs.Network.{Network}
use Rattle.network_law.specs.Traces.{ReadInput, Take, HostAnswer, History, IsIn, answer, forwarded, ask_key, Advice, advices, late_key}

-- the input is a 0110 of the key with 00, from the link on which a request of it was put; or the host's 00 for it
abbrev pub IsApproval : History → ReadInput → Key → Type 0
IsApproval h (Take l s m) k = (is_answer m.kind ≡ true) × (code_of m ≡ code_00) × (key_of m ≡ k) × (forwarded h k ≡ Some l)
IsApproval h (HostAnswer a c) k = (c ≡ code_00) × (ask_key h a ≡ Some k)
IsApproval h _ k = ⊥

-- it is one, the key was answered by another code, and no advice is a reversal of the key
pub record IsLate (t : Network) (n : ℕ) (h : History) (i : ReadInput) (k : Key) : Type 0 where
  pub approval : IsApproval h i k
  pub answered : Fields
  pub is_answer : answer h k ≡ Some answered
  pub other_code : code_of answered ≢ code_00
  pub unreversed : (a : Advice) → IsIn a (advices t n h) → is_04xx a.message.kind ≡ true → key_of a.message ≢ k

-- an approval comes late where it is such an input, and nowhere else
abbrev pub LateIsSuch : Type 0
LateIsSuch = (t : Network) (n : ℕ) (h : History) (i : ReadInput) (k : Key) → late_key h (advices t n h) i ≡ Some k → IsLate t n h i k

abbrev pub SuchIsLate : Type 0
SuchIsLate = (t : Network) (n : ℕ) (h : History) (i : ReadInput) (k : Key) → IsLate t n h i k → late_key h (advices t n h) i ≡ Some k
