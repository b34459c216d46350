-- Legal traces and runs in messages, as which traces in bytes are read.
use Rattle.std.proofs.Common.{◌≡◌, ℕ, ◌≤◌, ◌<◌, List, [], ◌∷◌, length, None, true}
use Rattle.iso_message.specs.Fields.{Fields, el}
use Rattle.message_elements.specs.Groups.{is_request}
use Rattle.net_rows.specs.Network.{Network, other_end}
use Rattle.network_law.specs.Tables.{is_link_of}
use Rattle.network_law.specs.declared.grant.GrantPacket.{GrantPacket}
use Rattle.network_law.specs.Traces.{ReadInput, Enter, Take, TakePacket, LinkUp, LinkDown, Put, PutPacket, In, Out, History, Has}
use Rattle.network_law.specs.Decision.{decide}
use Rattle.network_law.specs.Refusals.{refusal}
use Rattle.network_law.specs.Entries.{ReadEntry, put_out, read_history}

-- the input names no link but the node's own
abbrev pub NamesOwnLink : Network → ℕ → ReadInput → Type 0
NamesOwnLink t n (Take l s m) = is_link_of t n l ≡ true
NamesOwnLink t n (TakePacket l s p) = is_link_of t n l ≡ true
NamesOwnLink t n (LinkUp l) = is_link_of t n l ≡ true
NamesOwnLink t n (LinkDown l) = is_link_of t n l ≡ true
NamesOwnLink t n _ = 0 ≤ n

-- the lengths that decoding leaves in a request's key
pub record HasLengths (m : Fields) : Type 0 where
  pub trace : length (el m 11) ≡ 6
  pub time : length (el m 7) ≡ 10
  pub acquirer : length (el m 32) ≤ 11

-- the message is a decoded one
abbrev pub IsFormed : ReadInput → Type 0
IsFormed (Enter m) = is_request m.kind ≡ true → HasLengths m
IsFormed (Take l s m) = is_request m.kind ≡ true → HasLengths m
IsFormed _ = 0 ≤ 0

pub record IsDecidedRead (t : Network) (n : ℕ) (past : History) (e : ReadEntry) : Type 0 where
  pub own : NamesOwnLink t n e.input
  pub formed : IsFormed e.input
  pub accepted : refusal t n past e.input ≡ None
  pub outputs : put_out e.input e.outputs (In e.input ∷ past) ≡ decide t n past e.input

-- a legal trace, its newest entry first
abbrev pub IsLegalRead : Network → ℕ → List ReadEntry → Type 0
IsLegalRead t n [] = 0 ≤ n
IsLegalRead t n (e ∷ es) = IsLegalRead t n es × IsDecidedRead t n (read_history es) e

-- one legal trace for each node of the tables, in which each take has its put at the link's other end
pub record IsReadRun (t : Network) (traces : ℕ → List ReadEntry) : Type 0 where
  pub legal : (n : ℕ) → n < length t.nodes → IsLegalRead t n (traces n)
  pub no_others : (n : ℕ) → length t.nodes ≤ n → traces n ≡ []
  pub packets : (n l s : ℕ) (p : GrantPacket) → Has (In (TakePacket l s p)) (read_history (traces n)) → (i : ReadInput) × Has (Out i (PutPacket l s p)) (read_history (traces (other_end t n l)))
  pub linked : (n l s : ℕ) (m : Fields) → Has (In (Take l s m)) (read_history (traces n)) → (i : ReadInput) × Has (Out i (Put l s m)) (read_history (traces (other_end t n l)))
