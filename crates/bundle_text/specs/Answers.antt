-- What the program answers to an input.
use Rattle.std.specs.Prelude.{◌≡◌, ℕ, Bool, true, false, List, [], ◌∷◌, ◌⊎◌, map, codes, if◌then◌else◌, Option, Some, None, Result, Ok, Err}
use Rattle.net_rows.specs.Network.{Network}
use Rattle.net_tables.specs.Reading.{tables_in}
use Rattle.table_fields.specs.declared.fault.TableFault.{TableFault}
use Rattle.rank_cert.specs.Reading.{cert_in}
use Rattle.rank_rows.specs.declared.rank.Rank.{Rank}
use Rattle.rank_cert.specs.declared.fault.CertFault.{CertFault}
use Rattle.table_checker.specs.Rules.{first_refusal}
use Rattle.table_checker.specs.declared.refusal.Refusal.{Refusal}
use Rattle.bundle_text.specs.declared.answer.Status.{Status}
use Rattle.bundle_text.specs.declared.answer.Status.TheVariants.{Done, Refused, Fault}
use Rattle.bundle_text.specs.Lines.{Text, table_fault_line, cert_fault_line, refusal_line, circle_line}
use Rattle.rank_cert.specs.Writing.{text_of}
use Rattle.rank_maker.specs.Circle.{IsCircle}
use Rattle.std.specs.Io.KnownBytes.{Appends}
use Rattle.card_digits.specs.Digits.{IsPrefix}
use Rattle.card_digits.specs.Stream.{AppendsFront}
use Rattle.card_digits.specs.Lines.{lines}
use Rattle.message_text.specs.Parts.{AreFrames}
use Rattle.message_text.specs.Printed.{Printed}
use Rattle.bundle_text.specs.Parts.{parts_of}

-- a printed text, and the status that goes with it
pub record Said : Type 0 where
  pub text : Text
  pub status : Status

abbrev pub fault : Text → Said
fault line = record { text = line; status = Fault }

abbrev pub parts_fault : Said
parts_fault = fault (codes "fault bundle 1 parts\n")

abbrev pub check_memory : Said
check_memory = fault (codes "fault check 9 memory\n")

-- the verdict on tables
abbrev pub verdict : Network → Option Refusal → Said
verdict t None = record { text = codes "accepted\n"; status = Done }
verdict t (Some r) = record { text = refusal_line t r; status = Refused }

-- the first fault of tables and ranks, or what is said of both
abbrev pub read_said : (Network → List Rank → Said) → Result Network TableFault → Result (List Rank) CertFault → Said
read_said say (Err e) ranks = fault (table_fault_line e)
read_said say (Ok t) (Err e) = fault (cert_fault_line e)
read_said say (Ok t) (Ok cert) = say t cert

-- the refusal of tables, or what is said of accepted ones
abbrev pub checked_said : (Network → Said) → Network → Option Refusal → Said
checked_said say t (Some r) = verdict t (Some r)
checked_said say t None = say t

-- the first fault of tables and ranks, the refusal of the tables, or what is said of accepted ones
abbrev pub accepted_said : (Network → Said) → Result Network TableFault → Result (List Rank) CertFault → Said
accepted_said say = read_said (λ t cert. checked_said say t (first_refusal t cert))

-- the first fault of tables and ranks, or the verdict
abbrev pub check_read : Result Network TableFault → Result (List Rank) CertFault → Said
check_read tables ranks = accepted_said (λ t. verdict t None) tables ranks

abbrev pub check_parts : List (List ℕ) → Said
check_parts (tables ∷ ranks ∷ []) = check_read (tables_in tables) (cert_in ranks)
check_parts _ = parts_fault

-- the answer of `check` to an input
abbrev pub check_said : List ℕ → Said
check_said input = check_parts (parts_of input)

abbrev pub status_code : Status → ℕ
status_code Done = 0
status_code Refused = 1
status_code Fault = 2

-- the first fault of tables and ranks, or an answer to them
abbrev pub IsOfRead : (Network → List Rank → Said → Type 0) → Result Network TableFault → Result (List Rank) CertFault → Said → Type 0
IsOfRead IsAnswer (Err e) ranks said = said ≡ fault (table_fault_line e)
IsOfRead IsAnswer (Ok t) (Err e) said = said ≡ fault (cert_fault_line e)
IsOfRead IsAnswer (Ok t) (Ok cert) said = IsAnswer t cert said

-- the refusal of tables, or an answer to accepted ones
abbrev pub IsOfChecked : (Network → Said → Type 0) → Network → Option Refusal → Said → Type 0
IsOfChecked IsAnswer t (Some r) said = said ≡ verdict t (Some r)
IsOfChecked IsAnswer t None said = IsAnswer t said

-- the first fault of tables and ranks, the refusal of the tables, or an answer to accepted ones
abbrev pub IsOfAccepted : (Network → Said → Type 0) → Result Network TableFault → Result (List Rank) CertFault → Said → Type 0
IsOfAccepted IsAnswer = IsOfRead (λ t cert. IsOfChecked IsAnswer t (first_refusal t cert))

-- a line that names memory
abbrev pub NamesMemory : Said → Type 0
NamesMemory said = (said ≡ fault (codes "fault tables 8 memory\n")) ⊎ ((said ≡ fault (codes "fault ranks 6 memory\n")) ⊎ (said ≡ check_memory))

-- the answer of a job, unless memory was refused
abbrev pub Answers : Said → Said → Type 0
Answers said wanted = (said ≡ wanted) ⊎ NamesMemory said

-- what is made of tables: the text of a certificate, as which it is read, a circle of theirs, or neither
pub data IsMade (t : Network) (said : Said) : Type 0 where
  IsCertText : (cert : List Rank) → cert_in (text_of cert) ≡ Ok cert → said ≡ record { text = text_of cert; status = Done } → IsMade t said
  IsCircleOf : (class nodes : List ℕ) → IsPrefix class → IsCircle t class nodes → said ≡ record { text = circle_line t class nodes; status = Refused } → IsMade t said
  GaveUp : said ≡ record { text = codes "gave up\n"; status = Refused } → IsMade t said

abbrev pub IsMadeOf : Result Network TableFault → Said → Type 0
IsMadeOf (Err e) said = said ≡ fault (table_fault_line e)
IsMadeOf (Ok t) said = IsMade t said

abbrev pub IsMadeOfParts : List (List ℕ) → Said → Type 0
IsMadeOfParts (tables ∷ []) said = IsMadeOf (tables_in tables) said
IsMadeOfParts _ said = said ≡ parts_fault

-- an answer of `make` to an input, unless memory was refused
abbrev pub MakeAnswers : List ℕ → Said → Type 0
MakeAnswers input said = IsMadeOfParts (parts_of input) said ⊎ NamesMemory said

abbrev pub decode_status : Bool → Status
decode_status good = if good then Done else Fault

-- the blocks of these messages, and the status that goes with them
abbrev pub IsDecoded : List (Option (List ℕ)) → Said → Type 0
IsDecoded items said = (good : Bool) × Printed 1 items said.text good × (said.status ≡ decode_status good)

abbrev pub IsDecodedParts : List (List ℕ) → Said → Type 0
IsDecodedParts (text ∷ []) said = IsDecoded (map (λ line. Some line) (lines text)) said
IsDecodedParts _ said = said ≡ parts_fault

-- an answer of `decode` to an input of lines, or of frames; where memory was refused for a message, its block says so
abbrev pub DecodeAnswers : Bool → List ℕ → Said → Type 0
DecodeAnswers false input said = IsDecodedParts (parts_of input) said
DecodeAnswers true input said = (items : List (Option (List ℕ))) × AreFrames input items × IsDecoded items said

-- one answer was written, of this status
abbrev pub Wrote : (Said → Type 0) → Option (List ℕ) → Option (List ℕ) → Status → Type 0
Wrote IsOne old new status = (said : Said) × IsOne said × Appends old new said.text × (status ≡ said.status)

-- a front of one answer was written
abbrev pub WroteFront : (Said → Type 0) → Option (List ℕ) → Option (List ℕ) → Type 0
WroteFront IsOne old new = (said : Said) × IsOne said × AppendsFront old new said.text
