-- What is printed for a message, and for all messages of an input.
use Rattle.std.specs.Prelude.{◌≡◌, ℕ, suc, ◌&&◌, Bool, true, is_ok, if◌then◌else◌, List, [], ◌∷◌, ◌++◌, codes, decimal, Option, Some, None, Result, Ok, Err}
use Rattle.std.specs.List.{flat_map}
use Rattle.std.specs.Io.KnownBytes.{Appends}
use Rattle.hex.specs.Hex.{encode_upper}
use Rattle.card_digits.specs.Stream.{AppendsFront, one_more}
use Rattle.message_elements.specs.declared.fault.DecodeFault.{DecodeFault}
use Rattle.message_elements.specs.declared.fault.DecodeFault.TheVariants as faults
use Rattle.message_elements.specs.Types.{kind_text}
use Rattle.iso_message.specs.Fields.{Fields}
use Rattle.iso_message.specs.Messages.{read}
use Rattle.message_elements.specs.Table.{form_of}
use Rattle.iso_message.specs.Spelling.{is_binary}
use Rattle.message_text.specs.declared.fault.PrintFault.{PrintFault}
use Rattle.message_text.specs.declared.fault.PrintFault.TheVariants.{Write, Memory}

-- an element of eight bytes is printed as hexadecimal digits
abbrev pub value_text : ℕ → List ℕ → List ℕ
value_text n value = if is_binary (form_of n) then encode_upper value else value

unfoldable pub element_line : ℕ × List ℕ → List ℕ
element_line e = decimal e.0 ++ (codes " " ++ (value_text e.0 e.1 ++ codes "\n"))

abbrev pub element_lines : List (ℕ × List ℕ) → List ℕ
element_lines elements = flat_map element_line elements

unfoldable pub message_lines : Fields → List ℕ
unfolding element_line
message_lines m = codes "type " ++ (kind_text m.kind ++ (codes "\n" ++ element_lines m.elements))

abbrev pub fault_words : DecodeFault → List ℕ
fault_words faults.Short = codes "1 short"
fault_words faults.BadType = codes "2 type"
fault_words faults.BitMap = codes "3 bit map"
fault_words (faults.Element n) = codes "4 element " ++ decimal n
fault_words (faults.Length n) = codes "5 length " ++ decimal n
fault_words (faults.Character n) = codes "6 character " ++ decimal n
fault_words faults.Trailing = codes "7 trailing"
fault_words faults.Memory = codes "8 memory"

unfoldable pub fault_line : DecodeFault → List ℕ
fault_line fault = codes "fault message " ++ (fault_words fault ++ codes "\n")

abbrev pub answer_lines : Result Fields DecodeFault → List ℕ
answer_lines (Ok m) = message_lines m
answer_lines (Err fault) = fault_line fault

unfoldable pub heading : ℕ → List ℕ
heading number = codes "message " ++ (decimal number ++ codes "\n")

-- the lines of the message of this number
abbrev pub block : ℕ → Result Fields DecodeFault → List ℕ
block number answer = heading number ++ answer_lines answer

-- what is read of a message; a frame that is cut is too short
abbrev pub reading : Option (List ℕ) → Result Fields DecodeFault
reading (Some bytes) = read bytes
reading None = Err faults.Short

-- what is read
abbrev pub IsAnswer : Option (List ℕ) → Result Fields DecodeFault → Type 0
IsAnswer item answer = answer ≡ reading item

-- a text grows by the block of a message
abbrev pub PrintsBlock : ℕ → Option (List ℕ) → List ℕ → List ℕ → Bool → Type 0
PrintsBlock number item old new good = (answer : Result Fields DecodeFault) × IsAnswer item answer × (new ≡ old ++ block number answer) × (good ≡ is_ok answer)

-- a text goes to a writer behind what waits: a front of both was sent, and the rest waits
pub record Sends (start now : Option (List ℕ)) (old text new : List ℕ) : Type 0 where
  pub sent : List ℕ
  pub sends : Appends start now sent
  pub whole : old ++ text ≡ sent ++ new

-- so does the block of a message
pub record SendsBlock (number : ℕ) (item : Option (List ℕ)) (start now : Option (List ℕ)) (old new : List ℕ) (good : Bool) : Type 0 where
  pub answer : Result Fields DecodeFault
  pub is : IsAnswer item answer
  pub sends : Sends start now old (block number answer) new
  pub fine : good ≡ is_ok answer

-- the writer failed behind a front of what waited and the block
pub record SendsFront (number : ℕ) (item : Option (List ℕ)) (start now : Option (List ℕ)) (old : List ℕ) : Type 0 where
  pub answer : Result Fields DecodeFault
  pub is : IsAnswer item answer
  pub front : AppendsFront start now (old ++ block number answer)

-- the block of each message from this number on, and whether none has a fault
abbrev pub Printed : ℕ → List (Option (List ℕ)) → List ℕ → Bool → Type 0
Printed number [] text good = (text ≡ []) × (good ≡ true)
Printed number (item ∷ items) text good =
    (answer : Result Fields DecodeFault) × (later : List ℕ) × (rest : Bool) × IsAnswer item answer × (text ≡ block number answer ++ later) × (good ≡ (is_ok answer && rest))
    × Printed (suc number) items later rest

-- the blocks of all messages went out, and whether none has a fault
abbrev pub WritesBlocks : List (Option (List ℕ)) → Option (List ℕ) → Option (List ℕ) → Bool → Type 0
WritesBlocks items start now good = (text : List ℕ) × Printed 1 items text good × Appends start now text

-- a front of such blocks went out
abbrev pub WritesFront : List (Option (List ℕ)) → Option (List ℕ) → Option (List ℕ) → Type 0
WritesFront items start now = (text : List ℕ) × (good : Bool) × Printed 1 items text good × AppendsFront start now text

-- how many writes had failed before a text was printed, and how many behind it: one more where the writer failed, and else as many
abbrev pub CountsPrinted : {A : Type 0} → ℕ → ℕ → Result A PrintFault → Type 0
CountsPrinted old new (Ok a) = new ≡ old
CountsPrinted old new (Err Memory) = new ≡ old
CountsPrinted old new (Err Write) = new ≡ one_more old
