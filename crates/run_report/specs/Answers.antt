-- What a report says of the lines of sessions.
use Rattle.std.specs.Prelude.{ℕ, List, ◌++◌, codes, map, unwrap_or, Option, option_and_then}
use Rattle.std.specs.Fmt.{decimal}
use Rattle.std.specs.Result.{result_ok}
use Rattle.iso_message.specs.Fields.{get}
use Rattle.iso_message.specs.Messages.{read}
use Rattle.network_law.specs.Faults.{refusal_number}
use Rattle.net_threads.specs.declared.fault.StationFault.{StationFault}
use Rattle.net_threads.specs.declared.fault.StationFault.TheVariants.{StrangeLink, Step}
use Rattle.net_threads.specs.declared.ended.Ended.{Ended}
use Rattle.net_threads.specs.declared.ended.SessionEnd.{SessionEnd}
use Rattle.net_threads.specs.declared.ended.LineEnd.{LineEnd}
use Rattle.net_threads.specs.declared.ended.LineEnd.TheVariants.{Answer, Nothing, Refused}
use Rattle.serde_json.specs.Data.{Data, string, array}
use Rattle.serde_json.specs.View.{items_of}

-- the number of a refusal
abbrev pub fault_number : StationFault → ℕ
fault_number StrangeLink = 11
fault_number (Step fault) = refusal_number fault

-- the code of an answer, where its bytes are a message that has one
abbrev pub code_in : List ℕ → Option (List ℕ)
code_in bytes = option_and_then (λ m. get m 39) (result_ok (read bytes))

abbrev pub code_text : List ℕ → List ℕ
code_text bytes = unwrap_or (code_in bytes) (codes "none")

-- what is said of a line's end
abbrev pub end_text : LineEnd → List ℕ
end_text (Answer bytes) = code_text bytes.items
end_text Nothing = codes "none"
end_text (Refused fault) = codes "refused " ++ decimal (fault_number fault)

abbrev pub end_data : LineEnd → Data
end_data e = string (end_text e)

-- a session is a list with an entry for each of its lines
abbrev pub session_data : SessionEnd → Data
session_data s = array (items_of (map end_data s.lines.items))

abbrev pub answers_data : Ended → Data
answers_data ended = array (items_of (map session_data ended.sessions.items))
