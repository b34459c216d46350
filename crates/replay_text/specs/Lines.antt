-- The printed lines of a script's faults and steps.
use Rattle.std.specs.Prelude.{ℕ, suc, List, [], ◌∷◌, ◌++◌, reverse, codes}
use Rattle.std.specs.Fmt.{decimal}
use Rattle.std.specs.List.{concat, flat_map}
use Rattle.message_elements.specs.declared.fault.DecodeFault.{DecodeFault}
use Rattle.message_elements.specs.declared.fault.DecodeFault.TheVariants as decoding
use Rattle.net_rows.specs.Network.{Network}
use Rattle.network_law.specs.declared.fault.StepFault.{StepFault}
use Rattle.network_law.specs.declared.fault.StepFault.TheVariants as refused
use Rattle.network_law.specs.Entries.{Output, Put, Answer, Ask, Post}
use Rattle.switch_node.specs.Outputs.{bytes_of}
use Rattle.net_replay.specs.declared.fault.ReplayFault.{ReplayFault}
use Rattle.net_replay.specs.declared.fault.ReplayFault.TheVariants as replay
use Rattle.net_replay.specs.Steps.{Step}
use Rattle.bundle_text.specs.Lines.{Text, line_feed, node_name, link_name}

-- numbers of faults

-- a number, and the element that it is about
abbrev pub numbered : Text → ℕ → Text
numbered number element = number ++ codes " " ++ decimal element

abbrev pub decode_fault_text : DecodeFault → Text
decode_fault_text decoding.Short = codes "1"
decode_fault_text decoding.BadType = codes "2"
decode_fault_text decoding.BitMap = codes "3"
decode_fault_text (decoding.Element e) = numbered (codes "4") e
decode_fault_text (decoding.Length e) = numbered (codes "5") e
decode_fault_text (decoding.Character e) = numbered (codes "6") e
decode_fault_text decoding.Trailing = codes "7"
decode_fault_text decoding.Memory = codes "8"

abbrev pub step_fault_text : StepFault → Text
step_fault_text (refused.Decode f) = codes "1 " ++ decode_fault_text f
step_fault_text refused.ForeignAcquirer = codes "2"
step_fault_text (refused.Missing e) = numbered (codes "3") e
step_fault_text refused.TypeNotForGate = codes "4"
step_fault_text refused.UnknownAsk = codes "5"
step_fault_text refused.Replacement = codes "6"
step_fault_text refused.HistoryFull = codes "7"
step_fault_text refused.Memory = codes "8"
step_fault_text refused.NoPlace = codes "9"
step_fault_text refused.NotLent = codes "10"

abbrev pub script_fault_line : ReplayFault → Text
script_fault_line (replay.Line n) = codes "fault script 1 line " ++ decimal n ++ line_feed
script_fault_line (replay.NoSuchPacket n) = codes "fault script 2 no such packet " ++ decimal n ++ line_feed
script_fault_line (replay.Step n f) = codes "fault script 3 step " ++ (decimal n ++ (32 ∷ (step_fault_text f ++ line_feed)))
script_fault_line replay.Memory = codes "fault script 4 memory\n"

-- traces

-- the way of what goes out
abbrev pub way_text : Network → Output → Text
way_text t (Put l s bytes) = concat (codes "  put " ∷ link_name t l ∷ codes " " ∷ decimal s ∷ codes " " ∷ [])
way_text t (Answer bytes) = codes "  answer "
way_text t (Ask a bytes) = concat (codes "  ask " ∷ decimal a ∷ codes " " ∷ [])
way_text t (Post bytes) = codes "  post "

-- its way, and the bytes of a message or of a packet
abbrev pub output_text : Network → Output → Text
output_text t o = way_text t o ++ bytes_of o ++ line_feed

-- the number of a step's line and the name of its node
abbrev pub heading_text : Network → ℕ → ℕ → Text
heading_text t number node = concat (decimal number ∷ codes " " ∷ node_name t node ∷ codes "\n" ∷ [])

-- the same, and below what went out
abbrev pub step_text : Network → ℕ → Step → Text
step_text t number s = decimal number ++ 32 ∷ node_name t s.node ++ line_feed ++ flat_map (output_text t) s.entry.outputs

-- the text of steps that stand in the order of their lines, from the line of this number on
abbrev pub ordered_text : Network → ℕ → List Step → Text
ordered_text t number [] = []
ordered_text t number (s ∷ steps) = step_text t number s ++ ordered_text t (suc number) steps

-- the text of a script's steps, line by line; among the steps the newest stands first
abbrev pub steps_text : Network → List Step → Text
steps_text t steps = ordered_text t 1 (reverse steps)
