-- What a node put out, told by numbers and bytes.
use Rattle.std.specs.Prelude.{ℕ, List, length}
use Rattle.network_law.specs.Entries.{Output, Put, Answer, Ask, Post}
use Rattle.node_calls.specs.declared.output.NodeOutput.{NodeOutput}

-- where an output goes and how many bytes it has: 1 is a packet on a link, with its serial, 2 an answer to the acquirer, 3 an ask of the host,
-- with its number, 4 what is posted to the host's books
abbrev pub told : Output → NodeOutput
told (Put link serial bytes) = record { number = serial; link = link; length = length bytes; way = 1 }
told (Answer bytes) = record { number = 0; link = 0; length = length bytes; way = 2 }
told (Ask ask bytes) = record { number = ask; link = 0; length = length bytes; way = 3 }
told (Post bytes) = record { number = 0; link = 0; length = length bytes; way = 4 }
