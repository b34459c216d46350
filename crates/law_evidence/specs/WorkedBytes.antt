-- The bytes of a request, as docs/FORMATS.md and the script of the first example write it, and of what becomes of it.
use Rattle.std.specs.Prelude.{List, [], ◌∷◌, ◌++◌, codes}
use Rattle.network_law.specs.Cards.{Bytes}
use Rattle.network_law.specs.Entries.{Input, Enter, Take, HostAnswer, Output, Put, Answer, Ask, Entry}

-- elements 2, 3, 4, 7 and 11
abbrev front : Bytes
front = codes "164111111111111111" ++ codes "000000" ++ codes "000000001000" ++ codes "0314091530" ++ codes "000001"

abbrev pub request_bytes : Bytes
request_bytes = codes "0100" ++ codes "7220000100008000" ++ front ++ codes "06400001" ++ codes "840"

-- with the settlement date, element 15
abbrev pub forwarded_bytes : Bytes
forwarded_bytes = codes "0100" ++ codes "7222000100008000" ++ front ++ codes "0314" ++ codes "06400001" ++ codes "840"

-- and with the code, element 39
abbrev pub answered_bytes : Bytes
answered_bytes = codes "0110" ++ codes "7222000102008000" ++ front ++ codes "0314" ++ codes "06400001" ++ codes "00" ++ codes "840"

-- the first entries of both nodes, the newest first

abbrev entry : Input → List Output → Entry
entry i os = record { input = i; outputs = os }

abbrev pub bytes_at_a : List Entry
bytes_at_a = entry (Take 0 1 answered_bytes) (Answer answered_bytes ∷ []) ∷ entry (Enter request_bytes) (Put 0 1 forwarded_bytes ∷ []) ∷ []

abbrev pub bytes_at_h : List Entry
bytes_at_h = entry (HostAnswer 1 (codes "00")) (Put 0 1 answered_bytes ∷ []) ∷ entry (Take 0 1 forwarded_bytes) (Ask 1 forwarded_bytes ∷ []) ∷ []

-- the first grant of a node, of 100
abbrev pub grant_bytes : Bytes
grant_bytes = codes "GRNT0000000100100000000010000000100316411111111111111103140000000001" ++ codes "00"

-- what acknowledges the first grant of a node
abbrev pub grant_received : Bytes
grant_received = codes "GACK" ++ codes "00000001001" ++ codes "0000000001"
