-- What a line of a script says.
use Rattle.std.specs.Prelude.{ℕ, ◌+◌, ◌==◌, List, [], ◌∷◌, codes, bytes_eq, Option, Some, None, Result, Ok, Err, if◌then◌else◌}
use Rattle.std.specs.List.{position}
use Rattle.std.specs.Result.{result_ok}
use Rattle.std.specs.Cmp.Lexicographic.{pointwise}
use Rattle.card_digits.specs.Reading.{read_digits}
use Rattle.message_elements.specs.Codes.{read_code}
use Rattle.net_rows.specs.Network.{Network}
use Rattle.network_law.specs.Tables.{is_link_of}
use Rattle.replay_script.specs.declared.command.Command.{Command}
use Rattle.replay_script.specs.declared.command.Command.TheVariants as commands
use Rattle.replay_script.specs.declared.command.Loan.{Loan}
use Rattle.replay_script.specs.declared.command.ScriptLine.{ScriptLine}
use Rattle.replay_script.specs.declared.script.MalformedLine.{MalformedLine}
use Rattle.card_digits.specs.Steps.{◌>>=◌}
use Rattle.replay_script.specs.Words.{word_and_rest, number_of, amount_of}

-- what happens at a node: with the bytes of a message, by links, asks and nodes of the tables
pub data Event : Type 0 where
  Enter : (bytes : List ℕ) → Event
  Take : (link serial : ℕ) → Event
  LinkUp : (link : ℕ) → Event
  LinkDown : (link : ℕ) → Event
  Tick : Event
  HostAnswer : (ask : ℕ) (code : List ℕ) → Event
  NewDate : (date : List ℕ) → Event
  Lend : (borrower : ℕ) (card date : List ℕ) (amount : ℕ) → Event

pub record Said : Type 0 where
  pub node : ℕ
  pub event : Event

abbrev pub event_of : Command → Event
event_of (commands.Enter bytes) = Enter bytes.now
event_of (commands.Take l s) = Take l s
event_of (commands.LinkUp l) = LinkUp l
event_of (commands.LinkDown l) = LinkDown l
event_of commands.Tick = Tick
event_of (commands.HostAnswer a code) = HostAnswer a code
event_of (commands.NewDate date) = NewDate date
event_of (commands.Lend order) = Lend order.borrower order.card order.date order.amount

abbrev pub said : ScriptLine → Said
said l = record { node = l.node; event = event_of l.command }

abbrev pub at_node : ℕ → Event → Option Said
at_node n e = Some (record { node = n; event = e })

-- the node of that name
abbrev pub node_of : Network → List ℕ → Option ℕ
node_of t name = position (λ n. pointwise ◌==◌ n.name name) t.nodes

-- the link of that name, where the node is one of its ends
abbrev pub own_link : Network → ℕ → List ℕ → Option ℕ
own_link t n name = do
  l ← position (λ k. pointwise ◌==◌ k.name name) t.links
  if is_link_of t n l then Some l else None

-- by command

abbrev pub enter : Network → List ℕ → Option Said
enter t rest = do
  p ← word_and_rest rest
  n ← node_of t p.0
  at_node n (Enter p.1)

abbrev pub take : Network → List ℕ → Option Said
take t rest = do
  p ← word_and_rest rest
  q ← word_and_rest p.1
  n ← node_of t q.0
  l ← own_link t n p.0
  s ← number_of 10 q.1
  at_node n (Take l s)

abbrev pub link_up : Network → List ℕ → Option Said
link_up t rest = do
  p ← word_and_rest rest
  n ← node_of t p.1
  l ← own_link t n p.0
  at_node n (LinkUp l)

abbrev pub link_down : Network → List ℕ → Option Said
link_down t rest = do
  p ← word_and_rest rest
  n ← node_of t p.1
  l ← own_link t n p.0
  at_node n (LinkDown l)

abbrev pub tick : Network → List ℕ → Option Said
tick t name = do
  n ← node_of t name
  at_node n Tick

-- the code is the rest of the line
abbrev pub host_answer : Network → List ℕ → Option Said
host_answer t rest = do
  p ← word_and_rest rest
  q ← word_and_rest p.1
  n ← node_of t p.0
  a ← number_of 10 q.0
  c ← read_code q.1
  at_node n (HostAnswer a c)

abbrev pub new_date : Network → List ℕ → Option Said
new_date t rest = do
  p ← word_and_rest rest
  n ← node_of t p.0
  d ← result_ok (read_digits 4 4 p.1)
  at_node n (NewDate d)

-- a node, the one that it is to lend to, a card, a date and an amount
abbrev pub loan : Network → List ℕ → Option Loan
loan t text = do
  p ← word_and_rest text
  q ← word_and_rest p.1
  r ← word_and_rest q.1
  s ← word_and_rest r.1
  n ← node_of t p.0
  m ← node_of t q.0
  card ← result_ok (read_digits 8 19 r.0)
  date ← result_ok (read_digits 4 4 s.0)
  amount ← amount_of s.1
  Some (record { lender = n; order = record { borrower = m; card = card; date = date; amount = amount } })

abbrev pub lend : Network → List ℕ → Option Said
lend t rest = do
  l ← loan t rest
  at_node l.lender (Lend l.order.borrower l.order.card l.order.date l.order.amount)

abbrev pub by_word : Network → List ℕ → List ℕ → Option Said
by_word t word rest =
    if bytes_eq word (codes "enter") then enter t rest
    else if bytes_eq word (codes "take") then take t rest
    else if bytes_eq word (codes "up") then link_up t rest
    else if bytes_eq word (codes "down") then link_down t rest
    else if bytes_eq word (codes "tick") then tick t rest
    else if bytes_eq word (codes "host") then host_answer t rest
    else if bytes_eq word (codes "date") then new_date t rest
    else if bytes_eq word (codes "lend") then lend t rest
    else None

-- a command, and what it speaks of behind a space
abbrev pub read_line : Network → List ℕ → Option Said
read_line t line = do
  p ← word_and_rest line
  by_word t p.0 p.1

-- lines that are still to be read, and the number of the first of them
pub record Unread : Type 0 where
  pub number : ℕ
  pub lines : List (List ℕ)

abbrev pub answer_of : Result ScriptLine MalformedLine → Result Said MalformedLine
answer_of (Ok line) = Ok (said line)
answer_of (Err fault) = Err fault

abbrev pub said_or : MalformedLine → Option Said → Result Said MalformedLine
said_or fault None = Err fault
said_or fault (Some s) = Ok s

-- what the first of them says
abbrev pub next_line : Network → Unread → Option (Result Said MalformedLine)
next_line t u = first u.lines
  where
    first : List (List ℕ) → Option (Result Said MalformedLine)
    first [] = None
    first (line ∷ rest) = Some (said_or (record { 0 = u.number }) (read_line t line))

-- and those behind it
abbrev pub behind : Unread → Unread
behind u = others u.lines
  where
    others : List (List ℕ) → Unread
    others [] = u
    others (line ∷ rest) = record { number = u.number + 1; lines = rest }
