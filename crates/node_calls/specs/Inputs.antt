-- What comes to a node, told by numbers and bytes.
use Rattle.std.specs.Prelude.{ℕ, ◌==◌, List, Option, Some, None, if◌then◌else◌}
use Rattle.std.specs.Option.{option_map}
use Rattle.std.specs.Result.{result_ok}
use Rattle.card_digits.specs.Reading.{read_digits}
use Rattle.card_digits.specs.Steps.{◌>>=◌}
use Rattle.message_elements.specs.Codes.{read_code}
use Rattle.net_rows.specs.Network.{Network}
use Rattle.network_law.specs.Entries.{Input, Enter, Take, LinkUp, LinkDown, Tick, HostAnswer, NewDate, Lend}
use Rattle.network_law.specs.Tables.{is_link_of}
use Rattle.replay_script.specs.declared.command.Loan.{Loan}
use Rattle.replay_script.specs.Lines.{loan}
use Rattle.node_calls.specs.declared.input.InputKind.{InputKind}
use Rattle.node_calls.specs.declared.input.InputKind.TheVariants as kinds
use Rattle.node_calls.specs.declared.input.NodeInput.{NodeInput}

-- kinds by their numbers
abbrev pub kind_of : ℕ → Option InputKind
kind_of n =
    if n == 1 then Some kinds.Enter
    else if n == 2 then Some kinds.Take
    else if n == 3 then Some kinds.LinkUp
    else if n == 4 then Some kinds.LinkDown
    else if n == 5 then Some kinds.Tick
    else if n == 6 then Some kinds.HostAnswer
    else if n == 7 then Some kinds.NewDate
    else if n == 8 then Some kinds.Lend
    else None

-- what the node is told to lend, where it is the lender
abbrev pub own_loan : ℕ → Loan → Option Input
own_loan n l = if l.lender == n then Some (Lend l.order.borrower l.order.card l.order.date l.order.amount) else None

-- the order to lend that the bytes write, where the node is the lender
abbrev pub lend_in : Network → ℕ → List ℕ → Option Input
lend_in t n bytes = loan t bytes >>= own_loan n

-- an input of this kind: by a link of the node, with the digits of a code or of a date, or with an order to lend as a script writes it
abbrev pub input_of_kind : Network → ℕ → NodeInput → List ℕ → InputKind → Option Input
input_of_kind t n told bytes kinds.Enter = Some (Enter bytes)
input_of_kind t n told bytes kinds.Take = if is_link_of t n told.link then Some (Take told.link told.number bytes) else None
input_of_kind t n told bytes kinds.LinkUp = if is_link_of t n told.link then Some (LinkUp told.link) else None
input_of_kind t n told bytes kinds.LinkDown = if is_link_of t n told.link then Some (LinkDown told.link) else None
input_of_kind t n told bytes kinds.Tick = Some Tick
input_of_kind t n told bytes kinds.HostAnswer = option_map (λ code. HostAnswer told.number code) (read_code bytes)
input_of_kind t n told bytes kinds.NewDate = option_map NewDate (result_ok (read_digits 4 4 bytes))
input_of_kind t n told bytes kinds.Lend = lend_in t n bytes

-- the input of a node of the tables that is told so, if any is
abbrev pub input_in : Network → ℕ → NodeInput → List ℕ → Option Input
input_in t n told bytes = kind_of told.kind >>= input_of_kind t n told bytes
