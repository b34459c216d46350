-- What a line of a plan says.
use Rattle.std.specs.Prelude.{ℕ, ◌==◌, ◌&&◌, nat_le, List, codes, bytes_eq, Option, Some, None, if◌then◌else◌}
use Rattle.std.specs.List.{position}
use Rattle.std.specs.Option.{option_map}
use Rattle.std.specs.Cmp.Lexicographic.{pointwise}
use Rattle.card_digits.specs.Numbers.{pad11}
use Rattle.net_rows.specs.Network.{Network}
use Rattle.card_digits.specs.Steps.{◌>>=◌}
use Rattle.replay_script.specs.Words.{word_and_rest, number_of}
use Rattle.replay_script.specs.Lines.{node_of, loan}
use Rattle.run_plan.specs.declared.line.Setting.{Setting}
use Rattle.run_plan.specs.declared.line.Setting.TheVariants.{Host, Lose, Delay, Repeat, Lend}
use Rattle.run_plan.specs.declared.line.PlanLine.{PlanLine}
use Rattle.run_plan.specs.declared.line.PlanLine.TheVariants as lines

-- a setting; a session of the acquirer with this padded id; the bytes of a message
pub data Line : Type 0 where
  Set : (setting : Setting) → Line
  Session : (id : List ℕ) → Line
  Send : (message : List ℕ) → Line

abbrev pub line_of : PlanLine → Line
line_of (lines.Setting s) = Set s
line_of (lines.Session id) = Session id
line_of (lines.Send message) = Send message.now

abbrev pub link_of : Network → List ℕ → Option ℕ
link_of t name = position (λ k. pointwise ◌==◌ k.name name) t.links

-- a number of one to ten digits, between two others
abbrev pub between : ℕ → ℕ → List ℕ → Option ℕ
between least most text = do
  n ← number_of 10 text
  if nat_le least n && nat_le n most then Some n else None

-- `WORD N`
abbrev pub numbered : List ℕ → ℕ → ℕ → List ℕ → Option ℕ
numbered word least most line = do
  p ← word_and_rest line
  if bytes_eq p.0 word then between least most p.1 else None

-- by word

abbrev pub host : Network → List ℕ → Option Setting
host t rest = do
  p ← word_and_rest rest
  n ← node_of t p.0
  amount ← number_of 12 p.1
  Some (Host n amount)

abbrev pub link_and_number : Network → List ℕ → Option (ℕ × ℕ)
link_and_number t rest = do
  p ← word_and_rest rest
  l ← link_of t p.0
  every ← between 1 65535 p.1
  Some (l, every)

abbrev pub delay : Network → List ℕ → Option Setting
delay t rest = do
  p ← word_and_rest rest
  q ← word_and_rest p.1
  l ← link_of t p.0
  every ← between 1 65535 q.0
  turns ← between 1 4000 q.1
  Some (Delay l (record { every = every; turns = turns }))

abbrev pub setting : Network → List ℕ → List ℕ → Option Setting
setting t word rest =
    if bytes_eq word (codes "host") then host t rest
    else if bytes_eq word (codes "lose") then option_map (λ p. Lose p.0 p.1) (link_and_number t rest)
    else if bytes_eq word (codes "delay") then delay t rest
    else if bytes_eq word (codes "repeat") then option_map (λ p. Repeat p.0 p.1) (link_and_number t rest)
    else if bytes_eq word (codes "lend") then option_map Lend (loan t rest)
    else None

-- an id has one to eleven digits
abbrev pub by_word : Network → List ℕ → List ℕ → Option Line
by_word t word rest =
    if bytes_eq word (codes "send") then Some (Send rest)
    else if bytes_eq word (codes "session") then option_map (λ n. Session (pad11 rest)) (number_of 11 rest)
    else option_map Set (setting t word rest)

-- a word, and what it speaks of behind a space
abbrev pub read_line : Network → List ℕ → Option Line
read_line t line = do
  p ← word_and_rest line
  by_word t p.0 p.1
