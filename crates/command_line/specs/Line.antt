-- The program's command line.
use Rattle.std.specs.Prelude.{◌≡◌, true, false, List, [], ◌∷◌, codes, Option, Some, None, if◌then◌else◌}
use Rattle.clap.specs.Words.{App, HasMatchesOf, Row, Rule, Text, new_app, new_rule, one_of, subcommand_rows_of, with_rule, with_subcommand}
use Rattle.clap.specs.declared.builder.action.ArgAction.TheVariants.{SetTrue}
use Rattle.clap.specs.declared.parser.matches.ArgMatches.{ArgMatches}
use Rattle.command_line.specs.declared.job.Job.{Job}
use Rattle.command_line.specs.declared.job.Job.TheVariants.{Check, Make, Replay, Run, Decode}

-- the words that ask for a job
abbrev pub line_of : Job → List Text
line_of Check = codes "check" ∷ []
line_of Make = codes "make" ∷ []
line_of Replay = codes "replay" ∷ []
line_of Run = codes "run" ∷ []
line_of (Decode false) = codes "decode" ∷ []
line_of (Decode true) = codes "decode" ∷ codes "--frames" ∷ []

-- the program's command line, as clap has it
abbrev pub plain : App
plain = new_app (codes "card_switch")

abbrev pub bare : App
bare = record plain { top = record plain.top { no_binary_name = true } }

abbrev pub frames_rule : Rule
frames_rule = record (new_rule (codes "frames")) { long = Some (codes "frames"); action = Some SetTrue }

abbrev pub decode_app : App
decode_app = with_rule (new_app (codes "decode")) frames_rule

abbrev pub program : App
program = with_subcommand (with_subcommand (with_subcommand (with_subcommand (with_subcommand bare (new_app (codes "check")).top) (new_app (codes "make")).top) (new_app (codes "replay")).top) (new_app (codes "run")).top) decode_app.top

-- the subcommand, and the value of its flag, are those of a job
abbrev pub NamesIn : Text × List Row → Job → Type 0
NamesIn found Check = found.0 ≡ codes "check"
NamesIn found Make = found.0 ≡ codes "make"
NamesIn found Replay = found.0 ≡ codes "replay"
NamesIn found Run = found.0 ≡ codes "run"
NamesIn found (Decode frames) = (found.0 ≡ codes "decode") × (one_of (codes "frames") found.1 ≡ Some (if frames then codes "true" else codes "false"))

-- a subcommand was met, and it is that of a job
abbrev pub Names : Option (Text × List Row) → Job → Type 0
Names None job = ⊥
Names (Some found) job = NamesIn found job

-- clap's matches of the words name the job
abbrev pub IsNamed : List Text → Job → Type 0
IsNamed words job = (m : ArgMatches) × HasMatchesOf program words m × Names (subcommand_rows_of m) job
