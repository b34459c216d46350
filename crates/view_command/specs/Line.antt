-- Which words ask for which job.
use Rattle.std.specs.Prelude.{◌≡◌, Bool, false, List, [], ◌∷◌, codes, Option, Some, None, Ok, option_and_then, option_map, if◌then◌else◌}
use Rattle.std.specs.Option.{option_map_or}
use Rattle.std.specs.Result.{result_ok}
use Rattle.std.specs.Str.{bytes_eq}
use Rattle.card_digits.specs.Reading.{read_digits}
use Rattle.clap.specs.Words.{Kinds, Row, Text, fault_of, first_of, subcommand_of}
use Rattle.view_command.specs.App.{program}
use Rattle.view_command.specs.declared.job.Drawing.{Drawing}
use Rattle.view_command.specs.declared.job.Drawing.TheVariants as drawings
use Rattle.view_command.specs.declared.job.Format.{Format}
use Rattle.view_command.specs.declared.job.Format.TheVariants as formats
use Rattle.view_command.specs.declared.job.Job.{Job}
use Rattle.view_command.specs.declared.job.Job.TheVariants as jobs

-- what clap found of a flag: it was given
abbrev pub is_given : Text → List Row → Bool
is_given flag found = option_map_or (λ text. bytes_eq text (codes "true")) (first_of flag found) false

abbrev pub format_in : List Row → Format
format_in found = if is_given (codes "json") found then formats.Json else formats.Text

abbrev pub drawing_in : List Row → Drawing
drawing_in found = if is_given (codes "dot") found then drawings.Dot else drawings.Svg

-- a card number of 8 to 19 digits
abbrev pub card_in : List Row → Option Job
card_in found = option_map (λ card. jobs.Card card (format_in found)) (option_and_then (λ text. result_ok (read_digits 8 19 text)) (first_of (codes "number") found))

-- a picture of the routes of a PAN prefix of 1 to 12 digits, or without routes
abbrev pub picture_of : Option Text → Drawing → Option Job
picture_of None drawing = Some (jobs.Picture None drawing)
picture_of (Some text) drawing = option_map (λ prefix. jobs.Picture (Some prefix) drawing) (result_ok (read_digits 1 12 text))

abbrev pub picture_in : List Row → Option Job
picture_in found = picture_of (first_of (codes "prefix") found) (drawing_in found)

-- the job of a subcommand that clap met, and of what it found behind it
abbrev pub job_named : Text → List Row → Option Job
job_named name found =
    if bytes_eq name (codes "card") then card_in found
    else if bytes_eq name (codes "refusals") then Some (jobs.Refusals (format_in found))
    else if bytes_eq name (codes "picture") then picture_in found
    else if bytes_eq name (codes "trace") then Some jobs.Trace
    else None

abbrev pub job_in : Option (Text × List Row) → Option Job
job_in None = None
job_in (Some (name, found)) = job_named name found

-- a job, where a parse has no fault
abbrev pub unless_fault : Kinds → Option Job → Option Job
unless_fault [] job = job
unless_fault (kind ∷ kinds) job = None

-- the job that words ask for: that of the subcommand which clap meets, where clap takes the words
abbrev pub job_asked : List Text → Option Job
job_asked words = unless_fault (fault_of program words) (job_in (subcommand_of program words))

-- the lines of the usage: these words ask for the job
abbrev pub IsLine : Job → List Text → Type 0
IsLine (jobs.Card card formats.Text) words = (number : Text) × (read_digits 8 19 number ≡ Ok card) × (words ≡ codes "card" ∷ number ∷ [])
IsLine (jobs.Card card formats.Json) words = (number : Text) × (read_digits 8 19 number ≡ Ok card) × (words ≡ codes "card" ∷ number ∷ codes "--json" ∷ [])
IsLine (jobs.Refusals formats.Text) words = words ≡ codes "refusals" ∷ []
IsLine (jobs.Refusals formats.Json) words = words ≡ codes "refusals" ∷ codes "--json" ∷ []
IsLine (jobs.Picture None drawings.Svg) words = words ≡ codes "picture" ∷ []
IsLine (jobs.Picture None drawings.Dot) words = words ≡ codes "picture" ∷ codes "--dot" ∷ []
IsLine (jobs.Picture (Some prefix) drawings.Svg) words = (text : Text) × (read_digits 1 12 text ≡ Ok prefix) × (words ≡ codes "picture" ∷ codes "--prefix" ∷ text ∷ [])
IsLine (jobs.Picture (Some prefix) drawings.Dot) words = (text : Text) × (read_digits 1 12 text ≡ Ok prefix) × (words ≡ codes "picture" ∷ codes "--prefix" ∷ text ∷ codes "--dot" ∷ [])
IsLine jobs.Trace words = words ≡ codes "trace" ∷ []
