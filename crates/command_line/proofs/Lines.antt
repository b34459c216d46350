-- clap takes the line of each job, and its matches name that job.
use Rattle.std.proofs.Common.{◌≡◌, ◌∙◌, Bool, true, false, List, [], ◌∷◌, Bor, map, option_map, codes, Option, Some, None, refl, sym, subst, ap, slice_index, arith}
use Rattle.std.specs.Cmp.Lexicographic.{pointwise}
use Rattle.std.proofs.lemmas.Bool.{and_parts, false≢true}
use Rattle.std.proofs.lemmas.Slice.Eq.{bytes_eq-Decides}
use Rattle.std.specs.Str.{bytes_eq}
use Rattle.clap.specs.Words.{HasMatchesOf, Row, Text, is_simple, one_of, one_text, rows_of, subcommand_name_of, subcommand_of, subcommand_rows_of, takes}
use Rattle.clap.specs.declared.parser.matches.ArgMatches.{ArgMatches}
use Rattle.clap.specs.declared.parser.matches.Found.{Found}
use Rattle.clap.proofs.WalkLemmas.{one_text-rows}
use Rattle.clap.specs.declared.parser.matches.ArgMatches.TheViews.{out-ArgMatches, out-SubCommand}
use Rattle.clap.specs.declared.parser.matches.SubCommand.{SubCommand}
use Rattle.clap.specs.Simple.{subcommand_rows}
use Rattle.std.specs.Prelude.{Box}
use Rattle.std.specs.Box.{box_value}
use Rattle.clap.proofs.OnLiterals.{clap_on_literals}
use Rattle.command_line.specs.declared.job.Job.{Job}
use Rattle.command_line.specs.declared.job.Job.TheVariants.{Check, Make, Replay, Run, Decode}
use Rattle.command_line.specs.Line.{Names, line_of, program}

pub program_simple : is_simple program ≡ true
unfolding clap_on_literals
program_simple = refl

pub line_taken : (job : Job) → takes program (line_of job) ≡ true
unfolding clap_on_literals
line_taken Check = refl
line_taken Make = refl
line_taken Replay = refl
line_taken Run = refl
line_taken (Decode false) = refl
line_taken (Decode true) = refl

pub line_named : (job : Job) → Names (subcommand_of program (line_of job)) job
unfolding clap_on_literals
line_named Check = refl
line_named Make = refl
line_named Replay = refl
line_named Run = refl
line_named (Decode false) = (refl, refl)
line_named (Decode true) = (refl, refl)

-- matches of the line of a job name it
pub names_at : (m : ArgMatches) (words : List Text) (job : Job) → HasMatchesOf program words m → words ≡ line_of job → Names (subcommand_rows_of m) job
names_at m words job h is =
    subst (λ (o : Option (Text × List Row)). Names o job) (sym ((h program_simple).1 ∙ ap (λ (ws : List Text). subcommand_of program ws) is)) (line_named job)

-- words that clap refuses are the line of no job
pub not_line : (words : List Text) (job : Job) → (takes program words ≡ true → false ≡ true) → words ≡ line_of job → ⊥
not_line words job h is = false≢true (h (ap (λ (ws : List Text). takes program ws) is ∙ line_taken job))

-- words are the same where their bytes are
abbrev same : Bor Text → Bor Text → Bool
same x y = bytes_eq x.now y.now

pub same_words : (xs ys : List (Bor Text)) → pointwise same xs ys ≡ true → map (λ w. w.now) xs ≡ map (λ w. w.now) ys
same_words [] [] h = refl
same_words [] (y ∷ ys) h = absurd (false≢true h)
same_words (x ∷ xs) [] h = absurd (false≢true h)
same_words (x ∷ xs) (y ∷ ys) h =
    let (here, more) = and_parts (bytes_eq x.now y.now) (pointwise same xs ys) h in
    rw ((bytes_eq-Decides x.now y.now).0 here, same_words xs ys more) refl

pub words_same : (xs ys : List (Bor Text)) → map (λ w. w.now) xs ≡ map (λ w. w.now) ys → pointwise same xs ys ≡ true
words_same [] [] h = refl
words_same [] (y ∷ ys) h = absurd cc
words_same (x ∷ xs) [] h = absurd cc
words_same (x ∷ xs) (y ∷ ys) h =
    let here : x.now ≡ y.now = cc in
    let more : map (λ (w : Bor Text). w.now) xs ≡ map (λ (w : Bor Text). w.now) ys = cc in
    rw ((bytes_eq-Decides x.now y.now).1 here, words_same xs ys more) refl

-- a word with another first letter is another word
other : (word named : Text) → Some word ≡ Some (codes "decode") → word ≡ named → (slice_index named 0 ≡ 100 → ⊥) → ⊥
other word named decode is no' =
    let same : word ≡ codes "decode" = cc in
    no' (sym (ap (λ (t : Text). slice_index t 0) is) ∙ ap (λ (t : Text). slice_index t 0) same)

-- the flag of a subcommand's matches is that of the job that they name
pub flag_named : (o : Option (Text × List Row)) (f : Found) (flag : Bool) (job : Job) → option_map (λ p. p.0) o ≡ Some (codes "decode") → option_map (λ p. p.1) o ≡ Some (rows_of f)
    → (one_text f (codes "frames") ≡ Some (codes "true") → flag ≡ true) → (one_text f (codes "frames") ≡ Some (codes "false") → flag ≡ false) → Names o job → Some (Decode flag) ≡ Some job
flag_named None f flag job name rows on off h = absurd h
flag_named (Some p) f flag Check name rows on off h = absurd (other p.0 (codes "check") name h (λ bad. absurd (omega arith)))
flag_named (Some p) f flag Make name rows on off h = absurd (other p.0 (codes "make") name h (λ bad. absurd (omega arith)))
flag_named (Some p) f flag Replay name rows on off h = absurd (other p.0 (codes "replay") name h (λ bad. absurd (omega arith)))
flag_named (Some p) f flag Run name rows on off h = absurd (other p.0 (codes "run") name h (λ bad. absurd (omega arith)))
flag_named (Some p) f flag (Decode true) name rows on off h =
    let same : p.1 ≡ rows_of f = cc in
    ap (λ (b : Bool). Some (Decode b)) (on (one_text-rows f (codes "frames") ∙ ap (λ (rs : List Row). one_of (codes "frames") rs) (sym same) ∙ h.1))
flag_named (Some p) f flag (Decode false) name rows on off h =
    let same : p.1 ≡ rows_of f = cc in
    ap (λ (b : Bool). Some (Decode b)) (off (one_text-rows f (codes "frames") ∙ ap (λ (rs : List Row). one_of (codes "frames") rs) (sym same) ∙ h.1))

-- the name of the subcommand, with its rows
name_with : {Z : Type 0} (o : Option (Box SubCommand Z)) → option_map (λ b. (out-SubCommand (box_value b)).name.now) o ≡ option_map (λ p. p.0) (subcommand_rows o)
name_with None = refl
name_with (Some b) = refl

pub name_in_rows : (m : ArgMatches) → subcommand_name_of m ≡ option_map (λ p. p.0) (subcommand_rows_of m)
name_in_rows m = name_with (out-ArgMatches m).subcommand

pub named_line : (words : List Text) (found job : Job) → Some found ≡ Some job → words ≡ line_of found → words ≡ line_of job
named_line words found job same is = let one : found ≡ job = cc in is ∙ ap line_of one

-- words that aren't the line of the job that was found are the line of no other
pub other_line : (words : List Text) (found job : Job) (is_line : Bool) → Some found ≡ Some job → (words ≡ line_of found → is_line ≡ true) → is_line ≡ false → words ≡ line_of job → ⊥
other_line words found job is_line same line no' is =
    let one : found ≡ job = cc in
    false≢true (sym no' ∙ line (is ∙ sym (ap line_of one)))
