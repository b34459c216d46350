-- What clap makes of the lines of the usage, and of other words.
use Rattle.std.proofs.Common.{◌≡◌, ◌∙◌, ℕ, ◌+◌, ◌<◌, ◌≤◌, Bool, true, false, not, List, [], ◌∷◌, codes, Option, Some, None, Result, Ok, Err, refl, subst, ap, option_map, inl, inr, arith, nat_le}
use Rattle.std.specs.Char.{is_ascii_digit}
use Rattle.std.specs.Prelude.{IfOk}
use Rattle.std.specs.Result.{result_ok}
use Rattle.std.proofs.lemmas.Bool.{and_parts, cases_lt, leb-true}
use Rattle.card_digits.specs.Reading.{read_digits}
use Rattle.card_digits.specs.declared.card.DigitFault.TheVariants.{NotDigit}
use Rattle.clap.specs.Words.{App, HasKind, HasMatchesOf, IsAmong, Kinds, Text, app_of, fault_of, first_of, first_value, is_simple, is_simple_and_free, kind_of, rows_of, subcommand_of, subcommand_rows_of}
use Rattle.clap.specs.Simple.{has_plain_fields}
use Rattle.clap.specs.declared.error.Error.{Error}
use Rattle.clap.specs.declared.builder.command.Command.{Command}
use Rattle.clap.specs.declared.builder.command.Command.TheViews.{out-Command}
use Rattle.clap.specs.declared.error.kind.ErrorKind.TheVariants.{DisplayHelp, OutOfMemory}
use Rattle.clap.specs.declared.parser.matches.ArgMatches.{ArgMatches}
use Rattle.clap.specs.declared.parser.matches.Found.{Found}
use Rattle.clap.proofs.OnLiterals.{clap_on_literals}
use Rattle.clap.proofs.WalkLemmas.{first_value-rows}
use Rattle.view_command.specs.declared.job.Drawing.TheVariants as drawings
use Rattle.view_command.specs.declared.job.Format.TheVariants as formats
use Rattle.view_command.specs.declared.job.Job.{Job}
use Rattle.view_command.specs.declared.job.Job.TheVariants as jobs
use Rattle.view_command.specs.App.{program}
use Rattle.view_command.specs.Line.{IsLine, job_asked, job_in, unless_fault}

pub program_simple : is_simple program ≡ true
unfolding clap_on_literals
program_simple = refl

pub program_free : is_simple_and_free program ≡ true
unfolding clap_on_literals
program_free = refl

not_true : (b : Bool) → not b ≡ true → b ≡ false
not_true true h = absurd cc
not_true false h = refl

-- a plain command has no global argument
pub plain_local : (c : Command) (a : App) → app_of c ≡ a → a.top.is_plain ≡ true → (out-Command c).has_globals ≡ false
plain_local c a is plain =
    let all : has_plain_fields (out-Command c) ≡ true = ap (λ (x : App). x.top.is_plain) is ∙ plain in
    let groups = and_parts _ _ all in
    let external = and_parts _ _ groups.1 in
    let globals = and_parts _ _ external.1 in
    not_true (out-Command c).has_globals globals.0

-- what the getters of matches read
pub first_text : (f : Found) (id : Text) → first_value f id ≡ first_of id (rows_of f)
first_text f id = first_value-rows f id

-- matches of words that clap takes
pub taken : (words : List Text) (m : ArgMatches) → HasMatchesOf program words m → fault_of program words ≡ [] → job_in (subcommand_rows_of m) ≡ job_asked words
taken words m has none = rw none (ap job_in (has program_simple).1)

-- an error other than want of memory
no_job : (kinds : Kinds) (e : Error) (asked : Option Job) → HasKind kinds e → (kind_of e ≡ OutOfMemory → ⊥) → None ≡ unless_fault kinds asked
no_job [] e asked (inl h) other = absurd (other h)
no_job [] e asked (inr h) other = absurd h
no_job (k ∷ kinds) e asked h other = refl

pub refused : (words : List Text) (e : Error) → HasKind (fault_of program words) e → (kind_of e ≡ OutOfMemory → ⊥) → None ≡ job_asked words
refused words e h other = no_job (fault_of program words) e (job_in (subcommand_of program words)) h other

-- where an error is a call for help
pub help_asked : (kinds : Kinds) (e : Error) → HasKind kinds e → kind_of e ≡ DisplayHelp → IsAmong DisplayHelp kinds
help_asked kinds e (inl memory) is = absurd cc
help_asked kinds e (inr among) is = subst (λ k. IsAmong k kinds) is among

help_or_memory : (e : Error) → HasKind (DisplayHelp ∷ []) e → (kind_of e ≡ OutOfMemory → ⊥) → (kind_of e ≡ DisplayHelp → ⊥) → ⊥
help_or_memory e (inl memory) has_memory other = has_memory memory
help_or_memory e (inr (inl help)) has_memory other = other help
help_or_memory e (inr (inr none)) has_memory other = absurd none

pub help_given : (some : Bool) (kinds : Kinds) (e : Error) → HasKind kinds e → (some ≡ false → (kind_of e ≡ OutOfMemory → ⊥) × (kind_of e ≡ DisplayHelp → ⊥)) → kinds ≡ DisplayHelp ∷ [] → some ≡ true
help_given true kinds e has others is = refl
help_given false kinds e has others is = absurd (help_or_memory e (subst (λ ks. HasKind ks e) is has) (others refl).0 (others refl).1)

pub one_fault : DisplayHelp ∷ [] ≡ [] → ⊥
one_fault is = absurd cc

-- two facts of an answer together
pub both_ok : {X E : Type 0} (r : Result X E) (P Q : X → Type 0) {R : X → Type 0} → ((x : X) → P x → Q x → R x) → IfOk r P → IfOk r Q → IfOk r R
both_ok (Ok x) P Q f p q = f x p q
both_ok (Err e) P Q f p q = tt

-- a digit is one of ten
at : (P : ℕ → Type 0) (d n : ℕ) → P n → (d < n → P d) → d < n + 1 → P d
at P d n here below less = elim (cases_lt d n) [
  | inl lower ↦ below lower
  | inr upper ↦ let same : n ≡ d = omega arith in subst P same here
]

ten_digits : (P : ℕ → Type 0) → P 48 → P 49 → P 50 → P 51 → P 52 → P 53 → P 54 → P 55 → P 56 → P 57 → (d : ℕ) → is_ascii_digit d ≡ true → P d
ten_digits P p0 p1 p2 p3 p4 p5 p6 p7 p8 p9 d h =
    let parts = and_parts (nat_le 48 d) (nat_le d 57) h in
    let least : 48 ≤ d = leb-true 48 d parts.0 in
    let most : d ≤ 57 = leb-true d 57 parts.1 in
    at P d 57 p9 (at P d 56 p8 (at P d 55 p7 (at P d 54 p6 (at P d 53 p5 (at P d 52 p4 (at P d 51 p3 (at P d 50 p2 (at P d 49 p1 (at P d 48 p0 (λ less. absurd (omega (arith, least, less)))))))))))) (omega (arith, most))

first_digit : (least most d : ℕ) (rest digits : List ℕ) → read_digits least most (d ∷ rest) ≡ Ok digits → is_ascii_digit d ≡ true
first_digit least most d rest digits h = go (is_ascii_digit d) refl
  where
    go : (b : Bool) → is_ascii_digit d ≡ b → is_ascii_digit d ≡ true
    go true is = is
    go false is = let bad : Err NotDigit ≡ Ok digits = rw is at h in absurd cc

-- the lines with a card number, and those with a PAN prefix
of_card_text : (number card : List ℕ) → read_digits 8 19 number ≡ Ok card → job_asked (codes "card" ∷ number ∷ []) ≡ Some (jobs.Card card formats.Text)
unfolding clap_on_literals
of_card_text [] card read = absurd cc
of_card_text (d ∷ rest) card read =
    let each : job_asked (codes "card" ∷ (d ∷ rest) ∷ []) ≡ option_map (λ (p : List ℕ). jobs.Card p formats.Text) (result_ok (read_digits 8 19 (d ∷ rest))) =
    ten_digits (λ n. job_asked (codes "card" ∷ (n ∷ rest) ∷ []) ≡ option_map (λ (p : List ℕ). jobs.Card p formats.Text) (result_ok (read_digits 8 19 (n ∷ rest)))) refl refl refl refl refl refl refl refl refl refl d (first_digit 8 19 d rest card read) in
    each ∙ ap (λ r. option_map (λ (p : List ℕ). jobs.Card p formats.Text) (result_ok r)) read

of_card_json : (number card : List ℕ) → read_digits 8 19 number ≡ Ok card → job_asked (codes "card" ∷ number ∷ codes "--json" ∷ []) ≡ Some (jobs.Card card formats.Json)
unfolding clap_on_literals
of_card_json [] card read = absurd cc
of_card_json (d ∷ rest) card read =
    let each : job_asked (codes "card" ∷ (d ∷ rest) ∷ codes "--json" ∷ []) ≡ option_map (λ (p : List ℕ). jobs.Card p formats.Json) (result_ok (read_digits 8 19 (d ∷ rest))) =
    ten_digits (λ n. job_asked (codes "card" ∷ (n ∷ rest) ∷ codes "--json" ∷ []) ≡ option_map (λ (p : List ℕ). jobs.Card p formats.Json) (result_ok (read_digits 8 19 (n ∷ rest)))) refl refl refl refl refl refl refl refl refl refl d (first_digit 8 19 d rest card read) in
    each ∙ ap (λ r. option_map (λ (p : List ℕ). jobs.Card p formats.Json) (result_ok r)) read

of_picture_svg : (number prefix : List ℕ) → read_digits 1 12 number ≡ Ok prefix → job_asked (codes "picture" ∷ codes "--prefix" ∷ number ∷ []) ≡ Some (jobs.Picture (Some prefix) drawings.Svg)
unfolding clap_on_literals
of_picture_svg [] prefix read = absurd cc
of_picture_svg (d ∷ rest) prefix read =
    let each : job_asked (codes "picture" ∷ codes "--prefix" ∷ (d ∷ rest) ∷ []) ≡ option_map (λ (p : List ℕ). jobs.Picture (Some p) drawings.Svg) (result_ok (read_digits 1 12 (d ∷ rest))) =
    ten_digits (λ n. job_asked (codes "picture" ∷ codes "--prefix" ∷ (n ∷ rest) ∷ []) ≡ option_map (λ (p : List ℕ). jobs.Picture (Some p) drawings.Svg) (result_ok (read_digits 1 12 (n ∷ rest)))) refl refl refl refl refl refl refl refl refl refl d (first_digit 1 12 d rest prefix read) in
    each ∙ ap (λ r. option_map (λ (p : List ℕ). jobs.Picture (Some p) drawings.Svg) (result_ok r)) read

of_picture_dot : (number prefix : List ℕ) → read_digits 1 12 number ≡ Ok prefix → job_asked (codes "picture" ∷ codes "--prefix" ∷ number ∷ codes "--dot" ∷ []) ≡ Some (jobs.Picture (Some prefix) drawings.Dot)
unfolding clap_on_literals
of_picture_dot [] prefix read = absurd cc
of_picture_dot (d ∷ rest) prefix read =
    let each : job_asked (codes "picture" ∷ codes "--prefix" ∷ (d ∷ rest) ∷ codes "--dot" ∷ []) ≡ option_map (λ (p : List ℕ). jobs.Picture (Some p) drawings.Dot) (result_ok (read_digits 1 12 (d ∷ rest))) =
    ten_digits (λ n. job_asked (codes "picture" ∷ codes "--prefix" ∷ (n ∷ rest) ∷ codes "--dot" ∷ []) ≡ option_map (λ (p : List ℕ). jobs.Picture (Some p) drawings.Dot) (result_ok (read_digits 1 12 (n ∷ rest)))) refl refl refl refl refl refl refl refl refl refl d (first_digit 1 12 d rest prefix read) in
    each ∙ ap (λ r. option_map (λ (p : List ℕ). jobs.Picture (Some p) drawings.Dot) (result_ok r)) read

-- and those of words alone
refusals_text : job_asked (codes "refusals" ∷ []) ≡ Some (jobs.Refusals formats.Text)
unfolding clap_on_literals
refusals_text = refl

refusals_json : job_asked (codes "refusals" ∷ codes "--json" ∷ []) ≡ Some (jobs.Refusals formats.Json)
unfolding clap_on_literals
refusals_json = refl

plain_svg : job_asked (codes "picture" ∷ []) ≡ Some (jobs.Picture None drawings.Svg)
unfolding clap_on_literals
plain_svg = refl

plain_dot : job_asked (codes "picture" ∷ codes "--dot" ∷ []) ≡ Some (jobs.Picture None drawings.Dot)
unfolding clap_on_literals
plain_dot = refl

trace_alone : job_asked (codes "trace" ∷ []) ≡ Some jobs.Trace
unfolding clap_on_literals
trace_alone = refl

-- each line of the usage gives its job
pub line_asked : (job : Job) (words : List Text) → IsLine job words → job_asked words ≡ Some job
line_asked (jobs.Card card formats.Text) words (number, read, is) = ap job_asked is ∙ of_card_text number card read
line_asked (jobs.Card card formats.Json) words (number, read, is) = ap job_asked is ∙ of_card_json number card read
line_asked (jobs.Refusals formats.Text) words is = ap job_asked is ∙ refusals_text
line_asked (jobs.Refusals formats.Json) words is = ap job_asked is ∙ refusals_json
line_asked (jobs.Picture None drawings.Svg) words is = ap job_asked is ∙ plain_svg
line_asked (jobs.Picture None drawings.Dot) words is = ap job_asked is ∙ plain_dot
line_asked (jobs.Picture (Some prefix) drawings.Svg) words (text, read, is) = ap job_asked is ∙ of_picture_svg text prefix read
line_asked (jobs.Picture (Some prefix) drawings.Dot) words (text, read, is) = ap job_asked is ∙ of_picture_dot text prefix read
line_asked jobs.Trace words is = ap job_asked is ∙ trace_alone
