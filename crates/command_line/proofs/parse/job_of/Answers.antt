use Rattle.std.proofs.Common.{rules, ◌≡◌, true, false, map, List, ℕ, Bor}
use Rattle.clap.specs.Words.{HasMatchesOf, Text, takes}
use Rattle.command_line.specs.Line.{program}
use Rattle.command_line.proofs.Lines.{named_line, names_at, not_line, other_line}
use Rattle.command_line.proofs.parse.job_of.Goals as goal

pub returns-in_default-clause-line : goal.returns-in_default-clause-line
returns-in_default-clause-line c =
    let words : List Text = map (λ (w : Bor (List ℕ)). w.now) c.args.words.now in
    let refused : takes program words ≡ true → false ≡ true = search rules in
    λ job. (λ none. absurd cc, λ is. absurd (not_line words job refused is))

pub returns-in_default-job_named-clause-line : goal.returns-in_default-job_named-clause-line
returns-in_default-job_named-clause-line c =
    let words : List Text = map (λ (w : Bor (List ℕ)). w.now) c.args.words.now in
    let matches : HasMatchesOf program words c.in-Some.matches = search rules in
    λ job. (λ none. absurd cc, λ is. c.in_default-job_named.ensures job (names_at c.in-Some.matches words job matches is))

pub returns-then-is_line-clause-line : goal.returns-then-is_line-clause-line
returns-then-is_line-clause-line c =
    let words : List Text = map (λ (w : Bor (List ℕ)). w.now) c.args.words.now in
    let matches : HasMatchesOf program words c.in-Some.matches = search rules in
    λ job. (λ same. named_line words c.in-Some-job_named.job job same (c.is_line.ensures.0 c.if-is_line.true), λ is. c.in-Some-job_named.ensures job (names_at c.in-Some.matches words job matches is))

pub returns-then-is_line-clause-named : goal.returns-then-is_line-clause-named
returns-then-is_line-clause-named c =
    let words : List Text = map (λ (w : Bor (List ℕ)). w.now) c.args.words.now in
    let matches : HasMatchesOf program words c.in-Some.matches = search rules in
    (c.in-Some.matches, matches, names_at c.in-Some.matches words c.in-Some-job_named.job matches (c.is_line.ensures.0 c.if-is_line.true))

pub returns-clause-line : goal.returns-clause-line
returns-clause-line c =
    let words : List Text = map (λ (w : Bor (List ℕ)). w.now) c.args.words.now in
    let matches : HasMatchesOf program words c.in-Some.matches = search rules in
    λ job. (
      λ none. absurd cc,
      λ is. absurd (other_line words c.in-Some-job_named.job job c.is_line.result (c.in-Some-job_named.ensures job (names_at c.in-Some.matches words job matches is)) c.is_line.ensures.1 c.if-is_line.false is),
    )
