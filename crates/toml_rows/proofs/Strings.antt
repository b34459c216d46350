-- A string between quotes in which each byte stands for itself.
use Rattle.std.proofs.Common.{◌≡◌, ℕ, ◌<◌, true, false, ◌==◌, List, [], ◌∷◌, length, drop, Some, None, eqb-true, append-nil, ◌∙◌, arith}
use Rattle.std.proofs.lemmas.Bool.{false≢true}
use Rattle.std.proofs.lemmas.Bool.Decides.{nat_tests}
use Rattle.std.proofs.lemmas.List.Sums.{prefix_len_passes}
use Rattle.std.specs.List.{prefix_len}
use Rattle.toml_parser.specs.Lexical.{first, split_while}
use Rattle.toml_parser.specs.Strings.{is_plain, special, body, one_line, quoted}
use Rattle.toml_parser.proofs.StringsLemmas.{body_run}

ending : (text : List ℕ) → (first text == 34) ≡ true → special 34 false text ≡ Some (None, drop 1 text)
unfolding special
ending text ends = rw ends

plain_body : (text : List ℕ) (n : ℕ) → length text < n → (first (split_while (is_plain 34 false) text).1 == 34) ≡ true
    → body 34 false n text ≡ Some ((split_while (is_plain 34 false) text).0, drop 1 (split_while (is_plain 34 false) text).1)
plain_body text n more ends =
    let (m, room, run) = body_run 34 false text n more in
    run ∙ rw (ending (split_while (is_plain 34 false) text).1 ends, append-nil (split_while (is_plain 34 false) text).0)

no_quote : (c : ℕ) → is_plain 34 false c ≡ true → (c == 34) ≡ false
no_quote c plain = grind (arith, nat_tests)

pub plain_quoted : (text : List ℕ) → (first text == 34) ≡ true → 0 < prefix_len (is_plain 34 false) (drop 1 text) → (first (split_while (is_plain 34 false) (drop 1 text)).1 == 34) ≡ true
    → quoted text ≡ Some ((split_while (is_plain 34 false) (drop 1 text)).0, drop 1 (split_while (is_plain 34 false) (drop 1 text)).1)
unfolding quoted one_line
plain_quoted [] begins some ends = absurd (false≢true begins)
plain_quoted (c ∷ cs) begins some ends =
    let plain : is_plain 34 false (first cs) ≡ true = prefix_len_passes (is_plain 34 false) cs 0 0 some in
    rw (eqb-true c 34 begins, no_quote (first cs) plain) (plain_body cs _ (omega arith) ends)
