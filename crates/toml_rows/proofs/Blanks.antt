-- White space of which there is none, one space or one line feed.
use Rattle.std.proofs.Common.{◌≡◌, ℕ, Bool, true, false, ◌==◌, List, [], ◌∷◌, Option, Some, None, slice_index, drop, refl, eqb-true, arith}
use Rattle.std.proofs.lemmas.Bool.{false≢true}
use Rattle.std.proofs.lemmas.Bool.Decides.{nat_tests}
use Rattle.toml_parser.specs.Lexical.{first, is_ws, skip_ws, skip_turn, skip_from, skip_blank}
use Rattle.toml.specs.Parse.{ends_line}
use Rattle.toml_parser.proofs.LexicalLemmas.{skip_ws_none, skip_ws_space}

pub one_space : (text : List ℕ) → (first text == 32) ≡ true → is_ws (slice_index text 1) ≡ false → drop 1 text ≡ skip_ws text
one_space [] is stop = absurd (false≢true is)
one_space (c ∷ cs) is stop = rw (eqb-true c 32 is, skip_ws_space cs, skip_ws_none cs stop)

pub line_feed : (text : List ℕ) → (first text == 10) ≡ true → skip_blank (drop 1 text) ≡ skip_blank text
unfolding skip_from
line_feed [] is = absurd (false≢true is)
line_feed (c ∷ cs) is = rw (eqb-true c 10 is)

pub space : (text : List ℕ) → (first text == 32) ≡ true → skip_blank (drop 1 text) ≡ skip_blank text
unfolding skip_from
space [] is = absurd (false≢true is)
space (c ∷ cs) is = rw (eqb-true c 32 is)

pub no_blank : (text : List ℕ) → ((next : ℕ) → skip_turn true false (first text) next ≡ None) → text ≡ skip_blank text
unfolding skip_from
no_blank [] stop = refl
no_blank (c ∷ cs) stop = rw (stop (first cs))

pub line_end : (text : List ℕ) → (first text == 10) ≡ true → true ≡ ends_line (skip_ws text)
line_end [] is = absurd (false≢true is)
line_end (c ∷ cs) is = rw (eqb-true c 10 is, skip_ws_none (10 ∷ cs) refl) (grind (arith, nat_tests))

-- where blanks end, in a comment or not, no others begin
none_begins : (inside : Bool) (c next : ℕ) → skip_turn true inside c next ≡ None → skip_turn true false c next ≡ None
none_begins false c next stop = stop
none_begins true c next stop = grind (arith, nat_tests)

skipped_from : (inside : Bool) (text : List ℕ) → skip_blank (skip_from true inside text) ≡ skip_from true inside text
unfolding skip_from
skipped_from inside [] = refl
skipped_from inside (c ∷ cs) = by_turn (skip_turn true inside c (first cs)) refl (λ state. skipped_from state cs)
  where
    by_turn : (turn : Option Bool) → skip_turn true inside c (first cs) ≡ turn → ((state : Bool) → skip_blank (skip_from true state cs) ≡ skip_from true state cs)
        → skip_blank (skip_from true inside (c ∷ cs)) ≡ skip_from true inside (c ∷ cs)
    by_turn None stop more = rw (stop, none_begins inside c (first cs) stop) refl
    by_turn (Some state) goes_on more = rw goes_on (more state)

pub skip_again : (text : List ℕ) → skip_blank (skip_blank text) ≡ skip_blank text
skip_again text = skipped_from false text
