use Rattle.std.proofs.Common.{◌≡◌, ◌+◌, true, length, take, drop, sym, rules}
use Rattle.std.proofs.lemmas.List.{drop-drop}
use Rattle.toml_rows.proofs.Keys.{begins_equals, key_spaced}
use Rattle.toml_rows.proofs.plain.after_spaced_equals.Goals as goal

pub returns-clause-value : goal.returns-clause-value
returns-clause-value c =
    let s = c.args.s.now in
    let word = c.args.word.now in
    let front : take (length word) s ≡ word = search rules in
    let begins : begins_equals (drop (length word) s) ≡ true = rw (c.split_at.ensures.back, c.as_bytes.ensures.value) at (sym c.if-not-begins_equals.ensures) in
    let shifted : drop (length word + 3) s ≡ drop 3 (drop (length word) s) = sym (drop-drop 3 (length word) s) in
    rw (c.skip.ensures.rest, shifted) (key_spaced s word c.requires.some front c.requires.bare begins)
