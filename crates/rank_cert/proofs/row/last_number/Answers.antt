use Rattle.std.proofs.Common.{◌≡◌, ◌+◌, ◌<◌, get_or, length, sym, true, arith, rules, ◌∙◌}
use Rattle.std.specs.Char.{is_ascii_digit}
use Rattle.std.proofs.lemmas.Grind.{common_steps}
use Rattle.rank_cert.proofs.Ranked.{ranked, read_more, take-to-end}
use Rattle.rank_cert.proofs.row.last_number.Goals as goal

pub returns-then-i-gt0 : goal.returns-then-i-gt0
returns-then-i-gt0 c =
    let text = c.args.text.now in
    let i = c.loop-i.i in
    let within : i < length text = search rules in
    let at : c.in_ok-byte.field-0.now ≡ get_or text i 0 = search rules in
    let feed : get_or text i 0 ≡ 10 = sym at ∙ c.if-byte-eq10.true in
    rw (take-to-end text (i + 1)) (ranked text i c.loop-i.number c.if-i-gt0.true (omega arith) within feed c.loop-i.invariant)

pub loop-i-preserved : goal.loop-i-preserved
loop-i-preserved c =
    let text = c.args.text.now in
    let i = c.loop-i.i in
    let b = c.in_ok-byte.field-0.now in
    let within : i < length text = search rules in
    let at : b ≡ get_or text i 0 = search rules in
    let digit : is_ascii_digit b ≡ true = grind (arith, common_steps) in
    read_more text i c.loop-i.number b within at digit c.loop-i.invariant c.if-number.false
