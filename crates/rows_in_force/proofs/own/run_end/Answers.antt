use Rattle.std.proofs.Common.{rules, ◌≡◌, ◌<◌, ◌==◌, true, length, arith, sym, ◌∙◌, ap, inl, inr}
use Rattle.std.specs.Cmp.Lexicographic.{pointwise, same_text}
use Rattle.std.proofs.lemmas.Bool.{cases_eq}
use Rattle.rows_in_force.proofs.KnownFronts.{at_place}
use Rattle.rows_in_force.proofs.Made.{same_row}
use Rattle.rows_in_force.proofs.own.run_end.Goals as goal

pub loop-end-preserved : goal.loop-end-preserved
loop-end-preserved g c =
    let rows = c.args.rows.now in
    let end = c.loop-end.end in
    let x = c.index-rows-end.result in
    let within : end < length rows = search rules in
    let here = at_place rows end x within c.index-rows-end.is in
    let alike : pointwise ◌==◌ c.prefix.result c.prefix-prefix.result ≡ true = search rules in
    let prefix = same_text c.prefix.result c.prefix-prefix.result (sym alike) in
    record {
      prefix_is = c.loop-end.invariant.prefix_is;
      same =
          λ k r s from to first at. elim (cases_eq k end) [
            | inl is ↦ sym (same_row g.R.Placed.prefix_of rows k end s x is at here) ∙ (sym c.prefix.ensures ∙ (prefix ∙ c.loop-end.invariant.prefix_is r first))
            | inr ne ↦ c.loop-end.invariant.same k r s from (omega (arith, to, ne)) first at
          ];
    }

pub returns-clause-same : goal.returns-clause-same
returns-clause-same g c = λ k r s from to first at. c.loop-end.invariant.same k r s from (let out = c.loop-end-test.false in let e = c.loop-end.auto in omega (arith, out, to)) first at
