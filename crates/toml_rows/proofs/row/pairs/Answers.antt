use Rattle.std.proofs.Common.{◌≡◌, ◌∙◌, None, option_map, ap, sym, string_bytes, rules, arith}
use Rattle.std.proofs.lemmas.Grind.{common_steps}
use Rattle.toml.specs.Data.{get_member}
use Rattle.toml.specs.View.{view, table_view}
use Rattle.toml.proofs.Views.{view-lookup}
use Rattle.toml_rows.specs.Rows.{IsLine, pair_line}
use Rattle.toml_rows.proofs.Members.{insert_seen}
use Rattle.toml_rows.proofs.Pairs.{pair_more}
use Rattle.toml_rows.proofs.row.pairs.Goals as goal

pub lines-preserved : goal.lines-preserved
lines-preserved c =
    let l = c.lines in
    let start_is = c.skip_blank-start.ensures.rest in
    let before = c.skip_blank-start.ensures.within in
    let shorter = c.in_ok-key.ensures.shorter in
    let k = string_bytes c.in_ok-key.key in
    let d = view c.in_ok-key.value in
    let line : IsLine (pair_line (k, d)) l.rest.now c.in_ok-key.after.now = record {
      some = grind (arith, common_steps);
      read = rw start_is at c.in_ok-key.ensures.value;
      shorter = omega arith;
    } in
    let none : get_member k (table_view l.members) ≡ None = sym (view-lookup k l.members.entries) ∙ ap (option_map view) (sym c.in-Ok-None.ensures.old ∙ c.in-Ok-None.field-0-is) in
    (search rules, omega (arith, l.invariant.1), rw (c.in-Ok-None.ensures.entries, insert_seen l.members.entries c.in_ok-key.key c.in_ok-key.value) (pair_more (k, d) (table_view l.members) c.args.s.now l.rest.now c.in_ok-key.after.now l.invariant.2 line none))
