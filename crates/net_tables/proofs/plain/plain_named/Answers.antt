use Rattle.std.proofs.Common.{◌<◌, [], ◌∷◌, ◌++◌, length, rules, arith}
use Rattle.std.proofs.lemmas.Grind.{common_steps}
use Rattle.std.proofs.lemmas.List.{length-append}
use Rattle.toml_rows.proofs.Ahead.{text_ahead, closed_ahead}
use Rattle.toml_rows.proofs.Texts.{texts_more, texts_line}
use Rattle.table_fields.specs.Words.{key_word}
use Rattle.table_fields.specs.declared.place.Key.TheVariants as key
use Rattle.net_tables.proofs.PlainRows.{found_more}
use Rattle.net_tables.proofs.plain.plain_named.Goals as goal

pub returns-in-Some-clause-named : goal.returns-in-Some-clause-named
returns-in-Some-clause-named c =
    let (text, h) = c.links.invariant in
    let closed = closed_ahead c.links.rest.now c.in-Some.after.now (rw c.skip_blank-ahead.ensures.rest at c.in-Some.ensures) in
    record {
      texts = h.texts;
      line = texts_line (key_word key.Links) h.texts c.args.text.now h.inside c.links.rest.now c.in-Some.after.now h.opened h.stand closed;
      are = h.are;
    }

pub links-preserved : goal.links-preserved
links-preserved c =
    let (text, h) = c.links.invariant in
    let is = text_ahead c.in_ok-name.name.now c.links.rest.now c.in_ok-name.after.now (rw c.skip_blank-ahead.ensures.rest at c.in_ok-name.ensures) in
    let room : length c.links.found < 8 = grind (arith, common_steps) in
    rw (c.in-Ok.ensures, c.new.ensures) (
      search rules,
      record {
        inside = h.inside;
        opened = h.opened;
        texts = h.texts ++ c.in_ok-name.name.now ∷ [];
        stand = texts_more h.texts c.in_ok-name.name.now h.inside c.links.rest.now c.in_ok-name.after.now h.stand is;
        are = found_more c.args.links.now h.texts c.links.found c.in_ok-name.name.now c.in_ok-link.link h.are c.in_ok-link.ensures.value;
        few = omega (arith, room, length-append c.links.found (c.in_ok-link.link ∷ []));
      },
    )
