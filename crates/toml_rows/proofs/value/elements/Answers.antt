use Rattle.std.proofs.Common.{◌≡◌, ◌==◌, ◌-◌, true, false, le_refl, ◌∙◌, rules, arith}
use Rattle.std.proofs.lemmas.Grind.{common_steps}
use Rattle.toml_parser.specs.Lexical.{first, skip_blank}
use Rattle.toml.specs.Parse.{val}
use Rattle.toml.proofs.Turns.{val_atom, items_end, items_more}
use Rattle.toml.proofs.Views.{items_view-push}
use Rattle.toml_rows.proofs.value.elements.Goals as goal

pub elements-init : goal.elements-init
elements-init c = (search rules, le_refl _, λ depth n h. (n, h, rw c.new-found.ensures.items))

pub returns-then-first-eq93-clause-value : goal.returns-then-first-eq93-clause-value
returns-then-first-eq93-clause-value c depth n h =
    let l = c.elements in
    let (m, room, loop) = l.invariant.2 depth n h in
    let closing : (first (skip_blank l.rest.now) == 93) ≡ true = grind (arith, common_steps) in
    loop ∙ items_end (val depth) m _ l.rest.now (omega arith) closing ∙ rw (c.skip.ensures.rest, c.skip_blank-start.ensures.rest)

pub elements-preserved : goal.elements-preserved
elements-preserved c =
    let l = c.elements in
    let start_is = c.skip_blank-start.ensures.rest in
    let start = skip_blank l.rest.now in
    let open_array : (first start == 91) ≡ false = grind (arith, common_steps) in
    let open_table : (first start == 123) ≡ false = grind (arith, common_steps) in
    let other : (first start == 93) ≡ false = grind (arith, common_steps) in
    let shorter = c.in_ok-element.ensures.shorter in
    let within = c.in_ok-rest.ensures.within in
    let before = c.skip_blank-start.ensures.within in (
      search rules,
      omega (arith, l.invariant.1),
      λ depth n h.
          let (m, room, loop) = l.invariant.2 depth n h in
          let read = val_atom depth start open_array open_table ∙ (rw start_is at c.in_ok-element.ensures.value) in
          (m - 1, omega arith, loop ∙ items_more (val depth) m _ l.rest.now _ _ _ (omega arith) other read c.in_ok-rest.ensures.value ∙ rw (c.in-Ok.ensures.items, items_view-push l.found.items c.in_ok-element.element)),
    )
