use Rattle.std.proofs.Common.{◌≡◌, true, false, sym, ap, ◌∙◌, inl, inr}
use Rattle.std.proofs.lemmas.Bool.{cases_Bool}
use Rattle.message_elements.specs.Groups.{group, is_advice_group}
use Rattle.message_keys.proofs.KeyLemmas.{when_some, when_none}
use Rattle.step_refusals.specs.Places.{finds_no_place_as}
use Rattle.step_refusals.proofs.Entered.{taken_is, none_taken}
use Rattle.step_refusals.proofs.Loads.{if_ok_is}
use Rattle.step_refusals.proofs.Present.{taken_known}
use Rattle.step_refusals.proofs.Roomy.{room_taken}
use Rattle.step_refusals.proofs.places.taken_finds_no_place.Goals as goal

pub returns-in-Some : goal.returns-in-Some
returns-in-Some c =
    let m = c.args.message.now in
    let t = c.args.tables.now in
    let x = c.args.books.now.lists in
    let known = when_some _ _ c.in-Some.id (sym c.in-Some.ensures) in
    if_ok_is c.finds_no_place_as.result _ _ (ap (finds_no_place_as t c.args.node x m) (sym known.1) ∙ sym (taken_is m t c.args.node x)) c.finds_no_place_as.ensures

pub returns-in-None : goal.returns-in-None
returns-in-None c =
    let m = c.args.message.now in
    let unknown = when_none _ _ (sym c.in-None.ensures) in
    elim (cases_Bool (is_advice_group (group m.kind))) [
      | inl advice ↦ absurd (let wrong : true ≡ false = sym (taken_known m c.requires advice) ∙ unknown in cc)
      | inr none ↦ none_taken m c.args.tables.now c.args.node c.args.books.now.lists none
    ]

pub returns-then-has_place : goal.returns-then-has_place
returns-then-has_place c =
    let t = c.args.tables.now in
    let n = c.args.node in
    room_taken t n c.args.books.now.lists c.args.message.now (c.has_place.ensures c.if-has_place.true t n)
