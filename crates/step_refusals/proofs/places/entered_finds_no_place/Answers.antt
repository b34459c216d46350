use Rattle.std.proofs.Common.{◌≡◌, true, false, replicate, sym, ap, ◌∙◌, inl, inr}
use Rattle.std.proofs.lemmas.Bool.{cases_Bool}
use Rattle.message_keys.specs.declared.keys.AdviceId.{AdviceId}
use Rattle.message_elements.specs.Groups.{group, is_advice_group}
use Rattle.message_keys.proofs.KeyLemmas.{when_some, when_none}
use Rattle.step_refusals.specs.Places.{finds_no_place_as}
use Rattle.step_refusals.proofs.Entered.{entered_is, none_entered}
use Rattle.step_refusals.proofs.Loads.{if_ok_is}
use Rattle.step_refusals.proofs.Present.{entered_known}
use Rattle.step_refusals.proofs.Roomy.{room_entered}
use Rattle.step_refusals.proofs.places.entered_finds_no_place.Goals as goal

pub returns-in-Some : goal.returns-in-Some
returns-in-Some c =
    let m = c.args.message.now in
    let t = c.args.tables.now in
    let x = c.args.books.now.lists in
    let known = when_some _ _ c.in-Some.id (sym c.in-Some.ensures) in
    let same = ap (λ (id : AdviceId). finds_no_place_as t c.args.node x m (record { kind = id.kind; key = id.key; forwarder = replicate 11 48 })) (sym known.1) ∙ sym (entered_is m t c.args.node x x.date) in
    if_ok_is c.finds_no_place_as.result _ _ same c.finds_no_place_as.ensures

pub returns-in-None : goal.returns-in-None
returns-in-None c =
    let m = c.args.message.now in
    let unknown = when_none _ _ (sym c.in-None.ensures) in
    elim (cases_Bool (is_advice_group (group m.kind))) [
      | inl advice ↦ absurd (let wrong : true ≡ false = sym (entered_known m c.requires.kind c.requires.whole advice) ∙ unknown in cc)
      | inr none ↦ none_entered m c.args.tables.now c.args.node c.args.books.now.lists c.args.books.now.lists.date none
    ]

pub returns-then-has_place : goal.returns-then-has_place
returns-then-has_place c =
    let t = c.args.tables.now in
    let n = c.args.node in
    room_entered t n c.args.books.now.lists c.args.message.now (c.has_place.ensures c.if-has_place.true t n)
