use Rattle.std.proofs.Common.{rules, ◌≡◌, is_some, find, ◌∙◌}
use Rattle.advice_slots.specs.Items.{is_named}
use Rattle.advice_slots.proofs.Changed.{found_is}
use Rattle.advice_slots.proofs.slots.AdviceSlots.has.Goals as goal

pub returns : goal.returns
returns c =
    let e : c.is_some.result ≡ is_some (find (is_named c.args.name.now) c.args.self.now.items) = search rules in
    e ∙ found_is (is_named c.args.name.now) c.args.self.now.items
