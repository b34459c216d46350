use Rattle.std.proofs.Common.{◌∙◌, ap}
use Rattle.card_digits.specs.declared.key.Key.{Key}
use Rattle.node_machine.specs.Lists.{Take}
use Rattle.standin_book.proofs.Removed.{key_at}
use Rattle.standin_book.proofs.standin.is_of_key.Goals as goal

pub returns : goal.returns
returns c =
    let d = c.index-takes-place.result in
    let own : Key = c.key.result in
    c.eq.ensures ∙ key_at c.args.takes.now c.args.place d c.args.key own c.requires (c.key.ensures ∙ ap (λ (a : Take). a.key) c.index-takes-place.is)
