use Rattle.std.proofs.Common.{◌≡◌, take, ap, ◌∙◌}
use Rattle.card_digits.specs.Longest.{longest}
use Rattle.prefix_trie.specs.Pairs.{prefix_of, in_order}
use Rattle.prefix_trie.proofs.Longest.{longest_of_card}
use Rattle.prefix_trie.proofs.trie.Trie.longest_counted.Goals as goal

pub returns-clause-longest : goal.returns-clause-longest
returns-clause-longest g c =
    let rows = c.self.inside.rows.items in
    let front : c.digits.result.now ≡ take 12 c.args.card.now = c.digits.ensures.digits ∙ c.of-front.ensures in
    c.parts.ensures ∙ c.walk-looked.ensures.longest ∙ rw (c.deref.ensures.value, front) (longest_of_card (in_order rows) c.args.card.now c.self.invariant.forms) ∙ ap (λ ps. longest prefix_of ps c.args.card.now) c.self.view_is
