use Rattle.std.proofs.Common.{◌≡◌, sym, ap, ◌∙◌}
use Rattle.std.specs.Option.{option_or}
use Rattle.prefix_trie.specs.Walk.{row_at}
use Rattle.prefix_trie.proofs.Walking.{walked_none, walked_on, walked_out}
use Rattle.prefix_trie.proofs.trie.walk.Goals as goal

pub loop-digit-init : goal.loop-digit-init
loop-digit-init g c = walked_none c.args.rows.now c.args.branches.now c.args.digits.now c.requires

pub returns-then-next-eq0-clause-longest : goal.returns-then-next-eq0-clause-longest
returns-then-next-eq0-clause-longest g c =
    c.row_of.ensures ∙ walked_out c.args.rows.now c.args.branches.now c.args.digits.now c.loop-digit.digit-index c.loop-digit.at c.loop-digit.found c.loop-digit.looked c.requires c.loop-digit.invariant c.loop-digit-test.true
    (sym c.behind-next.ensures ∙ c.if-next-eq0.true)

pub loop-digit-preserved : goal.loop-digit-preserved
loop-digit-preserved g c =
    let found : c.or-found.result ≡ option_or (row_at c.args.branches.now c.behind-next.result) c.loop-digit.found = c.or-found.ensures ∙ ap (λ o. option_or o c.loop-digit.found) c.row_at.ensures in
    rw found (walked_on c.args.rows.now c.args.branches.now c.args.digits.now c.loop-digit.digit-index c.loop-digit.at c.loop-digit.found c.loop-digit.looked c.requires c.loop-digit.invariant c.loop-digit-test.true
    c.behind-next.result (sym c.behind-next.ensures) c.if-next-eq0.false)
