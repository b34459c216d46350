use Rattle.std.proofs.Common.{◌≡◌, Some, None, sym, ap, ◌∙◌}
use Rattle.std.specs.Prelude.{slice_get}
use Rattle.std.specs.Option.{option_copied}
use Rattle.net_rows.specs.Index.{slot}
use Rattle.net_rows.proofs.Fronts.{got}
use Rattle.net_rows.proofs.Tries.{no_trie, in_trie}
use Rattle.net_rows.proofs.rows.Rows.for_class.Goals as goal

pub returns-in_err-trie : goal.returns-in_err-trie
returns-in_err-trie g c =
    let tries = c.self.inside.tries.items in
    let is : option_copied c.get.result ≡ slice_get c.deref.result.now c.slot.result = got c.deref.result.now c.slot.result c.get.result _ c.get.ensures.lookup.3 c.get.ensures.lookup.1 in
    let none : slice_get tries (slot c.args.class.node) ≡ None = sym (rw (c.in_err-trie.was, c.deref.ensures.value, c.slot.ensures) at is) in
    rw (← c.self.view_is) (ap option_copied c.from_residual.ensures ∙ no_trie g.R.Prefixed.node_of g.R.Prefixed.prefix_of c.self.inside.rows.items tries c.args.class.node c.args.class.prefix c.self.invariant none)

pub returns : goal.returns
returns g c =
    let tries = c.self.inside.tries.items in
    let is : option_copied c.get.result ≡ slice_get c.deref.result.now c.slot.result = got c.deref.result.now c.slot.result c.get.result _ c.get.ensures.lookup.3 c.get.ensures.lookup.1 in
    let there : slice_get tries (slot c.args.class.node) ≡ Some c.in_ok-trie.trie.now = sym (rw (c.in_ok-trie.was, c.deref.ensures.value, c.slot.ensures) at is) in
    rw (← c.self.view_is) (c.row_in.ensures ∙ rw c.deref-2.ensures.value (in_trie g.R.Prefixed.node_of g.R.Prefixed.prefix_of c.self.inside.rows.items tries c.args.class.node c.args.class.prefix c.self.invariant c.in_ok-trie.trie.now there))
