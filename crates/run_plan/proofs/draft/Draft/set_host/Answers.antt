use Rattle.std.proofs.Common.{◌≡◌, ◌==◌, true, inr, sym, ◌∙◌}
use Rattle.std.specs.List.{list_any}
use Rattle.run_plan.proofs.Adding.{host_twice}
use Rattle.run_plan.proofs.draft.Draft.set_host.Goals as goal

pub returns-then-has_node : goal.returns-then-has_node
returns-then-has_node c =
    let there : list_any (λ h. h == c.args.node) c.args.self.now.hosts ≡ true = rw (← c.self.view_is, ← c.as_slice.ensures.value) (sym c.has_node.ensures ∙ c.if-has_node.true) in
    inr (host_twice c.args.self.now c.args.node c.args.amount _ there)
