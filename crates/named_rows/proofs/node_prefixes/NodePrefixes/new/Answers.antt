use Rattle.named_rows.proofs.Masks.{counted_zeros, none_prefixed}
use Rattle.named_rows.proofs.node_prefixes.NodePrefixes.new.Goals as goal

pub invariant_of-result : goal.invariant_of-result
invariant_of-result c = counted_zeros c.new.result.entries c.in_ok-zeros.field-0.items c.args.nodes c.new.ensures c.in_ok-zeros.ensures

pub returns : goal.returns
returns c = none_prefixed c.new.result.entries c.in_ok-zeros.field-0.items c.args.nodes c.new.ensures c.in_ok-zeros.ensures
