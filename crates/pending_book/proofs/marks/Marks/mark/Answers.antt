use Rattle.std.proofs.Common.{rules, ◌≡◌, Some, cond}
use Rattle.std.specs.Map.{lookup}
use Rattle.card_digits.specs.declared.key.Key.{Key}
use Rattle.message_keys.specs.Keys.{key_eq}
use Rattle.pending_book.specs.NodeKept.{at_most}
use Rattle.pending_book.proofs.Least.{least_more}
use Rattle.pending_book.proofs.marks.Marks.mark.Goals as goal

pub invariant_of-self : goal.invariant_of-self
invariant_of-self c =
    let i = c.self.inside in
    let least : c.at_most-least.result ≡ at_most (lookup (key_eq c.args.mark.key) i.least.entries) c.args.mark.actual = search rules in
    let v : (k : Key) → lookup (key_eq k) c.insert.new.self.entries ≡ cond (key_eq c.args.mark.key k) (Some (at_most (lookup (key_eq c.args.mark.key) i.least.entries) c.args.mark.actual)) (lookup (key_eq k) i.least.entries) = rw (c.key-key.ensures, least) at c.insert.ensures.updates in
    let kept = least_more i.list.items c.args.mark i.least.entries c.insert.new.self.entries c.self.invariant.0 v in
    (rw c.push_reserved.ensures.items kept, search rules, search rules)
