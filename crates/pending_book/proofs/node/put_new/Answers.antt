use Rattle.std.proofs.Common.{◌≡◌, Some, true, cond, ap, refl, subst, ◌∙◌}
use Rattle.std.specs.Prelude.{is_some, ◌&&◌}
use Rattle.std.specs.Map.{lookup}
use Rattle.card_digits.specs.declared.key.Key.{Key}
use Rattle.message_keys.specs.Keys.{key_eq}
use Rattle.message_keys.proofs.Equality.{key_eq_refl}
use Rattle.pending_book.proofs.NodePlaces.{restored}
use Rattle.pending_book.proofs.node.put_new.Goals as goal

pub returns-clause-there : goal.returns-clause-there
returns-clause-there c =
    let e = c.in-Some.earlier in
    let key = c.args.key in
    let new = c.insert.new.self.entries in
    let put : (k : Key) → lookup (key_eq k) new ≡ cond (key_eq key k) (Some c.args.place) (lookup (key_eq k) c.args.places.now.entries) = c.in-Some.ensures.updates in
    let own : lookup (key_eq key) new ≡ Some c.args.place = put key ∙ rw (key_eq_refl key) refl in
    let had : is_some c.replace.result ≡ true = ap is_some (c.replace.ensures.old ∙ own) in
    let back : (k : Key) → lookup (key_eq k) c.replace.new.self.entries ≡ cond (key_eq key k) (Some e) (lookup (key_eq k) new) =
    λ k. subst (λ b. lookup (key_eq k) c.replace.new.self.entries ≡ cond (b && key_eq key k) (Some e) (lookup (key_eq k) new)) had (c.replace.ensures.updates k) in
    λ is. restored key c.args.place e c.args.places.now.entries new c.replace.new.self.entries put back c.in-Some.ensures.old
