use Rattle.std.proofs.Common.{rules, ◌≡◌, sym, ap, ◌∙◌, refl}
use Rattle.std.specs.Prelude.{is_some}
use Rattle.std.specs.Map.{lookup}
use Rattle.advice_slots.proofs.Derived.{derived_eq, lookup_is, derived_is}
use Rattle.advice_slots.proofs.places.ItemPlaces.put.Goals as goal

pub returns-clause-again : goal.returns-clause-again
returns-clause-again c =
    let e : c.is_some.result ≡ is_some (lookup (derived_eq c.args.name) c.args.self.now.slots.entries) = search rules in
    e ∙ ap is_some (lookup_is c.args.name c.args.self.now.slots.entries)

pub returns-clause-slots : goal.returns-clause-slots
returns-clause-slots c = λ k. sym (lookup_is k c.insert.new.self.entries) ∙ (c.insert.ensures.updates k ∙ rw (derived_is c.args.name k, lookup_is k c.args.self.now.slots.entries) refl)
