use Rattle.std.proofs.Common.{rules, ◌≡◌, ◌∙◌}
use Rattle.std.specs.Map.{lookup}
use Rattle.advice_slots.proofs.Derived.{derived_eq, lookup_is}
use Rattle.advice_slots.proofs.places.ItemPlaces.find.Goals as goal

pub returns : goal.returns
returns c =
    let e : c.copied.result ≡ lookup (derived_eq c.args.name) c.args.self.now.slots.entries = search rules in
    e ∙ lookup_is c.args.name c.args.self.now.slots.entries
