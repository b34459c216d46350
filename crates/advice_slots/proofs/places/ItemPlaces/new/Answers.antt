use Rattle.std.proofs.Common.{ap}
use Rattle.std.specs.Map.{lookup}
use Rattle.advice_slots.specs.Items.{name_eq}
use Rattle.advice_slots.proofs.places.ItemPlaces.new.Goals as goal

pub returns : goal.returns
returns c = λ k. ap (lookup (name_eq k)) c.new.ensures
