-- What makes requests fail, as an input; and the requests at places.
use Rattle.std.specs.Prelude.{ℕ, List, filter_map, slice_get}
use Rattle.std.specs.Option.{option_map}
use Rattle.card_digits.specs.declared.key.Key.{Key}
use Rattle.network_law.specs.Traces.{ReadInput, LinkDown, Tick}
use Rattle.node_machine.specs.Lists.{Row, row_key}
use Rattle.step_draft.specs.declared.timers.Cause.{Cause}
use Rattle.step_draft.specs.declared.timers.Cause.TheVariants as causes

abbrev pub cause_of : Cause → ReadInput
cause_of (causes.LinkDown l) = LinkDown l
cause_of causes.Tick = Tick

-- the keys of the requests at these places
abbrev pub keys_at : List Row → List ℕ → List Key
keys_at rows places = filter_map (λ place. option_map row_key (slice_get rows place)) places
