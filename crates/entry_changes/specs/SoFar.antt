-- What the books are after the changes so far, read change by change.
use Rattle.std.specs.Prelude.{ℕ, suc, ◌==◌, List, [], ◌∷◌, true, false, ◌&&◌, ◌||◌, not, if◌then◌else◌, is_some}
use Rattle.std.specs.Option.{option_or, option_and_then}
use Rattle.std.specs.List.{list_any}
use Rattle.card_digits.specs.declared.key.Key.{Key}
use Rattle.message_keys.specs.declared.keys.AdviceId.{AdviceId}
use Rattle.message_keys.specs.Keys.{key_eq, identity_of, identity_eq}
use Rattle.network_law.specs.Traces.{forwards, is_put_of}
use Rattle.node_machine.specs.Machine.{was_put}
use Rattle.node_machine.specs.Lists.{Row, LinkState, Lists, of_key, row_key, row_link, is_among}
use Rattle.node_books.specs.declared.effect.Effect.{Effect}
use Rattle.node_books.specs.declared.effect.Effect.TheVariants as effects
use Rattle.advice_store.specs.Advices.{has_id}
use Rattle.kept_messages.specs.Ways.{is_put}
use Rattle.entry_changes.specs.declared.so_far.AdviceState.{AdviceState}
use Rattle.entry_changes.specs.declared.so_far.Forwarding.{Forwarding}

-- links

abbrev pub link_step : ℕ → Effect → LinkState → LinkState
link_step l (effects.Sent o) x = if is_put l o then record { up = x.up; serial = suc x.serial } else x
link_step l (effects.PacketSent k s p) x = if k == l then record { up = x.up; serial = suc x.serial } else x
link_step l (effects.LinkIs k up) x = if k == l then record { up = up; serial = x.serial } else x
link_step l e x = x

abbrev pub link_from : ℕ → List Effect → LinkState → LinkState
link_from l [] x = x
link_from l (e ∷ es) x = link_from l es (link_step l e x)

-- requests: whether a key has a row, and the link on which it was put

abbrev pub forwarding : Key → List Row → Forwarding
forwarding k rows = record { there = is_some (of_key k rows); link = option_and_then row_link (of_key k rows) }

abbrev pub forward_step : Key → Effect → Forwarding → Forwarding
forward_step k (effects.Sent o) s = record { there = s.there; link = if s.there then option_or s.link (forwards k o) else s.link }
forward_step k (effects.Opened r) s = if s.there then s else if key_eq (row_key r) k then record { there = true; link = r.link } else s
forward_step k e s = s

abbrev pub forward_from : Key → List Effect → Forwarding → Forwarding
forward_from k [] s = s
forward_from k (e ∷ es) s = forward_from k es (forward_step k e s)

-- advices: whether one is known, stored, and was put while it was stored

abbrev pub advice_state : AdviceId → Lists → AdviceState
advice_state id x = record { known = is_among id x.known; stored = list_any (has_id id) x.store; put = list_any (was_put id) x.store }

abbrev pub advice_step : AdviceId → Effect → AdviceState → AdviceState
advice_step id (effects.Sent o) s = record { known = s.known; stored = s.stored; put = s.put || (s.stored && is_put_of id o) }
advice_step id (effects.Kept a) s =
    if identity_eq (identity_of a.message) id && not s.known
    then record { known = true; stored = s.stored || not a.home; put = s.put || (not a.home && a.put) }
    else s
advice_step id (effects.Acknowledged other) s = if identity_eq id other then record { known = s.known; stored = false; put = false } else s
advice_step id e s = s

abbrev pub advice_from : AdviceId → List Effect → AdviceState → AdviceState
advice_from id [] s = s
advice_from id (e ∷ es) s = advice_from id es (advice_step id e s)

-- ticks

abbrev pub count_step : Effect → ℕ → ℕ
count_step effects.Ticked n = suc n
count_step e n = n

abbrev pub count_from : List Effect → ℕ → ℕ
count_from [] n = n
count_from (e ∷ es) n = count_from es (count_step e n)
