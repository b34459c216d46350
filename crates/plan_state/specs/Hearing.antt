-- Who has to hear of an output.
use Rattle.std.specs.Prelude.{ℕ}
use Rattle.net_rows.specs.Network.{Network, other_end}
use Rattle.kept_messages.specs.declared.output.Way.{Way}
use Rattle.kept_messages.specs.declared.output.Way.TheVariants.{Put, Answer, Ask, Post}
use Rattle.plan_state.specs.declared.hearing.Hearer.{Hearer}
use Rattle.plan_state.specs.declared.hearing.Hearer.TheVariants.{PumpOf, Host, Sessions, Nobody}

-- the pump at the other end of a link, the host that is asked, or the sessions of which one is answered
abbrev pub who_hears : Network → ℕ → Way → Hearer
who_hears t n (Put link serial) = PumpOf (other_end t n link)
who_hears t n (Ask ask) = Host
who_hears t n Answer = Sessions
who_hears t n Post = Nobody
