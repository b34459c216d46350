-- Rows with the same fields are the same.
use Rattle.std.proofs.Common.{◌≡◌, ap, ◌∙◌}
use Rattle.net_rows.specs.declared.row.Node.{Node}
use Rattle.net_rows.specs.declared.row.Link.{Link}
use Rattle.net_rows.specs.declared.row.Acquirer.{Acquirer}
use Rattle.net_rows.specs.declared.row.Issuer.{Issuer}
use Rattle.net_rows.specs.declared.row.Route.{Route}
use Rattle.net_rows.specs.declared.row.StandIn.{StandIn}
use Rattle.net_rows.specs.declared.row.Settings.{Settings}
use Rattle.net_rows.specs.Network.{Network}

pub node_is : (a b : Node) → a.name ≡ b.name → a.id ≡ b.id → a ≡ b
node_is a b e0 e1 = ap (λ z. record { name = z; id = a.id }) e0 ∙ (ap (λ z. record { name = b.name; id = z }) e1)

pub link_is : (a b : Link) → a.name ≡ b.name → a.from ≡ b.from → a.to ≡ b.to → a.ticks ≡ b.ticks → a ≡ b
link_is a b e0 e1 e2 e3 = ap (λ z. record { name = z; from = a.from; to = a.to; ticks = a.ticks }) e0 ∙ (ap (λ z. record { name = b.name; from = z; to = a.to; ticks = a.ticks }) e1 ∙ (ap (λ z. record { name = b.name; from = b.from; to = z; ticks = a.ticks }) e2 ∙ (ap (λ z. record { name = b.name; from = b.from; to = b.to; ticks = z }) e3)))

pub acquirer_is : (a b : Acquirer) → a.id ≡ b.id → a.node ≡ b.node → a ≡ b
acquirer_is a b e0 e1 = ap (λ z. record { id = z; node = a.node }) e0 ∙ (ap (λ z. record { id = b.id; node = z }) e1)

pub issuer_is : (a b : Issuer) → a.name ≡ b.name → a.prefix ≡ b.prefix → a.home ≡ b.home → a.named ≡ b.named → a.ceiling ≡ b.ceiling → a ≡ b
issuer_is a b e0 e1 e2 e3 e4 = ap (λ z. record { name = z; prefix = a.prefix; home = a.home; named = a.named; ceiling = a.ceiling }) e0 ∙ (ap (λ z. record { name = b.name; prefix = z; home = a.home; named = a.named; ceiling = a.ceiling }) e1 ∙ (ap (λ z. record { name = b.name; prefix = b.prefix; home = z; named = a.named; ceiling = a.ceiling }) e2 ∙ (ap (λ z. record { name = b.name; prefix = b.prefix; home = b.home; named = z; ceiling = a.ceiling }) e3 ∙ (ap (λ z. record { name = b.name; prefix = b.prefix; home = b.home; named = b.named; ceiling = z }) e4))))

pub route_is : (a b : Route) → a.node ≡ b.node → a.prefix ≡ b.prefix → a.links ≡ b.links → a ≡ b
route_is a b e0 e1 e2 = ap (λ z. record { node = z; prefix = a.prefix; links = a.links }) e0 ∙ (ap (λ z. record { node = b.node; prefix = z; links = a.links }) e1 ∙ (ap (λ z. record { node = b.node; prefix = b.prefix; links = z }) e2))

pub stand_in_is : (a b : StandIn) → a.node ≡ b.node → a.prefix ≡ b.prefix → a.day ≡ b.day → a.single ≡ b.single → a ≡ b
stand_in_is a b e0 e1 e2 e3 = ap (λ z. record { node = z; prefix = a.prefix; day = a.day; single = a.single }) e0 ∙ (ap (λ z. record { node = b.node; prefix = z; day = a.day; single = a.single }) e1 ∙ (ap (λ z. record { node = b.node; prefix = b.prefix; day = z; single = a.single }) e2 ∙ (ap (λ z. record { node = b.node; prefix = b.prefix; day = b.day; single = z }) e3)))

pub settings_is : (a b : Settings) → a.currency ≡ b.currency → a.date ≡ b.date → a.host_ticks ≡ b.host_ticks → a.advice_ticks ≡ b.advice_ticks → a ≡ b
settings_is a b e0 e1 e2 e3 = ap (λ z. record { currency = z; date = a.date; host_ticks = a.host_ticks; advice_ticks = a.advice_ticks }) e0 ∙ (ap (λ z. record { currency = b.currency; date = z; host_ticks = a.host_ticks; advice_ticks = a.advice_ticks }) e1 ∙ (ap (λ z. record { currency = b.currency; date = b.date; host_ticks = z; advice_ticks = a.advice_ticks }) e2 ∙ (ap (λ z. record { currency = b.currency; date = b.date; host_ticks = b.host_ticks; advice_ticks = z }) e3)))

pub network_is : (a b : Network) → a.settings ≡ b.settings → a.nodes ≡ b.nodes → a.links ≡ b.links → a.acquirers ≡ b.acquirers → a.issuers ≡ b.issuers → a.routes ≡ b.routes → a.stand_ins ≡ b.stand_ins → a ≡ b
network_is a b e0 e1 e2 e3 e4 e5 e6 = ap (λ z. record { settings = z; nodes = a.nodes; links = a.links; acquirers = a.acquirers; issuers = a.issuers; routes = a.routes; stand_ins = a.stand_ins }) e0 ∙ (ap (λ z. record { settings = b.settings; nodes = z; links = a.links; acquirers = a.acquirers; issuers = a.issuers; routes = a.routes; stand_ins = a.stand_ins }) e1 ∙ (ap (λ z. record { settings = b.settings; nodes = b.nodes; links = z; acquirers = a.acquirers; issuers = a.issuers; routes = a.routes; stand_ins = a.stand_ins }) e2 ∙ (ap (λ z. record { settings = b.settings; nodes = b.nodes; links = b.links; acquirers = z; issuers = a.issuers; routes = a.routes; stand_ins = a.stand_ins }) e3 ∙ (ap (λ z. record { settings = b.settings; nodes = b.nodes; links = b.links; acquirers = b.acquirers; issuers = z; routes = a.routes; stand_ins = a.stand_ins }) e4 ∙ (ap (λ z. record { settings = b.settings; nodes = b.nodes; links = b.links; acquirers = b.acquirers; issuers = b.issuers; routes = z; stand_ins = a.stand_ins }) e5 ∙ (ap (λ z. record { settings = b.settings; nodes = b.nodes; links = b.links; acquirers = b.acquirers; issuers = b.issuers; routes = b.routes; stand_ins = z }) e6))))))
