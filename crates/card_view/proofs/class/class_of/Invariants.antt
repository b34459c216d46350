use Rattle.std.proofs.Common.{◌≡◌, ◌++◌, map, take}
use Rattle.card_digits.specs.Longest.{longest}
use Rattle.net_rows.specs.declared.row.Issuer.{Issuer}
use Rattle.net_rows.specs.declared.row.Route.{Route}
use Rattle.net_rows.specs.declared.row.StandIn.{StandIn}
use Rattle.card_view.proofs.class.class_of.Given as goal

-- the longest prefix of the rows so far
abbrev pub invariant-loop-row : goal.invariant-loop-row
invariant-loop-row l = l.longest ≡ longest (λ p. p) (map (λ (r : Issuer). r.prefix) (take l.row-index l.row-items)) l.card

abbrev pub invariant-loop-row-2 : goal.invariant-loop-row-2
invariant-loop-row-2 l = l.longest ≡ longest (λ p. p) (map (λ (r : Issuer). r.prefix) l.tables.issuers ++ map (λ (r : Route). r.prefix) (take l.row-index l.row-items)) l.card

abbrev pub invariant-loop-row-3 : goal.invariant-loop-row-3
invariant-loop-row-3 l = l.longest ≡ longest (λ p. p) ((map (λ (r : Issuer). r.prefix) l.tables.issuers ++ map (λ (r : Route). r.prefix) l.tables.routes) ++ map (λ (r : StandIn). r.prefix) (take l.row-index l.row-items)) l.card
