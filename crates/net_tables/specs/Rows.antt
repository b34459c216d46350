-- What issuers, routes and stand-in rows are known by.
use Rattle.std.specs.Prelude.{◌≡◌, ℕ, ◌==◌, List, map}
use Rattle.std.specs.List.{filter}
use Rattle.net_rows.specs.declared.row.Issuer.{Issuer}
use Rattle.net_rows.specs.declared.row.Route.{Route}
use Rattle.net_rows.specs.declared.row.StandIn.{StandIn}

abbrev pub issuer_names : List Issuer → List (List ℕ)
issuer_names issuers = map (λ i. i.name) issuers

abbrev pub issuer_prefixes : List Issuer → List (List ℕ)
issuer_prefixes issuers = map (λ i. i.prefix) issuers

-- the prefixes of a node's rows
abbrev pub route_prefixes : List Route → ℕ → List (List ℕ)
route_prefixes routes n = map (λ r. r.prefix) (filter (λ r. r.node == n) routes)

abbrev pub stand_in_prefixes : List StandIn → ℕ → List (List ℕ)
stand_in_prefixes rows n = map (λ r. r.prefix) (filter (λ r. r.node == n) rows)

-- these are the names and the prefixes of the issuers
pub record AreIssuers (names prefixes : List (List ℕ)) (issuers : List Issuer) : Type 0 where
  pub same_names : names ≡ issuer_names issuers
  pub same_prefixes : prefixes ≡ issuer_prefixes issuers
