-- The ends of links.
use Rattle.std.specs.Prelude.{◌≡◌, List, map}
use Rattle.net_rows.specs.Network.{Network}
use Rattle.net_rows.specs.declared.row.Link.{Link}
use Rattle.rows_in_force.specs.declared.link_ends.Ends.{Ends}

abbrev pub ends_of : Link → Ends
ends_of k = record { from = k.from; to = k.to }

-- they are those of the network's links
abbrev pub AreEnds : Network → List Ends → Type 0
AreEnds t ends = ends ≡ map ends_of t.links
