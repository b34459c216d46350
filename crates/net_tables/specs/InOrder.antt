-- Tables whose rows stand in the text in the order in which they are read.
use Rattle.std.specs.Prelude.{◌≡◌, ℕ, true, List, [], Result, Ok}
use Rattle.toml.specs.Data.{Members}
use Rattle.toml.specs.Parse.{skip_bom}
use Rattle.toml_rows.specs.Rows.{IsHeaded, AreRows, table_line, is_over}
use Rattle.net_rows.specs.Network.{Network}
use Rattle.net_rows.specs.declared.row.Settings.{Settings}
use Rattle.net_rows.specs.declared.row.Node.{Node}
use Rattle.net_rows.specs.declared.row.Link.{Link}
use Rattle.net_rows.specs.declared.row.Acquirer.{Acquirer}
use Rattle.net_rows.specs.declared.row.Issuer.{Issuer}
use Rattle.net_rows.specs.declared.row.Route.{Route}
use Rattle.net_rows.specs.declared.row.StandIn.{StandIn}
use Rattle.table_fields.specs.Words.{table_word}
use Rattle.table_fields.specs.Fields.{RowText}
use Rattle.table_fields.specs.declared.fault.TableFault.{TableFault}
use Rattle.table_fields.specs.declared.place.Table.{Table}
use Rattle.table_fields.specs.declared.place.Table.TheVariants as table
use Rattle.named_rows.specs.Each.{each}
use Rattle.named_rows.specs.Rows.{node_names}
use Rattle.net_tables.specs.AllRows.{numbered}
use Rattle.net_tables.specs.Reading.{settings_in, node_of, link_of, acquirer_of, issuer_of, route_of, stand_in_of}

-- the next rows of a text are those of a table, and read so
pub record AreNext {R : Type 0} (t : Table) (read : List R → RowText → Result R TableFault) (rows : List R) (text rest : List ℕ) : Type 0 where
  pub members : List Members
  pub stand : AreRows (table_word t) members text rest
  pub are_read : each (numbered t read) [] members ≡ Ok rows

-- the next table of a text has the settings
pub record IsNext (settings : Settings) (text rest : List ℕ) : Type 0 where
  pub members : Members
  pub stands : IsHeaded (table_line (table_word table.Network)) members text rest
  pub is_read : settings_in members ≡ Ok settings

-- what rows point to comes next
pub record AreBase (settings : Settings) (nodes : List Node) (links : List Link) (text rest : List ℕ) : Type 0 where
  pub after_settings : List ℕ
  pub after_nodes : List ℕ
  pub settings_next : IsNext settings text after_settings
  pub nodes_next : AreNext table.Node node_of nodes after_settings after_nodes
  pub links_next : AreNext table.Link (link_of (node_names nodes)) links after_nodes rest

-- acquirers and then issuers come next
pub record AreParties (nodes : List Node) (acquirers : List Acquirer) (issuers : List Issuer) (text rest : List ℕ) : Type 0 where
  pub after_acquirers : List ℕ
  pub acquirers_next : AreNext table.Acquirer (acquirer_of (node_names nodes)) acquirers text after_acquirers
  pub issuers_next : AreNext table.Issuer (issuer_of (node_names nodes)) issuers after_acquirers rest

-- routes and then what nodes may approve, and nothing else is left
pub record AreRules (nodes : List Node) (links : List Link) (routes : List Route) (stand_ins : List StandIn) (text : List ℕ) : Type 0 where
  pub after_routes : List ℕ
  pub rest : List ℕ
  pub routes_next : AreNext table.Route (route_of (node_names nodes) links) routes text after_routes
  pub stand_ins_next : AreNext table.StandIn (stand_in_of (node_names nodes)) stand_ins after_routes rest
  pub over : is_over rest ≡ true

-- all of a text, in this order
pub record AreInOrder (n : Network) (text : List ℕ) : Type 0 where
  pub after_base : List ℕ
  pub after_parties : List ℕ
  pub base : AreBase n.settings n.nodes n.links (skip_bom text) after_base
  pub parties : AreParties n.nodes n.acquirers n.issuers after_base after_parties
  pub rules : AreRules n.nodes n.links n.routes n.stand_ins after_parties
