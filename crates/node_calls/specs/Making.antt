-- What a node is made of.
use Rattle.std.specs.Prelude.{ℕ, List, [], Option, Some, None, Result, Ok, Err}
use Rattle.net_rows.specs.Network.{Network}
use Rattle.rank_rows.specs.declared.rank.Rank.{Rank}
use Rattle.rank_cert.specs.declared.fault.CertFault.{CertFault}
use Rattle.rank_cert.specs.Reading.{cert_in}
use Rattle.table_fields.specs.declared.fault.TableFault.{TableFault}
use Rattle.net_tables.specs.Reading.{tables_in}
use Rattle.table_checker.specs.declared.refusal.Refusal.{Refusal}
use Rattle.table_checker.specs.Rules.{first_refusal}
use Rattle.replay_script.specs.Lines.{node_of}
use Rattle.switch_node.specs.Node.{NodeView}
use Rattle.node_calls.specs.declared.making.MakeFault.{MakeFault}
use Rattle.node_calls.specs.declared.making.MakeFault.TheVariants as faults

-- a node to which nothing came yet, unless its tables are refused
abbrev pub unless_refused : Network → ℕ → Option Refusal → Result NodeView MakeFault
unless_refused t n None = Ok (record { t = t; n = n; trace = [] })
unless_refused t n (Some refusal) = Err (faults.Refused refusal)

abbrev pub at_place : Network → List Rank → Option ℕ → Result NodeView MakeFault
at_place t cert None = Err faults.UnknownNode
at_place t cert (Some n) = unless_refused t n (first_refusal t cert)

abbrev pub with_ranks : Network → Result (List Rank) CertFault → List ℕ → Result NodeView MakeFault
with_ranks t (Err fault) name = Err (faults.Ranks fault)
with_ranks t (Ok cert) name = at_place t cert (node_of t name)

abbrev pub with_tables : Result Network TableFault → Result (List Rank) CertFault → List ℕ → Result NodeView MakeFault
with_tables (Err fault) ranks name = Err (faults.Tables fault)
with_tables (Ok t) ranks name = with_ranks t ranks name

-- the node of this name in the tables that a text has, where the ranks of another text are a certificate for them
abbrev pub node_in : List ℕ → List ℕ → List ℕ → Result NodeView MakeFault
node_in tables ranks name = with_tables (tables_in tables) (cert_in ranks) name
