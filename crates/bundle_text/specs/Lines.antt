-- The printed lines of faults and verdicts.
use Rattle.std.specs.Prelude.{ℕ, List, [], ◌∷◌, ◌++◌, codes, slice_get}
use Rattle.std.specs.Fmt.{decimal}
use Rattle.std.specs.List.{flat_map}
use Rattle.std.specs.Option.{option_map_or}
use Rattle.card_digits.specs.Digits.{digits_text}
use Rattle.net_rows.specs.Network.{Network}
use Rattle.table_fields.specs.Words as table_words
use Rattle.table_fields.specs.declared.fault.TableFault.{TableFault}
use Rattle.rank_cert.specs.Words as cert_words
use Rattle.rank_cert.specs.declared.fault.CertFault.{CertFault}
use Rattle.table_checker.specs.declared.refusal.Refusal.{Refusal}
use Rattle.table_checker.specs.declared.refusal.Refusal.TheVariants as refusals

abbrev pub Text : Type 0
Text = List ℕ

abbrev pub line_feed : Text
line_feed = 10 ∷ []

abbrev pub table_fault_line : TableFault → Text
table_fault_line e = codes "fault tables " ++ table_words.fault_text e ++ line_feed

abbrev pub cert_fault_line : CertFault → Text
cert_fault_line e = codes "fault ranks " ++ cert_words.fault_text e ++ line_feed

abbrev pub node_name : Network → ℕ → Text
node_name t n = option_map_or (λ k. k.name) (slice_get t.nodes n) []

abbrev pub link_name : Network → ℕ → Text
link_name t l = option_map_or (λ k. k.name) (slice_get t.links l) []

-- the line of a circle: nodes of these tables, round which cards of the class are sent
abbrev pub circle_line : Network → List ℕ → List ℕ → Text
circle_line t class nodes = codes "circle " ++ digits_text class ++ flat_map (λ n. 32 ∷ node_name t n) nodes ++ line_feed

-- a refusal of these tables
abbrev pub refusal_text : Network → Refusal → Text
refusal_text t (refusals.NoRank n class) = codes "refused 1 no rank: node " ++ node_name t n ++ codes " prefix " ++ digits_text class
refusal_text t (refusals.NotLess n class l) = codes "refused 2 not less: node " ++ node_name t n ++ codes " prefix " ++ digits_text class ++ codes " link " ++ link_name t l
refusal_text t (refusals.NotNamed n class) = codes "refused 3 not named: node " ++ node_name t n ++ codes " prefix " ++ digits_text class
refusal_text t (refusals.OverCeiling class sum ceiling) = codes "refused 4 over ceiling: prefix " ++ digits_text class ++ codes " sum " ++ decimal sum ++ codes " ceiling " ++ decimal ceiling
refusal_text t (refusals.NoIssuer n class) = codes "refused 5 no issuer: node " ++ node_name t n ++ codes " prefix " ++ digits_text class
refusal_text t (refusals.AcquirerTwice id) = codes "refused 6 acquirer twice: " ++ id
refusal_text t (refusals.NodeIdTwice id) = codes "refused 7 node id twice: " ++ id
refusal_text t (refusals.TimerTooLong l) = codes "refused 8 timer too long: link " ++ link_name t l
refusal_text t refusals.Memory = codes "fault check 9 memory"

abbrev pub refusal_line : Network → Refusal → Text
refusal_line t r = refusal_text t r ++ line_feed
