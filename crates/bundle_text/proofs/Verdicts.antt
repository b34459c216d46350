-- What is answered where accepted tables are asked for: what is said of them, or what a question takes in its place (`Is`).
use Rattle.std.proofs.Common.{◌≡◌, ◌⊎◌, List, Option, Some, None, Result, Ok, Err, inl, inr}
use Rattle.net_rows.specs.Network.{Network}
use Rattle.table_fields.specs.declared.fault.TableFault.{TableFault}
use Rattle.rank_rows.specs.declared.rank.Rank.{Rank}
use Rattle.rank_cert.specs.declared.fault.CertFault.{CertFault}
use Rattle.table_checker.specs.Rules.{first_refusal}
use Rattle.table_checker.specs.declared.refusal.Refusal.{Refusal}
use Rattle.bundle_text.specs.Answers.{Said, Answers, IsOfAccepted, IsOfChecked, NamesMemory, accepted_said, check_read, checked_said, fault, verdict}
use Rattle.bundle_text.specs.Lines.{cert_fault_line, table_fault_line}

of_checked : (Is : Said → Said → Type 0) (same : (said wanted : Said) → said ≡ wanted → Is said wanted) (say : Network → Said) (t : Network) (refused : Option Refusal) (said : Said) → IsOfChecked (λ t said. Is said (say t)) t refused said → Is said (checked_said say t refused)
of_checked Is same say t (Some r) said is = same said (verdict t (Some r)) is
of_checked Is same say t None said is = is

pub of_accepted : (Is : Said → Said → Type 0) (same : (said wanted : Said) → said ≡ wanted → Is said wanted) (say : Network → Said) (tables : Result Network TableFault) (ranks : Result (List Rank) CertFault) (said : Said) → IsOfAccepted (λ t said. Is said (say t)) tables ranks said → Is said (accepted_said say tables ranks)
of_accepted Is same say (Err e) ranks said is = same said (fault (table_fault_line e)) is
of_accepted Is same say (Ok t) (Err e) said is = same said (fault (cert_fault_line e)) is
of_accepted Is same say (Ok t) (Ok cert) said is = of_checked Is same say t (first_refusal t cert) said is

pub of_verdict : (tables : Result Network TableFault) (ranks : Result (List Rank) CertFault) (said : Said) → IsOfAccepted (λ t said. said ≡ verdict t None) tables ranks said ⊎ NamesMemory said → Answers said (check_read tables ranks)
of_verdict tables ranks said (inl is) = inl (of_accepted (λ said wanted. said ≡ wanted) (λ said wanted is. is) (λ t. verdict t None) tables ranks said is)
of_verdict tables ranks said (inr memory) = inr memory
