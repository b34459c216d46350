-- A table as an answer to accepted tables.
use Rattle.std.proofs.Common.{ℕ, ◌⊎◌, List, Option, Result, inl, inr}
use Rattle.net_rows.specs.Network.{Network}
use Rattle.table_fields.specs.declared.fault.TableFault.{TableFault}
use Rattle.rank_rows.specs.declared.rank.Rank.{Rank}
use Rattle.rank_cert.specs.declared.fault.CertFault.{CertFault}
use Rattle.bundle_text.specs.Answers.{Said, IsOfAccepted, NamesMemory, accepted_said}
use Rattle.bundle_text.proofs.Verdicts.{of_accepted}
use Rattle.trace_view.specs.Answers.{AnswersTrace, IsTable, traced_said}

pub of_read : (tables : Result Network TableFault) (ranks : Result (List Rank) CertFault) (script : Option (List ℕ)) (trace : List ℕ) (said : Said) → IsOfAccepted (IsTable script trace) tables ranks said ⊎ NamesMemory said → AnswersTrace said (accepted_said (traced_said script trace) tables ranks)
of_read tables ranks script trace said (inl is) = of_accepted (λ said wanted. AnswersTrace said wanted) (λ said wanted is. inl is) (traced_said script trace) tables ranks said is
of_read tables ranks script trace said (inr memory) = inr (inl memory)
