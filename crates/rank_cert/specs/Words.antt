-- How faults are spelled.
use Rattle.std.specs.Prelude.{ℕ, List, ◌++◌, codes}
use Rattle.std.specs.Fmt.{decimal}
use Rattle.rank_cert.specs.declared.fault.CertFault.{CertFault}
use Rattle.rank_cert.specs.declared.fault.CertFault.TheVariants as fault

-- the number of a fault, what it is and at which line
abbrev pub fault_text : CertFault → List ℕ
fault_text fault.Header = codes "1 header"
fault_text (fault.Line n) = codes "2 line " ++ decimal n
fault_text (fault.Twice n) = codes "3 twice " ++ decimal n
fault_text fault.NoEnd = codes "4 no end"
fault_text fault.AfterEnd = codes "5 after end"
fault_text fault.Memory = codes "6 memory"
