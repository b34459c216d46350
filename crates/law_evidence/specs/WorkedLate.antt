-- A run of two hops in which the host's approval comes to A after A stood in: A's reversal and its advice are posted by H, once each,
-- though A sends the reversal twice, as what acknowledged it first is lost.
use Rattle.std.specs.Prelude.{ℕ, zero, suc, List, [], ◌∷◌, codes}
use Rattle.message_elements.specs.declared.kind.Kind.TheVariants.{K0421}
use Rattle.network_law.specs.Traces.{ReadInput, Enter, Take, Tick, HostAnswer, ReadOutput, Put, Answer, Ask, Post}
use Rattle.network_law.specs.Entries.{ReadEntry}
use Rattle.law_evidence.specs.Worked.{entered, forwarded, answered, reversal, reversal_as, acknowledged, stand_in, stand_in_acknowledged, one, ten_dollars}

abbrev entry : ReadInput → List ReadOutput → ReadEntry
entry i os = record { input = i; outputs = os }

abbrev late_a : List ReadEntry
late_a =
    entry (Take 0 4 (acknowledged one ten_dollars)) []
    ∷ entry Tick (Put 0 4 (reversal_as K0421 one ten_dollars) ∷ [])
    ∷ entry (Take 0 3 (stand_in_acknowledged one ten_dollars)) []
    ∷ entry (Take 0 1 (answered one ten_dollars (codes "00"))) []
    ∷ entry Tick (Put 0 2 (reversal one ten_dollars) ∷ Answer (answered one ten_dollars (codes "00")) ∷ Put 0 3 (stand_in one ten_dollars) ∷ [])
    ∷ entry Tick []
    ∷ entry Tick []
    ∷ entry (Enter (entered one ten_dollars)) (Put 0 1 (forwarded one ten_dollars) ∷ [])
    ∷ []

abbrev late_b : List ReadEntry
late_b =
    entry (Take 1 3 (stand_in_acknowledged one ten_dollars)) []
    ∷ entry (Take 1 2 (acknowledged one ten_dollars)) []
    ∷ entry (Take 0 4 (reversal_as K0421 one ten_dollars)) (Put 0 4 (acknowledged one ten_dollars) ∷ [])
    ∷ entry (Take 0 3 (stand_in one ten_dollars)) (Put 0 3 (stand_in_acknowledged one ten_dollars) ∷ Put 1 3 (stand_in one ten_dollars) ∷ [])
    ∷ entry (Take 0 2 (reversal one ten_dollars)) (Put 0 2 (acknowledged one ten_dollars) ∷ Put 1 2 (reversal one ten_dollars) ∷ [])
    ∷ entry (Take 1 1 (answered one ten_dollars (codes "00"))) (Put 0 1 (answered one ten_dollars (codes "00")) ∷ [])
    ∷ entry (Take 0 1 (forwarded one ten_dollars)) (Put 1 1 (forwarded one ten_dollars) ∷ [])
    ∷ []

abbrev late_h : List ReadEntry
late_h =
    entry (Take 1 3 (stand_in one ten_dollars)) (Put 1 3 (stand_in_acknowledged one ten_dollars) ∷ Post (stand_in one ten_dollars) ∷ [])
    ∷ entry (Take 1 2 (reversal one ten_dollars)) (Put 1 2 (acknowledged one ten_dollars) ∷ Post (reversal one ten_dollars) ∷ [])
    ∷ entry (HostAnswer 1 (codes "00")) (Put 1 1 (answered one ten_dollars (codes "00")) ∷ [])
    ∷ entry (Take 1 1 (forwarded one ten_dollars)) (Ask 1 (forwarded one ten_dollars) ∷ [])
    ∷ []

abbrev pub late_run : ℕ → List ReadEntry
late_run zero = late_a
late_run (suc zero) = late_b
late_run (suc (suc zero)) = late_h
late_run (suc (suc (suc n))) = []
