-- Which answers may be the wanted one.
use Rattle.std.specs.Prelude.{ℕ, ◌+◌, ◌%◌, ◌==◌, ◌&&◌, ◌||◌, nat_le, Bool, false, if◌then◌else◌, List, [], ◌∷◌, ◌++◌, length, Option, Some, None}
use Rattle.std.specs.List.{starts_with}
use Rattle.network_law.specs.Entries.{Output, Answer}
use Rattle.plan_state.specs.declared.wanted.Wanted.{Wanted}

-- the type of the answer to a message of this type, as digits
abbrev pub answering : List ℕ → List ℕ
answering (a ∷ b ∷ c ∷ rest) = a ∷ b ∷ ((c + 1) % 256) ∷ 48 ∷ []
answering _ = []

-- what the answer to a line with this time and trace number begins with and has, none where these have other lengths
abbrev pub wanted_of : List ℕ → List ℕ → List ℕ → Option Wanted
wanted_of line time trace =
    if nat_le 4 (length line) && ((length time == 10) && (length trace == 6))
    then Some (record { kind = answering line; time = time; trace = trace })
    else None

-- the bytes begin with the wanted time and trace number
abbrev pub begins : Wanted → List ℕ → Bool
begins w bytes = starts_with ◌==◌ bytes (w.time ++ w.trace)

-- they stand somewhere in the bytes
abbrev pub stands_in : Wanted → List ℕ → Bool
stands_in w [] = false
stands_in w (b ∷ bytes) = begins w (b ∷ bytes) || stands_in w bytes

-- the bytes begin with the wanted type, and time and trace number stand somewhere in them
abbrev pub may_be : Wanted → List ℕ → Bool
may_be w bytes = starts_with ◌==◌ bytes w.kind && stands_in w bytes

-- an answer to an acquirer that may be the wanted one
abbrev pub answer_to : Wanted → Output → Option (List ℕ)
answer_to w (Answer bytes) = if may_be w bytes then Some bytes else None
answer_to w _ = None
