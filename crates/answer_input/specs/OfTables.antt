-- What is answered to an input of two parts, the tables and the ranks.
use Rattle.std.specs.Prelude.{◌≡◌, ◌⊎◌, ℕ, List, [], ◌∷◌}
use Rattle.net_rows.specs.Network.{Network}
use Rattle.net_tables.specs.Reading.{tables_in}
use Rattle.rank_cert.specs.Reading.{cert_in}
use Rattle.rank_rows.specs.declared.rank.Rank.{Rank}
use Rattle.bundle_text.specs.Answers.{Said, IsOfRead, NamesMemory, parts_fault}
use Rattle.bundle_text.specs.Parts.{parts_of}

-- an answer to two parts, the tables and the ranks
abbrev pub IsOfParts : (Network → List Rank → Said → Type 0) → List (List ℕ) → Said → Type 0
IsOfParts IsAnswer (tables ∷ ranks ∷ []) said = IsOfRead IsAnswer (tables_in tables) (cert_in ranks) said
IsOfParts IsAnswer _ said = said ≡ parts_fault

-- an answer to an input, unless memory was refused
abbrev pub TablesAnswers : (Network → List Rank → Said → Type 0) → List ℕ → Said → Type 0
TablesAnswers IsAnswer input said = IsOfParts IsAnswer (parts_of input) said ⊎ NamesMemory said
