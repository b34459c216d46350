-- What is answered to an input.
use Rattle.std.specs.Prelude.{◌≡◌, ℕ, List, Option}
use Rattle.net_rows.specs.Network.{Network}
use Rattle.rank_rows.specs.declared.rank.Rank.{Rank}
use Rattle.table_checker.specs.Rules.{first_refusal}
use Rattle.table_checker.specs.declared.refusal.Refusal.{Refusal}
use Rattle.bundle_text.specs.Answers.{Said, verdict}
use Rattle.answer_input.specs.OfTables.{TablesAnswers}
use Rattle.refusals_json.specs.Json.{json_line}
use Rattle.card_json.specs.CardJson.{card_data}

-- the object of a card with this verdict, and the status of the verdict
abbrev pub said_with : List ℕ → Network → List Rank → Option Refusal → Said
said_with card t cert first = record { text = json_line (card_data t cert card first); status = (verdict t first).status }

-- the answer to tables and ranks
abbrev pub json_of : List ℕ → Network → List Rank → Said
json_of card t cert = said_with card t cert (first_refusal t cert)

abbrev pub IsJsonOf : List ℕ → Network → List Rank → Said → Type 0
IsJsonOf card t cert said = said ≡ json_of card t cert

-- the answer to an input, or the first fault of its tables and ranks, unless memory was refused
abbrev pub CardAnswers : List ℕ → List ℕ → Said → Type 0
CardAnswers card = TablesAnswers (IsJsonOf card)
