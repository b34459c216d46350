-- What is answered to an input.
use Rattle.std.specs.Prelude.{◌≡◌, ℕ, List, ◌++◌, map, codes, Option, Some, None}
use Rattle.net_rows.specs.Network.{Network}
use Rattle.rank_rows.specs.declared.rank.Rank.{Rank}
use Rattle.table_checker.specs.Rules.{first_refusal}
use Rattle.table_checker.specs.declared.refusal.Refusal.{Refusal}
use Rattle.all_refusals.specs.declared.row.RowRefusal.{RowRefusal}
use Rattle.all_refusals.specs.Rows.{shown}
use Rattle.all_refusals.specs.Found.{all_refusals}
use Rattle.bundle_text.specs.Answers.{Said, verdict}
use Rattle.bundle_text.specs.Lines.{Text, refusal_line}
use Rattle.answer_input.specs.OfTables.{TablesAnswers}
use Rattle.card_view.specs.declared.asked.Asked.{Asked}
use Rattle.card_view.specs.declared.asked.Asked.TheVariants as asks
use Rattle.card_view.specs.View.{view_text}
use Rattle.card_view.specs.Listed.{refusals_text}
use Rattle.refusals_json.specs.Json.{json_line}
use Rattle.refusals_json.specs.ListedJson.{refusals_json, accepted_data, refused_data}
use Rattle.card_view.specs.declared.asked.Format.{Format}
use Rattle.card_view.specs.declared.asked.Format.TheVariants as formats

-- an answer with more text behind it, and of the same status
abbrev pub followed : Said → Text → Said
followed said text = record { text = said.text ++ text; status = said.status }

-- the verdict on tables, and what their nodes do with the card
abbrev pub view_of : List ℕ → Network → List Rank → Said
view_of card t cert = followed (verdict t (first_refusal t cert)) (view_text t cert card)

-- the line of a verdict, and those of refusals
abbrev pub accepted_line : Format → Text
accepted_line formats.Text = codes "accepted\n"
accepted_line formats.Json = json_line accepted_data

abbrev pub refused_line : Format → Network → Refusal → Text
refused_line formats.Text t r = refusal_line t r
refused_line formats.Json t r = json_line (refused_data t r)

abbrev pub verdict_line : Format → Network → Option Refusal → Text
verdict_line format t None = accepted_line format
verdict_line format t (Some r) = refused_line format t r

abbrev pub refusal_lines : Format → Network → List RowRefusal → Text
refusal_lines formats.Text t found = refusals_text t found
refusal_lines formats.Json t found = refusals_json t found

-- a verdict with these refusals behind it, and the status of the verdict
abbrev pub listing : Format → Network → Option Refusal → List RowRefusal → Said
listing format t first found = record { text = verdict_line format t first ++ refusal_lines format t found; status = (verdict t first).status }

-- the verdict on tables, and a line for each refusal, with the number of a row in which what it speaks of stands
pub record IsListed (format : Format) (t : Network) (cert : List Rank) (said : Said) : Type 0 where
  pub found : List RowRefusal
  pub all : map (shown t) found ≡ all_refusals t cert
  pub printed : said ≡ listing format t (first_refusal t cert) found

-- an answer to tables and ranks
abbrev pub IsView : Asked → Network → List Rank → Said → Type 0
IsView (asks.Card card) t cert said = said ≡ view_of card t cert
IsView (asks.Refusals format) t cert said = IsListed format t cert said

-- an answer to an input, or the first fault of its tables and ranks, unless memory was refused
abbrev pub ViewAnswers : Asked → List ℕ → Said → Type 0
ViewAnswers asked = TablesAnswers (IsView asked)
