-- What is answered to an input.
use Rattle.std.specs.Prelude.{◌≡◌, ℕ, List, ◌++◌, map, Option}
use Rattle.net_rows.specs.Network.{Network}
use Rattle.rank_rows.specs.declared.rank.Rank.{Rank}
use Rattle.table_checker.specs.Rules.{first_refusal}
use Rattle.table_checker.specs.declared.refusal.Refusal.{Refusal}
use Rattle.all_refusals.specs.declared.row.RowRefusal.{RowRefusal}
use Rattle.all_refusals.specs.Rows.{shown}
use Rattle.all_refusals.specs.Found.{all_refusals}
use Rattle.bundle_text.specs.Answers.{Said, verdict}
use Rattle.bundle_text.specs.Lines.{Text}
use Rattle.answer_input.specs.OfTables.{TablesAnswers}
use Rattle.picture_text.specs.Picture.{Drawn}
use Rattle.picture_text.specs.Svg.{svg_head, svg_body}
use Rattle.picture_text.specs.Dot.{dot_head, dot_body}
use Rattle.network_picture.specs.declared.asked.Drawing.{Drawing}
use Rattle.network_picture.specs.declared.asked.Drawing.TheVariants.{Svg, Dot}
use Rattle.network_picture.specs.declared.asked.PictureJob.{PictureJob}
use Rattle.network_picture.specs.Shown.{shown_class}
use Rattle.network_picture.specs.Refused.{here}
use Rattle.network_picture.specs.Made.{drawn_at}

-- a picture as text, with a verdict above it
abbrev pub head_text : Drawing → Drawn → Text
head_text Svg p = svg_head p.size
head_text Dot p = dot_head

abbrev pub body_text : Drawing → Drawn → Text
body_text Svg p = svg_body p
body_text Dot p = dot_body p

abbrev pub picture_text : Drawing → Text → Drawn → Text
picture_text drawing line p = head_text drawing p ++ line ++ body_text drawing p

-- and the status of the verdict
abbrev pub answered : Drawing → Said → Drawn → Said
answered drawing said p = record { text = picture_text drawing said.text p; status = said.status }

-- the picture at a class, with the refusals that belong there
abbrev pub picture_at : Network → List Rank → List RowRefusal → Option (List ℕ) → Drawn
picture_at t cert found class = drawn_at t cert class (here class found)

-- the picture that is asked for, where this refusal is the first
abbrev pub asked_picture : PictureJob → Network → List Rank → Option Refusal → List RowRefusal → Drawn
asked_picture job t cert refusal found = picture_at t cert found (shown_class t refusal job.prefix)

-- the verdict on tables with their picture, in which the rows are red that any refusal speaks of at the class
pub record IsPictured (job : PictureJob) (t : Network) (cert : List Rank) (said : Said) : Type 0 where
  pub found : List RowRefusal
  pub all : map (shown t) found ≡ all_refusals t cert
  pub printed : said ≡ answered job.drawing (verdict t (first_refusal t cert)) (asked_picture job t cert (first_refusal t cert) found)

-- an answer to an input, or the first fault of its tables and ranks, unless memory was refused
abbrev pub PictureAnswers : PictureJob → List ℕ → Said → Type 0
PictureAnswers job = TablesAnswers (IsPictured job)
