-- Pictures of tables that are accepted, and of tables that are refused.
use Rattle.std.proofs.Common.{◌≡◌, ◌∙◌, ℕ, List, [], ◌++◌, map, codes, Option, None, Some, ap, sym}
use Rattle.net_rows.specs.Network.{Network}
use Rattle.rank_rows.specs.declared.rank.Rank.{Rank}
use Rattle.table_checker.specs.declared.refusal.Refusal.{Refusal}
use Rattle.table_checker.specs.Rules.{first_refusal}
use Rattle.all_refusals.specs.declared.row.RowRefusal.{RowRefusal}
use Rattle.all_refusals.specs.Rows.{shown}
use Rattle.all_refusals.specs.Found.{all_refusals}
use Rattle.all_refusals.proofs.First.{none_is}
use Rattle.bundle_text.specs.Answers.{Said, verdict}
use Rattle.bundle_text.specs.Lines.{refusal_line}
use Rattle.bundle_text.specs.declared.answer.Status.{Status}
use Rattle.bundle_text.specs.declared.answer.Status.TheVariants as status
use Rattle.picture_text.specs.Picture.{Drawn}
use Rattle.network_picture.specs.declared.asked.Drawing.{Drawing}
use Rattle.network_picture.specs.declared.asked.PictureJob.{PictureJob}
use Rattle.network_picture.specs.Shown.{shown_class}
use Rattle.network_picture.specs.Answers.{head_text, body_text, answered, picture_at, IsPictured}

abbrev saying : Status → List ℕ → Said
saying s text = record { text = text; status = s }

drawn_is : (drawing : Drawing) (p : Drawn) (said : Said) (text line wanted : List ℕ) (s : Status) → said ≡ saying s text → text ≡ head_text drawing p ++ line ++ body_text drawing p → line ≡ wanted
    → said ≡ answered drawing (saying s wanted) p
drawn_is drawing p said text line wanted s is drawn first = is ∙ ap (saying s) (drawn ∙ ap (λ (l : List ℕ). head_text drawing p ++ l ++ body_text drawing p) first)

-- the same picture, by another name
pub same_drawn : (drawing : Drawing) (line text : List ℕ) (p q : Drawn) → p ≡ q → text ≡ head_text drawing p ++ line ++ body_text drawing p → text ≡ head_text drawing q ++ line ++ body_text drawing q
same_drawn drawing line text p q same is = is ∙ ap (λ (x : Drawn). head_text drawing x ++ line ++ body_text drawing x) same

module _ (job : PictureJob) (t : Network) (cert : List Rank) where
  abbrev seen : List RowRefusal → Option Refusal → Drawn
  seen found v = picture_at t cert found (shown_class t v job.prefix)

  pub accepted_is : (said : Said) (text line : List ℕ) → first_refusal t cert ≡ None → said ≡ saying status.Done text
      → text ≡ head_text job.drawing (seen [] None) ++ line ++ body_text job.drawing (seen [] None) → line ≡ codes "accepted\n" → IsPictured job t cert said
  accepted_is said text line none is drawn first = record {
    found = [];
    all = sym (none_is t cert none);
    printed = drawn_is job.drawing (seen [] None) said text line (codes "accepted\n") status.Done is drawn first ∙ ap (λ (v : Option Refusal). answered job.drawing (verdict t v) (seen [] v)) (sym none);
  }

  pub refused_is : (found here : List RowRefusal) (r : Refusal) (said : Said) (text line : List ℕ) → first_refusal t cert ≡ Some r → map (shown t) found ≡ all_refusals t cert → said ≡ saying status.Refused text
      → text ≡ head_text job.drawing (seen here (Some r)) ++ line ++ body_text job.drawing (seen here (Some r)) → here ≡ found → line ≡ refusal_line t r → IsPictured job t cert said
  refused_is found here r said text line some all is drawn same first = record {
    found = here;
    all = ap (map (shown t)) same ∙ all;
    printed = drawn_is job.drawing (seen here (Some r)) said text line (refusal_line t r) status.Refused is drawn first ∙ ap (λ (v : Option Refusal). answered job.drawing (verdict t v) (seen here v)) (sym some);
  }
