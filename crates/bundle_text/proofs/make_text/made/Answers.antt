use Rattle.std.proofs.Common.{◌≡◌, ap, subst, ◌∙◌, List, ℕ, Ok}
use Rattle.rank_cert.specs.Reading.{cert_in}
use Rattle.bundle_text.specs.declared.answer.Status.TheVariants.{Done}
use Rattle.bundle_text.specs.Answers.{Said, IsCertText}
use Rattle.bundle_text.proofs.make_text.made.Goals as goal

pub returns-in_ok-text-in-Ranks : goal.returns-in_ok-text-in-Ranks
returns-in_ok-text-in-Ranks c =
    let is = c.in_ok-text-in-Ranks.ensures.text in
    IsCertText c.in-Ranks.cert
    (subst (λ (t : List ℕ). cert_in t ≡ Ok c.in-Ranks.cert) is c.in_ok-text-in-Ranks.ensures.read_again)
    (c.new.ensures ∙ ap (λ (t : List ℕ). let s : Said = record { text = t; status = Done } in s) is)
