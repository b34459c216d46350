use Rattle.std.proofs.Common.{◌∙◌, ◌++◌, ◌∷◌, List, ℕ, codes, append_assoc, sym, ap}
use Rattle.std.specs.List.{flat_map}
use Rattle.std.proofs.lemmas.Result.{IfOk-weaker}
use Rattle.card_digits.specs.Digits.{digits_text}
use Rattle.bundle_text.specs.Lines.{line_feed, node_name}
use Rattle.bundle_text.proofs.make_text.circle_line.Goals as goal

pub returns : goal.returns
returns c =
    let names : List ℕ = flat_map (λ (n : ℕ). 32 ∷ node_name c.args.tables.now n) c.args.nodes.now in
    let grouped = append_assoc (digits_text c.args.class.now) names line_feed in
    IfOk-weaker c.format.result _ _ (λ s is. is ∙ ap (λ (t : List ℕ). codes "circle " ++ t) (sym grouped)) c.format.ensures.ok
