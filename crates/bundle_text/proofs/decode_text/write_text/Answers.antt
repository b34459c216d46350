use Rattle.std.proofs.Common.{◌∙◌, ℕ, List, Bor, map, ap}
use Rattle.bundle_text.specs.Parts.{parts_of_lines, parts_of_text}
use Rattle.bundle_text.proofs.decode_text.write_text.Goals as goal

pub returns-clause-ok : goal.returns-clause-ok
returns-clause-ok g c =
    let cut = ap (λ (ps : List (Bor (List ℕ))). map (λ p. p.now) ps) c.deref-2.ensures.value ∙ c.in-Ok-parts.ensures in
    let same = cut ∙ ap parts_of_text c.deref.ensures.value ∙ ap parts_of_lines c.in-Ok.ensures in
    rw same at c.write_parts.ensures.ok
