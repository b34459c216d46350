use Rattle.std.proofs.Common.{◌≡◌, ◌==◌, ◌<◌, true, ltb, ltb-true, List, ℕ, [], length, map, get_or, sym, ap, ◌∙◌}
use Rattle.std.proofs.lemmas.List.{get_or_default}
use Rattle.std.specs.Cmp.Lexicographic.{pointwise, same_text}
use Rattle.std.specs.List.{IsDistinct}
use Rattle.named_rows.proofs.Places.{place_is}
use Rattle.named_rows.proofs.named_rows.NamedRows.place_of.Goals as goal

pub returns-in-Some-clause-value : goal.returns-in-Some-clause-value
returns-in-Some-clause-value g c =
    let names : List (List ℕ) = c.self.inside.names.keys in
    let name : List ℕ = c.args.name.now in
    let i = c.place_marked-place.result in
    let distinct : IsDistinct (pointwise ◌==◌) names = c.as_slice.ensures.unique in
    let same : names ≡ map g.R.Named.name_of c.args.self.now = c.self.invariant.same ∙ ap (map g.R.Named.name_of) c.self.view_is in
    let inside : true ≡ ltb i (length names) = rw c.as_slice.ensures.keys at c.in-Some.ensures.lookup.0 in
    let within : i < length names = ltb-true i (length names) (sym inside) in
    let marked : c.in-Some.marked.now ≡ get_or names i c.in-Some.marked.now = rw c.as_slice.ensures.keys at c.in-Some.ensures.lookup.1 in
    let alike : c.in-Some.marked.now ≡ name = same_text c.in-Some.marked.now name c.if-eq.ensures in
    let is : get_or names i [] ≡ name = get_or_default names i [] c.in-Some.marked.now within ∙ sym marked ∙ alike in
    rw (← same) (place_is names name i distinct within is)
