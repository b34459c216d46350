use Rattle.std.proofs.Common.{◌≡◌, List, ℕ, map, ap, sym, subst, ◌∙◌}
use Rattle.iso_message.specs.Spans.{numbers}
use Rattle.iso_message.specs.Spelling.{Ascends, bits, low_numbers, high_numbers}
use Rattle.iso_message.proofs.Maps.{numbers_seen}
use Rattle.iso_message.proofs.elements.Elements.maps.Goals as goal

pub maps_of-requires : goal.maps_of-requires
maps_of-requires c =
    let e : numbers c.deref.result.now ≡ map (λ e. e.0) c.args.self.now = ap numbers c.deref.ensures.value ∙ numbers_seen c.self.inside.values.items c.self.inside.spans.items ∙ ap (map (λ e. e.0)) c.self.view_is in
    subst (λ (ns : List ℕ). Ascends 1 128 ns) (sym e) c.requires

pub returns-clause-low : goal.returns-clause-low
returns-clause-low c =
    let e : numbers c.deref.result.now ≡ map (λ e. e.0) c.args.self.now = ap numbers c.deref.ensures.value ∙ numbers_seen c.self.inside.values.items c.self.inside.spans.items ∙ ap (map (λ e. e.0)) c.self.view_is in
    c.maps_of.ensures.low ∙ ap (λ ns. bits 64 (low_numbers ns)) e

pub returns-clause-high : goal.returns-clause-high
returns-clause-high c =
    let e : numbers c.deref.result.now ≡ map (λ e. e.0) c.args.self.now = ap numbers c.deref.ensures.value ∙ numbers_seen c.self.inside.values.items c.self.inside.spans.items ∙ ap (map (λ e. e.0)) c.self.view_is in
    c.maps_of.ensures.high ∙ ap (λ ns. bits 128 (high_numbers ns)) e
