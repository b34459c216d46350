use Rattle.std.proofs.Common.{◌≡◌, ◌++◌, rules, ap, ◌∙◌, arith}
use Rattle.std.proofs.lemmas.Result.{on_ok_weaker}
use Rattle.message_elements.specs.Types.{kind_text}
use Rattle.iso_message.specs.Fields.{Fields}
use Rattle.iso_message.specs.Spelling.{numbers_of, two_maps, spelling}
use Rattle.iso_message.proofs.Maps.{low_fits, written_behind}
use Rattle.iso_message.proofs.message.encode_into.Goals as goal

pub push_maps-requires : goal.push_maps-requires
push_maps-requires c =
    omega (arith, c.maps-low.ensures.low, low_fits (numbers_of (record { kind = c.message.inside.kind; elements = c.message.inside.elements })) c.message.invariant.order)

pub returns : goal.returns
returns c =
    let m : Fields = record { kind = c.message.inside.kind; elements = c.message.inside.elements } in
    let a : c.extend_from_slice.new.self.items ≡ c.args.out.now.items ++ kind_text m.kind = search rules in
    let b : c.push_maps.new.out.items ≡ c.extend_from_slice.new.self.items ++ two_maps c.maps-low.result.0 c.maps-low.result.1 = search rules in
    on_ok_weaker c.push_to.result (λ d. written_behind m c.args.out.now.items c.maps-low.result.0 c.maps-low.result.1 c.extend_from_slice.new.self.items c.push_maps.new.out.items c.push_to.new.out.items c.maps-low.ensures.low c.maps-low.ensures.high a b d ∙ ap (λ n. c.args.out.now.items ++ spelling n) c.message.view_is) c.push_to.ensures
