use Rattle.std.proofs.Common.{◌≡◌, ◌++◌, Bool, true, ap, ◌∙◌}
use Rattle.std.proofs.lemmas.Result.{IfOk-weaker}
use Rattle.message_elements.specs.Groups.{response_kind}
use Rattle.message_elements.specs.Types.{kind_text}
use Rattle.iso_message.specs.Finding.{put}
use Rattle.iso_message.specs.Made.{kept, response, response_numbers}
use Rattle.iso_message.specs.Spelling.{bits, map_text, pieces, spelling, IsMessage}
use Rattle.response_bytes.specs.Taken.{numbers}
use Rattle.response_bytes.proofs.Whole.{low_marks, low_order, parts_whole}
use Rattle.response_bytes.proofs.response.push_parts.Goals as goal

pub returns-clause-made : goal.returns-clause-made
returns-clause-made c = λ m h none kind first body.
    let old = c.args.out.now.items in
    let one = c.extend_from_slice.new.self.items in
    let two = c.extend_from_slice-2.new.self.items in
    let es = put 39 c.args.code (kept response_numbers m.elements) in
    let typed : one ≡ old ++ kind_text (response_kind m.kind) = c.in_ok-extend_from_slice.ensures.items ∙ ap (λ xs. old ++ xs) (c.as_slice.ensures ∙ ap kind_text (c.response.ensures ∙ ap response_kind kind)) in
    let mapped : two ≡ one ++ map_text (bits 64 (numbers es)) = c.in_ok-extend_from_slice-2.ensures.items ∙ ap (λ xs. one ++ xs) (c.map_digits.ensures ∙ ap map_text (c.response_map.ensures m.elements c.args.code (low_order m h none) first)) in
    IfOk-weaker c.push_pieces.result (λ (all : Bool). (all ≡ true) × (c.push_pieces.new.out.items ≡ two ++ pieces es)) (λ (all : Bool). (all ≡ true) × (c.push_pieces.new.out.items ≡ old ++ spelling (response m c.args.code)))
    (λ all p. (p.0, p.1 ∙ parts_whole m c.args.code old one two h none typed mapped))
    (c.push_pieces.ensures.made m.elements (IsMessage.values h) (low_marks m c.args.first h none first) body)
