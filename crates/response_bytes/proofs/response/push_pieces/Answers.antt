use Rattle.std.proofs.Common.{◌≡◌, ◌++◌, refl, ap, ◌∙◌}
use Rattle.response_bytes.specs.Taken.{IsTaken}
use Rattle.response_bytes.proofs.Steps.{of_some}
use Rattle.response_bytes.proofs.Whole.{both_taken}
use Rattle.response_bytes.proofs.response.push_pieces.Goals as goal

pub returns-in-Some-2-clause-made : goal.returns-in-Some-2-clause-made
returns-in-Some-2-clause-made c = λ es good numbers bytes.
    let old = c.args.out.now.items in
    let one = c.push_kept.new.out.items in
    let two = c.extend_from_slice.new.self.items in
    let three = c.push_kept-2.new.out.items in
    let first : IsTaken 38 es c.push_kept.new.left c.in-Some.rest.now old one = of_some _ (λ rest. IsTaken 38 es c.push_kept.new.left rest.now old one) c.in-Some.is (c.in_ok-rest.ensures.taken es good numbers bytes) in
    let added : two ≡ one ++ c.args.code = c.in_ok-extend_from_slice.ensures.items ∙ ap (λ xs. one ++ xs) c.as_slice.ensures.value in
    let second : IsTaken 64 (IsTaken.later first) c.push_kept-2.new.left c.in-Some-2.field-0.now two three =
    of_some _ (λ end. IsTaken 64 (IsTaken.later first) c.push_kept-2.new.left end.now two three) c.in-Some-2.is (c.in_ok-push_kept.ensures.taken (IsTaken.later first) (IsTaken.good first) (IsTaken.numbers first) (IsTaken.bytes first)) in
    (refl, both_taken es c.push_kept.new.left c.push_kept-2.new.left c.in-Some.rest.now c.in-Some-2.field-0.now old one two three c.args.code first added second)
