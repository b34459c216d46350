use Rattle.std.proofs.Common.{◌≡◌, [], refl, sym, ap, ◌∙◌, arith}
use Rattle.iso_message.specs.Messages.{marks}
use Rattle.iso_message.specs.Unread.{Left}
use Rattle.iso_message.proofs.Steps.{marks_none}
use Rattle.iso_message.proofs.unread.Unread.next_number.Goals as goal

pub returns-then-self-ne0-2-clause-numbers : goal.returns-then-self-ne0-2-clause-numbers
returns-then-self-ne0-2-clause-numbers c =
    let zero : c.self.inside.low ≡ 0 = omega arith in
    let none : marks 64 64 c.self.inside.low ≡ [] = ap (marks 64 64) zero ∙ marks_none 64 in
    sym (ap (λ (l : Left). l.numbers) c.self.view_is) ∙ rw none c.take_mark-then-self-ne0-2.ensures

pub returns-clause-numbers : goal.returns-clause-numbers
returns-clause-numbers c =
    let zero : c.self.inside.low ≡ 0 = omega arith in
    let none : marks 64 64 c.self.inside.low ≡ [] = ap (marks 64 64) zero ∙ marks_none 64 in
    let no_high : c.self.inside.high ≡ 0 = omega arith in
    let nor : marks 128 64 c.self.inside.high ≡ [] = ap (marks 128 64) no_high ∙ marks_none 128 in
    sym (ap (λ (l : Left). l.numbers) c.self.view_is) ∙ rw (none, nor) refl
