use Rattle.std.proofs.Common.{◌∙◌, ◌≡◌, ap, false}
use Rattle.card_digits.specs.declared.key.Key.{Key}
use Rattle.node_machine.specs.Lists.{Take}
use Rattle.standin_book.specs.Limits.{Limits, is_taken}
use Rattle.standin_book.proofs.Once.{once_more}
use Rattle.standin_book.proofs.limits.LimitBook.try_take.Goals as goal

pub invariant_of-self-2 : goal.invariant_of-self-2
invariant_of-self-2 c =
    let takes = c.self.inside.approvals.takes in
    let x : Take = c.new.result in
    let e : is_taken c.args.key takes ≡ false = ap (λ (v : Limits). is_taken c.args.key v.takes) c.self.view_is ∙ c.requires in
    let own : x.key ≡ c.args.key = ap (λ (a : Take). a.key) c.new.ensures in
    let new : is_taken x.key takes ≡ false = ap (λ (k : Key). is_taken k takes) own ∙ e in
    rw (c.take.ensures, c.reserve.ensures.takes) (once_more takes x new c.self.invariant)
