use Rattle.std.proofs.Common.{arith, ◌∙◌, refl, get_or}
use Rattle.standin_book.specs.Approvals.{day_of, used_on}
use Rattle.standin_book.proofs.Lessened.{own_part, freed_is}
use Rattle.standin_book.proofs.Sums.{sums_less}
use Rattle.standin_book.proofs.standin.lessen_at.Goals as goal

pub lessen-requires : goal.lessen-requires
lessen-requires c =
    let d = c.index-takes-place.result in
    let x = get_or c.args.takes.now c.args.place d in
    let h = own_part c.args.takes.now c.args.place d c.requires.place in
    let f = c.lessen-freed.ensures.freed in
    rw (c.day-day.ensures, c.requires.sums.exact (day_of x)) (omega (arith, h, f))

pub returns-clause-sums : goal.returns-clause-sums
returns-clause-sums c =
    let d = c.index-takes-place.result in
    let x = get_or c.args.takes.now c.args.place d in
    let f = c.lessen-freed.ensures in
    sums_less used_on c.args.takes.now c.args.place d c.lessen-freed.new.self (day_of x) c.lessen-freed.result c.args.sums.now.amounts.entries c.lessen.new.self.amounts.entries c.requires.place
    (λ q. freed_is c.args.key c.args.actual x c.lessen-freed.new.self c.lessen-freed.result q f.lessened f.freed)
    (λ q. c.lessen.ensures.sums q ∙ rw c.day-day.ensures refl)
    c.requires.sums
