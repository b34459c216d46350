use Rattle.std.proofs.Common.{arith, ◌∙◌, ◌≡◌, length, refl}
use Rattle.standin_book.specs.Approvals.{used_on, day_of}
use Rattle.standin_book.proofs.Lessened.{placed_more}
use Rattle.standin_book.proofs.Sums.{sums_more}
use Rattle.standin_book.proofs.standin.StandInBook.take.Goals as goal

pub invariant_of-self : goal.invariant_of-self
invariant_of-self c =
    let i = c.self.inside in
    let h = c.self.invariant in
    let x = c.args.approval in
    let n : c.value.result ≡ x.left = c.value.ensures.value ∙ c.left.ensures in
    let few = c.value.ensures.in_range in
    let at : c.len.result ≡ length i.takes.items = (let e = c.len.ensures in let o = i.takes.ok.0 in omega (arith, e, o)) in
    let r = c.add.ensures.room in
    let s = c.add-2.ensures.room in
    let p = c.push_reserved.ensures in
    let len = p.len in
    let cap = p.capacity in
    let ht = h.in_takes in
    let hp = h.in_places in
    let hs = h.in_sums in
    let q = c.requires in
    rw p.items (record {
      placed = placed_more i.takes.items x i.places.places.entries c.add.new.self.places.entries (λ k. c.add.ensures.found k ∙ rw (c.key.ensures, at) refl) h.placed;
      summed = sums_more used_on i.takes.items x (day_of x) x.left i.sums.amounts.entries c.add-2.new.self.amounts.entries (λ q. refl) (omega (arith, n, few)) (λ q. c.add-2.ensures.sums q ∙ rw (c.day.ensures, n) refl) h.summed;
      in_takes = omega (arith, len, cap, ht, q);
      in_places = omega (arith, r, hp, q);
      in_sums = omega (arith, s, hs, q);
    })
