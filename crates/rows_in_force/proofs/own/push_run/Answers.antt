use Rattle.std.proofs.Common.{◌≡◌, ◌+◌, ◌-◌, ◌∷◌, ◌++◌, [], Some, suc, arith, ap, sym, ◌∙◌, append_assoc}
use Rattle.rows_in_force.specs.Own.{places_from}
use Rattle.rows_in_force.proofs.Made.{places_more}
use Rattle.rows_in_force.proofs.own.push_run.Goals as goal

pub loop-next-preserved : goal.loop-next-preserved
loop-next-preserved c =
    let place = c.args.place in
    let next = c.loop-next.next in
    let before = c.args.before.now.items in
    let from = c.loop-next.invariant.from in
    let here : place + (next - place) ≡ next = omega (arith, from) in
    let one : suc (next - place) ≡ next + 1 - place = omega (arith, from) in
    record {
      from = omega (arith, from);
      items =
          c.in_ok-push-2.ensures.items
          ∙ (ap (λ xs. xs ++ Some next ∷ []) c.loop-next.invariant.items
          ∙ (append_assoc before (c.args.earlier ∷ places_from place (next - place)) (Some next ∷ [])
          ∙ ap (λ xs. before ++ c.args.earlier ∷ xs) (ap (λ n. places_from place (next - place) ++ Some n ∷ []) (sym here) ∙ (places_more place (next - place) ∙ ap (places_from place) one))));
    }
