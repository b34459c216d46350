use Rattle.std.proofs.Common.{[], ◌∷◌, ◌++◌, ◌^◌, ℕ, max, min, ap, sym, ◌∙◌}
use Rattle.advice_slots.specs.Items.{SlotsView}
use Rattle.advice_store.proofs.store.push_at.Goals as goal

pub returns-clause-items : goal.returns-clause-items
returns-clause-items c =
    let old = c.args.slots.now in
    let held = c.args.held in
    let x = c.catch_up.new.self in
    let n = c.push.new.self in
    let p = c.push.ensures.items in
    let F : SlotsView → ℕ → SlotsView = λ v k. record { items = v.items ++ held ∷ []; ticks = v.ticks; count = v.count; visits = k; room = n.room } in
    let G : ℕ → SlotsView = λ k. record { items = old.items ++ held ∷ []; ticks = old.ticks; count = max old.count (min held.count (2 ^ 63)); visits = k; room = n.room } in
    p ∙ (ap (λ (v : SlotsView). F v x.visits) c.catch_up.ensures ∙ ap G (sym (ap (λ (v : SlotsView). v.visits) p)))
