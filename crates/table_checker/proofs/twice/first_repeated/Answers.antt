use Rattle.std.proofs.Common.{rules, ◌≡◌, ◌<◌, ◌==◌, ℕ, List, true, false, length, take, sym, ◌∙◌}
use Rattle.std.specs.List.{list_any}
use Rattle.std.specs.Cmp.Lexicographic.{pointwise}
use Rattle.table_checker.proofs.Repeats.{repeated_found, repeated_on}
use Rattle.table_checker.proofs.twice.first_repeated.Goals as goal

pub returns-then-is_among : goal.returns-then-is_among
returns-then-is_among c =
    let ids : List (List ℕ) = c.args.ids.now in
    let x : List ℕ = c.index-ids-i.result in
    let within : c.loop-i.i < length ids = search rules in
    let among : list_any (λ (y : List ℕ). pointwise ◌==◌ y x) (take c.loop-i.i ids) ≡ true = search rules in
    sym (repeated_found ids c.loop-i.i x within c.index-ids-i.is among) ∙ c.loop-i.invariant

pub loop-i-preserved : goal.loop-i-preserved
loop-i-preserved c =
    let ids : List (List ℕ) = c.args.ids.now in
    let x : List ℕ = c.index-ids-i.result in
    let within : c.loop-i.i < length ids = search rules in
    let apart : list_any (λ (y : List ℕ). pointwise ◌==◌ y x) (take c.loop-i.i ids) ≡ false = search rules in
    repeated_on ids c.loop-i.i x within c.index-ids-i.is apart ∙ c.loop-i.invariant
