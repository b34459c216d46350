use Rattle.std.proofs.Common.{◌≡◌, List, ◌<◌, ◌++◌, ◌∷◌, true, refl, ◌∙◌, length, take, drop, get_or, arith, rules}
use Rattle.std.proofs.lemmas.List.{length-take-le, get_or-take}
use Rattle.rank_rows.specs.declared.rank.Rank.{Rank}
use Rattle.rank_rows.specs.Ranks.{like_rows}
use Rattle.rank_cert.specs.Like.{AreLike}
use Rattle.rank_rows.proofs.Repeated.{ends_like}
use Rattle.rank_cert.proofs.Fresh.{with_all, are_shorter}
use Rattle.rank_cert.proofs.row.add_repeated.Goals as goal

pub returns-then-branch-clause-on : goal.returns-then-branch-clause-on
returns-then-branch-clause-on c =
    let old = c.args.cert.now in
    let row = c.args.row.now in
    let run = drop c.in-Some.place old in
    let count = c.read_ranks-count.result.0 in
    let ranks = c.read_ranks-count.new.ranks in
    let e = c.read_ranks-count.ensures in
    let here : c.rows_from-run.result.now ≡ run = search rules in
    let begins : c.begins_with_name.result ≡ true = search rules in
    let some : 0 < length run = rw here at (c.begins_with_name.ensures.some begins) in
    let named : (r : Rank) (rs : List Rank) → run ≡ r ∷ rs → r.node ≡ row.node = rw here at (c.begins_with_name.ensures.named begins) in
    let size : length ranks ≡ 64 = search rules in
    let more : 0 < length (take count ranks) = omega (arith, length-take-le count ranks (omega (arith, size, e.most)), e.some) in
    let rank : get_or (take count ranks) 0 0 ≡ row.rank = get_or-take count ranks 0 0 e.some ∙ (e.first ∙ search rules) in
    let like : AreLike c.args.text.now (drop 1 (like_rows run row.prefix (take count ranks))) c.read_ranks-count.result.1.now = rw (here, c.requires) at e.like in
    let whole : c.repeat_front.new.self ≡ old ++ like_rows run row.prefix (take count ranks) = c.in_ok-repeat_front.ensures.yes (rw c.if-branch.true refl) in
    with_all old c.repeat_front.new.self run row (take count ranks) c.args.text.now c.read_ranks-count.result.1.now c.repeat_front.ensures.good whole some more named rank like

pub returns-then-branch-clause-ends : goal.returns-then-branch-clause-ends
returns-then-branch-clause-ends c =
    let old = c.args.cert.now in
    let run = drop c.in-Some.place old in
    let count = c.read_ranks-count.result.0 in
    let ranks = c.read_ranks-count.new.ranks in
    let e = c.read_ranks-count.ensures in
    let here : c.rows_from-run.result.now ≡ run = search rules in
    let begins : c.begins_with_name.result ≡ true = search rules in
    let some : 0 < length run = rw here at (c.begins_with_name.ensures.some begins) in
    let size : length ranks ≡ 64 = search rules in
    let more : 0 < length (take count ranks) = omega (arith, length-take-le count ranks (omega (arith, size, e.most)), e.some) in
    rw (c.in_ok-repeat_front.ensures.yes (rw c.if-branch.true refl)) (ends_like old run c.args.row.now.prefix (take count ranks) some more)

pub returns-then-branch-clause-shorter : goal.returns-then-branch-clause-shorter
returns-then-branch-clause-shorter c = are_shorter c.args.text.now _ c.read_ranks-count.result.1.now c.read_ranks-count.ensures.like
