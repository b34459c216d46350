use Rattle.std.proofs.Common.{◌≡◌, ◌+◌, ◌≤◌, [], length, drop, append-nil, rules}
use Rattle.rank_rows.specs.Ranks.{like_rows}
use Rattle.rank_rows.proofs.Repeated.{like_end}
use Rattle.rank_rows.proofs.runs.repeat_names.Goals as goal

pub returns : goal.returns
returns c =
    let ranks = c.args.ranks.now in
    let all : length ranks ≤ c.loop-i.i = search rules in
    let none : like_rows (drop (c.args.place + c.loop-i.i) c.args.rows.now.items) c.args.prefix (drop c.loop-i.i ranks) ≡ [] = like_end _ c.args.prefix ranks c.loop-i.i all in
    rw (none, append-nil) at c.loop-i.invariant.rows
