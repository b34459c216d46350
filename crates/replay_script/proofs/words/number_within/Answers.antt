use Rattle.std.proofs.Common.{◌≤◌, ◌<◌, ◌^◌, length, arith, lit<}
use Rattle.std.proofs.Math.Nat.{pow-le-pow_right}
use Rattle.replay_script.proofs.words.number_within.Goals as goal

pub returns-clause-bound : goal.returns-clause-bound
returns-clause-bound c =
    let ten : 0 < 10 = lit< tt in
    let few : length c.args.text.now ≤ c.args.most = omega arith in
    let most : 10 ^ length c.args.text.now ≤ 10 ^ c.args.most = pow-le-pow_right ten {i = length c.args.text.now} {j = c.args.most} few in
    omega (arith, c.decimal.ensures.bound, most)
