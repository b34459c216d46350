use Rattle.std.proofs.Common.{◌≤◌, ◌<◌, ◌^◌, length, arith, lit<}
use Rattle.std.proofs.Math.Nat.{pow-le-pow_right}
use Rattle.run_plan.proofs.line.number_of.Goals as goal

pub returns-clause-bound : goal.returns-clause-bound
returns-clause-bound c =
    let ten : 0 < 10 = lit< tt in
    let few : length c.args.text.now ≤ c.args.digits = omega arith in
    let most : 10 ^ length c.args.text.now ≤ 10 ^ c.args.digits = pow-le-pow_right ten {i = length c.args.text.now} {j = c.args.digits} few in
    omega (arith, c.decimal.ensures.bound, most)
