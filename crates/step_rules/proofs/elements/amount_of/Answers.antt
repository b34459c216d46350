use Rattle.std.proofs.Common.{◌≤◌, ◌<◌, ◌^◌, length, arith, lit<}
use Rattle.std.proofs.Math.Nat.{pow-le-pow_right}
use Rattle.step_rules.proofs.Values.{amount_few}
use Rattle.step_rules.proofs.elements.amount_of.Goals as goal

pub decimal-requires-clause-digits : goal.decimal-requires-clause-digits
decimal-requires-clause-digits c = rw c.bytes_of.ensures (amount_few c.args.message.now c.kind.ensures.is_message).digits

pub decimal-requires-clause-few : goal.decimal-requires-clause-few
decimal-requires-clause-few c = let h = (amount_few c.args.message.now c.kind.ensures.is_message).few in rw c.bytes_of.ensures (omega arith)

pub new-requires : goal.new-requires
new-requires c =
    let few : length c.bytes_of.result.now ≤ 12 = let h = (amount_few c.args.message.now c.kind.ensures.is_message).few in rw c.bytes_of.ensures h in
    let ten : 0 < 10 = lit< tt in
    let most : 10 ^ length c.bytes_of.result.now ≤ 10 ^ 12 = pow-le-pow_right ten {i = length c.bytes_of.result.now} {j = 12} few in
    omega arith
