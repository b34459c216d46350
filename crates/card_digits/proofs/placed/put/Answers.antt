use Rattle.std.proofs.Common.{rules, ◌+◌, ◌-◌, arith, length}
use Rattle.std.proofs.lemmas.Slice.{drop-put_mid}
use Rattle.card_digits.proofs.placed.put.Goals as goal

pub returns-clause-behind : goal.returns-clause-behind
returns-clause-behind c =
    let end = c.args.at + length c.args.bytes.now in
    drop-put_mid c.args.at (end - c.args.at) c.args.row.now c.copy_from_slice.new.self end (omega arith) (search rules) (search rules)
