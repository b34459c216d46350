use Rattle.std.proofs.Common.{◌≡◌, ◌<◌, ◌++◌, length, get_or, Some, rules}
use Rattle.card_digits.specs.Reading.{name_of}
use Rattle.rank_cert.proofs.Ranked.{take-to-end}
use Rattle.rank_cert.proofs.LineFields.{named}
use Rattle.rank_cert.proofs.row.behind_name.Goals as goal

pub returns : goal.returns
returns c =
    let text = c.args.text.now in
    let name = c.args.name in
    let behind = c.in_ok-behind.behind.now in
    let is : name_of name ≡ Some name = search rules in
    let whole : text ≡ name ++ behind = search rules in
    let some : 0 < length behind = search rules in
    let at : get_or behind 0 0 ≡ 32 = search rules in
    rw (take-to-end behind 1) (named text name behind is whole some at)
