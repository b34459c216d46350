use Rattle.std.proofs.Common.{◌≡◌, ◌++◌, ◌∙◌, rules}
use Rattle.all_refusals.proofs.Adding.{joined}
use Rattle.all_refusals.proofs.lists.Lists.joined.Goals as goal

pub returns : goal.returns
returns c =
    let found = c.args.self in
    let one : c.extend_from_slice.new.self.items ≡ found.no_rank.items ++ found.not_less.items = search rules in
    let two : c.extend_from_slice-2.new.self.items ≡ (found.no_rank.items ++ found.not_less.items) ++ found.not_named.items = search rules in
    let three : c.extend_from_slice-3.new.self.items ≡ ((found.no_rank.items ++ found.not_less.items) ++ found.not_named.items) ++ found.over_ceiling.items = search rules in
    let all : c.extend_from_slice-4.new.self.items ≡ (((found.no_rank.items ++ found.not_less.items) ++ found.not_named.items) ++ found.over_ceiling.items) ++ found.no_issuer.items = search rules in
    all ∙ joined found.no_rank.items found.not_less.items found.not_named.items found.over_ceiling.items found.no_issuer.items
