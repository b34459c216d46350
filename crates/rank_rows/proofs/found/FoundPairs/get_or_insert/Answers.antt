use Rattle.std.proofs.Common.{◌<◌, length, sym, ◌∙◌, rules}
use Rattle.rank_rows.proofs.ByName.{at_name, at_none, put_results, kept_results, beside_results, beside_err, old_results, name_added, apart_added}
use Rattle.rank_rows.proofs.found.FoundPairs.get_or_insert.Goals as goal

pub returns-in-Some-clause-old : goal.returns-in-Some-clause-old
returns-in-Some-clause-old c =
    let i = c.self.inside in
    let there = rw c.deref.ensures.value at c.in-Some.ensures in
    rw (← c.self.view_is) (old_results _ _ c.put_in.result (sym (at_name i.names.items i.others.entries c.args.pair c.in-Some.at there (λ j h. c.self.invariant.single c.args.pair.node j c.in-Some.at h there))) c.put_in.ensures.old)

pub returns-in-Some-clause-updates : goal.returns-in-Some-clause-updates
returns-in-Some-clause-updates c =
    let i = c.self.inside in
    let there = rw c.deref.ensures.value at c.in-Some.ensures in
    rw (← c.self.view_is) (put_results i.names.items c.put_in.new.names.items i.others.entries c.args.pair c.in-Some.at c.args.found c.put_in.result c.self.invariant there c.put_in.ensures.names c.put_in.ensures.here c.put_in.ensures.others)

pub returns-in-Some-clause-err : goal.returns-in-Some-clause-err
returns-in-Some-clause-err c =
    let i = c.self.inside in
    rw (← c.self.view_is) (kept_results i.names.items c.put_in.new.names.items i.others.entries c.in-Some.at c.put_in.result c.put_in.ensures.names c.put_in.ensures.err c.put_in.ensures.others)

pub returns-then-place-ge-MOST_NAMES-clause-old : goal.returns-then-place-ge-MOST_NAMES-clause-old
returns-then-place-ge-MOST_NAMES-clause-old c =
    let i = c.self.inside in
    let none = rw c.deref.ensures.value at c.in_default.ensures in
    rw (← c.self.view_is) (old_results _ _ c.put_beside.result (sym (at_none i.names.items i.others.entries c.args.pair none)) c.put_beside.ensures.old)

pub returns-then-place-ge-MOST_NAMES-clause-updates : goal.returns-then-place-ge-MOST_NAMES-clause-updates
returns-then-place-ge-MOST_NAMES-clause-updates c =
    let i = c.self.inside in
    let none = rw c.deref.ensures.value at c.in_default.ensures in
    rw (← c.self.view_is) (beside_results i.names.items i.others.entries c.put_beside.new.others.entries c.args.pair c.args.found c.put_beside.result none c.put_beside.ensures.updates)

pub returns-then-place-ge-MOST_NAMES-clause-err : goal.returns-then-place-ge-MOST_NAMES-clause-err
returns-then-place-ge-MOST_NAMES-clause-err c =
    let i = c.self.inside in
    rw (← c.self.view_is) (beside_err i.names.items i.others.entries c.put_beside.new.others.entries c.put_beside.result c.put_beside.ensures.err)

pub invariant_of-self-2 : goal.invariant_of-self-2
invariant_of-self-2 c =
    let i = c.self.inside in
    let none = rw c.deref.ensures.value at c.in_default.ensures in
    rw c.in_ok-push.ensures.items (apart_added i.names.items c.in_ok-name.name i.others.entries c.args.pair c.self.invariant none c.in_ok-name.ensures.node)

pub returns-clause-old : goal.returns-clause-old
returns-clause-old c =
    let i = c.self.inside in
    let none = rw c.deref.ensures.value at c.in_default.ensures in
    let less : length i.names.items < 64 = search rules in
    rw (← c.self.view_is) (sym (at_none i.names.items i.others.entries c.args.pair none ∙ c.self.invariant.few less c.args.pair))

pub returns-clause-updates : goal.returns-clause-updates
returns-clause-updates c =
    let i = c.self.inside in
    let none = rw c.deref.ensures.value at c.in_default.ensures in
    let less : length i.names.items < 64 = search rules in
    rw (← c.self.view_is, c.in_ok-push.ensures.items) (name_added i.names.items c.in_ok-name.name i.others.entries c.args.pair c.args.found c.self.invariant less none c.in_ok-name.ensures.node c.in_ok-name.ensures.found)
