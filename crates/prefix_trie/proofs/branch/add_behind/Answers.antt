use Rattle.std.proofs.Common.{◌≡◌, ◌<◌, ◌+◌, length, ◌∙◌, arith}
use Rattle.prefix_trie.proofs.Same.{same_grown, nothing_past, no_row_past, other_place}
use Rattle.prefix_trie.proofs.branch.add_behind.Goals as goal

pub returns-clause-same : goal.returns-clause-same
returns-clause-same c =
    let old = c.args.branches.now.items in
    let within : c.args.at < length old = c.requires.within in
    let len : length c.link.new.branches.items ≡ length old + 1 = c.link.ensures.len ∙ c.in_ok-push_bare.ensures.len in
    same_grown old c.link.new.branches.items c.args.at c.args.digit c.requires.tree
    (record {
      was = c.requires.free;
      now = omega (arith, c.link.ensures.now);
      some = λ z. omega arith;
      leaf = λ e. c.link.ensures.others (length old) e (other_place (length old) c.args.at e c.args.digit within) ∙ c.push_bare.ensures.behind (length old) e ∙ nothing_past old e;
      others = λ s e no'. c.link.ensures.others s e no' ∙ c.push_bare.ensures.behind s e;
    })
    (λ i. c.link.ensures.rows i ∙ c.push_bare.ensures.rows i) len (no_row_past old)
