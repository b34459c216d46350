use Rattle.std.proofs.Common.{◌≡◌, ◌<◌, ◌+◌, ℕ, List, false, not, nat_le, length, rules, sym, ap, ◌∙◌, arith}
use Rattle.std.proofs.lemmas.Bool.{not-true, not-false}
use Rattle.std.proofs.lemmas.Bool.Decides.{nat_tests}
use Rattle.std.specs.FinSet as set
use Rattle.named_rows.specs.Masks.{mask_of, has_node, prefixes_of, sets_from}
use Rattle.named_rows.specs.Rows.{PrefixSet, prefixes_at, taken_in}
use Rattle.named_rows.proofs.Again.{on_err, insert_again}
use Rattle.named_rows.proofs.Sets.{len_more}
use Rattle.named_rows.proofs.Masks.{sets_length, sets_same, sets_put, at_node, counted_same, counted_put, counted_at, has_prefix, kept_prefixes, again_prefixes, own_prefixes, other_prefixes}
use Rattle.named_rows.proofs.node_prefixes.NodePrefixes.insert.Goals as goal

few : (n : ℕ) → nat_le 4096 n ≡ false → n < 4096
few n room = grind (arith, nat_tests)

-- what the set of a node has, by the masks
has_at : (masks : List (List ℕ × ℕ)) (cs : List ℕ) (i : ℕ) (p : List ℕ) → i < length cs → (taken_in (sets_from masks 0 cs) i).has p ≡ has_node i (mask_of p masks)
unfolding taken_in
has_at masks cs i p lt = ap (λ (s : PrefixSet). set.contains s p) (at_node masks cs i lt) ∙ has_prefix masks i p

few_at : (masks : List (List ℕ × ℕ)) (cs : List ℕ) (i n : ℕ) → nat_le 4096 (taken_in (sets_from masks 0 cs) i).count ≡ false → n ≡ set.len (prefixes_at (sets_from masks 0 cs) i) → n < 4096
unfolding taken_in
few_at masks cs i n room is = few n (rw is room)

pub invariant_of-self : goal.invariant_of-self
invariant_of-self c =
    let i = c.self.inside in
    counted_same i.masks.entries c.add_node.new.masks.entries 0 i.counts.items (kept_prefixes i.masks.entries c.add_node.new.masks.entries c.in_err-is_new.ensures.stays) c.self.invariant

pub returns-in_err-is_new-clause-stays : goal.returns-in_err-is_new-clause-stays
returns-in_err-is_new-clause-stays c =
    let i = c.self.inside in
    on_err c.from_residual.result (sets_same i.masks.entries c.add_node.new.masks.entries 0 i.counts.items (kept_prefixes i.masks.entries c.add_node.new.masks.entries c.in_err-is_new.ensures.stays) ∙ c.self.view_is)

pub index_mut-requires : goal.index_mut-requires
index_mut-requires c =
    let i = c.self.inside in
    let len = sets_length i.masks.entries 0 i.counts.items in
    let node : c.args.node < length (sets_from i.masks.entries 0 i.counts.items) = rw (← c.self.view_is) at c.requires.within in
    let place = c.place.ensures.place in
    omega arith

pub overflow_add-index_mut : goal.overflow_add-index_mut
overflow_add-index_mut c =
    let i = c.self.inside in
    let len = sets_length i.masks.entries 0 i.counts.items in
    let node : c.args.node < length (sets_from i.masks.entries 0 i.counts.items) = rw (← c.self.view_is) at c.requires.within in
    let within : c.args.node < length i.counts.items = omega arith in
    let count = rw c.place.ensures.place at c.index_mut.ensures.value ∙ counted_at i.masks.entries i.counts.items c.args.node c.index_mut.result.now c.self.invariant within in
    let less = few_at i.masks.entries i.counts.items c.args.node c.index_mut.result.now (rw (← c.self.view_is) at c.requires.room) count in
    search rules

pub invariant_of-self-then-is_new : goal.invariant_of-self-then-is_new
invariant_of-self-then-is_new c =
    let i = c.self.inside in
    let old = i.masks.entries in
    let new = c.add_node.new.masks.entries in
    let len = sets_length i.masks.entries 0 i.counts.items in
    let node : c.args.node < length (sets_from i.masks.entries 0 i.counts.items) = rw (← c.self.view_is) at c.requires.within in
    let within : c.args.node < length i.counts.items = omega arith in
    let count = rw c.place.ensures.place at c.index_mut.ensures.value ∙ counted_at i.masks.entries i.counts.items c.args.node c.index_mut.result.now c.self.invariant within ∙ ap set.len (at_node old i.counts.items c.args.node within) in
    let absent : set.contains (prefixes_of old c.args.node) c.args.prefix ≡ false = has_prefix old c.args.node c.args.prefix ∙ not-true (has_node c.args.node (mask_of c.args.prefix old)) (sym c.in_ok-is_new.ensures.new ∙ c.if-is_new.true) in
    let own = own_prefixes old new c.args.prefix c.args.node c.in_ok-is_new.ensures.nodes in
    let more : c.index_mut.result.now + 1 ≡ set.len (prefixes_of new c.args.node) = ap (λ n. n + 1) count ∙ sym (ap set.len own ∙ len_more (prefixes_of old c.args.node) c.args.prefix absent) in
    rw c.place.ensures.place (counted_put old new i.counts.items c.args.node (c.index_mut.result.now + 1) within more (other_prefixes old new c.args.prefix c.args.node c.in_ok-is_new.ensures.nodes) c.self.invariant)

pub invariant_of-self-else-is_new : goal.invariant_of-self-else-is_new
invariant_of-self-else-is_new c =
    let i = c.self.inside in
    let old = i.masks.entries in
    let new = c.add_node.new.masks.entries in
    let had = not-false (has_node c.args.node (mask_of c.args.prefix old)) (sym c.in_ok-is_new.ensures.new ∙ c.if-is_new.false) in
    counted_same old new 0 i.counts.items (again_prefixes old new c.args.prefix c.args.node c.in_ok-is_new.ensures.nodes had) c.self.invariant

pub returns-then-is_new-clause-new : goal.returns-then-is_new-clause-new
returns-then-is_new-clause-new c =
    let i = c.self.inside in
    let len = sets_length i.masks.entries 0 i.counts.items in
    let node : c.args.node < length (sets_from i.masks.entries 0 i.counts.items) = rw (← c.self.view_is) at c.requires.within in
    let within : c.args.node < length i.counts.items = omega arith in
    rw (← c.self.view_is) (c.in_ok-is_new.ensures.new ∙ ap not (sym (has_at i.masks.entries i.counts.items c.args.node c.args.prefix within)))

pub returns-then-is_new-clause-set : goal.returns-then-is_new-clause-set
returns-then-is_new-clause-set c =
    let i = c.self.inside in
    let old = i.masks.entries in
    let new = c.add_node.new.masks.entries in
    let len = sets_length i.masks.entries 0 i.counts.items in
    let node : c.args.node < length (sets_from i.masks.entries 0 i.counts.items) = rw (← c.self.view_is) at c.requires.within in
    let within : c.args.node < length i.counts.items = omega arith in
    let own = own_prefixes old new c.args.prefix c.args.node c.in_ok-is_new.ensures.nodes ∙ sym (ap (λ (s : PrefixSet). set.insert s c.args.prefix) (at_node old i.counts.items c.args.node within)) in
    rw (← c.self.view_is, c.place.ensures.place) (sets_put old new i.counts.items c.args.node (c.index_mut.result.now + 1) _ within own (other_prefixes old new c.args.prefix c.args.node c.in_ok-is_new.ensures.nodes))

pub returns-else-is_new-clause-new : goal.returns-else-is_new-clause-new
returns-else-is_new-clause-new c =
    let i = c.self.inside in
    let len = sets_length i.masks.entries 0 i.counts.items in
    let node : c.args.node < length (sets_from i.masks.entries 0 i.counts.items) = rw (← c.self.view_is) at c.requires.within in
    let within : c.args.node < length i.counts.items = omega arith in
    rw (← c.self.view_is) (c.in_ok-is_new.ensures.new ∙ ap not (sym (has_at i.masks.entries i.counts.items c.args.node c.args.prefix within)))

pub returns-else-is_new-clause-set : goal.returns-else-is_new-clause-set
returns-else-is_new-clause-set c =
    let i = c.self.inside in
    let old = i.masks.entries in
    let new = c.add_node.new.masks.entries in
    let len = sets_length i.masks.entries 0 i.counts.items in
    let node : c.args.node < length (sets_from i.masks.entries 0 i.counts.items) = rw (← c.self.view_is) at c.requires.within in
    let within : c.args.node < length i.counts.items = omega arith in
    let had = not-false (has_node c.args.node (mask_of c.args.prefix old)) (sym c.in_ok-is_new.ensures.new ∙ c.if-is_new.false) in
    rw (← c.self.view_is) (sets_same old new 0 i.counts.items (again_prefixes old new c.args.prefix c.args.node c.in_ok-is_new.ensures.nodes had)
    ∙ sym (insert_again (sets_from old 0 i.counts.items) c.args.node c.args.prefix node (has_at old i.counts.items c.args.node c.args.prefix within ∙ had)))
