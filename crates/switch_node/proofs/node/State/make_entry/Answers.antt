use Rattle.std.proofs.Common.{◌≡◌, ◌<◌, ◌≤◌, List, [], ◌∷◌, length, map, reverse, true, false, nat_le, inl, inr, refl, sym, ap, ◌∙◌, subst, arith, if◌then◌else◌}
use Rattle.std.proofs.lemmas.Bool.{cases_Bool, leb-true, leb-false}
use Rattle.std.proofs.lemmas.List.{reverse-append, reverse-reverse, length-reverse}
use Rattle.network_law.specs.Entries.{Entry, spelled}
use Rattle.network_law.specs.Runs.{IsTyped}
use Rattle.node_books.specs.Effects.{progress, sent_in}
use Rattle.switch_node.specs.Node.{Does}
use Rattle.switch_node.proofs.Stepped.{Stepped, stepped, faulted, few_next, full}
use Rattle.switch_node.proofs.node.State.make_entry.Goals as goal

not_full : (entries : List Entry) → length entries < 1000000 → nat_le 1000000 (length (reverse entries)) ≡ false
not_full entries p = rw (length-reverse entries) (elim (cases_Bool (nat_le 1000000 (length entries))) [ inl t ↦ absurd (omega (arith, leb-true 1000000 (length entries) t, p)) | inr f ↦ f ])

pub commit-requires : goal.commit-requires
commit-requires c =
    let t = c.args.tables.now in
    let n = c.args.self.now.node in
    let trace : List Entry = reverse c.args.self.now.trace.items in
    let does : Does t n c.args.input c.args.self.now.draft c.step.new.draft = c.in_default.ensures.ok in
    record { few = few_next t n trace c.args.self.now.draft.base (Does.read does) (progress c.step.new.draft) c.requires.is_node.given (not_full c.args.self.now.trace.items (omega (arith, ap length c.as_slice.ensures.value))) (Does.done does) }

made : (c : goal.After-push_reserved) → Stepped c.args.tables.now c.args.self.now.node (reverse c.args.self.now.trace.items) (record { input = c.args.input; outputs = c.in-Ok-commit.outputs }) (progress c.step.new.draft).lists
made c =
    let t = c.args.tables.now in
    let n = c.args.self.now.node in
    let trace : List Entry = reverse c.args.self.now.trace.items in
    let does : Does t n c.args.input c.args.self.now.draft c.step.new.draft = c.in_default.ensures.ok in
    let room : nat_le 1000000 (length trace) ≡ false = not_full c.args.self.now.trace.items (omega (arith, ap length c.as_slice.ensures.value)) in
    let own = c.requires.own in
    stepped t n trace c.args.self.now.draft.base (record { input = c.args.input; outputs = c.in-Ok-commit.outputs }) (Does.read does) (progress c.step.new.draft) c.requires.is_node.given own (subst IsTyped c.input.view_is c.input.invariant) (Does.reads does) room (Does.accepted does) (Does.done does) (c.in-Ok-commit.ensures.outs ∙ ap (map spelled) (sym (reverse-reverse (sent_in c.step.new.draft.effects))))

pub returns-clause-is_node : goal.returns-clause-is_node
returns-clause-is_node c = rw (c.push_reserved.ensures.items, c.reserve.ensures.items, c.new.ensures, reverse-append c.args.self.now.trace.items (record { input = c.args.input; outputs = c.in-Ok-commit.outputs } ∷ []), c.in-Ok-commit.ensures.done) (record { given = Stepped.given (made c); empty = refl })

pub returns-clause-accepted : goal.returns-clause-accepted
returns-clause-accepted c = (Stepped.accepted (made c))

pub returns-clause-entry : goal.returns-clause-entry
returns-clause-entry c =
    (rw (c.push_reserved.ensures.items, c.reserve.ensures.items, c.new.ensures, reverse-append c.args.self.now.trace.items (record { input = c.args.input; outputs = c.in-Ok-commit.outputs } ∷ []))
    (ap (λ z. record { input = c.args.input; outputs = z } ∷ reverse c.args.self.now.trace.items) (Stepped.outputs (made c))))

pub returns-clause-lent : goal.returns-clause-lent
returns-clause-lent c = (c.in-Ok.ensures.ok ∙ ap (λ z. if c.args.lends then z else []) (sym c.in-Ok-commit.ensures.outs ∙ Stepped.outputs (made c)))

pub returns-in-Err-clause-fault : goal.returns-in-Err-clause-fault
returns-in-Err-clause-fault c =
    let t = c.args.tables.now in
    let n = c.args.self.now.node in
    let room = not_full c.args.self.now.trace.items (omega (arith, ap length c.as_slice.ensures.value)) in
    let own = c.requires.own in
    elim (c.in-Err.ensures.fault) [
      | inl m ↦ inl m
      | inr e ↦ inr ((faulted t n (reverse c.args.self.now.trace.items) c.args.self.now.draft.base c.args.input c.in-Err.fault c.requires.is_node.given own room e))
    ]

is_full : (entries : List Entry) → 1000000 ≤ length entries → nat_le 1000000 (length (reverse entries)) ≡ true
is_full entries p = rw (length-reverse entries) (elim (cases_Bool (nat_le 1000000 (length entries))) [ inl t ↦ t | inr f ↦ absurd (omega (arith, leb-false 1000000 (length entries) f, p)) ])

pub returns-then-as_slice-ge-MOST-clause-fault : goal.returns-then-as_slice-ge-MOST-clause-fault
returns-then-as_slice-ge-MOST-clause-fault c = inr ((full c.args.tables.now c.args.self.now.node (reverse c.args.self.now.trace.items) c.args.input (is_full c.args.self.now.trace.items (omega (arith, ap length c.as_slice.ensures.value)))))
