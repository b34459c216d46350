-- Messages as they come.
use Rattle.std.proofs.Common.{◌≡◌, ℕ, Some, List, [], ◌∷◌, ◌++◌, filter, not, Bool, true, false, refl, sym, ap, subst, ◌∙◌}
use Rattle.std.specs.Prelude.{◌&&◌, bytes_eq}
use Rattle.message_elements.specs.declared.kind.Kind.{Kind}
use Rattle.message_elements.specs.declared.kind.Kind.TheVariants.{K0100, K0101, K0110, K0120, K0121, K0130, K0400, K0401, K0410, K0420, K0421, K0430}
use Rattle.message_elements.specs.declared.kind.Group.TheVariants as groups
use Rattle.message_keys.specs.declared.keys.AdviceId.{AdviceId}
use Rattle.advice_store.specs.Advices.{has_id}
use Rattle.card_digits.specs.declared.key.Key.{Key}
use Rattle.iso_message.specs.Fields.{Fields}
use Rattle.message_elements.specs.Groups.{group, is_request}
use Rattle.message_keys.specs.Keys.{key_of, identity_of, code_of}
use Rattle.message_elements.specs.Codes.{code_00}
use Rattle.net_rows.specs.Network.{Network}
use Rattle.network_law.specs.Cards.{Bytes}
use Rattle.network_law.specs.Traces as messages
use Rattle.network_law.specs.Traces.{Source, ByLink, Handled}
use Rattle.node_machine.specs.Lists.{Lists, Row, view, new_row}
use Rattle.iso_message.specs.Made.{without_forwarder}
use Rattle.node_machine.specs.Books.{Stored, Advised, Granted}
use Rattle.node_machine.specs.Machine as machine
use Rattle.step_draft.specs.Used.{IsQuiet}
use Rattle.message_steps.proofs.Stays.{stays, zero_plus}
use Rattle.node_machine.specs.Steps as steps
use Rattle.node_machine.specs.Steps.{Progress}
use Rattle.node_books.specs.declared.effect.Effect.TheVariants as effects
use Rattle.node_books.specs.Effects.{Drafted, progress, with_effect}
use Rattle.message_steps.specs.Coming.{on_code_by, opened_start}

empty_at : (d : Drafted) → d.effects ≡ [] → progress d ≡ record { lists = d.base; outs = [] }
empty_at d e = ap (λ es. progress (record { base = d.base; effects = es })) e

pub opens_none : (d : Drafted) (m : Fields) (src : Source) → d.effects ≡ [] → is_request m.kind ≡ false → progress d ≡ opened_start d.base (record { message = m; source = src })
opens_none d m src e f = empty_at d e ∙ sym (rw f refl)

opened_one : (x : Lists) (m : Fields) (src : Source) → is_request m.kind ≡ true → progress (record { base = x; effects = effects.Opened (new_row x.count (record { message = m; source = src })) ∷ [] }) ≡ opened_start x (record { message = m; source = src })
opened_one x m src e = rw e refl

pub opens : (d d' : Drafted) (m : Fields) (src : Source) (r : Row) → d.effects ≡ [] → is_request m.kind ≡ true → r ≡ new_row d.base.count (record { message = m; source = src }) → d' ≡ with_effect (effects.Opened r) d → progress d' ≡ opened_start d.base (record { message = m; source = src })
opens d d' m src r e f is g =
    ap progress g
    ∙ (ap (λ z. progress (with_effect (effects.Opened z) d)) is
    ∙ (ap (λ es. progress (record { base = d.base; effects = es ++ effects.Opened (new_row d.base.count (record { message = m; source = src })) ∷ [] })) e
    ∙ opened_one d.base m src f))

pub answer_coded : (t : Network) (n : ℕ) (x : Lists) (m : Fields) (l : ℕ) (k : Key) (c : Bytes) (d : Progress) → k ≡ key_of m → c ≡ code_of m → on_code_by t n (view t n x) k c (Some l) d ≡ steps.on_answer t n (view t n x) m (ByLink l) d
answer_coded t n x m l k c d ek ec = ap (λ z. on_code_by t n (view t n x) z c (Some l) d) ek ∙ ap (λ z. on_code_by t n (view t n x) (key_of m) z (Some l) d) ec

-- entered

pub opened_quiet : (x y : Lists) (h : Handled) (p : Progress) → y ≡ x → p ≡ opened_start x h → IsQuiet y p.lists
opened_quiet x y h p e f = subst (λ (z : Lists). IsQuiet z p.lists) (sym e) (subst (λ (z : Progress). IsQuiet x z.lists) (sym f) (record { marks = refl; loans = refl; borrowed = refl }))

enter_acks : (m : Fields) (a : Stored) → machine.acks (messages.Enter m) a ≡ false
enter_acks m (Advised a) = refl
enter_acks m (Granted g) = refl

entered_start : (t : Network) (n : ℕ) (x : Lists) (m : Fields) → opened_start x (record { message = messages.dated x.date (without_forwarder m); source = messages.Gate }) ≡ steps.start t n (messages.Enter m) x
entered_start t n x m = sym (rw (stays (messages.Enter m) (enter_acks m) x.store, zero_plus x.count) refl)

pub enter_steps : (t : Network) (n : ℕ) (x y : Lists) (m h : Fields) (p p' : Progress) → h ≡ messages.dated x.date (without_forwarder m) → p ≡ opened_start x (record { message = h; source = messages.Gate }) → y ≡ x → p' ≡ steps.on_group t n (view t n y) h messages.Gate (group h.kind) p → p' ≡ steps.step t n x (messages.Enter m)
unfolding steps.step
enter_steps t n x y m h p p' eh e1 ey e2 =
    e2
    ∙ (ap (λ (z : Lists). steps.on_group t n (view t n z) h messages.Gate (group h.kind) p) ey
    ∙ (ap (λ z. steps.on_group t n (view t n x) h messages.Gate (group h.kind) z) e1
    ∙ (ap (λ (z : Fields). steps.on_group t n (view t n x) z messages.Gate (group z.kind) (opened_start x (record { message = z; source = messages.Gate }))) eh
    ∙ ap (λ z. steps.on_group t n (view t n x) (messages.dated x.date (without_forwarder m)) messages.Gate (group (messages.dated x.date (without_forwarder m)).kind) z) (entered_start t n x m))))

-- taken

take_acks : (l s : ℕ) (m : Fields) → (messages.is_ack (group m.kind) && bytes_eq (code_of m) code_00) ≡ false → (a : Stored) → machine.acks (messages.Take l s m) a ≡ false
take_acks l s m e (Advised a) = rw e refl
take_acks l s m e (Granted g) = refl

taken_start : (t : Network) (n : ℕ) (x : Lists) (l s : ℕ) (m : Fields) → (messages.is_ack (group m.kind) && bytes_eq (code_of m) code_00) ≡ false → opened_start x (record { message = m; source = ByLink l }) ≡ steps.start t n (messages.Take l s m) x
taken_start t n x l s m e = sym (rw (stays (messages.Take l s m) (take_acks l s m e) x.store, zero_plus x.count) refl)

pub take_steps : (t : Network) (n : ℕ) (x y : Lists) (l s : ℕ) (m : Fields) (p p' : Progress) → (messages.is_ack (group m.kind) && bytes_eq (code_of m) code_00) ≡ false → p ≡ opened_start x (record { message = m; source = ByLink l }) → y ≡ x → p' ≡ steps.on_group t n (view t n y) m (ByLink l) (group m.kind) p → p' ≡ steps.step t n x (messages.Take l s m)
unfolding steps.step
take_steps t n x y l s m p p' plain e1 ey e2 =
    e2
    ∙ (ap (λ (z : Lists). steps.on_group t n (view t n z) m (ByLink l) (group m.kind) p) ey
    ∙ (ap (λ z. steps.on_group t n (view t n x) m (ByLink l) (group m.kind) z) e1
    ∙ ap (λ z. steps.on_group t n (view t n x) m (ByLink l) (group m.kind) z) (taken_start t n x l s m plain)))

-- acknowledged

ack_kind : (k : Kind) → messages.is_ack (group k) ≡ true → (is_request k ≡ false) × (group k ≡ groups.AdviceResponse)
ack_kind K0130 e = (refl, refl)
ack_kind K0430 e = (refl, refl)
ack_kind K0100 e = cc
ack_kind K0101 e = cc
ack_kind K0110 e = cc
ack_kind K0120 e = cc
ack_kind K0121 e = cc
ack_kind K0400 e = cc
ack_kind K0401 e = cc
ack_kind K0410 e = cc
ack_kind K0420 e = cc
ack_kind K0421 e = cc

and_left : (a b : Bool) → (a && b) ≡ true → a ≡ true
and_left true b e = refl
and_left false b e = cc

acked_store : (l s : ℕ) (m : Fields) → (messages.is_ack (group m.kind) && bytes_eq (code_of m) code_00) ≡ true → (xs : List Stored) → filter (λ a. not (has_id (identity_of m) a)) xs ≡ filter (λ a. not (machine.acks (messages.Take l s m) a)) xs
acked_store l s m e [] = refl
acked_store l s m e (Advised a ∷ xs) = rw (e, acked_store l s m e xs) refl
acked_store l s m e (Granted g ∷ xs) = ap (λ z. Granted g ∷ z) (acked_store l s m e xs)

acked_one : (t : Network) (n : ℕ) (x : Lists) (l s : ℕ) (m : Fields) → (messages.is_ack (group m.kind) && bytes_eq (code_of m) code_00) ≡ true → progress (record { base = x; effects = effects.Acknowledged (identity_of m) ∷ [] }) ≡ steps.step t n x (messages.Take l s m)
unfolding steps.step
acked_one t n x l s m e =
    let k = ack_kind m.kind (and_left (messages.is_ack (group m.kind)) (bytes_eq (code_of m) code_00) e) in
    let request : is_request m.kind ≡ false = k.0 in
    let kind : group m.kind ≡ groups.AdviceResponse = k.1 in
    ap (λ z. record { lists = record { rows = x.rows; marks = x.marks; takes = x.takes; store = z; known = x.known; loans = x.loans; borrowed = x.borrowed; links = x.links; asks = x.asks; date = x.date; count = x.count }; outs = [] }) (acked_store l s m e x.store)
    ∙ sym (ap (λ g. steps.on_group t n (view t n x) m (ByLink l) g (steps.start t n (messages.Take l s m) x)) kind ∙ rw (request, zero_plus x.count) refl)

pub acked_steps : (t : Network) (n l s : ℕ) (m : Fields) (id : AdviceId) (d d' : Drafted) → d.effects ≡ [] → (messages.is_ack (group m.kind) && bytes_eq (code_of m) code_00) ≡ true → id ≡ identity_of m → d' ≡ with_effect (effects.Acknowledged id) d → progress d' ≡ steps.step t n d.base (messages.Take l s m)
acked_steps t n l s m id d d' empty ack is e =
    ap progress e
    ∙ (ap (λ z. progress (with_effect (effects.Acknowledged z) d)) is
    ∙ (ap (λ es. progress (record { base = d.base; effects = es ++ effects.Acknowledged (identity_of m) ∷ [] })) empty
    ∙ acked_one t n d.base l s m ack))
