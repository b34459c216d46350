-- Changes one by one.
use Rattle.std.proofs.Common.{◌≡◌, ℕ, suc, ◌==◌, ◌<◌, ◌≤◌, zero, List, [], ◌∷◌, ◌++◌, map, length, get_or, set, true, cond, refl, sym, ap, subst, ◌∙◌, inl, inr, arith, Result, Ok, Err, IfOk}
use Rattle.iso_message.specs.Fields.{Fields, el}
use Rattle.iso_message.specs.Spelling.{spelling}
use Rattle.network_law.specs.Traces.{ReadOutput}
use Rattle.network_law.specs.declared.grant.GrantPacket.{GrantPacket}
use Rattle.network_law.specs.Grants.{packet_bytes}
use Rattle.network_law.specs.Entries.{spelled}
use Rattle.node_machine.specs.Lists.{Lists, LinkState, Take, link_at, fresh, is_among}
use Rattle.card_digits.specs.Numbers.{decimal}
use Rattle.message_keys.specs.Keys.{key_of, identity_of}
use Rattle.network_law.specs.Cards.{card_of, label_of}
use Rattle.network_law.specs.Traces.{is_at_home}
use Rattle.net_rows.specs.Network.{Network}
use Rattle.node_books.specs.Values.{NewAdvice}
use Rattle.std.proofs.lemmas.Bool.{cases_Bool, eqb-true, eqb-false}
use Rattle.std.proofs.lemmas.Grind.{get_or-set_at}
use Rattle.std.proofs.lemmas.List.{get_or-set_other, get_or_default, reverse-append}
use Rattle.std.proofs.Math.ListN.{length-set}
use Rattle.network_law.specs.Traces as messages
use Rattle.kept_messages.specs.Ways.{message_of, output_of}
use Rattle.node_machine.specs.Steps as steps
use Rattle.kept_messages.specs.declared.output.Way.{Way}
use Rattle.kept_messages.specs.declared.output.Way.TheVariants as ways
use Rattle.node_books.specs.declared.effect.Effect.{Effect}
use Rattle.node_books.specs.declared.effect.Effect.TheVariants as effects
use Rattle.node_books.specs.Effects.{Drafted, progress, with_effect, applied, applied_one, sent_in}
use Rattle.step_draft.specs.Outputs.{put_out, spelled_in}
use Rattle.entry_changes.specs.SoFar.{link_step, link_from}

pub spelled_way : (w : Way) (m : Fields) → put_out w (spelling m) ≡ spelled (output_of w m)
unfolding spelled
spelled_way (ways.Put l s) m = refl
spelled_way ways.Answer m = refl
spelled_way (ways.Ask a) m = refl
spelled_way ways.Post m = refl

sent_more : (es : List Effect) (e : Effect) → sent_in (es ++ e ∷ []) ≡ sent_in es ++ sent_in (e ∷ [])
sent_more [] e = refl
sent_more (effects.Sent o ∷ es) e = ap (λ z. o ∷ z) (sent_more es e)
sent_more (effects.Kept a ∷ es) e = sent_more es e
sent_more (effects.Approved a ∷ es) e = sent_more es e
sent_more (effects.Opened r ∷ es) e = sent_more es e
sent_more (effects.Acknowledged id ∷ es) e = sent_more es e
sent_more (effects.LinkIs l u ∷ es) e = sent_more es e
sent_more (effects.Dated d ∷ es) e = sent_more es e
sent_more (effects.Ticked ∷ es) e = sent_more es e
sent_more (effects.PacketSent l s p ∷ es) e = ap (λ z. messages.PutPacket l s p ∷ z) (sent_more es e)
sent_more (effects.Lent g ∷ es) e = sent_more es e
sent_more (effects.PacketTaken p ∷ es) e = sent_more es e

map_more : {X Y : Type 0} (f : X → Y) (xs ys : List X) → map f (xs ++ ys) ≡ map f xs ++ map f ys
map_more f [] ys = refl
map_more f (x ∷ xs) ys = ap (λ z. f x ∷ z) (map_more f xs ys)

pub way_spelled : (w : Way) (o : ReadOutput) → output_of w (message_of o) ≡ o → put_out w (spelling (message_of o)) ≡ spelled o
way_spelled w o e = spelled_way w (message_of o) ∙ ap spelled e

pub spelled_more : (es : List Effect) (o : ReadOutput) → spelled_in es ++ spelled o ∷ [] ≡ spelled_in (es ++ effects.Sent o ∷ [])
spelled_more es o = rw (sent_more es (effects.Sent o), map_more spelled (sent_in es) (o ∷ [])) refl

pub applied_more : (es : List Effect) (e : Effect) (x : Lists) → applied (es ++ e ∷ []) x ≡ applied_one e (applied es x)
applied_more [] e x = refl
applied_more (f ∷ es) e x = applied_more es e (applied_one f x)

pub emitted : (o : ReadOutput) (d : Drafted) → progress (with_effect (effects.Sent o) d) ≡ steps.emit o (progress d)
emitted o d = rw (applied_more d.effects (effects.Sent o) d.base, sent_more d.effects (effects.Sent o), reverse-append (sent_in d.effects) (o ∷ [])) refl

pub packet_spelled : (l s : ℕ) (p : GrantPacket) → put_out (ways.Put l s) (packet_bytes p) ≡ spelled (messages.PutPacket l s p)
unfolding spelled
packet_spelled l s p = refl

pub packet_spelled_more : (es : List Effect) (l s : ℕ) (p : GrantPacket) → spelled_in es ++ spelled (messages.PutPacket l s p) ∷ [] ≡ spelled_in (es ++ effects.PacketSent l s p ∷ [])
packet_spelled_more es l s p = rw (sent_more es (effects.PacketSent l s p), map_more spelled (sent_in es) (messages.PutPacket l s p ∷ [])) refl

pub packet_emitted : (l s : ℕ) (p : GrantPacket) (d : Drafted) → progress (with_effect (effects.PacketSent l s p) d) ≡ steps.emit (messages.PutPacket l s p) (progress d)
packet_emitted l s p d = rw (applied_more d.effects (effects.PacketSent l s p) d.base, sent_more d.effects (effects.PacketSent l s p), reverse-append (sent_in d.effects) (messages.PutPacket l s p ∷ [])) refl

-- links

length_one : (e : Effect) (x : Lists) → length (applied_one e x).links ≡ length x.links
length_one (effects.Sent (messages.Put k s m)) x = length-set x.links k _
length_one (effects.Sent (messages.Answer m)) x = refl
length_one (effects.Sent (messages.Ask a m)) x = refl
length_one (effects.Sent (messages.Post m)) x = refl
length_one (effects.Sent (messages.PutPacket k s p)) x = length-set x.links k _
length_one (effects.Kept a) x = elim (cases_Bool (is_among (identity_of a.message) x.known)) [ inl t ↦ rw t refl | inr f ↦ rw f refl ]
length_one (effects.Approved a) x = refl
length_one (effects.Opened r) x = refl
length_one (effects.Acknowledged id) x = refl
length_one (effects.LinkIs l u) x = length-set x.links l _
length_one (effects.Dated d) x = refl
length_one effects.Ticked x = refl
length_one (effects.PacketSent k s p) x = length-set x.links k _
length_one (effects.Lent g) x = refl
length_one (effects.PacketTaken p) x = refl

set_link : (links : List LinkState) (k l : ℕ) (y : LinkState) → l < length links → link_at (set links k y) l ≡ cond (k == l) y (link_at links l)
set_link links k l y p = elim (cases_Bool (k == l)) [
  | inl t ↦ rw t (get_or-set_at links k l _ _ (sym (eqb-true k l t)) (subst (λ z. z < length links) (sym (eqb-true k l t)) p))
  | inr f ↦ rw f (get_or-set_other links k l _ _ (λ (z : l ≡ k). eqb-false k l f (sym z)))
]

same_at : (k l : ℕ) (links : List LinkState) (f : LinkState → LinkState) → cond (k == l) (f (link_at links k)) (link_at links l) ≡ cond (k == l) (f (link_at links l)) (link_at links l)
same_at k l links f = elim (cases_Bool (k == l)) [ inl t ↦ rw (t, eqb-true k l t) refl | inr g ↦ rw g refl ]

link_one : (e : Effect) (x : Lists) (l : ℕ) → l < length x.links → link_at (applied_one e x).links l ≡ link_step l e (link_at x.links l)
link_one (effects.Sent (messages.Put k s m)) x l p = set_link x.links k l _ p ∙ same_at k l x.links (λ y. record { up = y.up; serial = suc y.serial })
link_one (effects.Sent (messages.Answer m)) x l p = refl
link_one (effects.Sent (messages.Ask a m)) x l p = refl
link_one (effects.Sent (messages.Post m)) x l p = refl
link_one (effects.Sent (messages.PutPacket k s q)) x l p = set_link x.links k l _ p ∙ same_at k l x.links (λ y. record { up = y.up; serial = suc y.serial })
link_one (effects.Kept a) x l p = elim (cases_Bool (is_among (identity_of a.message) x.known)) [ inl t ↦ rw t refl | inr f ↦ rw f refl ]
link_one (effects.Approved a) x l p = refl
link_one (effects.Opened r) x l p = refl
link_one (effects.Acknowledged id) x l p = refl
link_one (effects.LinkIs k u) x l p = set_link x.links k l _ p ∙ same_at k l x.links (λ y. record { up = u; serial = y.serial })
link_one (effects.Dated d) x l p = refl
link_one effects.Ticked x l p = refl
link_one (effects.PacketSent k s q) x l p = set_link x.links k l _ p ∙ same_at k l x.links (λ y. record { up = y.up; serial = suc y.serial })
link_one (effects.Lent g) x l p = refl
link_one (effects.PacketTaken q) x l p = refl

pub link_is : (es : List Effect) (x : Lists) (l : ℕ) → l < length x.links → link_from l es (link_at x.links l) ≡ link_at (applied es x).links l
link_is [] x l p = refl
link_is (e ∷ es) x l p = ap (link_from l es) (sym (link_one e x l p)) ∙ link_is es (applied_one e x) l (subst (λ n. l < n) (sym (length_one e x)) p)

length_all : (es : List Effect) (x : Lists) → length (applied es x).links ≡ length x.links
length_all [] x = refl
length_all (e ∷ es) x = length_all es (applied_one e x) ∙ length_one e x

beyond : (links : List LinkState) (l : ℕ) → length links ≤ l → link_at links l ≡ fresh
beyond [] l p = refl
beyond (x ∷ xs) zero p = absurd (omega arith)
beyond (x ∷ xs) (suc l) p = beyond xs l (omega arith)

-- found at its place
pub link_found : (es : List Effect) (x : Lists) (l : ℕ) (s r : LinkState) → l < length x.links → r ≡ get_or x.links l r → s ≡ r → link_from l es s ≡ link_at (applied es x).links l
link_found es x l s r p e q = ap (link_from l es) (q ∙ (e ∙ get_or_default x.links l r fresh p)) ∙ link_is es x l p

pub if_ok : {A E : Type 0} (P Q : A → Type 0) (r : Result A E) → ((a : A) → P a → Q a) → IfOk r P → IfOk r Q
if_ok P Q (Ok a) f p = f a p
if_ok P Q (Err e) f p = tt

pub link_none : (es : List Effect) (x : Lists) (l : ℕ) → length x.links ≤ l → record { up = true; serial = 0 } ≡ link_at (applied es x).links l
link_none es x l p = sym (beyond (applied es x).links l (subst (λ n. n ≤ l) (sym (length_all es x)) p))

append_none : {X : Type 0} (xs : List X) → xs ++ [] ≡ xs
append_none [] = refl
append_none (x ∷ xs) = ap (λ z. x ∷ z) (append_none xs)

pub quiet_more : (es : List Effect) (e : Effect) → sent_in (e ∷ []) ≡ [] → spelled_in es ≡ spelled_in (es ++ e ∷ [])
quiet_more es e q = rw (sent_more es e, q, append_none (sent_in es)) refl

pub kept_is : (t : Network) (n : ℕ) (a : NewAdvice) (d : Drafted) → is_at_home t n a.message ≡ a.home → progress (with_effect (effects.Kept a) d) ≡ steps.store t n a.own a.message a.count a.put (progress d)
kept_is t n a d e = rw (applied_more d.effects (effects.Kept a) d.base, sent_more d.effects (effects.Kept a), append_none (sent_in d.effects), e) refl

pub took_is : (m : Fields) (a : Take) (d : Drafted) → a ≡ record { key = key_of m; card = card_of m; date = label_of m; amount = decimal (el m 4); left = decimal (el m 4) } → progress (with_effect (effects.Approved a) d) ≡ steps.take m (progress d)
took_is m a d e = rw (applied_more d.effects (effects.Approved a) d.base, sent_more d.effects (effects.Approved a), append_none (sent_in d.effects), e) refl
