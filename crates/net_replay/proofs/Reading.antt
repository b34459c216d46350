-- A line names a node of the tables, and no link but the node's own.
use Rattle.std.proofs.Common.{◌≡◌, ℕ, ◌<◌, List, [], ◌∷◌, length, Option, Some, None, Bool, true, false, cond, refl, sym, subst, inl, inr, ⊎_elim, ◌⊎◌, ◌==◌}
use Rattle.std.specs.Prelude.{⊤, option_and_then, codes, bytes_eq}
use Rattle.std.specs.Result.{result_ok}
use Rattle.card_digits.specs.Reading.{read_digits}
use Rattle.message_elements.specs.Codes.{read_code}
use Rattle.replay_script.specs.Words.{word_and_rest, number_of, amount_of}
use Rattle.std.specs.List.{position}
use Rattle.std.proofs.lemmas.List.Quantifiers.{position-Some}
use Rattle.std.specs.Cmp.Lexicographic.{pointwise}
use Rattle.net_rows.specs.Network.{Network}
use Rattle.network_law.specs.Cards.{Bytes}
use Rattle.network_law.specs.Tables.{is_link_of}
use Rattle.network_law.specs.Entries.{Input}
use Rattle.network_law.specs.Runs.{NamesOwnLink}
use Rattle.net_replay.specs.Steps.{Step}
use Rattle.net_replay.specs.Replays.{IsInput}
use Rattle.replay_script.specs.Lines.{Event, Said, Enter, Take, LinkUp, LinkDown, Tick, HostAnswer, NewDate, Lend, at_node, node_of, own_link, read_line}
use Rattle.replay_script.specs.Lines as lines
use Rattle.replay_script.specs.declared.command.Loan.{Loan}
use Rattle.step_rules.specs.declared.lending.Lending.{Lending}

-- the event names no link but the node's own
abbrev pub IsOwn : Network → ℕ → Event → Type 0
IsOwn t n (Take l s) = is_link_of t n l ≡ true
IsOwn t n (LinkUp l) = is_link_of t n l ≡ true
IsOwn t n (LinkDown l) = is_link_of t n l ≡ true
IsOwn t n _ = ⊤

abbrev pub IsPlaced : Network → Said → Type 0
IsPlaced t x = (x.node < length t.nodes) × IsOwn t x.node x.event

from : {A B : Type 0} (o : Option A) (f : A → Option B) (y : B) → option_and_then f o ≡ Some y → (x : A) × (o ≡ Some x) × (f x ≡ Some y)
from (Some x) f y e = (x, refl, e)
from None f y e = absurd (no e)
  where
    no : None ≡ Some y → ⊥
    no p = cc

found : {X : Type 0} (p : X → Bool) (xs : List X) (k : ℕ) → position p xs ≡ Some k → k < length xs
found p [] k e = absurd (no e)
  where
    no : None ≡ Some k → ⊥
    no q = cc
found p (x ∷ xs) k e = (position-Some p (x ∷ xs) k x e).0

node_there : (t : Network) (name : Bytes) (n : ℕ) → node_of t name ≡ Some n → n < length t.nodes
node_there t name n e = found (λ k. pointwise ◌==◌ k.name name) t.nodes n e

own_is : (t : Network) (n : ℕ) (name : Bytes) (l : ℕ) → own_link t n name ≡ Some l → is_link_of t n l ≡ true
own_is t n name l e = let k = from (position (λ k. pointwise ◌==◌ k.name name) t.links) _ l e in go k.0 (is_link_of t n k.0) refl k.2
  where
    go : (j : ℕ) (b : Bool) → is_link_of t n j ≡ b → cond (is_link_of t n j) (Some j) None ≡ Some l → is_link_of t n l ≡ true
    go j true at e = subst (λ z. is_link_of t n z ≡ true) (same (rw at at e)) at
      where
        same : ◌≡◌ {A = Option ℕ} (Some j) (Some l) → j ≡ l
        same p = cc
    go j false at e = absurd (no (rw at at e))
      where
        no : ◌≡◌ {A = Option ℕ} None (Some l) → ⊥
        no p = cc

placed : (t : Network) (n : ℕ) (e : Event) (x : Said) → at_node n e ≡ Some x → n < length t.nodes → IsOwn t n e → IsPlaced t x
placed t n e x is less own = subst (IsPlaced t) (same is) (less, own)
  where
    same : ◌≡◌ {A = Option Said} (Some (record { node = n; event = e })) (Some x) → record { node = n; event = e } ≡ x
    same p = cc

enter_placed : (t : Network) (rest : Bytes) (x : Said) → lines.enter t rest ≡ Some x → IsPlaced t x
enter_placed t rest x e =
    let p = from (word_and_rest rest) _ x e in
    let n = from (node_of t p.0.0) _ x p.2 in
    placed t n.0 (Enter p.0.1) x n.2 (node_there t p.0.0 n.0 n.1) tt

take_placed : (t : Network) (rest : Bytes) (x : Said) → lines.take t rest ≡ Some x → IsPlaced t x
take_placed t rest x e =
    let p = from (word_and_rest rest) _ x e in
    let q = from (word_and_rest p.0.1) _ x p.2 in
    let n = from (node_of t q.0.0) _ x q.2 in
    let l = from (own_link t n.0 p.0.0) _ x n.2 in
    let s = from (number_of 10 q.0.1) _ x l.2 in
    placed t n.0 (Take l.0 s.0) x s.2 (node_there t q.0.0 n.0 n.1) (own_is t n.0 p.0.0 l.0 l.1)

up_placed : (t : Network) (rest : Bytes) (x : Said) → lines.link_up t rest ≡ Some x → IsPlaced t x
up_placed t rest x e =
    let p = from (word_and_rest rest) _ x e in
    let n = from (node_of t p.0.1) _ x p.2 in
    let l = from (own_link t n.0 p.0.0) _ x n.2 in
    placed t n.0 (LinkUp l.0) x l.2 (node_there t p.0.1 n.0 n.1) (own_is t n.0 p.0.0 l.0 l.1)

down_placed : (t : Network) (rest : Bytes) (x : Said) → lines.link_down t rest ≡ Some x → IsPlaced t x
down_placed t rest x e =
    let p = from (word_and_rest rest) _ x e in
    let n = from (node_of t p.0.1) _ x p.2 in
    let l = from (own_link t n.0 p.0.0) _ x n.2 in
    placed t n.0 (LinkDown l.0) x l.2 (node_there t p.0.1 n.0 n.1) (own_is t n.0 p.0.0 l.0 l.1)

tick_placed : (t : Network) (rest : Bytes) (x : Said) → lines.tick t rest ≡ Some x → IsPlaced t x
tick_placed t rest x e =
    let n = from (node_of t rest) _ x e in
    placed t n.0 (Tick) x n.2 (node_there t rest n.0 n.1) tt

host_placed : (t : Network) (rest : Bytes) (x : Said) → lines.host_answer t rest ≡ Some x → IsPlaced t x
host_placed t rest x e =
    let p = from (word_and_rest rest) _ x e in
    let q = from (word_and_rest p.0.1) _ x p.2 in
    let n = from (node_of t p.0.0) _ x q.2 in
    let a = from (number_of 10 q.0.0) _ x n.2 in
    let c = from (read_code q.0.1) _ x a.2 in
    placed t n.0 (HostAnswer a.0 c.0) x c.2 (node_there t p.0.0 n.0 n.1) tt

date_placed : (t : Network) (rest : Bytes) (x : Said) → lines.new_date t rest ≡ Some x → IsPlaced t x
date_placed t rest x e =
    let p = from (word_and_rest rest) _ x e in
    let n = from (node_of t p.0.0) _ x p.2 in
    let d = from (result_ok (read_digits 4 4 p.0.1)) _ x n.2 in
    placed t n.0 (NewDate d.0) x d.2 (node_there t p.0.0 n.0 n.1) tt

lender_there : (t : Network) (text : Bytes) (l : Loan) → lines.loan t text ≡ Some l → l.lender < length t.nodes
lender_there t text l e =
    let p = from (word_and_rest text) _ l e in
    let q = from (word_and_rest p.0.1) _ l p.2 in
    let r = from (word_and_rest q.0.1) _ l q.2 in
    let s = from (word_and_rest r.0.1) _ l r.2 in
    let n = from (node_of t p.0.0) _ l s.2 in
    let m = from (node_of t q.0.0) _ l n.2 in
    let card = from (result_ok (read_digits 8 19 r.0.0)) _ l m.2 in
    let date = from (result_ok (read_digits 4 4 s.0.0)) _ l card.2 in
    let amount = from (amount_of s.0.1) _ l date.2 in
    subst (λ z. z < length t.nodes) (same n.0 amount.2) (node_there t p.0.0 n.0 n.1)
  where
    same : {order : Lending} (n : ℕ) → ◌≡◌ {A = Option Loan} (Some (record { lender = n; order = order })) (Some l) → n ≡ l.lender
    same n p = cc

lend_placed : (t : Network) (rest : Bytes) (x : Said) → lines.lend t rest ≡ Some x → IsPlaced t x
lend_placed t rest x e =
    let l = from (lines.loan t rest) _ x e in
    placed t l.0.lender (Lend l.0.order.borrower l.0.order.card l.0.order.date l.0.order.amount) x l.2 (lender_there t rest l.0 l.1) tt

either : {X : Type 0} (x : X) (b : Bool) (o other : Option X) → cond b o other ≡ Some x → (o ≡ Some x) ⊎ (other ≡ Some x)
either x true o other e = inl e
either x false o other e = inr e

-- what such an event brings names no link but the node's own
pub own_input : (t : Network) (steps : List Step) (n : ℕ) (e : Event) (i : Input) → IsInput t steps n e i → IsOwn t n e → NamesOwnLink t n i
own_input t steps n (Take l s) i is own = subst (NamesOwnLink t n) (sym is.1) own
own_input t steps n (Enter bytes) i is own = subst (NamesOwnLink t n) (sym is) tt
own_input t steps n (LinkUp l) i is own = subst (NamesOwnLink t n) (sym is) own
own_input t steps n (LinkDown l) i is own = subst (NamesOwnLink t n) (sym is) own
own_input t steps n Tick i is own = subst (NamesOwnLink t n) (sym is) tt
own_input t steps n (HostAnswer a code) i is own = subst (NamesOwnLink t n) (sym is) tt
own_input t steps n (NewDate date) i is own = subst (NamesOwnLink t n) (sym is) tt
own_input t steps n (Lend m card date amount) i is own = subst (NamesOwnLink t n) (sym is) tt

pub line_placed : (t : Network) (line : Bytes) (x : Said) → read_line t line ≡ Some x → IsPlaced t x
line_placed t line x e =
    let p = from (word_and_rest line) _ x e in
    ⊎_elim (enter_placed t p.0.1 x) (λ e1.
    ⊎_elim (take_placed t p.0.1 x) (λ e2.
    ⊎_elim (up_placed t p.0.1 x) (λ e3.
    ⊎_elim (down_placed t p.0.1 x) (λ e4.
    ⊎_elim (tick_placed t p.0.1 x) (λ e5.
    ⊎_elim (host_placed t p.0.1 x) (λ e6.
    ⊎_elim (date_placed t p.0.1 x) (λ e7.
    ⊎_elim (lend_placed t p.0.1 x) (λ e8.
    absurd (no e8)
    ) (either x (bytes_eq p.0.0 (codes "lend")) _ _ e7)) (either x (bytes_eq p.0.0 (codes "date")) _ _ e6)) (either x (bytes_eq p.0.0 (codes "host")) _ _ e5)) (either x (bytes_eq p.0.0 (codes "tick")) _ _ e4)) (either x (bytes_eq p.0.0 (codes "down")) _ _ e3)) (either x (bytes_eq p.0.0 (codes "up")) _ _ e2)) (either x (bytes_eq p.0.0 (codes "take")) _ _ e1)) (either x (bytes_eq p.0.0 (codes "enter")) _ _ p.2)
  where
    no : ◌≡◌ {A = Option Said} None (Some x) → ⊥
    no q = cc
