-- Requests, advices and reversals, case by case.
use Rattle.std.proofs.Common.{◌≡◌, ℕ, ◌+◌, suc, Bool, true, false, refl, sym, ap, ◌∙◌, Option, Some, None, find, inl, inr, arith}
use Rattle.std.proofs.lemmas.Bool.{cases_Bool, ltb-true, ltb-false, lt-ltb, le-ltb}
use Rattle.std.specs.Prelude.{not, if◌then◌else◌, ◌&&◌, nat_lt}
use Rattle.std.proofs.lemmas.Option.{same_Some}
use Rattle.std.specs.Option.{option_map, option_and_then}
use Rattle.card_digits.specs.declared.key.Key.{Key}
use Rattle.message_elements.specs.declared.kind.Kind.{Kind}
use Rattle.message_elements.specs.declared.kind.Kind.TheVariants.{K0100, K0101, K0110, K0120, K0121, K0130, K0400, K0401, K0410, K0420, K0421, K0430}
use Rattle.message_elements.specs.Groups.{group, is_answer, is_advice_group}
use Rattle.iso_message.specs.Fields.{Fields, as_kind}
use Rattle.message_elements.specs.Codes.{code_00, code_14, code_68, code_92, code_94, code_96}
use Rattle.message_keys.specs.Keys.{key_of, identity_of, content, content_eq}
use Rattle.iso_message.specs.Made.{response}
use Rattle.net_rows.specs.Network.{Network}
use Rattle.net_rows.specs.declared.row.Issuer.{Issuer}
use Rattle.network_law.specs.Cards.{Bytes, card_of}
use Rattle.network_law.specs.Tables.{route_links, is_home}
use Rattle.network_law.specs.Traces.{Source, Ask, as_kept}
use Rattle.network_law.specs.Decision.{same_source}
use Rattle.node_machine.specs.Books.{Request, Books}
use Rattle.node_machine.specs.Machine as machine
use Rattle.node_machine.specs.Lists.{Lists, Row, of_key, row_answer, request_of, view}
use Rattle.node_machine.specs.Steps as steps
use Rattle.node_machine.specs.Steps.{Progress}
use Rattle.message_steps.specs.Coming.{first_code, refusal_code}

-- where a request goes

pub forward_some : (t : Network) (n : ℕ) (b : Books) (m : Fields) (src : Source) (l : ℕ) (f : Fields) (d : Progress) (w : Option ℕ) → Some l ≡ w → f ≡ as_kind K0100 m → steps.put_on t n l f d ≡ steps.on_forward t n b m src w d
forward_some t n b m src l f d w e g = ap (λ z. steps.put_on t n l z d) g ∙ ap (λ z. steps.on_forward t n b m src z d) e

pub forward_none : (t : Network) (n : ℕ) (b : Books) (m : Fields) (src : Source) (d : Progress) (w : Option ℕ) → None ≡ w → steps.standin t n b (record { message = m; source = src; count = b.count }) d ≡ steps.on_forward t n b m src w d
forward_none t n b m src d w e = ap (λ z. steps.on_forward t n b m src z d) e

pub issuer_full : (t : Network) (n : ℕ) (b : Books) (m : Fields) (src : Source) (s : Issuer) (w : Option Issuer) (d : Progress) → Some s ≡ w → nat_lt 65536 (machine.load b + 2) ≡ true → steps.reply t n src (response m code_96) d ≡ steps.on_issuer t n b m src w d
issuer_full t n b m src s w d e full = sym (at full) ∙ ap (λ z. steps.on_issuer t n b m src z d) e
  where
    at : nat_lt 65536 (machine.load b + 2) ≡ true → steps.on_issuer t n b m src (Some s) d ≡ steps.reply t n src (response m code_96) d
    at f = rw f refl

pub issuer_home : (t : Network) (n : ℕ) (b : Books) (m : Fields) (src : Source) (s : Issuer) (w : Option Issuer) (d : Progress) → Some s ≡ w → nat_lt 65536 (machine.load b + 2) ≡ false → is_home s n ≡ true → steps.emit (Ask (suc b.ask_count) (as_kind K0100 m)) d ≡ steps.on_issuer t n b m src w d
issuer_home t n b m src s w d e room home = sym (at room home) ∙ ap (λ z. steps.on_issuer t n b m src z d) e
  where
    at : nat_lt 65536 (machine.load b + 2) ≡ false → is_home s n ≡ true → steps.on_issuer t n b m src (Some s) d ≡ steps.emit (Ask (suc b.ask_count) (as_kind K0100 m)) d
    at f g = rw (f, g) refl

pub issuer_away : (t : Network) (n : ℕ) (b : Books) (m : Fields) (src : Source) (s : Issuer) (w : Option Issuer) (d : Progress) → Some s ≡ w → nat_lt 65536 (machine.load b + 2) ≡ false → is_home s n ≡ false → steps.on_forward t n b m src (find b.is_up (route_links t n (card_of m))) d ≡ steps.on_issuer t n b m src w d
issuer_away t n b m src s w d e room away = sym (at room away) ∙ ap (λ z. steps.on_issuer t n b m src z d) e
  where
    at : nat_lt 65536 (machine.load b + 2) ≡ false → is_home s n ≡ false → steps.on_issuer t n b m src (Some s) d ≡ steps.on_forward t n b m src (find b.is_up (route_links t n (card_of m))) d
    at f g = rw (f, g) refl

-- a key that has a request

abbrev same : Row → Source → Fields → Bool
same r src m = same_source r.source src && content_eq (content r.message) (content m)

answered : (k : Key) (x : Lists) (r : Row) → Some r ≡ of_key k x.rows → r.answer ≡ option_and_then row_answer (of_key k x.rows)
answered k x r found = ap (option_and_then row_answer) found

pub repeat_other : (t : Network) (n : ℕ) (x : Lists) (m : Fields) (src : Source) (r : Row) (d : Progress) → Some r ≡ of_key (key_of m) x.rows → same r src m ≡ false → steps.reply t n src (response m code_94) d ≡ steps.on_request t n (view t n x) m src ((view t n x).opening (key_of m)) d
repeat_other t n x m src r d found e = sym (at (request_of r) (view t n x) e) ∙ ap (λ w. steps.on_request t n (view t n x) m src (option_map request_of w) d) found
  where
    at : (q : Request) (b : Books) → (same_source q.source src && content_eq (content q.message) (content m)) ≡ false → steps.on_request t n b m src (Some q) d ≡ steps.reply t n src (response m code_94) d
    at q b f = rw f refl

pub repeat_same : (t : Network) (n : ℕ) (x : Lists) (m : Fields) (src : Source) (r : Row) (d : Progress) → Some r ≡ of_key (key_of m) x.rows → same r src m ≡ true → steps.on_repeat t n src r.answer d ≡ steps.on_request t n (view t n x) m src ((view t n x).opening (key_of m)) d
repeat_same t n x m src r d found e = ap (λ w. steps.on_repeat t n src w d) (answered (key_of m) x r found) ∙ (sym (at (request_of r) (view t n x) e) ∙ ap (λ w. steps.on_request t n (view t n x) m src (option_map request_of w) d) found)
  where
    at : (q : Request) (b : Books) → (same_source q.source src && content_eq (content q.message) (content m)) ≡ true → steps.on_request t n b m src (Some q) d ≡ steps.on_repeat t n src (b.answer (key_of m)) d
    at q b f = rw f refl

-- advices

pub accept_steps : (t : Network) (n : ℕ) (b : Books) (m : Fields) (src : Source) (kept : Fields) (count : ℕ) (p0 p1 p2 p3 : Progress) → p1 ≡ steps.reply t n src (response m code_00) p0 → kept ≡ as_kept m → count ≡ p1.lists.count → p2 ≡ steps.store t n false kept count false p1 → p3 ≡ steps.keep t n b kept p2 → p3 ≡ steps.accept t n b m src p0
accept_steps t n b m src kept count p0 p1 p2 p3 e1 ek ecount e2 e3 =
    e3
    ∙ (ap (λ z. steps.keep t n b z p2) ek
    ∙ ap (steps.keep t n b (as_kept m)) (e2
    ∙ (ap (λ z. steps.store t n false z count false p1) ek
    ∙ (ap (λ z. steps.store t n false (as_kept m) z false p1) (ecount ∙ ap (λ (z : Progress). z.lists.count) e1)
    ∙ ap (λ z. steps.store t n false (as_kept m) p0.lists.count false z) e1))))

two_more_at : (k : ℕ) → nat_lt 65534 k ≡ nat_lt 65536 (k + 2)
two_more_at k = elim (cases_Bool (nat_lt 65534 k)) [
  | inl t ↦ t ∙ sym (lt-ltb 65536 (k + 2) (let a = ltb-true 65534 k t in omega (arith, a)))
  | inr f ↦ f ∙ sym (le-ltb 65536 (k + 2) (let a = ltb-false 65534 k f in omega (arith, a)))
]

pub two_more : (t : Network) (n : ℕ) (x : Lists) (k : ℕ) → k ≡ machine.load (view t n x) → nat_lt 65534 k ≡ nat_lt 65536 (machine.load (view t n x) + 2)
two_more t n x k e = two_more_at k ∙ ap (λ z. nat_lt 65536 (z + 2)) e

pub plain_answer : (k : Kind) → is_answer k ≡ true → is_advice_group (group k) ≡ false
plain_answer K0110 e = refl
plain_answer K0100 e = cc
plain_answer K0101 e = cc
plain_answer K0120 e = cc
plain_answer K0121 e = cc
plain_answer K0130 e = cc
plain_answer K0400 e = cc
plain_answer K0401 e = cc
plain_answer K0410 e = cc
plain_answer K0420 e = cc
plain_answer K0421 e = cc
plain_answer K0430 e = cc

-- refusals one after the other, of which the first gives the answer

abbrev first_reply : (Bytes → Progress) → Progress → Bool → Bool → Bool → Bool → Progress
first_reply reply kept good none other known =
    if not good then reply code_14 else if none then reply code_92 else if other then reply code_94 else if known then reply code_00 else kept

by_code : (reply : Bytes → Progress) (kept : Progress) (good none other known : Bool) (c : Bytes) → Some c ≡ first_code good none other known → reply c ≡ first_reply reply kept good none other known
by_code reply kept false none other known c e = ap reply (same_Some _ _ e)
by_code reply kept true true other known c e = ap reply (same_Some _ _ e)
by_code reply kept true false true known c e = ap reply (same_Some _ _ e)
by_code reply kept true false false true c e = ap reply (same_Some _ _ e)
by_code reply kept true false false false c e = absurd (cc)

by_none : (reply : Bytes → Progress) (kept : Progress) (good none other known : Bool) → None ≡ first_code good none other known → kept ≡ first_reply reply kept good none other known
by_none reply kept false none other known e = absurd (cc)
by_none reply kept true true other known e = absurd (cc)
by_none reply kept true false true known e = absurd (cc)
by_none reply kept true false false true e = absurd (cc)
by_none reply kept true false false false e = refl

module _ (t : Network) (n : ℕ) (b : Books) (m : Fields) (src : Source) (p : Progress) where
  abbrev replied : Bytes → Progress
  replied c = steps.reply t n src (response m c) p

  abbrev has_other : Key → Bool
  has_other k = machine.other_content (b.opening k) m

  abbrev cleared : Key → Progress
  cleared k = steps.answer_pending t n (machine.is_pending b k) (b.opening k) code_68 p

  codes_are : (o : Option Bytes) (k : Key) (other known : Bool) → k ≡ key_of m → other ≡ has_other k → known ≡ machine.is_known b (identity_of m) → o ≡ refusal_code t m other known → o ≡ refusal_code t m (has_other (key_of m)) (machine.is_known b (identity_of m))
  codes_are o k other known ek eo en e = e ∙ (ap (λ z. refusal_code t m z known) (eo ∙ ap has_other ek) ∙ ap (λ z. refusal_code t m (has_other (key_of m)) z) en)

  pub reversal_refused : (p' : Progress) (c : Bytes) (k : Key) (other known : Bool) → k ≡ key_of m → other ≡ has_other k → known ≡ machine.is_known b (identity_of m) → Some c ≡ refusal_code t m other known → p' ≡ replied c → p' ≡ steps.on_reversal t n b m src p
  reversal_refused p' c k other known ek eo en e is = is ∙ by_code replied (steps.accept t n b m src (cleared (key_of m))) _ _ _ _ c (codes_are (Some c) k other known ek eo en e)

  pub reversal_kept : (b' : Books) (p' p'' : Progress) (k : Key) (other known : Bool) → b' ≡ b → k ≡ key_of m → other ≡ has_other k → known ≡ machine.is_known b (identity_of m) → None ≡ refusal_code t m other known → p' ≡ cleared k → p'' ≡ steps.accept t n b' m src p' → p'' ≡ steps.on_reversal t n b m src p
  reversal_kept b' p' p'' k other known eb ek eo en e cleared_is is =
      is
      ∙ (ap (λ z. steps.accept t n z m src p') eb
      ∙ (ap (λ z. steps.accept t n b m src z) (cleared_is ∙ ap cleared ek)
      ∙ by_none replied (steps.accept t n b m src (cleared (key_of m))) _ _ _ _ (codes_are None k other known ek eo en e)))

  pub advice_refused : (p' : Progress) (c : Bytes) (known : Bool) → known ≡ machine.is_known b (identity_of m) → Some c ≡ refusal_code t m false known → p' ≡ replied c → p' ≡ steps.on_advice t n b m src p
  advice_refused p' c known en e is = is ∙ by_code replied (steps.accept t n b m src p) _ _ false _ c (e ∙ ap (λ z. refusal_code t m false z) en)

  pub advice_kept : (p' : Progress) (known : Bool) → known ≡ machine.is_known b (identity_of m) → None ≡ refusal_code t m false known → p' ≡ steps.accept t n b m src p → p' ≡ steps.on_advice t n b m src p
  advice_kept p' known en e is = is ∙ by_none replied (steps.accept t n b m src p) _ _ false _ (e ∙ ap (λ z. refusal_code t m false z) en)

pub repeat_steps : (t : Network) (n : ℕ) (x : Lists) (m : Fields) (src : Source) (k : Key) (r : Row) (b : Bool) (a : Option Fields) (p p' : Progress) → k ≡ key_of m → Some r ≡ of_key k x.rows → b ≡ same r src m → a ≡ r.answer → (b ≡ true → p' ≡ steps.on_repeat t n src a p) → (b ≡ false → p' ≡ steps.reply t n src (response m code_94) p) → p' ≡ steps.on_request t n (view t n x) m src ((view t n x).opening (key_of m)) p
repeat_steps t n x m src k r b a p p' ek found eb ea again other = go b refl
  where
    there : Some r ≡ of_key (key_of m) x.rows
    there = found ∙ ap (λ z. of_key z x.rows) ek

    go : (c : Bool) → b ≡ c → p' ≡ steps.on_request t n (view t n x) m src ((view t n x).opening (key_of m)) p
    go true e = again e ∙ (ap (λ z. steps.on_repeat t n src z p) ea ∙ repeat_same t n x m src r p there (sym eb ∙ e))
    go false e = other e ∙ repeat_other t n x m src r p there (sym eb ∙ e)
