-- Parts of the decision, as the code takes them.
use Rattle.std.proofs.Common.{◌≡◌, ℕ, Bool, true, false, refl, sym, ap, ◌∙◌, Option, Some, None, Result, Ok, Err, OnOk}
use Rattle.std.specs.Prelude.{is_none, bytes_eq, ◌&&◌}
use Rattle.std.specs.Option.{option_and_then, option_map}
use Rattle.card_digits.specs.declared.key.Key.{Key}
use Rattle.message_elements.specs.Codes.{code_00}
use Rattle.iso_message.specs.Made.{response, made_reversal}
use Rattle.network_law.specs.Cards.{Bytes}
use Rattle.network_law.specs.Tables.{node_id}
use Rattle.network_law.specs.Decision.{as_code}
use Rattle.node_machine.specs.Books.{Request, Books}
use Rattle.node_machine.specs.Machine as machine
use Rattle.node_machine.specs.Lists.{Lists, Row, of_key, request_of, row_link}
use Rattle.net_rows.specs.Network.{Network}
use Rattle.node_machine.specs.Lists.{view}
use Rattle.node_machine.specs.Steps as steps
use Rattle.node_machine.specs.Steps.{Progress}
use Rattle.message_steps.specs.Coming.{counts_by, for_duplicate, on_code_by}

-- an answer by a code

code_pending_at : (t : Network) (n : ℕ) (k : Key) (c other : Bytes) (q : Request) (b : Books) (d : Progress) → machine.is_pending b k ≡ true → steps.on_code t n b k c other (Some q) d ≡ steps.reply t n q.source (response q.message (as_code other c)) d
code_pending_at t n k c other q b d p = rw p refl

code_pending : (t : Network) (n : ℕ) (x : Lists) (k : Key) (c other : Bytes) (r : Row) (d : Progress) → Some r ≡ of_key k x.rows → is_none r.answer ≡ true → steps.reply t n r.source (response r.message (as_code other c)) d ≡ steps.on_code t n (view t n x) k c other ((view t n x).opening k) d
code_pending t n x k c other r d found opened =
    sym (code_pending_at t n k c other (request_of r) (view t n x) d (rw (sym found) (rw opened refl)))
    ∙ ap (λ w. steps.on_code t n (view t n x) k c other (option_map request_of w) d) found

code_late : (t : Network) (n : ℕ) (x : Lists) (k : Key) (c other : Bytes) (r : Row) (d : Progress) → Some r ≡ of_key k x.rows → is_none r.answer ≡ false → (bytes_eq c code_00 && machine.comes_late (view t n x) k) ≡ true → steps.keep t n (view t n x) (made_reversal r.message (node_id t n)) (steps.store t n true (made_reversal r.message (node_id t n)) x.count false d) ≡ steps.on_code t n (view t n x) k c other ((view t n x).opening k) d
code_late t n x k c other r d found closed late =
    sym (code_late_at (request_of r) (view t n x) (rw (sym found) (rw closed refl)) late)
    ∙ ap (λ w. steps.on_code t n (view t n x) k c other (option_map request_of w) d) found
  where
    code_late_at : (q : Request) (b : Books) → machine.is_pending b k ≡ false → (bytes_eq c code_00 && machine.comes_late b k) ≡ true → steps.on_code t n b k c other (Some q) d ≡ steps.keep t n b (made_reversal q.message (node_id t n)) (steps.store t n true (made_reversal q.message (node_id t n)) b.count false d)
    code_late_at q b p l = rw (p, l) refl

code_other : (t : Network) (n : ℕ) (x : Lists) (k : Key) (c other : Bytes) (r : Row) (d : Progress) → Some r ≡ of_key k x.rows → is_none r.answer ≡ false → (bytes_eq c code_00 && machine.comes_late (view t n x) k) ≡ false → d ≡ steps.on_code t n (view t n x) k c other ((view t n x).opening k) d
code_other t n x k c other r d found closed late =
    sym (code_other_at (request_of r) (view t n x) (rw (sym found) (rw closed refl)) late)
    ∙ ap (λ w. steps.on_code t n (view t n x) k c other (option_map request_of w) d) found
  where
    code_other_at : (q : Request) (b : Books) → machine.is_pending b k ≡ false → (bytes_eq c code_00 && machine.comes_late b k) ≡ false → steps.on_code t n b k c other (Some q) d ≡ d
    code_other_at q b p l = rw (p, l) refl

-- the same by a link or of the host

pub none_coded : (t : Network) (n : ℕ) (x : Lists) (k : Key) (c : Bytes) (by : Option ℕ) (d : Progress) → None ≡ of_key k x.rows → d ≡ on_code_by t n (view t n x) k c by d
none_coded t n x k c None d none = rw (sym none) refl
none_coded t n x k c (Some l) d none = rw (sym none) refl

counts_at : (x : Lists) (k : Key) (by : Option ℕ) (r : Row) (b : Bool) → Some r ≡ of_key k x.rows → counts_by by r.link ≡ b → counts_by by (option_and_then row_link (of_key k x.rows)) ≡ b
counts_at x k by r b found e = ap (λ w. counts_by by (option_and_then row_link w)) (sym found) ∙ e

pub strange_coded : (t : Network) (n : ℕ) (x : Lists) (k : Key) (c : Bytes) (by : Option ℕ) (r : Row) (d : Progress) → Some r ≡ of_key k x.rows → counts_by by r.link ≡ false → d ≡ on_code_by t n (view t n x) k c by d
strange_coded t n x k c by r d found strange = sym (rw (counts_at x k by r false found strange) refl)

counted : (t : Network) (n : ℕ) (x : Lists) (k : Key) (c : Bytes) (by : Option ℕ) (r : Row) (d : Progress) → Some r ≡ of_key k x.rows → counts_by by r.link ≡ true → steps.on_code t n (view t n x) k c (for_duplicate by) ((view t n x).opening k) d ≡ on_code_by t n (view t n x) k c by d
counted t n x k c by r d found counts = sym (rw (counts_at x k by r true found counts) refl)

pub pending_coded : (t : Network) (n : ℕ) (x : Lists) (k : Key) (c : Bytes) (by : Option ℕ) (r : Row) (d : Progress) → Some r ≡ of_key k x.rows → counts_by by r.link ≡ true → is_none r.answer ≡ true → steps.reply t n r.source (response r.message (as_code (for_duplicate by) c)) d ≡ on_code_by t n (view t n x) k c by d
pending_coded t n x k c by r d found counts opened = code_pending t n x k c (for_duplicate by) r d found opened ∙ counted t n x k c by r d found counts

pub late_coded : (t : Network) (n : ℕ) (x : Lists) (k : Key) (c : Bytes) (by : Option ℕ) (r : Row) (d : Progress) → Some r ≡ of_key k x.rows → counts_by by r.link ≡ true → is_none r.answer ≡ false → (bytes_eq c code_00 && machine.comes_late (view t n x) k) ≡ true → steps.keep t n (view t n x) (made_reversal r.message (node_id t n)) (steps.store t n true (made_reversal r.message (node_id t n)) x.count false d) ≡ on_code_by t n (view t n x) k c by d
late_coded t n x k c by r d found counts closed late = code_late t n x k c (for_duplicate by) r d found closed late ∙ counted t n x k c by r d found counts

pub other_coded : (t : Network) (n : ℕ) (x : Lists) (k : Key) (c : Bytes) (by : Option ℕ) (r : Row) (d : Progress) → Some r ≡ of_key k x.rows → counts_by by r.link ≡ true → is_none r.answer ≡ false → (bytes_eq c code_00 && machine.comes_late (view t n x) k) ≡ false → d ≡ on_code_by t n (view t n x) k c by d
other_coded t n x k c by r d found counts closed late = code_other t n x k c (for_duplicate by) r d found closed late ∙ counted t n x k c by r d found counts

-- a pending request that is taken back

pub pending_answered : (t : Network) (n : ℕ) (x : Lists) (k : Key) (r : Row) (c : Bytes) (d : Progress) → Some r ≡ of_key k x.rows → is_none r.answer ≡ true → steps.reply t n r.source (response r.message c) d ≡ steps.answer_pending t n (machine.is_pending (view t n x) k) ((view t n x).opening k) c d
pending_answered t n x k r c d found opened = rw (sym found) (rw opened refl)

pub pending_closed : (t : Network) (n : ℕ) (x : Lists) (k : Key) (r : Row) (c : Bytes) (d : Progress) → Some r ≡ of_key k x.rows → is_none r.answer ≡ false → d ≡ steps.answer_pending t n (machine.is_pending (view t n x) k) ((view t n x).opening k) c d
pending_closed t n x k r c d found closed = rw (sym found) (rw closed refl)

pub both_ok : {A E : Type 0} {P Q R : Type 0} (r : Result A E) → (P → Q → R) → OnOk r P → OnOk r Q → OnOk r R
both_ok (Ok a) f p q = f p q
both_ok (Err e) f p q = tt
