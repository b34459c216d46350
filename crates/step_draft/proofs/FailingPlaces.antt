-- The places of the requests that fail, and their keys.
use Rattle.std.proofs.Common.{◌≡◌, ◌+◌, ◌<◌, ◌≤◌, ℕ, zero, suc, List, [], ◌∷◌, map, drop, length, get_or, add-one, arith, Bool, true, false, refl, sym, ap, subst, ◌∙◌, Option, Some, None, slice_get}
use Rattle.std.specs.List.{AllByRecursion}
use Rattle.std.specs.Prelude.{◌==◌, ◌&&◌, slice_index_or}
use Rattle.std.specs.Option.{option_map_or}
use Rattle.net_rows.specs.Network.{Network}
use Rattle.net_rows.specs.declared.row.Link.{Link}
use Rattle.network_law.specs.Traces.{ReadInput, Tick, ticks_by}
use Rattle.node_machine.specs.Lists.{Lists, Row, row_due, row_fails, row_pending, view}
use Rattle.node_machine.specs.Machine as machine
use Rattle.node_machine.specs.Steps as steps
use Rattle.node_machine.specs.Steps.{Progress}
use Rattle.node_machine.proofs.Readings.{failing_is}
use Rattle.pending_book.specs.Rows.{IsUnique, places_where}
use Rattle.pending_book.specs.Waits.{is_over, waits_by}
use Rattle.pending_book.proofs.Found.{keys_found, places_same, places_there}
use Rattle.node_books.specs.Values.{waits_in}
use Rattle.node_books.proofs.Loads.{one_row}
use Rattle.step_draft.specs.Failures.{keys_at}
use Rattle.step_draft.specs.Used.{IsQuiet}
use Rattle.step_draft.proofs.Parts.{fail_next, fails_quiet}

-- requests whose time is over at the next tick

ticks_at : (links : List Link) (l : ℕ) → slice_index_or (map (λ k. k.ticks) links) l 0 ≡ option_map_or (λ k. k.ticks) (slice_get links l) 0
ticks_at [] l = refl
ticks_at (k ∷ ks) zero = refl
ticks_at (k ∷ ks) (suc l) = ticks_at ks l

waits_are : (t : Network) (link : Option ℕ) (asked : Bool) → waits_by (waits_in t.links t.settings.host_ticks) link asked ≡ ticks_by t link asked
waits_are t (Some l) asked = ap Some (ticks_at t.links l)
waits_are t None true = refl
waits_are t None false = refl

due_is : (now count : ℕ) (ticks : Option ℕ) → option_map_or (λ d. count + d == now) ticks false ≡ row_due now count ticks
due_is now count None = refl
due_is now count (Some d) = refl

over_at : (t : Network) (now : ℕ) (r : Row) → is_over (waits_in t.links t.settings.host_ticks) now r ≡ (row_pending r && row_due now r.count (ticks_by t r.link r.asked))
over_at t now r = ap (λ b. row_pending r && b) (ap (λ m. option_map_or (λ d. r.count + d == now) m false) (waits_are t r.link r.asked) ∙ due_is now r.count (ticks_by t r.link r.asked))

pub over_fails : (t : Network) (count : ℕ) (r : Row) → is_over (waits_in t.links t.settings.host_ticks) (count + 1) r ≡ row_fails t count Tick r
over_fails t count r =
    let next : count + 1 ≡ suc count = omega arith in
    over_at t (count + 1) r ∙ ap (λ now. row_pending r && row_due now r.count (ticks_by t r.link r.asked)) next

-- where time is over, requests fail
pub over_same : (t : Network) (links : List Link) (host : ℕ) (x y : Lists) → links ≡ t.links → host ≡ t.settings.host_ticks → y ≡ x → places_where (is_over (waits_in links host) (y.count + 1)) y.rows ≡ places_where (row_fails t x.count Tick) x.rows
over_same t links host x y same_links same_host same =
    ap (λ ls. places_where (is_over (waits_in ls host) (y.count + 1)) y.rows) same_links
    ∙ (ap (λ h. places_where (is_over (waits_in t.links h) (y.count + 1)) y.rows) same_host
    ∙ (ap (λ (z : Lists). places_where (is_over (waits_in t.links t.settings.host_ticks) (z.count + 1)) z.rows) same
    ∙ places_same (is_over (waits_in t.links t.settings.host_ticks) (x.count + 1)) (row_fails t x.count Tick) x.rows (over_fails t x.count)))

-- one place after another

dropped_one : (xs : List ℕ) (i x : ℕ) → i < length xs → x ≡ get_or xs i x → drop i xs ≡ x ∷ drop (suc i) xs
dropped_one [] i x lt e = absurd (omega (arith, lt))
dropped_one (y ∷ ys) zero x lt e = ap (λ z. z ∷ ys) (sym e)
dropped_one (y ∷ ys) (suc i) x lt e = dropped_one ys i x (omega (arith, lt)) e

dropped_all : (xs : List ℕ) (i : ℕ) → length xs ≤ i → drop i xs ≡ []
dropped_all [] zero le = refl
dropped_all [] (suc i) le = refl
dropped_all (x ∷ xs) zero le = absurd (omega (arith, le))
dropped_all (x ∷ xs) (suc i) le = dropped_all xs i (omega (arith, le))

all_at : (P : ℕ → Type 0) (xs : List ℕ) (i d : ℕ) → AllByRecursion P xs → i < length xs → P (get_or xs i d)
all_at P [] i d all lt = absurd (omega (arith, lt))
all_at P (x ∷ xs) zero d all lt = all.0
all_at P (x ∷ xs) (suc i) d all lt = all_at P xs i d all.1 (omega (arith, lt))

-- each place is one of a request
pub failing_there : (p : Row → Bool) (x y : Lists) (places : List ℕ) (i place : ℕ) → places ≡ places_where p x.rows → y ≡ x → i < length places → place ≡ get_or places i place → place < length y.rows
failing_there p x y places i place are same lt is =
    let there = subst (AllByRecursion (λ k. k < length x.rows)) (sym are) (places_there p x.rows) in
    let here : place < length x.rows = subst (λ k. k < length x.rows) (sym is) (all_at (λ k. k < length x.rows) places i place there lt) in
    subst (λ (z : Lists). place < length z.rows) (sym same) here

pub still_quiet : (t : Network) (n : ℕ) (x y : Lists) (place : ℕ) (d d' : Progress) → d' ≡ steps.fail_all t n (view t n y) (keys_at y.rows (place ∷ [])) d → IsQuiet x d.lists → IsQuiet x d'.lists
still_quiet t n x y place d d' e q = subst (λ (z : Progress). IsQuiet x z.lists) (sym e) (fails_quiet t n (view t n y) x (keys_at y.rows (place ∷ [])) d q)

pub failed_more : (t : Network) (n : ℕ) (x y : Lists) (places : List ℕ) (i place : ℕ) (d0 d d' : Progress) → i < length places → place ≡ get_or places i place → y ≡ x → d' ≡ steps.fail_all t n (view t n y) (keys_at y.rows (place ∷ [])) d
    → steps.fail_all t n (view t n x) (keys_at x.rows (drop i places)) d ≡ d0 → steps.fail_all t n (view t n x) (keys_at x.rows (drop (i + 1) places)) d' ≡ d0
failed_more t n x y places i place d0 d d' lt is same step e =
    let own : d' ≡ steps.fail_all t n (view t n x) (keys_at x.rows (place ∷ [])) d = step ∙ ap (λ (z : Lists). steps.fail_all t n (view t n z) (keys_at z.rows (place ∷ [])) d) same in
    ap (λ k. steps.fail_all t n (view t n x) (keys_at x.rows (drop k places)) d') (add-one i)
    ∙ (ap (λ z. steps.fail_all t n (view t n x) (keys_at x.rows (drop (suc i) places)) z) own
    ∙ (sym (fail_next t n (view t n x) x.rows place (drop (suc i) places) d)
    ∙ (ap (λ ks. steps.fail_all t n (view t n x) (keys_at x.rows ks) d) (sym (dropped_one places i place lt is)) ∙ e)))

pub failed_last : (t : Network) (n : ℕ) (x : Lists) (places : List ℕ) (i : ℕ) (d0 d : Progress) → length places ≤ i → steps.fail_all t n (view t n x) (keys_at x.rows (drop i places)) d ≡ d0 → d ≡ d0
failed_last t n x places i d0 d le e = ap (λ ks. steps.fail_all t n (view t n x) (keys_at x.rows ks) d) (sym (dropped_all places i le)) ∙ e

-- all that fail
pub all_failed : (t : Network) (n : ℕ) (x : Lists) (i : ReadInput) (places : List ℕ) (d d' : Progress) → IsUnique x.rows → places ≡ places_where (row_fails t x.count i) x.rows → d' ≡ steps.fail_all t n (view t n x) (keys_at x.rows places) d
    → d' ≡ steps.fail_all t n (view t n x) (machine.failing t (view t n x) i) d
all_failed t n x i places d d' unique are e =
    e ∙ (ap (λ ps. steps.fail_all t n (view t n x) (keys_at x.rows ps) d) are ∙ ap (λ ks. steps.fail_all t n (view t n x) ks d) (keys_found (row_fails t x.count i) x.rows ∙ sym (failing_is t n x (one_row x.rows unique) i)))
