-- What requests wait for, as their rows change.
use Rattle.std.proofs.Common.{◌≡◌, ◌≢◌, inl, inr, ℕ, suc, zero, ◌+◌, ◌<◌, ◌≤◌, Bool, true, false, ◌&&◌, ◌||◌, List, [], ◌∷◌, ◌++◌, length, map, get_or, Option, Some, None, refl, sym, ap, ◌∙◌, subst, arith, slice_get, eqb, eq-eqb, length-append}
use Rattle.std.proofs.lemmas.List.{length-map}
use Rattle.std.proofs.lemmas.List.Sums.{sum_by-append}
use Rattle.std.specs.Prelude.{is_some, cond, count_by}
use Rattle.std.specs.Map.{lookup}
use Rattle.std.specs.Option.{option_map_or}
use Rattle.std.proofs.lemmas.Bool.{cases_Bool, cases_eq, eqb-true}
use Rattle.card_digits.specs.declared.key.Key.{Key}
use Rattle.message_keys.specs.Keys.{key_eq}
use Rattle.message_keys.proofs.Equality.{key_eq_flip, key_eq_is}
use Rattle.network_law.specs.Traces.{ReadOutput}
use Rattle.node_machine.specs.Lists.{Row, row_after, row_has, row_key, row_pending}
use Rattle.request_slots.specs.declared.wait.Wait.{Wait}
use Rattle.request_slots.specs.Waits.{SlotsView, count_due, is_due, wait_at, with_wait}
use Rattle.pending_book.specs.declared.node.Standing.{Standing}
use Rattle.pending_book.specs.Waits.{WaitsView, is_over, waits_by}
use Rattle.kept_messages.specs.Ways.{output_key}
use Rattle.pending_book.specs.Rows.{IsUnique, card_in}
use Rattle.pending_book.specs.NodeKept.{AreKept, AreWaiting, HasWait, WaitsAnew, IsSameRequest, IsTimed, IsDueInTime, bit, is_waiting, place_of, standing_of}
use Rattle.pending_book.proofs.At.{at_got, got_at, mapped_at, more_at, within}
use Rattle.pending_book.proofs.NodePlaces.{count_more, found_none, place_found, place_last, place_same, places_after}
use Rattle.pending_book.proofs.Unique.{quiet, unique_after, unique_more}

pub and_first : (a b : Bool) → (a && b) ≡ true → a ≡ true
and_first true b e = refl
and_first false b e = e

pub and_last : (a b : Bool) → (a && b) ≡ true → b ≡ true
and_last true b e = e
and_last false b e = absurd cc

pub and_both : (a b : Bool) → a ≡ true → b ≡ true → (a && b) ≡ true
and_both a b p q = rw (p, q) refl

same_place : (x y : ℕ) → Some x ≡ Some y → x ≡ y
same_place x y e = cc

same_wait : (x y : Wait) → Some x ≡ Some y → x ≡ y
same_wait x y e = cc

pub no_row : (w : WaitsView) → AreWaiting w 0 true [] []
no_row w = record { each = λ k r e. absurd cc; places = refl }

-- what is known stays known where more is asked
pub has_less : (w : WaitsView) (count : ℕ) (timely known : Bool) (r : Row) (o : Option Wait) → HasWait w count timely r o → HasWait w count (timely && known) r o
has_less w count timely known r o h = record {
  waits = λ t. let v = h.waits t in (v.0, v.1, v.2, v.3, λ both. v.4 (and_first timely known both), v.5);
  rests = h.rests;
}

has_least : (w : WaitsView) (count : ℕ) (timely known : Bool) (r : Row) (o : Option Wait) → HasWait w count known r o → HasWait w count (timely && known) r o
has_least w count timely known r o h = record {
  waits = λ t. let v = h.waits t in (v.0, v.1, v.2, v.3, λ both. v.4 (and_last timely known both), v.5);
  rests = h.rests;
}

-- a place more
wait_front : (waits : List (Option Wait)) (k : ℕ) → k < length waits → wait_at (waits ++ None ∷ []) k ≡ wait_at waits k
wait_front [] k lt = absurd (omega (arith, lt))
wait_front (x ∷ waits) zero lt = refl
wait_front (x ∷ waits) (suc k) lt = wait_front waits k (omega (arith, lt))

-- no requests
pub no_rows : (w : WaitsView) → AreKept [] [] 0 w (record { waits = []; count = 0; visits = 0; room = 0 }) true
no_rows w = record { unique = tt; keyed = λ k. refl; counted = refl; waiting = no_row w }

-- a request more
pub waiting_opened : (w : WaitsView) (count : ℕ) (timely known : Bool) (rows : List Row) (r : Row) (old new : List (Option Wait)) → AreWaiting w count timely rows old → HasWait w count known r (wait_at new (length rows))
    → ((k : ℕ) → k ≢ length rows → wait_at new k ≡ wait_at (old ++ None ∷ []) k) → length new ≡ length (old ++ None ∷ []) → AreWaiting w count (timely && known) (rows ++ r ∷ []) new
waiting_opened w count timely known rows r old new a here others places = record {
  each =
      λ k q e. elim (more_at rows r k q e) [
        | inl f ↦
            let lt = within rows k q f in
            let n = a.places in
            let same : wait_at new k ≡ wait_at old k = others k (λ is. omega (arith, lt, is)) ∙ wait_front old k (omega (arith, lt, n)) in
            subst (HasWait w count (timely && known) q) (sym same) (has_less w count timely known q (wait_at old k) (a.each k q f))
        | inr p ↦
            let at : HasWait w count (timely && known) r (wait_at new k) = subst (λ j. HasWait w count (timely && known) r (wait_at new j)) (sym p.0) (has_least w count timely known r (wait_at new (length rows)) here) in
            subst (λ (x : Row). HasWait w count (timely && known) x (wait_at new k)) (sym p.1) at
      ];
  places = places ∙ (length-append old (None ∷ []) ∙ (ap (λ n. n + 1) a.places ∙ sym (length-append rows (r ∷ []))));
}

-- an output changes no other request
other_stays : (o : ReadOutput) (rows : List Row) (place k : ℕ) (x : Row) → IsUnique rows → place_of (output_key o) rows ≡ Some place → slice_get rows k ≡ Some x → k ≢ place → row_after o x ≡ x
other_stays o rows place k x u at e ne = elim (cases_Bool (row_has (output_key o) x)) [
  | inl t ↦
      let has : row_has (output_key o) (get_or rows k x) ≡ true = ap (row_has (output_key o)) (got_at rows k x x e) ∙ t in
      absurd (ne (same_place k place (sym (place_found (output_key o) rows k x u (within rows k x e) has) ∙ at)))
  | inr f ↦ quiet o x (key_eq_flip (row_key x) (output_key o) f)
]

pub waiting_after : (w : WaitsView) (count : ℕ) (timely known : Bool) (o : ReadOutput) (rows : List Row) (place : ℕ) (d row : Row) (before : Standing) (old new : List (Option Wait)) → AreWaiting w count timely rows old → IsUnique rows
    → place_of (output_key o) rows ≡ Some place → place < length rows → before ≡ standing_of (get_or rows place d) → row ≡ row_after o (get_or rows place d)
    → WaitsAnew w count before row known (wait_at old place) (wait_at new place)
    → ((k : ℕ) → k ≢ place → wait_at new k ≡ wait_at old k) → length new ≡ length old → AreWaiting w count (timely && known) (map (row_after o) rows) new
waiting_after w count timely known o rows place d row before old new a u at lt was is here others places = record {
  each =
      λ k q e.
      let m = mapped_at (row_after o) rows k q e in
      elim (cases_eq k place) [
        | inl same ↦
            let there : slice_get rows place ≡ Some m.0 = subst (λ j. slice_get rows j ≡ Some m.0) same m.1 in
            let x_is : get_or rows place d ≡ m.0 = got_at rows place m.0 d there in
            let q_is : row ≡ q = is ∙ (ap (row_after o) x_is ∙ sym m.2) in
            let alike : IsSameRequest (get_or rows place d) row = record { message = sym (ap (λ (r : Row). r.message) is); count = sym (ap (λ (r : Row). r.count) is) } in
            let held : HasWait w count timely (get_or rows place d) (wait_at old place) = a.each place (get_or rows place d) (at_got rows place d lt) in
            let now = here timely (get_or rows place d) alike (sym was) held in
            subst (λ (r : Row). HasWait w count (timely && known) r (wait_at new k)) q_is (subst (λ j. HasWait w count (timely && known) row (wait_at new j)) (sym same) now)
        | inr ne ↦
            let q_is : m.0 ≡ q = sym (m.2 ∙ other_stays o rows place k m.0 u at m.1 ne) in
            let held = has_less w count timely known m.0 (wait_at old k) (a.each k m.0 m.1) in
            subst (λ (r : Row). HasWait w count (timely && known) r (wait_at new k)) q_is (subst (HasWait w count (timely && known) m.0) (sym (others k ne)) held)
      ];
  places = places ∙ (a.places ∙ sym (length-map rows (row_after o)));
}

-- a tick later
pub waiting_turned : (w : WaitsView) (count : ℕ) (timely : Bool) (rows : List Row) (waits : List (Option Wait)) → AreWaiting w count timely rows waits → AreWaiting w (count + 1) timely rows waits
waiting_turned w count timely rows waits a = record {
  each = λ k r e. let h = a.each k r e in record { waits = λ t. let v = h.waits t in (v.0, v.1, v.2, v.3, λ known ticks is later. v.4 known ticks is (omega (arith, later)), v.5); rests = h.rests };
  places = a.places;
}

-- as many pass at least where each that passes here passes there
count_le : {A B : Type 0} (p : Option A → Bool) (q : B → Bool) (xs : List (Option A)) (ys : List B) → length xs ≡ length ys → ((k : ℕ) (y : B) → slice_get ys k ≡ Some y → p (get_or xs k None) ≡ true → q y ≡ true) → count_by p xs ≤ count_by q ys
count_le p q [] [] n h = omega arith
count_le p q [] (y ∷ ys) n h = absurd (omega (arith, n))
count_le p q (x ∷ xs) [] n h = absurd (omega (arith, n))
count_le p q (x ∷ xs) (y ∷ ys) n h =
    let left = sum_by-append (λ o. cond (p o) 1 0) (x ∷ []) xs in
    let right = sum_by-append (λ z. cond (q z) 1 0) (y ∷ []) ys in
    let rest = count_le p q xs ys (omega (arith, n)) (λ k z e t. h (suc k) z e t) in
    let first : cond (p x) 1 0 ≤ cond (q y) 1 0 = one (p x) (q y) (h 0 y refl) in
    omega (arith, left, right, rest, first)
  where
    one : (a b : Bool) → (a ≡ true → b ≡ true) → cond a 1 0 ≤ cond b 1 0
    one false b i = omega arith
    one true b i = rw (i refl) (omega arith)

-- no more waits are due at the next tick than requests whose time is over then
pub wait_over : (w : WaitsView) (count : ℕ) (timely : Bool) (r : Row) (o : Option Wait) → HasWait w count timely r o → option_map_or (is_due (count + 1)) o false ≡ true → is_over w (count + 1) r ≡ true
wait_over w count timely r o h t = elim (cases_Bool (is_waiting r)) [
  | inl waits' ↦
      let v = h.waits waits' in
      let passes : is_due (count + 1) v.0 ≡ true = sym (ap (λ (x : Option Wait). option_map_or (is_due (count + 1)) x false) v.1) ∙ t in
      let due = due_at v.0.due passes in
      let time = v.5 (count + 1) due in
      let pending : row_pending r ≡ true = and_first (row_pending r) (is_some r.link || r.asked) waits' in
      and_both (row_pending r) _ pending (rw time.1 (eq-eqb (r.count + time.0) (count + 1) time.2))
  | inr rests ↦ (let none : o ≡ None = h.rests rests in let no : false ≡ true = sym (ap (λ (x : Option Wait). option_map_or (is_due (count + 1)) x false) none) ∙ t in absurd cc)
] where
  due_at : (m : Option ℕ) → option_map_or (λ n. eqb n (count + 1)) m false ≡ true → m ≡ Some (count + 1)
  due_at None e = absurd cc
  due_at (Some n) e = ap Some (eqb-true n (count + 1) e)

pub due_over : (w : WaitsView) (count : ℕ) (timely : Bool) (rows : List Row) (waits : List (Option Wait)) → AreWaiting w count timely rows waits → count_due (count + 1) waits ≤ count_by (is_over w (count + 1)) rows
due_over w count timely rows waits a = count_le (λ (o : Option Wait). option_map_or (is_due (count + 1)) o false) (is_over w (count + 1)) waits rows a.places (λ k r e t. wait_over w count timely r (wait_at waits k) (a.each k r e) t)

-- where a request stands as it stood, it waits as it waited
pub same_standing : (w : WaitsView) (count : ℕ) (timely : Bool) (old r : Row) (o : Option Wait) → IsSameRequest old r → standing_of old ≡ standing_of r → HasWait w count timely old o → HasWait w count timely r o
same_standing w count timely old r o alike stands h =
    let link : old.link ≡ r.link = ap (λ (s : Standing). s.link) stands in
    let asked : old.asked ≡ r.asked = ap (λ (s : Standing). s.asked) stands in
    let pending : row_pending old ≡ row_pending r = ap (λ (s : Standing). s.is_open) stands in
    let waits : is_waiting old ≡ is_waiting r = rw (link, asked, pending) refl in
    let times : waits_by w old.link old.asked ≡ waits_by w r.link r.asked = rw (link, asked) refl in
    record {
      waits =
          λ t.
          let v = h.waits (waits ∙ t) in (
            v.0,
            v.1,
            v.2 ∙ link,
            v.3 ∙ ap card_in alike.message,
            λ known ticks is later.
                v.4 known ticks (rw (link, asked) is) (rw alike.count later) ∙ ap (λ n. Some (n + ticks)) alike.count,
            λ due e. let q = v.5 due e in (q.0, sym times ∙ q.1, ap (λ n. n + q.0) (sym alike.count) ∙ q.2),
          );
      rests = λ t. h.rests (waits ∙ t);
    }

-- a request that is put where none waits
pub has_entered : (w : WaitsView) (count place : ℕ) (known : Bool) (r : Row) (v : Wait) (o : Option Wait) → is_waiting r ≡ true → o ≡ Some v → v.link ≡ r.link → v.card ≡ card_in r.message → (known ≡ true → IsTimed w count r v) → IsDueInTime w r v → HasWait w count known r o
has_entered w count place known r v o waits is link card timed due = record { waits = λ t. (v, is, link, card, timed, due); rests = λ f. absurd (let x : true ≡ false = sym waits ∙ f in no x) }
  where
    no : true ≡ false → ⊥
    no e = cc

-- a request that doesn't wait
pub has_left : (w : WaitsView) (count : ℕ) (known : Bool) (r : Row) (o : Option Wait) → is_waiting r ≡ false → o ≡ None → HasWait w count known r o
has_left w count known r o rests none = record { waits = λ t. absurd (let x : true ≡ false = sym t ∙ rests in no x); rests = λ f. none }
  where
    no : true ≡ false → ⊥
    no e = cc

-- the book's facts, where the keys are looked up alike
pub kept_same : (rows : List Row) (es es' : List (Key × ℕ)) (n : ℕ) (w : WaitsView) (slots slots' : SlotsView) (timely : Bool) → ((k : Key) → lookup (key_eq k) es' ≡ lookup (key_eq k) es) → slots'.waits ≡ slots.waits → slots'.count ≡ slots.count
    → AreKept rows es n w slots timely → AreKept rows es' n w slots' timely
kept_same rows es es' n w slots slots' timely keys waits count k = record {
  unique = k.unique;
  keyed = λ key. keys key ∙ k.keyed key;
  counted = k.counted;
  waiting = rw (waits, count) k.waiting;
}

pub kept_turned : (rows : List Row) (es : List (Key × ℕ)) (n : ℕ) (w : WaitsView) (slots slots' : SlotsView) (timely : Bool) → slots'.waits ≡ slots.waits → slots'.count ≡ slots.count + 1 → AreKept rows es n w slots timely → AreKept rows es n w slots' timely
kept_turned rows es n w slots slots' timely waits count k = record {
  unique = k.unique;
  keyed = k.keyed;
  counted = k.counted;
  waiting = rw (waits, count) (waiting_turned w slots.count timely rows slots.waits k.waiting);
}

pub kept_opened : (rows : List Row) (r : Row) (es es' : List (Key × ℕ)) (n : ℕ) (w : WaitsView) (slots slots' : SlotsView) (timely known : Bool) → AreKept rows es n w slots timely → place_of (row_key r) rows ≡ None
    → ((k : Key) → lookup (key_eq k) es' ≡ cond (key_eq (row_key r) k) (Some (length rows)) (lookup (key_eq k) es))
    → AreWaiting w slots'.count (timely && known) (rows ++ r ∷ []) slots'.waits → AreKept (rows ++ r ∷ []) es' (n + bit (row_pending r)) w slots' (timely && known)
kept_opened rows r es es' n w slots slots' timely known a none put waiting = record {
  unique = unique_more r rows (found_none (row_key r) rows none) a.unique;
  keyed = λ k. elim (cases_Bool (key_eq (row_key r) k)) [
    | inl t ↦ put k ∙ rw t (sym (place_last k rows r (subst (λ q. place_of q rows ≡ None) (key_eq_is (row_key r) k t) none) t))
    | inr f ↦ put k ∙ rw f (a.keyed k ∙ sym (place_same k rows r f))
  ];
  counted = ap (λ m. m + bit (row_pending r)) a.counted ∙ sym (count_more rows r);
  waiting = waiting;
}

pub kept_after : (o : ReadOutput) (rows : List Row) (es : List (Key × ℕ)) (n m : ℕ) (b : Bool) (w : WaitsView) (slots slots' : SlotsView) (timely known : Bool) → AreKept rows es n w slots timely
    → count_by row_pending (map (row_after o) rows) + bit b ≡ count_by row_pending rows → m + bit b ≡ n
    → AreWaiting w slots'.count (timely && known) (map (row_after o) rows) slots'.waits → AreKept (map (row_after o) rows) es m w slots' (timely && known)
kept_after o rows es n m b w slots slots' timely known a closed is waiting = record {
  unique = unique_after o rows a.unique;
  keyed = λ k. a.keyed k ∙ sym (places_after k o rows);
  counted = (let c = a.counted in omega (arith, closed, is, c));
  waiting = waiting;
}

-- a wait at a place
pub with_at : (waits : List (Option Wait)) (place : ℕ) (o : Option Wait) → place < length waits → wait_at (with_wait waits place o) place ≡ o
with_at [] place o lt = absurd (omega (arith, lt))
with_at (w ∷ waits) zero o lt = refl
with_at (w ∷ waits) (suc k) o lt = with_at waits k o (omega (arith, lt))

pub opened_at_end : (w : WaitsView) (count : ℕ) (timely : Bool) (rows : List Row) (waits : List (Option Wait)) → AreWaiting w count timely rows waits → length rows < length (waits ++ None ∷ [])
opened_at_end w count timely rows waits a = let n = a.places in let m = length-append waits (None ∷ []) in omega (arith, n, m)
