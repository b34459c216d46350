-- The two laws: what is read is spelled so, and what is spelled so is read.
use Rattle.std.proofs.Common.{◌≡◌, ℕ, ◌<◌, ◌≤◌, ◌%◌, ◌^◌, Bool, true, false, cond, ltb, eqb, List, [], ◌∷◌, ◌++◌, length, take, drop, map, Option, Some, None, Result, Ok, Err, refl, sym, ap, subst, ◌∙◌, append_assoc, arith, inl, inr, ◌⊎◌}
use Rattle.std.specs.Prelude.{IfOk, IfErr}
use Rattle.std.specs.Int.{w64, from_be_bytes}
use Rattle.std.proofs.lemmas.Bool.{ltb-true, ltb-false, lt-ltb, le-ltb, eqb-true, eqb-false}
use Rattle.std.proofs.lemmas.List.{take_at, drop_at, append-nil, length-append, nil_from_length}
use Rattle.hex.specs.Hex.{decode_sized}
use Rattle.hex.proofs.HexLemmas.{decode_sized-ok}
use Rattle.hex.specs.declared.error.FromHexError.{FromHexError}
use Rattle.message_elements.specs.declared.kind.Kind.{Kind}
use Rattle.message_elements.specs.declared.fault.DecodeFault.{DecodeFault}
use Rattle.message_elements.specs.declared.fault.DecodeFault.TheVariants as faults
use Rattle.message_elements.specs.Types.{kind_of}
use Rattle.card_digits.specs.Attempts.{◌>>=◌, Fails, Gives}
use Rattle.iso_message.specs.Elements.{field_at, with_next, with_all}
use Rattle.message_elements.specs.Table.{form_of}
use Rattle.iso_message.specs.Fields.{Fields}
use Rattle.iso_message.specs.Messages.{marks, typed, kind_at, mapped, map_at, second_at, read, is_memory}
use Rattle.iso_message.specs.Grammar.{ArePieces, IsMap, AreMaps, announced, Spells, IsKind, IsFault, AtKind, AtFirst, AtSecond, AtElement, AtEnd}
use Rattle.card_digits.proofs.Attempts.{fails_either}
use Rattle.iso_message.proofs.MemoryFault.{memory_is}
use Rattle.iso_message.proofs.Pieces.{bind_ok, guard_ok, pass_ok, front, field_takes, field_again}

abbrev pub Elements : Type 0
Elements = List (ℕ × List ℕ)

done : {A : Type 0} (x y : A) → ◌≡◌ {A = Result A DecodeFault} (Ok x) (Ok y) → x ≡ y
done x y e = cc

-- ---- elements

-- what was read for these numbers
record Took (es : Elements) (ns bytes : List ℕ) (x : Elements × List ℕ) : Type 0 where
  new : Elements
  text : List ℕ
  added : x.0 ≡ es ++ new
  numbers : map (λ e. e.0) new ≡ ns
  parts : bytes ≡ text ++ x.1
  pieces : ArePieces new text

all_takes : (ns : List ℕ) (es : Elements) (bytes : List ℕ) (x : Elements × List ℕ) → with_all es ns bytes ≡ Ok x → Took es ns bytes x
unfolding with_all with_next
all_takes [] es bytes x e =
    let same : (es, bytes) ≡ x = done (es, bytes) x e in
    subst (λ (y : Elements × List ℕ). Took es [] bytes y) same (record { new = []; text = []; added = sym (append-nil es); numbers = refl; parts = refl; pieces = refl })
all_takes (n ∷ ns) es bytes x e =
    let a = bind_ok (with_next es (form_of n) n bytes) (λ y. with_all y.0 ns y.1) x e in
    let b = bind_ok (field_at (form_of n) n bytes) (λ v. Ok (es ++ (n, v.0) ∷ [], v.1)) a.0 a.1 in
    let y : Elements × List ℕ = (es ++ (n, b.0.0) ∷ [], b.0.1) in
    let same : y ≡ a.0 = done y a.0 b.2 in
    let rest : with_all y.0 ns y.1 ≡ Ok x = subst (λ (z : Elements × List ℕ). with_all z.0 ns z.1 ≡ Ok x) (sym same) a.2 in
    let t = field_takes (form_of n) n bytes b.0.0 b.0.1 b.1 in
    let u = all_takes ns y.0 y.1 x rest in
    record {
      new = (n, b.0.0) ∷ u.new;
      text = t.0 ++ u.text;
      added = u.added ∙ append_assoc es ((n, b.0.0) ∷ []) u.new;
      numbers = ap (λ ks. n ∷ ks) u.numbers;
      parts = t.1 ∙ ap (λ r. t.0 ++ r) u.parts ∙ sym (append_assoc t.0 u.text x.1);
      pieces = (t.0, u.text, refl, t.2, u.pieces);
    }

pub all_again : (new es : Elements) (text rest : List ℕ) → ArePieces new text → with_all es (map (λ e. e.0) new) (text ++ rest) ≡ Ok (es ++ new, rest)
unfolding with_all with_next
all_again [] es text rest p = ap (λ t. with_all es [] (t ++ rest)) p ∙ ap (λ (x : Elements). Ok (x, rest)) (sym (append-nil es))
all_again (e ∷ new) es text rest p =
    let regrouped : text ++ rest ≡ p.0 ++ (p.1 ++ rest) = ap (λ t. t ++ rest) p.2 ∙ append_assoc p.0 p.1 rest in
    let field = field_again (form_of e.0) e.0 e.1 p.0 (p.1 ++ rest) p.3 in
    let step : with_next es (form_of e.0) e.0 (text ++ rest) ≡ Ok (es ++ e ∷ [], p.1 ++ rest) = rw (regrouped, field) refl in
    ap (λ r. r >>= λ y. with_all y.0 (map (λ e. e.0) new) y.1) step
    ∙ all_again new (es ++ e ∷ []) p.1 rest p.4
    ∙ ap (λ (x : Elements). Ok (x, rest)) (append_assoc es (e ∷ []) new)

-- those of two lists of numbers, one after the other
pub all-append : (ns ms : List ℕ) (es : Elements) (bytes : List ℕ) → with_all es (ns ++ ms) bytes ≡ (with_all es ns bytes >>= λ x. with_all x.0 ms x.1)
unfolding with_all
all-append [] ms es bytes = refl
all-append (n ∷ ns) ms es bytes = step (with_next es (form_of n) n bytes) (λ x. all-append ns ms x.0 x.1)
  where
    step : (r : Result (Elements × List ℕ) DecodeFault) → ((x : Elements × List ℕ) → with_all x.0 (ns ++ ms) x.1 ≡ (with_all x.0 ns x.1 >>= λ y. with_all y.0 ms y.1))
        → (r >>= λ x. with_all x.0 (ns ++ ms) x.1) ≡ ((r >>= λ x. with_all x.0 ns x.1) >>= λ x. with_all x.0 ms x.1)
    step (Ok x) h = h x
    step (Err e) h = refl

-- ---- the head

typed_ok : (o : Option Kind) (rest : List ℕ) (y : Kind × List ℕ) → typed o rest ≡ Ok y → (o ≡ Some y.0) × (rest ≡ y.1)
typed_ok None rest y e = absurd cc
typed_ok (Some k) rest y e = let s = done (k, rest) y e in (ap (λ (p : Kind × List ℕ). Some p.0) s, ap (λ (p : Kind × List ℕ). p.1) s)

pub kind_takes : (bytes : List ℕ) (y : Kind × List ℕ) → kind_at bytes ≡ Ok y → (text : List ℕ) × (bytes ≡ text ++ y.1) × (length text ≡ 4) × (kind_of text ≡ Some y.0)
unfolding kind_at
kind_takes bytes y e =
    let g = guard_ok (ltb (length bytes) 4) faults.Short (typed (kind_of (take 4 bytes)) (drop 4 bytes)) y e in
    let t = typed_ok (kind_of (take 4 bytes)) (drop 4 bytes) y g.1 in
    let f = front 4 bytes (take 4 bytes) y.1 (ltb-false _ _ g.0) refl t.1 in
    (take 4 bytes, f.0, f.1, t.0)

pub kind_again : (text rest : List ℕ) (k : Kind) → length text ≡ 4 → kind_of text ≡ Some k → kind_at (text ++ rest) ≡ Ok (k, rest)
unfolding kind_at
kind_again text rest k len e =
    let long : ltb (length (text ++ rest)) 4 ≡ false = le-ltb _ _ (omega (arith, length-append text rest)) in
    rw (long) (ap (λ t. typed (kind_of t) (drop 4 (text ++ rest))) (take_at text rest 4 len) ∙ ap (λ o. typed o (drop 4 (text ++ rest))) e ∙ ap (λ (r : List ℕ). Ok (k, r)) (drop_at text rest 4 len))

mapped_ok : (r : Result (List ℕ) FromHexError) (rest : List ℕ) (y : ℕ × List ℕ) → mapped r rest ≡ Ok y → (b : List ℕ) × (r ≡ Ok b) × (from_be_bytes w64 b ≡ y.0) × (rest ≡ y.1)
mapped_ok (Ok b) rest y e = let s = done (from_be_bytes w64 b, rest) y e in (b, refl, ap (λ (p : ℕ × List ℕ). p.0) s, ap (λ (p : ℕ × List ℕ). p.1) s)
mapped_ok (Err d) rest y e = absurd cc

pub map_takes : (bytes : List ℕ) (y : ℕ × List ℕ) → map_at bytes ≡ Ok y → (text : List ℕ) × (bytes ≡ text ++ y.1) × IsMap y.0 text
unfolding map_at
map_takes bytes y e =
    let g = guard_ok (ltb (length bytes) 16) faults.Short (mapped (decode_sized (take 16 bytes) 8) (drop 16 bytes)) y e in
    let m = mapped_ok (decode_sized (take 16 bytes) 8) (drop 16 bytes) y g.1 in
    let f = front 16 bytes (take 16 bytes) y.1 (ltb-false _ _ g.0) refl m.3 in
    (take 16 bytes, f.0, (m.0, m.1, m.2))

pub map_again : (n : ℕ) (text rest : List ℕ) → IsMap n text → map_at (text ++ rest) ≡ Ok (n, rest)
unfolding map_at
map_again n text rest p =
    let len : length text ≡ 16 = decode_sized-ok text 8 p.0 p.1 in
    let long : ltb (length (text ++ rest)) 16 ≡ false = le-ltb _ _ (omega (arith, length-append text rest)) in
    rw (long, take_at text rest 16 len, drop_at text rest 16 len, p.1, p.2) refl

maps_take : (bytes : List ℕ) (p s : ℕ × List ℕ) → map_at bytes ≡ Ok p → second_at p.0 p.1 ≡ Ok s → (text : List ℕ) × (bytes ≡ text ++ s.1) × AreMaps p.0 s.0 text
unfolding second_at
maps_take bytes p s e f =
    let one = map_takes bytes p e in
    elim (cases p s f) [
      | inl none ↦
          let rest : bytes ≡ one.0 ++ s.1 = one.1 ∙ ap (λ r. one.0 ++ r) none.2 in
          (one.0, rest, inl (none.0, none.1, one.2))
      | inr some ↦
          let two = map_takes p.1 s some.1 in
          let rest : bytes ≡ (one.0 ++ two.0) ++ s.1 = one.1 ∙ ap (λ r. one.0 ++ r) two.1 ∙ sym (append_assoc one.0 two.0 s.1) in
          (one.0 ++ two.0, rest, inr (some.0, one.0, two.0, refl, one.2, two.2))
    ]
  where
    chosen : {A : Type 0} (b : Bool) (x y z : A) → cond b x y ≡ z → ((b ≡ true) × (x ≡ z)) ⊎ ((b ≡ false) × (y ≡ z))
    chosen true x y z e = inl (refl, e)
    chosen false x y z e = inr (refl, e)

    cases : (p s : ℕ × List ℕ) → second_at p.0 p.1 ≡ Ok s → ((p.0 < 2 ^ 63) × (s.0 ≡ 0) × (p.1 ≡ s.1)) ⊎ ((2 ^ 63 ≤ p.0) × (map_at p.1 ≡ Ok s))
    cases p s f =
        elim (chosen (ltb p.0 (2 ^ 63)) (Ok (0, p.1)) (map_at p.1) (Ok s) f) [
          | inl c ↦ let e = done (0, p.1) s c.1 in inl (ltb-true _ _ c.0, ap (λ (q : ℕ × List ℕ). q.0) (sym e), ap (λ (q : ℕ × List ℕ). q.1) e)
          | inr c ↦ inr (ltb-false _ _ c.0, c.1)
        ]

-- ---- messages

abbrev pub ended : Kind → Elements × List ℕ → Result Fields DecodeFault
ended kind x = cond (eqb (length x.1) 0) (Ok (record { kind = kind; elements = x.0 })) (Err faults.Trailing)

abbrev pub after_maps : Kind → ℕ → ℕ × List ℕ → Result Fields DecodeFault
after_maps kind first s = with_all [] (marks 64 64 (first % 2 ^ 63)) s.1 >>= λ low. with_all low.0 (marks 128 64 s.0) low.1 >>= λ high. ended kind high

-- the same, of all numbers at once
pub at_once : (kind : Kind) (first : ℕ) (s : ℕ × List ℕ) → after_maps kind first s ≡ (with_all [] (announced first s.0) s.1 >>= λ x. ended kind x)
at_once kind first s = regroup (with_all [] (marks 64 64 (first % 2 ^ 63)) s.1) ∙ ap (λ r. r >>= λ x. ended kind x) (sym (all-append (marks 64 64 (first % 2 ^ 63)) (marks 128 64 s.0) [] s.1))
  where
    regroup : (r : Result (Elements × List ℕ) DecodeFault) → (r >>= λ low. with_all low.0 (marks 128 64 s.0) low.1 >>= λ x. ended kind x) ≡ ((r >>= λ low. with_all low.0 (marks 128 64 s.0) low.1) >>= λ x. ended kind x)
    regroup (Ok x) = refl
    regroup (Err e) = refl

pub read_takes : (bytes : List ℕ) (m : Fields) → read bytes ≡ Ok m → Spells bytes m
unfolding read
read_takes bytes m e =
    let k = bind_ok (kind_at bytes) (λ kind. map_at kind.1 >>= λ first. second_at first.0 first.1 >>= λ s. after_maps kind.0 first.0 s) m e in
    let p = bind_ok (map_at k.0.1) (λ first. second_at first.0 first.1 >>= λ s. after_maps k.0.0 first.0 s) m k.2 in
    let s = bind_ok (second_at p.0.0 p.0.1) (λ s. after_maps k.0.0 p.0.0 s) m p.2 in
    let x = bind_ok (with_all [] (announced p.0.0 s.0.0) s.0.1) (λ x. ended k.0.0 x) m (sym (at_once k.0.0 p.0.0 s.0) ∙ s.2) in
    let made : Fields = record { kind = k.0.0; elements = x.0.0 } in
    let g = pass_ok (eqb (length x.0.1) 0) faults.Trailing made m x.2 in
    let nothing : x.0.1 ≡ [] = nil_from_length x.0.1 (eqb-true _ _ g.0) in
    let kt = kind_takes bytes k.0 k.1 in
    let mt = maps_take k.0.1 p.0 s.0 p.1 s.1 in
    let et = all_takes (announced p.0.0 s.0.0) [] s.0.1 x.0 x.1 in
    let body : s.0.1 ≡ et.text = et.parts ∙ ap (λ r. et.text ++ r) nothing ∙ append-nil et.text in
    let found : Spells bytes made = record {
      kind = kt.0;
      maps = mt.0;
      body = et.text;
      first = p.0.0;
      second = s.0.0;
      whole = kt.1 ∙ ap (λ r. kt.0 ++ r) (mt.1 ∙ ap (λ r. mt.0 ++ r) body);
      is_kind = (kt.2, kt.3);
      are_maps = mt.2;
      numbers = ap (map (λ e. e.0)) et.added ∙ et.numbers;
      pieces = subst (λ (es : Elements). ArePieces es et.text) (sym et.added) et.pieces;
    } in
    subst (λ (n : Fields). Spells bytes n) g.1 found

pub maps_again : (first second : ℕ) (text rest : List ℕ) → AreMaps first second text → (p : ℕ × List ℕ) × (map_at (text ++ rest) ≡ Ok p) × (p.0 ≡ first) × (second_at p.0 p.1 ≡ Ok (second, rest))
unfolding second_at
maps_again first second text rest h =
    elim h [
      | inl one ↦
          let low : ltb first (2 ^ 63) ≡ true = lt-ltb _ _ one.0 in
          ((first, rest), map_again first text rest one.2, refl, rw (low, one.1) refl)
      | inr two ↦
          let high : ltb first (2 ^ 63) ≡ false = le-ltb _ _ two.0 in
          let regrouped : text ++ rest ≡ two.1 ++ (two.2 ++ rest) = ap (λ t. t ++ rest) two.3 ∙ append_assoc two.1 two.2 rest in
          ((first, two.2 ++ rest), ap map_at regrouped ∙ map_again first two.1 (two.2 ++ rest) two.4, refl, rw high (map_again second two.2 rest two.5))
    ]

pub read_again : (bytes : List ℕ) (m : Fields) → Spells bytes m → read bytes ≡ Ok m
unfolding read
read_again bytes m h =
    let k = kind_again h.kind (h.maps ++ h.body) m.kind h.is_kind.0 h.is_kind.1 in
    let p = maps_again h.first h.second h.maps h.body h.are_maps in
    let all : with_all [] (announced h.first h.second) h.body ≡ Ok (m.elements, []) = ap (λ t. with_all [] (announced h.first h.second) t) (sym (append-nil h.body)) ∙ ap (λ ns. with_all [] ns (h.body ++ [])) (sym h.numbers) ∙ all_again m.elements [] h.body [] h.pieces in
    let last : after_maps m.kind h.first (h.second, h.body) ≡ Ok m = at_once m.kind h.first (h.second, h.body) ∙ ap (λ r. r >>= λ x. ended m.kind x) all in
    ap read h.whole
    ∙ ap (λ r. r >>= λ kind. map_at kind.1 >>= λ first. second_at first.0 first.1 >>= λ s. after_maps kind.0 first.0 s) k
    ∙ ap (λ r. r >>= λ first. second_at first.0 first.1 >>= λ s. after_maps m.kind first.0 s) p.1
    ∙ ap (λ r. r >>= λ s. after_maps m.kind p.0.0 s) p.3
    ∙ ap (λ n. after_maps m.kind n (h.second, h.body)) p.2
    ∙ last

-- ---- faults

bind_err : {A B : Type 0} (r : Result A DecodeFault) (f : A → Result B DecodeFault) (e : DecodeFault) → (r >>= f) ≡ Err e → (r ≡ Err e) ⊎ ((x : A) × (r ≡ Ok x) × (f x ≡ Err e))
bind_err (Ok x) f e h = inr (x, refl, h)
bind_err (Err d) f e h = inl (cc)

-- where the reading of these numbers stopped
record Stopped (ns bytes : List ℕ) (fault : DecodeFault) : Type 0 where
  new : Elements
  text : List ℕ
  rest : List ℕ
  n : ℕ
  later : List ℕ
  numbers : map (λ e. e.0) new ++ n ∷ later ≡ ns
  parts : bytes ≡ text ++ rest
  pieces : ArePieces new text
  field : field_at (form_of n) n rest ≡ Err fault

all_stops : (ns : List ℕ) (es : Elements) (bytes : List ℕ) (fault : DecodeFault) → with_all es ns bytes ≡ Err fault → Stopped ns bytes fault
unfolding with_all with_next
all_stops [] es bytes fault e = absurd cc
all_stops (n ∷ ns) es bytes fault e =
    elim (bind_err (with_next es (form_of n) n bytes) (λ y. with_all y.0 ns y.1) fault e) [
      | inl now ↦
          elim (bind_err (field_at (form_of n) n bytes) (λ v. Ok (es ++ (n, v.0) ∷ [], v.1)) fault now) [
            | inl h ↦ record { new = []; text = []; rest = bytes; n = n; later = ns; numbers = refl; parts = refl; pieces = refl; field = h }
            | inr h ↦ absurd (never _ fault h.2)
          ]
      | inr later ↦
          let b = bind_ok (field_at (form_of n) n bytes) (λ v. Ok (es ++ (n, v.0) ∷ [], v.1)) later.0 later.1 in
          let y : Elements × List ℕ = (es ++ (n, b.0.0) ∷ [], b.0.1) in
          let same : y ≡ later.0 = done y later.0 b.2 in
          let t = field_takes (form_of n) n bytes b.0.0 b.0.1 b.1 in
          let u = all_stops ns y.0 y.1 fault (subst (λ (z : Elements × List ℕ). with_all z.0 ns z.1 ≡ Err fault) (sym same) later.2) in
          record {
            new = (n, b.0.0) ∷ u.new;
            text = t.0 ++ u.text;
            rest = u.rest;
            n = u.n;
            later = u.later;
            numbers = ap (λ ks. n ∷ ks) u.numbers;
            parts = t.1 ∙ ap (λ r. t.0 ++ r) u.parts ∙ sym (append_assoc t.0 u.text u.rest);
            pieces = (t.0, u.text, refl, t.2, u.pieces);
            field = u.field;
          }
    ]
  where
    never : {A : Type 0} (x : A) (e : DecodeFault) → ◌≡◌ {A = Result A DecodeFault} (Ok x) (Err e) → ⊥
    never x e h = cc

pass_err : {A : Type 0} (b : Bool) (d : DecodeFault) (x : A) (e : DecodeFault) → cond b (Ok x) (Err d) ≡ Err e → (b ≡ false) × (d ≡ e)
pass_err true d x e h = absurd cc
pass_err false d x e h = (refl, cc)

ended_err : (kind : Kind) (x : Elements × List ℕ) (fault : DecodeFault) → ended kind x ≡ Err fault → (fault ≡ faults.Trailing) × (x.1 ≡ [] → ⊥)
ended_err kind x fault e =
    let made : Fields = record { kind = kind; elements = x.0 } in
    let g = pass_err (eqb (length x.1) 0) faults.Trailing made fault e in
    (sym g.1, λ h. eqb-false (length x.1) 0 g.0 (ap length h))

pub read_fails : (bytes : List ℕ) (fault : DecodeFault) → read bytes ≡ Err fault → IsFault bytes fault
unfolding read second_at
read_fails bytes fault e =
    elim (bind_err (kind_at bytes) (λ kind. map_at kind.1 >>= λ first. second_at first.0 first.1 >>= λ s. after_maps kind.0 first.0 s) fault e) [
      | inl h ↦ AtKind h
      | inr k ↦
          let kt = kind_takes bytes k.0 k.1 in
          let is_kind : IsKind kt.0 k.0.0 = (kt.2, kt.3) in
          elim (bind_err (map_at k.0.1) (λ first. second_at first.0 first.1 >>= λ s. after_maps k.0.0 first.0 s) fault k.2) [
            | inl h ↦ AtFirst kt.0 k.0.1 k.0.0 kt.1 is_kind h
            | inr p ↦
                let one = map_takes k.0.1 p.0 p.1 in
                elim (bind_err (second_at p.0.0 p.0.1) (λ s. after_maps k.0.0 p.0.0 s) fault p.2) [
                  | inl h ↦
                      let g = second_err p.0 fault h in
                      AtSecond kt.0 one.0 p.0.1 k.0.0 p.0.0 (kt.1 ∙ ap (λ r. kt.0 ++ r) one.1) is_kind one.2 g.0 g.1
                  | inr s ↦
                      let mt = maps_take k.0.1 p.0 s.0 p.1 s.1 in
                      elim (bind_err (with_all [] (announced p.0.0 s.0.0) s.0.1) (λ x. ended k.0.0 x) fault (sym (at_once k.0.0 p.0.0 s.0) ∙ s.2)) [
                        | inl h ↦
                            let st = all_stops (announced p.0.0 s.0.0) [] s.0.1 fault h in
                            AtElement kt.0 mt.0 st.text st.rest k.0.0 p.0.0 s.0.0 st.new st.n st.later (kt.1 ∙ ap (λ r. kt.0 ++ r) (mt.1 ∙ ap (λ r. mt.0 ++ r) st.parts)) is_kind mt.2 st.numbers st.pieces st.field
                        | inr x ↦
                            let et = all_takes (announced p.0.0 s.0.0) [] s.0.1 x.0 x.1 in
                            let g = ended_err k.0.0 x.0 fault x.2 in
                            AtEnd kt.0 mt.0 et.text x.0.1 k.0.0 p.0.0 s.0.0 et.new (kt.1 ∙ ap (λ r. kt.0 ++ r) (mt.1 ∙ ap (λ r. mt.0 ++ r) et.parts)) is_kind mt.2 et.numbers et.pieces g.1 g.0
                      ]
                ]
          ]
    ]
  where
    chosen_err : (b : Bool) (x : ℕ × List ℕ) (r : Result (ℕ × List ℕ) DecodeFault) (e : DecodeFault) → cond b (Ok x) r ≡ Err e → (b ≡ false) × (r ≡ Err e)
    chosen_err true x r e h = absurd cc
    chosen_err false x r e h = (refl, h)

    second_err : (p : ℕ × List ℕ) (e : DecodeFault) → second_at p.0 p.1 ≡ Err e → (2 ^ 63 ≤ p.0) × (map_at p.1 ≡ Err e)
    second_err p e h = let g = chosen_err (ltb p.0 (2 ^ 63)) (0, p.1) (map_at p.1) e h in (ltb-false _ _ g.0, g.1)

-- ---- what a function returned

module _ {X : Type 0} (view : X → Fields) (bytes : List ℕ) where
  pub is_found : (r : Result X DecodeFault) → Gives is_memory view r (read bytes) → IfOk r (λ m. Spells bytes (view m))
  is_found (Ok m) given = read_takes bytes (view m) given
  is_found (Err e) given = tt

  pub is_only : (r : Result X DecodeFault) (m : Fields) → Spells bytes m → Gives is_memory view r (read bytes) → Gives is_memory view r (Ok m)
  is_only r m h given = subst (λ (x : Result Fields DecodeFault). Gives is_memory view r x) (read_again bytes m h) given

  of_fault : (e : DecodeFault) → Fails is_memory e (read bytes) → (e ≡ faults.Memory) ⊎ IsFault bytes e
  of_fault e h = elim (fails_either is_memory e (read bytes) h) [
    | inl memory ↦ inl (memory_is e memory)
    | inr fails ↦ inr (read_fails bytes e fails)
  ]

  pub is_fault : (r : Result X DecodeFault) → Gives is_memory view r (read bytes) → IfErr r (λ e. (e ≡ faults.Memory) ⊎ IsFault bytes e)
  is_fault (Ok m) given = tt
  is_fault (Err e) given = of_fault e given

pub unique : (bytes : List ℕ) (m n : Fields) → Spells bytes m → Spells bytes n → m ≡ n
unique bytes m n h k = done m n (sym (read_again bytes m h) ∙ read_again bytes n k)
