-- What is read is a message of good values in ascending order.
use Rattle.std.proofs.Common.{◌≡◌, ℕ, zero, suc, ◌-◌, ◌%◌, ◌^◌, ◌<◌, ◌≤◌, true, List, [], ◌∷◌, ◌++◌, length, map, Option, Some, None, sym, subst, ◌∙◌, arith, inl, inr}
use Rattle.std.proofs.lemmas.Bool.{cases_lt, lt-ltb, le-ltb, leb-true, and_parts}
use Rattle.std.proofs.lemmas.Nat.{mod_below}
use Rattle.hex.proofs.HexLemmas.{decode_sized-ok, decode_sized-twice, decode_of-ok}
use Rattle.message_elements.specs.declared.form.Class.TheVariants.{Digits}
use Rattle.message_elements.specs.declared.form.Form.{Form}
use Rattle.message_elements.specs.declared.form.Form.TheVariants as forms
use Rattle.message_elements.specs.Values.{fits}
use Rattle.message_elements.specs.Table.{form_of}
use Rattle.iso_message.specs.Fields.{Fields}
use Rattle.iso_message.specs.Messages.{marks}
use Rattle.iso_message.specs.Grammar.{IsPiece, ArePieces, Writes, announced, Spells}
use Rattle.iso_message.specs.Spelling.{Ascends, IsGood, AreGood, IsMessage}
use Rattle.iso_message.proofs.Canonical.{weaker}
use Rattle.iso_message.proofs.Steps.{marks_down}

pub marks_ascend : (last k map : ℕ) → k ≤ last → Ascends (last - k) last (marks last k map)
unfolding marks
marks_ascend last zero map h = tt
marks_ascend last (suc k) map h =
    elim (cases_lt map (2 ^ k)) [
      | inl lt ↦ rw (lt-ltb _ _ lt) (weaker (last - k) (last - suc k) last (marks last k map) (omega arith) (marks_ascend last k map (omega arith)))
      | inr le ↦ rw (le-ltb _ _ le) (omega arith, omega arith, marks_ascend last k (map - 2 ^ k) (omega arith))
    ]

joined : (low : ℕ) (xs ys : List ℕ) → low ≤ 64 → Ascends low 64 xs → Ascends 64 128 ys → Ascends low 128 (xs ++ ys)
joined low [] ys h a b = weaker 64 low 128 ys h b
joined low (x ∷ xs) ys h a b = (a.0, omega (arith, a.1), joined x xs ys a.1 a.2 b)

pub announced_ascend : (first second : ℕ) → Ascends 1 128 (announced first second)
announced_ascend first second =
    let lt : first % 2 ^ 63 < 2 ^ 63 = mod_below first (2 ^ 63) (omega arith) in
    let narrow : marks 64 64 (first % 2 ^ 63) ≡ marks 64 63 (first % 2 ^ 63) = marks_down 64 64 63 (first % 2 ^ 63) (omega arith) lt in
    let low : Ascends 1 64 (marks 64 64 (first % 2 ^ 63)) = subst (λ (ns : List ℕ). Ascends 1 64 ns) (sym narrow) (marks_ascend 64 63 (first % 2 ^ 63) (omega arith)) in
    joined 1 (marks 64 64 (first % 2 ^ 63)) (marks 128 64 second) (omega arith) low (marks_ascend 128 64 second (omega arith))

digit : (b : ℕ) → fits Digits b ≡ true → b ≤ 57
digit b h = leb-true b 57 (and_parts _ _ h).1

two_below : (n : ℕ) (digits : List ℕ) → Writes 2 n digits → n < 100
two_below n [] w = absurd (omega (arith, w.0))
two_below n (a ∷ []) w = absurd (omega (arith, w.0))
two_below n (a ∷ b ∷ []) w = let p = and_parts _ _ w.1 in let q = and_parts _ _ p.1 in omega (arith, w.2, digit a p.0, digit b q.0)
two_below n (a ∷ b ∷ c ∷ ds) w = absurd (omega (arith, w.0))

three_below : (n : ℕ) (digits : List ℕ) → Writes 3 n digits → n < 1000
three_below n [] w = absurd (omega (arith, w.0))
three_below n (a ∷ []) w = absurd (omega (arith, w.0))
three_below n (a ∷ b ∷ []) w = absurd (omega (arith, w.0))
three_below n (a ∷ b ∷ c ∷ []) w = let p = and_parts _ _ w.1 in let q = and_parts _ _ p.1 in let r = and_parts _ _ q.1 in omega (arith, w.2, digit a p.0, digit b q.0, digit c r.0)
three_below n (a ∷ b ∷ c ∷ d ∷ ds) w = absurd (omega (arith, w.0))

pub good : (form : Option Form) (v text : List ℕ) → IsPiece form v text → IsGood form v
good None v text p = absurd p
good (Some (forms.Fixed class size)) v text p = (p.1, p.2)
good (Some (forms.Llvar class most)) v text p = (p.3, two_below (length v) p.0 p.2, p.4)
good (Some (forms.Lllvar class most)) v text p = (p.3, three_below (length v) p.0 p.2, p.4)
good (Some forms.Binary) v text p =
    let len = decode_sized-ok text 8 v p in
    let d = decode_of-ok text v (sym (decode_sized-twice text 8 len) ∙ p) in
    (omega (arith, len, d.2), d.3)

all_good : (es : List (ℕ × List ℕ)) (body : List ℕ) → ArePieces es body → AreGood es
all_good [] body p = tt
all_good (e ∷ es) body p = (good (form_of e.0) e.1 p.0 p.3, all_good es p.1 p.4)

pub is_message : (bytes : List ℕ) (m : Fields) → Spells bytes m → IsMessage m
is_message bytes m h = record {
  order = subst (λ (ns : List ℕ). Ascends 1 128 ns) (sym h.numbers) (announced_ascend h.first h.second);
  values = all_good m.elements h.body h.pieces;
}
