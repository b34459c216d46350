-- Elements as they are read of a body, and their pieces.
use Rattle.std.proofs.Common.{◌≡◌, ℕ, ◌+◌, ◌-◌, ◌/◌, ◌%◌, ◌≤◌, true, false, List, [], ◌∷◌, ◌++◌, length, take, drop, Option, Some, None, Ok, sym, ap, ap₂, ◌∙◌, append_assoc, arith, length-append}
use Rattle.std.specs.Prelude.{slice_range}
use Rattle.std.proofs.lemmas.Bool.{and_parts, leb-true}
use Rattle.std.proofs.lemmas.List.{take-append-drop, take_at, drop_at, length-take-le}
use Rattle.message_elements.specs.declared.form.Class.{Class}
use Rattle.message_elements.specs.declared.form.Class.TheVariants.{Digits}
use Rattle.message_elements.specs.declared.form.Form.{Form}
use Rattle.message_elements.specs.declared.form.Form.TheVariants as forms
use Rattle.iso_message.specs.declared.elements.Span.{Span}
use Rattle.message_elements.specs.Values.{fits}
use Rattle.iso_message.specs.Elements.{content_at, counted_at, binary_at, field_at}
use Rattle.iso_message.specs.Grammar.{Writes}
use Rattle.message_elements.specs.Table.{form_of}
use Rattle.iso_message.specs.Spelling.{two_digits, three_digits, piece, is_binary}
use Rattle.iso_message.specs.Spans.{text_of, start_of, end_of, seen, AreWithin}
use Rattle.iso_message.specs.Parts.{Body, IsEnd, IsPart}
use Rattle.iso_message.proofs.SpansMore.{range_more, within_push, seen_push}
use Rattle.iso_message.proofs.MessageLemmas.{few_listed}
use Rattle.iso_message.proofs.Pieces.{content_takes, counted_takes, binary_takes}

abbrev the_body : List ℕ → List (ℕ × List ℕ) → Body
the_body body elements = record { body = body; elements = elements }

-- what stands between two parts of a body, in a buffer that begins with the body
part_at : (values a b c : List ℕ) (k i j : ℕ) → k ≤ length values → take k values ≡ a ++ (b ++ c) → i ≡ length a → j ≡ length a + length b → slice_range values i j ≡ b
part_at values a b c k i j le e at to =
    let body = take k values in
    let whole : body ++ drop k values ≡ values = take-append-drop k values in
    let long : length body ≡ length a + (length b + length c) = ap length e ∙ length-append a (b ++ c) ∙ ap (λ n. length a + n) (length-append b c) in
    let from : drop i body ≡ b ++ c = ap (drop i) e ∙ drop_at a (b ++ c) i (sym at) in
    ap (λ vs. slice_range vs i j) (sym whole) ∙ range_more body (drop k values) i j (omega arith) (omega (arith, long)) ∙ ap (take (j - i)) from ∙ take_at b c (j - i) (omega arith)

-- the span of a part of the body, behind those that are there
module _ (values : List ℕ) (spans : List Span) (s : Span) (k : ℕ) (body bytes content rest : List ℕ)
    (le : k ≤ length values) (is : take k values ≡ body) (end : IsEnd bytes body) (part : IsPart s.number bytes content rest)
    (text : text_of s ≡ k - length bytes) (before : s.digits ≡ length bytes - length rest - length content) (len : s.len ≡ length content) where
  whole : body ≡ end.0 ++ (part.head ++ (content ++ rest))
  whole = end.1 ∙ ap (λ bs. end.0 ++ bs) part.whole

  lengths : k ≡ length end.0 + (length part.head + (length content + length rest))
  lengths = sym (length-take-le k values le) ∙ ap length (is ∙ whole) ∙ length-append end.0 (part.head ++ (content ++ rest)) ∙ ap (λ n. length end.0 + n) (length-append part.head (content ++ rest) ∙ ap (λ n. length part.head + n) (length-append content rest))

  bytes_long : length bytes ≡ length part.head + (length content + length rest)
  bytes_long = ap length part.whole ∙ length-append part.head (content ++ rest) ∙ ap (λ n. length part.head + n) (length-append content rest)

  shows : slice_range values (start_of s) (end_of s) ≡ content
  shows =
      let parts : take k values ≡ (end.0 ++ part.head) ++ (content ++ rest) = is ∙ whole ∙ sym (append_assoc end.0 part.head (content ++ rest)) in
      part_at values (end.0 ++ part.head) content rest k (start_of s) (end_of s) le parts (omega (arith, lengths, bytes_long, text, before, length-append end.0 part.head)) (omega (arith, lengths, bytes_long, text, before, len, length-append end.0 part.head))

  spells : slice_range values (text_of s) (end_of s) ≡ piece (form_of s.number) (slice_range values (start_of s) (end_of s))
  spells =
      let parts : take k values ≡ end.0 ++ ((part.head ++ content) ++ rest) = is ∙ whole ∙ ap (λ bs. end.0 ++ bs) (sym (append_assoc part.head content rest)) in
      part_at values end.0 (part.head ++ content) rest k (text_of s) (end_of s) le parts (omega (arith, lengths, bytes_long, text)) (omega (arith, lengths, bytes_long, text, before, len, length-append part.head content)) ∙ part.spelled ∙ ap (piece (form_of s.number)) (sym shows)

  pub within_part : AreWithin values spans → AreWithin values (spans ++ s ∷ [])
  within_part h = within_push values spans s h (record { inside = omega (arith, lengths, bytes_long, text, before, len); spelled = λ other. spells })

  pub seen_part : seen values (spans ++ s ∷ []) ≡ seen values spans ++ (s.number, content) ∷ []
  seen_part = seen_push values spans s ∙ ap (λ (v : List ℕ). seen values spans ++ (s.number, v) ∷ []) shows

pub end_of_part : (n : ℕ) (body bytes v rest : List ℕ) → IsEnd bytes body → IsPart n bytes v rest → IsEnd rest body
end_of_part n body bytes v rest e p =
    let front : bytes ≡ (p.head ++ v) ++ rest = p.whole ∙ sym (append_assoc p.head v rest) in
    (e.0 ++ (p.head ++ v), e.1 ∙ ap (λ bs. e.0 ++ bs) front ∙ sym (append_assoc e.0 (p.head ++ v) rest))

pub end_of_binary : (n : ℕ) (body bytes v rest : List ℕ) → IsEnd bytes body → binary_at n bytes ≡ Ok (v, rest) → IsEnd rest body
end_of_binary n body bytes v rest e b =
    let t = binary_takes n bytes v rest b in
    (e.0 ++ t.0, e.1 ∙ ap (λ bs. e.0 ++ bs) t.1 ∙ sym (append_assoc e.0 t.0 rest))

pub fixed_part : (class : Class) (size n : ℕ) (bytes v rest : List ℕ) → form_of n ≡ Some (forms.Fixed class size) → content_at class size n bytes ≡ Ok (v, rest) → IsPart n bytes v rest
fixed_part class size n bytes v rest f e =
    let c = content_takes class size n bytes v rest e in
    record { head = []; whole = c.0; spelled = ap (λ form. piece form v) (sym f); digits = omega arith; few = omega (arith, c.1, few_listed n (forms.Fixed class size) f) }

digit : (b : ℕ) → fits Digits b ≡ true → (48 ≤ b) × (b ≤ 57)
digit b h = let p = and_parts _ _ h in (leb-true 48 b p.0, leb-true b 57 p.1)

two_spelled : (n : ℕ) (digits : List ℕ) → Writes 2 n digits → digits ≡ two_digits n
two_spelled n [] w = absurd (omega (arith, w.0))
two_spelled n (a ∷ []) w = absurd (omega (arith, w.0))
two_spelled n (a ∷ b ∷ []) w =
    let p = and_parts _ _ w.1 in
    let q = and_parts _ _ p.1 in
    let first : a ≡ 48 + n / 10 = omega (arith, w.2, digit a p.0, digit b q.0) in
    let second : b ≡ 48 + n % 10 = omega (arith, w.2, digit a p.0, digit b q.0) in
    ap₂ (λ x y. x ∷ y ∷ []) first second
two_spelled n (a ∷ b ∷ c ∷ ds) w = absurd (omega (arith, w.0))

three_spelled : (n : ℕ) (digits : List ℕ) → Writes 3 n digits → digits ≡ three_digits n
three_spelled n [] w = absurd (omega (arith, w.0))
three_spelled n (a ∷ []) w = absurd (omega (arith, w.0))
three_spelled n (a ∷ b ∷ []) w = absurd (omega (arith, w.0))
three_spelled n (a ∷ b ∷ c ∷ []) w =
    let p = and_parts _ _ w.1 in
    let q = and_parts _ _ p.1 in
    let r = and_parts _ _ q.1 in
    let first : a ≡ 48 + n / 100 = omega (arith, w.2, digit a p.0, digit b q.0, digit c r.0) in
    let second : b ≡ 48 + n / 10 % 10 = omega (arith, w.2, digit a p.0, digit b q.0, digit c r.0) in
    let third : c ≡ 48 + n % 10 = omega (arith, w.2, digit a p.0, digit b q.0, digit c r.0) in
    ap₂ (λ x ys. x ∷ ys) first (ap₂ (λ x y. x ∷ y ∷ []) second third)
three_spelled n (a ∷ b ∷ c ∷ d ∷ ds) w = absurd (omega (arith, w.0))

pub two_part : (class : Class) (most n : ℕ) (bytes v rest : List ℕ) → form_of n ≡ Some (forms.Llvar class most) → counted_at 2 class most n bytes ≡ Ok (v, rest) → IsPart n bytes v rest
two_part class most n bytes v rest f e =
    let t = counted_takes 2 class most n bytes v rest e in
    let p = t.2 in
    record {
      head = p.0;
      whole = t.1 ∙ ap (λ bs. bs ++ rest) p.1 ∙ append_assoc p.0 v rest;
      spelled = ap (λ ds. ds ++ v) (two_spelled (length v) p.0 p.2) ∙ ap (λ form. piece form v) (sym f);
      digits = omega (arith, p.2.0);
      few = omega (arith, p.3, few_listed n (forms.Llvar class most) f);
    }

pub three_part : (class : Class) (most n : ℕ) (bytes v rest : List ℕ) → form_of n ≡ Some (forms.Lllvar class most) → counted_at 3 class most n bytes ≡ Ok (v, rest) → IsPart n bytes v rest
three_part class most n bytes v rest f e =
    let t = counted_takes 3 class most n bytes v rest e in
    let p = t.2 in
    record {
      head = p.0;
      whole = t.1 ∙ ap (λ bs. bs ++ rest) p.1 ∙ append_assoc p.0 v rest;
      spelled = ap (λ ds. ds ++ v) (three_spelled (length v) p.0 p.2) ∙ ap (λ form. piece form v) (sym f);
      digits = omega (arith, p.2.0);
      few = omega (arith, p.3, few_listed n (forms.Lllvar class most) f);
    }

-- of any form but that of eight bytes
pub plain_part : (form : Option Form) (n : ℕ) (bytes v rest : List ℕ) → form_of n ≡ form → is_binary form ≡ false → field_at form n bytes ≡ Ok (v, rest) → IsPart n bytes v rest
plain_part None n bytes v rest f plain e = cc e
plain_part (Some (forms.Fixed class size)) n bytes v rest f plain e = fixed_part class size n bytes v rest f e
plain_part (Some (forms.Llvar class most)) n bytes v rest f plain e = two_part class most n bytes v rest f e
plain_part (Some (forms.Lllvar class most)) n bytes v rest f plain e = three_part class most n bytes v rest f e
plain_part (Some forms.Binary) n bytes v rest f plain e = cc plain

-- the view with one element more
pub added : (values body : List ℕ) (spans more : List Span) (old : Body) (n : ℕ) (v : List ℕ) → body ≡ old.body → seen values spans ≡ old.elements → seen values more ≡ seen values spans ++ (n, v) ∷ []
    → the_body body (seen values more) ≡ the_body old.body (old.elements ++ (n, v) ∷ [])
added values body spans more old n v b es e = ap₂ the_body b (e ∙ ap (λ xs. xs ++ (n, v) ∷ []) es)

pub added_behind : (values more : List ℕ) (spans : List Span) (s : Span) (k : ℕ) (old : Body) → take k (values ++ more) ≡ old.body → seen values spans ≡ old.elements
    → seen (values ++ more) (spans ++ s ∷ []) ≡ seen values spans ++ (s.number, more) ∷ [] → the_body (take k (values ++ more)) (seen (values ++ more) (spans ++ s ∷ [])) ≡ the_body old.body (old.elements ++ (s.number, more) ∷ [])
added_behind values more spans s k old b es e = ap₂ the_body b (e ∙ ap (λ xs. xs ++ (s.number, more) ∷ []) es)
