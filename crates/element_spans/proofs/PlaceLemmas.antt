-- Where pieces stand in the bytes of a message.
use Rattle.std.proofs.Common.{◌≡◌, ℕ, ◌+◌, List, [], ◌∷◌, ◌++◌, length, take, drop, Option, Some, None, Ok, refl, sym, ap, subst, ◌∙◌, append_assoc, length-append, arith}
use Rattle.std.proofs.lemmas.List.{take_at, drop_at}
use Rattle.hex.specs.Hex.{decode_sized}
use Rattle.hex.proofs.HexLemmas.{decode_sized-ok}
use Rattle.message_elements.specs.declared.form.Form.{Form}
use Rattle.message_elements.specs.declared.form.Form.TheVariants.{Fixed, Llvar, Lllvar, Binary}
use Rattle.message_elements.specs.Table.{form_of}
use Rattle.iso_message.specs.Fields.{Fields}
use Rattle.iso_message.specs.Messages.{read}
use Rattle.iso_message.specs.Unread.{Left, read_on}
use Rattle.message_elements.specs.declared.kind.Kind.{Kind}
use Rattle.iso_message.specs.Grammar.{IsPiece, ArePieces, Spells}
use Rattle.iso_message.proofs.ReadingLaws.{read_takes}
use Rattle.element_spans.specs.declared.span.ElementSpan.{ElementSpan}
use Rattle.element_spans.specs.Spans.{LaysOut, WritesValue, Locates, length_digits, text_length, span_at, end_of, spans_from, end_from}

piece_length : (form : Option Form) (value text : List ℕ) → IsPiece form value text → length text ≡ length_digits form + text_length form value
piece_length None value text p = absurd p
piece_length (Some (Fixed class size)) value text p = omega (arith, ap length p.0)
piece_length (Some (Llvar class most)) value text p = omega (arith, ap length p.1, length-append p.0 value, p.2.0)
piece_length (Some (Lllvar class most)) value text p = omega (arith, ap length p.1, length-append p.0 value, p.2.0)
piece_length (Some Binary) value text p = omega (arith, decode_sized-ok text 8 value p)

-- bytes between others
between : (message before text behind : List ℕ) (start n : ℕ) → message ≡ before ++ (text ++ behind) → length before ≡ start → length text ≡ n → take n (drop start message) ≡ text
between message before text behind start n is at long = ap (λ bytes. take n (drop start bytes)) is ∙ ap (take n) (drop_at before (text ++ behind) start at) ∙ take_at text behind n long

-- the digits of a length stand before the value
counted_there : (message before digits value text behind : List ℕ) (width : ℕ) → message ≡ before ++ (text ++ behind) → text ≡ digits ++ value → length digits ≡ width → take (length value) (drop (length before + width) message) ≡ value
counted_there message before digits value text behind width is parts long =
    let whole : message ≡ (before ++ digits) ++ (value ++ behind) = is ∙ ap (λ t. before ++ (t ++ behind)) parts ∙ ap (λ t. before ++ t) (append_assoc digits value behind) ∙ sym (append_assoc before digits (value ++ behind)) in
    between message (before ++ digits) value behind (length before + width) (length value) whole (omega (arith, length-append before digits, long)) refl

value_there : (form : Option Form) (message before value text behind : List ℕ) → message ≡ before ++ (text ++ behind) → IsPiece form value text → WritesValue form (take (text_length form value) (drop (length before + length_digits form) message)) value
value_there None message before value text behind is p = absurd p
value_there (Some (Fixed class size)) message before value text behind is p = between message before text behind (length before + 0) (length value) is (omega arith) (ap length p.0) ∙ p.0
value_there (Some (Llvar class most)) message before value text behind is p = counted_there message before p.0 value text behind 2 is p.1 p.2.0
value_there (Some (Lllvar class most)) message before value text behind is p = counted_there message before p.0 value text behind 3 is p.1 p.2.0
value_there (Some Binary) message before value text behind is p =
    let here = between message before text behind (length before + 0) 16 is (omega arith) (omega (arith, decode_sized-ok text 8 value p)) in
    subst (λ t. decode_sized t 8 ≡ Ok value) (sym here) p

-- the pieces that end a message are located behind what stands before them
located : (es : List (ℕ × List ℕ)) (message before body : List ℕ) → message ≡ before ++ body → ArePieces es body → Locates message es (spans_from (length before) es)
located [] message before body is p = refl
located (e ∷ es) message before body is p =
    let split : message ≡ before ++ (p.0 ++ p.1) = is ∙ ap (λ b. before ++ b) p.2 in
    let behind : message ≡ (before ++ p.0) ++ p.1 = split ∙ sym (append_assoc before p.0 p.1) in
    let end : length (before ++ p.0) ≡ end_of (span_at (length before) e) = omega (arith, length-append before p.0, piece_length (form_of e.0) e.1 p.0 p.3) in
    (refl, value_there (form_of e.0) message before e.1 p.0 p.1 split p.3, subst (λ k. Locates message es (spans_from k es)) end (located es message (before ++ p.0) p.1 behind p.4))

pieces_end : (es : List (ℕ × List ℕ)) (place : ℕ) (body : List ℕ) → ArePieces es body → end_from place es ≡ place + length body
pieces_end [] place body p = omega (arith, ap length p)
pieces_end (e ∷ es) place body p =
    let whole : length body ≡ length p.0 + length p.1 = ap length p.2 ∙ length-append p.0 p.1 in
    omega (arith, whole, piece_length (form_of e.0) e.1 p.0 p.3, pieces_end es (end_of (span_at place e)) p.1 p.4)

-- where the pieces of a message that is read begin
pub record StandsAt (message : List ℕ) (es : List (ℕ × List ℕ)) : Type 0 where
  pub start : ℕ
  pub whole : start + end_from 0 es ≡ length message
  pub there : Locates message es (spans_from start es)

pub stands : (message : List ℕ) (m : Fields) → read message ≡ Ok m → StandsAt message m.elements
stands message m is_read =
    let s = read_takes message m is_read in
    let before = Spells.kind s ++ Spells.maps s in
    let body = Spells.body s in
    let is : message ≡ before ++ body = Spells.whole s ∙ sym (append_assoc (Spells.kind s) (Spells.maps s) body) in
    let end = pieces_end m.elements 0 body (Spells.pieces s) in
    record {
      start = length before;
      whole = omega (arith, end, ap length is, length-append before body);
      there = located m.elements message before body is (Spells.pieces s);
    }

-- a message of which all elements were taken
pub all_read : (message : List ℕ) (kind : Kind) (left : Left) (spans : List ElementSpan) (count end : ℕ) → read message ≡ read_on kind [] left → (laid : LaysOut left spans count end) → read message ≡ Ok (record { kind = kind; elements = LaysOut.elements laid })
all_read message kind left spans count end is laid = is ∙ LaysOut.found laid kind

pub stands_behind : (message : List ℕ) (kind : Kind) (left : Left) (spans : List ElementSpan) (count end : ℕ) → read message ≡ read_on kind [] left → (laid : LaysOut left spans count end) → StandsAt message (LaysOut.elements laid)
stands_behind message kind left spans count end is laid = stands message (record { kind = kind; elements = LaysOut.elements laid }) (all_read message kind left spans count end is laid)
