-- A piece is read from the front, and what is read from the front is a piece.
use Rattle.std.proofs.Common.{◌≡◌, ℕ, ◌≤◌, Bool, true, false, cond, ltb, leb, ◌&&◌, List, ◌++◌, length, take, drop, Option, Some, None, Result, Ok, Err, refl, sym, ap, ◌∙◌, append_assoc, arith}
use Rattle.std.specs.List.{list_all}
use Rattle.std.proofs.lemmas.Bool.{ltb-false, le-ltb, le-leb, leb-true, and_parts}
use Rattle.std.proofs.lemmas.List.{take_at, drop_at, take-append-drop, length-append, length-take-le}
use Rattle.hex.specs.Hex.{decode_sized}
use Rattle.hex.proofs.HexLemmas.{decode_sized-ok}
use Rattle.hex.specs.declared.error.FromHexError.{FromHexError}
use Rattle.message_elements.specs.declared.form.Class.{Class}
use Rattle.message_elements.specs.declared.form.Class.TheVariants.{Digits}
use Rattle.message_elements.specs.declared.form.Form.{Form}
use Rattle.message_elements.specs.declared.form.Form.TheVariants as forms
use Rattle.message_elements.specs.declared.fault.DecodeFault.{DecodeFault}
use Rattle.message_elements.specs.declared.fault.DecodeFault.TheVariants as faults
use Rattle.card_digits.specs.Numbers.{decimal}
use Rattle.card_digits.specs.Attempts.{◌>>=◌}
use Rattle.message_elements.specs.Values.{fits, AreOf}
use Rattle.iso_message.specs.Elements.{content_at, length_at, unpacked, binary_at, counted_at, field_at}
use Rattle.iso_message.specs.Grammar.{Writes, IsCounted, IsPiece}

pub bind_ok : {A B : Type 0} (r : Result A DecodeFault) (f : A → Result B DecodeFault) (y : B) → (r >>= f) ≡ Ok y → (x : A) × (r ≡ Ok x) × (f x ≡ Ok y)
bind_ok (Ok x) f y e = (x, refl, e)
bind_ok (Err d) f y e = absurd cc

pub guard_ok : {A : Type 0} (b : Bool) (d : DecodeFault) (r : Result A DecodeFault) (y : A) → cond b (Err d) r ≡ Ok y → (b ≡ false) × (r ≡ Ok y)
guard_ok true d r y e = absurd cc
guard_ok false d r y e = (refl, e)

pub pass_ok : {A : Type 0} (b : Bool) (d : DecodeFault) (x y : A) → cond b (Ok x) (Err d) ≡ Ok y → (b ≡ true) × (x ≡ y)
pass_ok true d x y e = (refl, cc)
pass_ok false d x y e = absurd cc

-- the bytes are a front, that has been read, and the rest
pub front : (size : ℕ) (bytes v rest : List ℕ) → size ≤ length bytes → take size bytes ≡ v → drop size bytes ≡ rest → (bytes ≡ v ++ rest) × (length v ≡ size)
front size bytes v rest le a b =
    (sym (take-append-drop size bytes) ∙ ap (λ x. x ++ drop size bytes) a ∙ ap (λ x. v ++ x) b, sym (ap length a) ∙ length-take-le size bytes le)

pub content_takes : (class : Class) (size n : ℕ) (bytes v rest : List ℕ) → content_at class size n bytes ≡ Ok (v, rest) → (bytes ≡ v ++ rest) × (length v ≡ size) × AreOf class v
unfolding content_at
content_takes class size n bytes v rest e =
    let g = guard_ok (ltb (length bytes) size) faults.Short (cond (list_all (fits class) (take size bytes)) (Ok (take size bytes, drop size bytes)) (Err (faults.Character n))) (v, rest) e in
    let h = pass_ok (list_all (fits class) (take size bytes)) (faults.Character n) (take size bytes, drop size bytes) (v, rest) g.1 in
    let a : take size bytes ≡ v = ap (λ (p : List ℕ × List ℕ). p.0) h.1 in
    let b : drop size bytes ≡ rest = ap (λ (p : List ℕ × List ℕ). p.1) h.1 in
    let f = front size bytes v rest (ltb-false _ _ g.0) a b in
    (f.0, f.1, ap (list_all (fits class)) (sym a) ∙ h.0)

pub content_again : (class : Class) (size n : ℕ) (v rest : List ℕ) → length v ≡ size → AreOf class v → content_at class size n (v ++ rest) ≡ Ok (v, rest)
unfolding content_at
content_again class size n v rest len all =
    let long : ltb (length (v ++ rest)) size ≡ false = le-ltb _ _ (omega (arith, length-append v rest)) in
    rw (long, take_at v rest size len, drop_at v rest size len, all) refl

pub length_takes : (width most n : ℕ) (bytes : List ℕ) (len : ℕ) (rest : List ℕ) → length_at width most n bytes ≡ Ok (len, rest) → (digits : List ℕ) × (bytes ≡ digits ++ rest) × Writes width len digits × (len ≤ most)
unfolding length_at
length_takes width most n bytes len rest e =
    let digits = take width bytes in
    let test = list_all (fits Digits) digits && leb (decimal digits) most in
    let g = guard_ok (ltb (length bytes) width) faults.Short (cond test (Ok (decimal digits, drop width bytes)) (Err (faults.Length n))) (len, rest) e in
    let h = pass_ok test (faults.Length n) (decimal digits, drop width bytes) (len, rest) g.1 in
    let both = and_parts (list_all (fits Digits) digits) (leb (decimal digits) most) h.0 in
    let a : decimal digits ≡ len = ap (λ (p : ℕ × List ℕ). p.0) h.1 in
    let b : drop width bytes ≡ rest = ap (λ (p : ℕ × List ℕ). p.1) h.1 in
    let f = front width bytes digits rest (ltb-false _ _ g.0) refl b in
    let le = leb-true (decimal digits) most both.1 in
    (digits, f.0, (f.1, both.0, a), omega arith)

pub length_again : (width most n len : ℕ) (digits rest : List ℕ) → Writes width len digits → len ≤ most → length_at width most n (digits ++ rest) ≡ Ok (len, rest)
unfolding length_at
length_again width most n len digits rest w le =
    let long : ltb (length (digits ++ rest)) width ≡ false = le-ltb _ _ (omega (arith, length-append digits rest, w.0)) in
    let small : leb (decimal digits) most ≡ true = le-leb _ _ (omega (arith, w.2)) in
    rw (long, take_at digits rest width w.0, drop_at digits rest width w.0, w.1, small, w.2) refl

pub counted_takes : (width : ℕ) (class : Class) (most n : ℕ) (bytes v rest : List ℕ) → counted_at width class most n bytes ≡ Ok (v, rest) → (text : List ℕ) × (bytes ≡ text ++ rest) × IsCounted width class most v text
unfolding counted_at
counted_takes width class most n bytes v rest e =
    let l = bind_ok (length_at width most n bytes) (λ len. content_at class len.0 n len.1) (v, rest) e in
    let a = length_takes width most n bytes l.0.0 l.0.1 l.1 in
    let b = content_takes class l.0.0 n l.0.1 v rest l.2 in
    (a.0 ++ v, a.1 ∙ ap (λ x. a.0 ++ x) b.0 ∙ sym (append_assoc a.0 v rest), (a.0, refl, (a.2.0, a.2.1, a.2.2 ∙ sym b.1), omega (arith, a.3, b.1), b.2))

pub counted_again : (width : ℕ) (class : Class) (most n : ℕ) (v text rest : List ℕ) → IsCounted width class most v text → counted_at width class most n (text ++ rest) ≡ Ok (v, rest)
unfolding counted_at
counted_again width class most n v text rest p =
    let e : text ++ rest ≡ p.0 ++ (v ++ rest) = ap (λ x. x ++ rest) p.1 ∙ append_assoc p.0 v rest in
    rw (e, length_again width most n (length v) p.0 (v ++ rest) p.2 p.3) (content_again class (length v) n v rest refl p.4)

unbinary_ok : (n : ℕ) (rest : List ℕ) (r : Result (List ℕ) FromHexError) (y : List ℕ × List ℕ) → unpacked n rest r ≡ Ok y → (v : List ℕ) × (r ≡ Ok v) × ((v, rest) ≡ y)
unbinary_ok n rest (Ok v) y e = (v, refl, cc)
unbinary_ok n rest (Err d) y e = absurd cc

pub binary_takes : (n : ℕ) (bytes v rest : List ℕ) → binary_at n bytes ≡ Ok (v, rest) → (text : List ℕ) × (bytes ≡ text ++ rest) × (decode_sized text 8 ≡ Ok v)
unfolding binary_at
binary_takes n bytes v rest e =
    let g = guard_ok (ltb (length bytes) 16) faults.Short (unpacked n (drop 16 bytes) (decode_sized (take 16 bytes) 8)) (v, rest) e in
    let u = unbinary_ok n (drop 16 bytes) (decode_sized (take 16 bytes) 8) (v, rest) g.1 in
    let a : u.0 ≡ v = ap (λ (p : List ℕ × List ℕ). p.0) u.2 in
    let b : drop 16 bytes ≡ rest = ap (λ (p : List ℕ × List ℕ). p.1) u.2 in
    let f = front 16 bytes (take 16 bytes) rest (ltb-false _ _ g.0) refl b in
    (take 16 bytes, f.0, u.1 ∙ ap (λ (x : List ℕ). Ok x) a)

pub binary_again : (n : ℕ) (v text rest : List ℕ) → decode_sized text 8 ≡ Ok v → binary_at n (text ++ rest) ≡ Ok (v, rest)
unfolding binary_at
binary_again n v text rest p =
    let len : length text ≡ 16 = decode_sized-ok text 8 v p in
    let long : ltb (length (text ++ rest)) 16 ≡ false = le-ltb _ _ (omega (arith, length-append text rest)) in
    rw (long, take_at text rest 16 len, drop_at text rest 16 len, p) refl

pub field_takes : (form : Option Form) (n : ℕ) (bytes v rest : List ℕ) → field_at form n bytes ≡ Ok (v, rest) → (text : List ℕ) × (bytes ≡ text ++ rest) × IsPiece form v text
field_takes None n bytes v rest e = absurd cc
field_takes (Some (forms.Fixed class size)) n bytes v rest e = let c = content_takes class size n bytes v rest e in (v, c.0, (refl, c.1, c.2))
field_takes (Some (forms.Llvar class most)) n bytes v rest e = counted_takes 2 class most n bytes v rest e
field_takes (Some (forms.Lllvar class most)) n bytes v rest e = counted_takes 3 class most n bytes v rest e
field_takes (Some forms.Binary) n bytes v rest e = binary_takes n bytes v rest e

pub field_again : (form : Option Form) (n : ℕ) (v text rest : List ℕ) → IsPiece form v text → field_at form n (text ++ rest) ≡ Ok (v, rest)
field_again None n v text rest p = absurd p
field_again (Some (forms.Fixed class size)) n v text rest p = ap (λ x. content_at class size n (x ++ rest)) p.0 ∙ content_again class size n v rest p.1 p.2
field_again (Some (forms.Llvar class most)) n v text rest p = counted_again 2 class most n v text rest p
field_again (Some (forms.Lllvar class most)) n v text rest p = counted_again 3 class most n v text rest p
field_again (Some forms.Binary) n v text rest p = binary_again n v text rest p
