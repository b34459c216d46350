-- Blocks that go out one after the other.
use Rattle.std.proofs.Common.{◌≡◌, ℕ, zero, suc, ◌<◌, ◌≤◌, Bool, true, ◌&&◌, List, [], ◌∷◌, ◌++◌, length, take, drop, get_or, Option, Some, None, refl, sym, ap, subst, ◌∙◌, append_assoc, take-append-drop, inl, inr, arith}
use Rattle.std.specs.Prelude.{is_ok}
use Rattle.std.specs.Int.{w16, to_be_bytes, from_be_bytes}
use Rattle.std.specs.Io.KnownBytes.{Appends}
use Rattle.std.proofs.lemmas.Bool.{cases_lt}
use Rattle.std.proofs.lemmas.List.{length-take-le, length-drop}
use Rattle.std.proofs.lemmas.Nat.{be_bytes_2}
use Rattle.card_digits.specs.Stream.{AppendsFront}
use Rattle.message_frames.specs.Frames.{frame}
use Rattle.message_frames.proofs.FrameLemmas.{first_front, second_front}
use Rattle.message_text.specs.Parts.{AreFrames}
use Rattle.message_text.specs.Printed.{block, reading, Printed, PrintsBlock, Sends, SendsBlock, SendsFront, WritesFront}

-- a block went out or waits: the text so far is longer by it
pub block_printed : (number : ℕ) (item : Option (List ℕ)) (start now : Option (List ℕ)) (sent old new : List ℕ) (good : Bool) (b : SendsBlock number item start now old new good)
    → PrintsBlock number item (sent ++ old) ((sent ++ Sends.sent (SendsBlock.sends b)) ++ new) good
block_printed number item start now sent old new good b =
    let more = Sends.sent (SendsBlock.sends b) in
    (SendsBlock.answer b, SendsBlock.is b, append_assoc sent more new ∙ ap (λ z. sent ++ z) (sym (Sends.whole (SendsBlock.sends b))) ∙ sym (append_assoc sent old (block number (SendsBlock.answer b))), SendsBlock.fine b)

-- some text is that of the items that are left
pub some_text : (number : ℕ) (items : List (Option (List ℕ))) → (text : List ℕ) × (good : Bool) × Printed number items text good
some_text number [] = ([], true, (refl, refl))
some_text number (item ∷ items) =
    let later = some_text (suc number) items in
    (block number (reading item) ++ later.0, is_ok (reading item) && later.1, (reading item, later.0, later.1, refl, refl, refl, later.2))

-- the writer failed at an item: a front of a whole text went out
pub front_written : (whole items : List (Option (List ℕ))) (item : Option (List ℕ)) (m n : ℕ) (start mid now : Option (List ℕ)) (sent old : List ℕ) (good : Bool) → n ≡ suc m
    → ((text : List ℕ) (others : Bool) → Printed (suc m) (item ∷ items) text others → Printed 1 whole ((sent ++ old) ++ text) (good && others))
    → Appends start mid sent → SendsFront n item mid now old → WritesFront whole start now
front_written whole items item m n start mid now sent old good e so_far sends f =
    let later = some_text (suc (suc m)) items in
    let answer = SendsFront.answer f in
    let here = block n answer in
    let at : block (suc m) answer ≡ here = ap (λ k. block k answer) (sym e) in
    let text = block (suc m) answer ++ later.0 in
    let fine = is_ok answer && later.1 in
    let printed = so_far text fine (answer, later.0, later.1, SendsFront.is f, refl, refl, later.2) in
    let front : AppendsFront start now (sent ++ (old ++ here)) = second_front start mid now sent (old ++ here) sends (SendsFront.front f) in
    let more = first_front start now (sent ++ (old ++ here)) later.0 front in
    let same : (sent ++ (old ++ here)) ++ later.0 ≡ (sent ++ old) ++ text = ap (λ z. z ++ later.0) (sym (append_assoc sent old here)) ∙ append_assoc (sent ++ old) here later.0 ∙ ap (λ z. (sent ++ old) ++ (z ++ later.0)) (sym at) in
    ((sent ++ old) ++ text, good && fine, printed, subst (AppendsFront start now) same more)

-- all bytes are below 256
abbrev pub AreSmall : List ℕ → Type 0
AreSmall bytes = (i : ℕ) → get_or bytes i 0 < 256

small_after : (xs ys : List ℕ) → AreSmall (xs ++ ys) → AreSmall ys
small_after [] ys small = small
small_after (x ∷ xs) ys small = small_after xs ys (λ i. small (suc i))

pub small_behind : (all front rest : List ℕ) → all ≡ front ++ rest → AreSmall all → AreSmall rest
small_behind all front rest e small = small_after front rest (subst AreSmall e small)

head_of : (a b : ℕ) (rest : List ℕ) → AreSmall (a ∷ b ∷ rest) → AreSmall (a ∷ b ∷ [])
head_of a b rest small zero = small 0
head_of a b rest small (suc zero) = small 1
head_of a b rest small (suc (suc i)) = omega arith

-- any bytes are frames, of which the last may be cut
pub some_frames : (k : ℕ) (bytes : List ℕ) → AreSmall bytes → length bytes ≤ k → (items : List (Option (List ℕ))) × AreFrames bytes items
some_frames k [] small few = ([], refl)
some_frames k (a ∷ []) small few = (None ∷ [], tt)
some_frames zero (a ∷ b ∷ rest) small few = absurd (omega (arith, few))
some_frames (suc k) (a ∷ b ∷ rest) small few =
    let n = from_be_bytes w16 (a ∷ b ∷ []) in
    elim (cases_lt (length rest) n) [
      | inl cut ↦ (None ∷ [], cut)
      | inr le ↦
          let bytes = take n rest in
          let later = drop n rest in
          let whole : rest ≡ bytes ++ later = sym (take-append-drop n rest) in
          let long : length bytes ≡ n = length-take-le n rest le in
          let head : to_be_bytes w16 (length bytes) ≡ a ∷ b ∷ [] = be_bytes_2 (a ∷ b ∷ []) (length bytes) refl (head_of a b rest small) long in
          let is : a ∷ b ∷ rest ≡ frame bytes ++ later = ap (λ z. a ∷ b ∷ z) whole ∙ ap (λ z. (z ++ bytes) ++ later) (sym head) in
          let others = some_frames k later (small_behind (a ∷ b ∷ rest) (frame bytes) later is small) (omega (arith, few, length-drop n rest)) in
          (Some bytes ∷ others.0, (later, is, omega (arith, long, small 0, small 1), others.1))
    ]
