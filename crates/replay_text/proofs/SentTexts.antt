-- Texts that go out one after the other.
use Rattle.std.proofs.Common.{◌≡◌, ℕ, suc, ◌+◌, ◌<◌, arith, List, [], ◌∷◌, ◌++◌, length, drop, get_or, Option, sym, ap, subst, ◌∙◌, append_assoc}
use Rattle.std.proofs.lemmas.List.{at_drop_more}
use Rattle.net_rows.specs.Network.{Network}
use Rattle.net_replay.specs.Steps.{Step}
use Rattle.replay_text.specs.Lines.{ordered_text, step_text}
use Rattle.replay_text.specs.Fronts.{SendsFront}
use Rattle.std.specs.Io.KnownBytes.{Appends}
use Rattle.std.proofs.KnownBytes.{Appends-trans}
use Rattle.card_digits.specs.Stream.{AppendsFront}
use Rattle.message_frames.proofs.FrameLemmas.{first_front, second_front}
use Rattle.message_text.specs.Printed.{Sends}

-- one text behind another
pub both_sent : (a b c : Option (List ℕ)) (w0 w1 w2 first second all : List ℕ) → Sends a b w0 first w1 → Sends b c w1 second w2 → first ++ second ≡ all → Sends a c w0 all w2
both_sent a b c w0 w1 w2 first second all p q e = record {
  sent = Sends.sent p ++ Sends.sent q;
  sends = Appends-trans a b c (Sends.sent p) (Sends.sent q) (Sends.sends p) (Sends.sends q);
  whole = ap (λ z. w0 ++ z) (sym e) ∙ (sym (append_assoc w0 first second) ∙ (ap (λ z. z ++ second) (Sends.whole p) ∙ (append_assoc (Sends.sent p) w1 second ∙ (ap (λ z. Sends.sent p ++ z) (Sends.whole q) ∙ sym (append_assoc (Sends.sent p) (Sends.sent q) w2)))));
}

-- the writer failed at the second text, and more would have followed
pub front_sent : (a b c : Option (List ℕ)) (w0 w1 first second rest all : List ℕ) → Sends a b w0 first w1 → SendsFront b c w1 second → first ++ (second ++ rest) ≡ all → SendsFront a c w0 all
front_sent a b c w0 w1 first second rest all p f e = record { front = subst (AppendsFront a c) same (first_front a c (Sends.sent p ++ (w1 ++ second)) rest (second_front a b c (Sends.sent p) (w1 ++ second) (Sends.sends p) (SendsFront.front f))) }
  where
    same : (Sends.sent p ++ (w1 ++ second)) ++ rest ≡ w0 ++ all
    same =
        ap (λ z. z ++ rest) (sym (append_assoc (Sends.sent p) w1 second))
        ∙ (ap (λ z. (z ++ second) ++ rest) (sym (Sends.whole p))
        ∙ (ap (λ z. z ++ rest) (append_assoc w0 first second)
        ∙ (append_assoc w0 (first ++ second) rest
        ∙ (ap (λ z. w0 ++ z) (append_assoc first second rest)
        ∙ ap (λ z. w0 ++ z) e))))

-- the writer failed at the first text of two
pub front_first : (a b : Option (List ℕ)) (w first rest all : List ℕ) → SendsFront a b w first → first ++ rest ≡ all → SendsFront a b w all
front_first a b w first rest all f e = record { front = subst (AppendsFront a b) (append_assoc w first rest ∙ ap (λ z. w ++ z) e) (first_front a b (w ++ first) rest (SendsFront.front f)) }

-- an element more of a list whose texts go out
pub next_text : {X : Type 0} (F : List X → List ℕ) (text : X → List ℕ) → ((x : X) (xs : List X) → F (x ∷ xs) ≡ text x ++ F xs) → (xs : List X) (i : ℕ) (d : X) (done all : List ℕ) → i < length xs → done ++ F (drop i xs) ≡ all → done ++ (text (get_or xs i d) ++ F (drop (i + 1) xs)) ≡ all
next_text F text step xs i d done all less e = ap (λ z. done ++ z) (sym (step (get_or xs i d) (drop (i + 1) xs)) ∙ sym (at_drop_more F xs i d less)) ∙ e

-- the element is the one at its place
pub next_item : {X : Type 0} (F : List X → List ℕ) (text : X → List ℕ) → ((x : X) (xs : List X) → F (x ∷ xs) ≡ text x ++ F xs) → (xs : List X) (i : ℕ) (x : X) (done all : List ℕ) → i < length xs → x ≡ get_or xs i x → done ++ F (drop i xs) ≡ all → done ++ (text x ++ F (drop (i + 1) xs)) ≡ all
next_item F text step xs i x done all less is e = ap (λ z. done ++ (text z ++ F (drop (i + 1) xs))) is ∙ next_text F text step xs i x done all less e

-- a step more of those in the order of their lines
pub next_ordered : (t : Network) (number : ℕ) (s : Step) (old new : List Step) (done all : List ℕ) → old ≡ s ∷ new → done ++ ordered_text t (number + 1) old ≡ all → done ++ (step_text t (number + 1) s ++ ordered_text t (number + 1 + 1) new) ≡ all
next_ordered t number s old new done all is e =
    let more : number + 1 + 1 ≡ suc (number + 1) = omega arith in
    ap (λ k. done ++ (step_text t (number + 1) s ++ ordered_text t k new)) more ∙ (ap (λ z. done ++ ordered_text t (number + 1) z) (sym is) ∙ e)

-- all that went out and what waits
pub all_sent : (a b c : Option (List ℕ)) (w text : List ℕ) → Sends a b [] text w → Appends b c w → Appends a c text
all_sent a b c w text p q = subst (Appends a c) (sym (Sends.whole p)) (Appends-trans a b c (Sends.sent p) w (Sends.sends p) q)

pub front_all : (a b c : Option (List ℕ)) (w text : List ℕ) → Sends a b [] text w → AppendsFront b c w → AppendsFront a c text
front_all a b c w text p q = subst (AppendsFront a c) (sym (Sends.whole p)) (second_front a b c (Sends.sent p) w (Sends.sends p) q)
