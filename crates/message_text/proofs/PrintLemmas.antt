-- One more block.
use Rattle.std.proofs.Common.{◌≡◌, ℕ, suc, Bool, true, false, ◌&&◌, List, [], ◌∷◌, ◌++◌, map, Option, Some, refl, sym, ap, ◌∙◌, append_assoc, append-nil, subst, ◌<◌, ◌≤◌, arith, length-append, length, None}
use Rattle.message_frames.specs.Frames.{frame, IsCut}
use Rattle.card_digits.specs.Lines.{lines}
use Rattle.message_text.specs.Parts.{AreFrames}
use Rattle.message_text.specs.Printed.{block, PrintsBlock, Printed}

and_assoc : (a b c : Bool) → (a && (b && c)) ≡ ((a && b) && c)
and_assoc true b c = refl
and_assoc false b c = refl

-- what was printed before an item leads to the whole, and so does what was printed before and for it
pub one_more : (whole items : List (Option (List ℕ))) (item : Option (List ℕ)) (number : ℕ) (old new : List ℕ) (good fine : Bool)
    → ((text : List ℕ) (rest : Bool) → Printed number (item ∷ items) text rest → Printed 1 whole (old ++ text) (good && rest))
    → PrintsBlock number item old new fine
    → (text : List ℕ) (rest : Bool) → Printed (suc number) items text rest → Printed 1 whole (new ++ text) ((good && fine) && rest)
one_more whole items item number old new good fine so_far b text rest p =
    let both = so_far (block number b.0 ++ text) (fine && rest) (b.0, text, rest, b.1, refl, ap (λ f. f && rest) b.3, p) in
    let texts : old ++ (block number b.0 ++ text) ≡ new ++ text = sym (append_assoc old (block number b.0) text) ∙ ap (λ x. x ++ text) (sym b.2) in
    subst (λ g. Printed 1 whole (new ++ text) g) (and_assoc good fine rest) (subst (λ (x : List ℕ). Printed 1 whole x (good && (fine && rest))) texts both)

-- an item more, whose number is written as the code has it
more_at : (whole items : List (Option (List ℕ))) (item : Option (List ℕ)) (m n : ℕ) (old new : List ℕ) (good fine : Bool) → n ≡ suc m
    → ((text : List ℕ) (rest : Bool) → Printed (suc m) (item ∷ items) text rest → Printed 1 whole (old ++ text) (good && rest))
    → PrintsBlock n item old new fine
    → (text : List ℕ) (rest : Bool) → Printed (suc n) items text rest → Printed 1 whole (new ++ text) ((good && fine) && rest)
more_at whole items item m n old new good fine e so_far b text rest p =
    one_more whole items item (suc m) old new good fine so_far (subst (λ k. PrintsBlock k item old new fine) e b) text rest (subst (λ k. Printed (suc k) items text rest) e p)

abbrev all_lines : List ℕ → List (Option (List ℕ))
all_lines bytes = map (λ line. Some line) (lines bytes)

pub lines_step : (whole : List (Option (List ℕ))) (rest line later : List ℕ) (m n : ℕ) (old new : List ℕ) (good fine : Bool) → n ≡ suc m → lines rest ≡ line ∷ lines later
    → ((text : List ℕ) (others : Bool) → Printed (suc m) (all_lines rest) text others → Printed 1 whole (old ++ text) (good && others))
    → PrintsBlock n (Some line) old new fine
    → (text : List ℕ) (others : Bool) → Printed (suc n) (all_lines later) text others → Printed 1 whole (new ++ text) ((good && fine) && others)
lines_step whole rest line later m n old new good fine e cut so_far b =
    more_at whole (all_lines later) (Some line) m n old new good fine e
    (λ text others p. so_far text others (subst (λ (ls : List (List ℕ)). Printed (suc m) (map (λ l. Some l) ls) text others) (sym cut) p)) b

and_true : (b : Bool) → (b && true) ≡ b
and_true true = refl
and_true false = refl

-- nothing is left
ended : (whole : List (Option (List ℕ))) (number : ℕ) (text : List ℕ) (good : Bool)
    → ((more : List ℕ) (others : Bool) → Printed number [] more others → Printed 1 whole (text ++ more) (good && others)) → Printed 1 whole text good
ended whole number text good so_far =
    subst (λ (g : Bool). Printed 1 whole text g) (and_true good) (subst (λ (x : List ℕ). Printed 1 whole x (good && true)) (append-nil text) (so_far [] true (refl, refl)))

pub lines_end : (whole : List (Option (List ℕ))) (rest : List ℕ) (number : ℕ) (text : List ℕ) (good : Bool) → lines rest ≡ []
    → ((more : List ℕ) (others : Bool) → Printed number (all_lines rest) more others → Printed 1 whole (text ++ more) (good && others)) → Printed 1 whole text good
lines_end whole rest number text good e so_far =
    ended whole number text good (λ more others p. so_far more others (subst (λ (ls : List (List ℕ)). Printed number (map (λ l. Some l) ls) more others) (sym e) p))

-- the items of what is left lead to items of the whole
abbrev pub Leads : List ℕ → List ℕ → ℕ → List ℕ → Bool → Type 0
Leads input rest number text good = (items : List (Option (List ℕ))) → AreFrames rest items → (whole : List (Option (List ℕ))) × AreFrames input whole
    × ((more : List ℕ) (others : Bool) → Printed number items more others → Printed 1 whole (text ++ more) (good && others))

pub frames_step : (input rest bytes later : List ℕ) (m n : ℕ) (old new : List ℕ) (good fine : Bool) → n ≡ suc m → (length bytes < 65_536) × (rest ≡ frame bytes ++ later)
    → Leads input rest (suc m) old good → PrintsBlock n (Some bytes) old new fine → Leads input later (suc n) new (good && fine)
frames_step input rest bytes later m n old new good fine e f so_far b items are =
    let w = so_far (Some bytes ∷ items) (later, f.1, f.0, are) in
    (w.0, w.1, more_at w.0 items (Some bytes) m n old new good fine e w.2 b)

pub frames_end : (input rest : List ℕ) (number : ℕ) (text : List ℕ) (good : Bool) → rest ≡ [] → Leads input rest number text good
    → (items : List (Option (List ℕ))) × AreFrames input items × Printed 1 items text good
frames_end input rest number text good e so_far = let w = so_far [] e in (w.0, w.1, ended w.0 number text good w.2)

-- what stands behind a frame is shorter
pub behind_frame : (rest bytes later : List ℕ) → rest ≡ frame bytes ++ later → suc (length later) ≤ length rest
behind_frame rest bytes later e = omega (arith, ap length e, length-append bytes later)

no_frames : (P : Type 0) (items : List (Option (List ℕ))) → AreFrames [] items → (items ≡ [] → P) → P
no_frames P [] are f = f refl
no_frames P (None ∷ []) are f = absurd are
no_frames P (None ∷ item ∷ items) are f = absurd are
no_frames P (Some bytes ∷ items) are f = absurd (omega (arith, behind_frame [] bytes are.0 are.1))

pub cut_some : (rest : List ℕ) → IsCut rest → 0 < length rest
cut_some [] cut = absurd cut
cut_some (a ∷ rest) cut = omega arith

-- behind a frame that is cut nothing is left
pub cut_step : (input rest : List ℕ) (m n : ℕ) (old new : List ℕ) (good fine : Bool) → n ≡ suc m → IsCut rest
    → Leads input rest (suc m) old good → PrintsBlock n None old new fine → Leads input [] (suc n) new (good && fine)
cut_step input rest m n old new good fine e cut so_far b items are =
    let w = so_far (None ∷ []) cut in
    no_frames _ items are (λ none. (w.0, w.1, subst (λ (xs : List (Option (List ℕ))). (text : List ℕ) (others : Bool) → Printed (suc n) xs text others → Printed 1 w.0 (new ++ text) ((good && fine) && others)) (sym none) (more_at w.0 [] None m n old new good fine e w.2 b)))
