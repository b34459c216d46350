-- The pair that is found at the longest front is the longest.
use Rattle.std.proofs.Common.{◌≡◌, ℕ, zero, suc, ◌+◌, ◌<◌, ◌≤◌, Bool, true, false, ◌==◌, ◌⊎◌, List, [], ◌∷◌, length, take, length-take, Option, Some, None, refl, sym, ap, ◌∙◌, inl, inr, arith}
use Rattle.std.specs.Prelude.{is_some}
use Rattle.std.specs.List.{find, AllByRecursion}
use Rattle.std.specs.Cmp.Lexicographic.{pointwise, same_text}
use Rattle.std.proofs.lemmas.Slice.Eq.{bytes_eq-Decides}
use Rattle.std.proofs.lemmas.Bool.{cases_Bool, and_parts, false≢true, cases_lt, lt-ltb, le-ltb, eq-eqb}
use Rattle.std.proofs.lemmas.Option.{same_Some}
use Rattle.card_digits.specs.Digits.{IsPrefix}
use Rattle.card_digits.specs.Longest.{begins, better, longest}
use Rattle.card_digits.proofs.Fronts.{begins-starts_with}
use Rattle.card_digits.proofs.Classes.{NoneLonger, longest_at_class, some_longest}
use Rattle.prefix_trie.specs.Pairs.{prefix_of, is_of, pair_of}

pub text_itself : (xs : List ℕ) → pointwise ◌==◌ xs xs ≡ true
text_itself xs = (bytes_eq-Decides xs xs).1 refl

pub begins-length : (p ds : List ℕ) → begins p ds ≡ true → length p ≤ length ds
begins-length [] ds h = omega arith
begins-length (x ∷ p) [] h = absurd (false≢true h)
begins-length (x ∷ p) (d ∷ ds) h = let more = begins-length p ds (and_parts (x == d) (begins p ds) h).1 in omega arith

pub begins-take : (k : ℕ) (ds : List ℕ) → begins (take k ds) ds ≡ true
begins-take zero ds = refl
begins-take (suc k) [] = refl
begins-take (suc k) (d ∷ ds) = rw (eq-eqb d d refl) (begins-take k ds)

begins_itself : (ds : List ℕ) → begins ds ds ≡ true
begins_itself [] = refl
begins_itself (d ∷ ds) = rw (eq-eqb d d refl) (begins_itself ds)

pub take_all : (ds : List ℕ) (k : ℕ) → length ds ≤ k → take k ds ≡ ds
take_all [] zero h = refl
take_all [] (suc k) h = refl
take_all (d ∷ ds) zero h = absurd (omega arith)
take_all (d ∷ ds) (suc k) h = ap (λ t. d ∷ t) (take_all ds k (omega arith))

pub take_less : (ds : List ℕ) (k m : ℕ) → k ≤ m → take k (take m ds) ≡ take k ds
take_less ds zero m h = refl
take_less [] (suc k) zero h = absurd (omega arith)
take_less [] (suc k) (suc m) h = refl
take_less (d ∷ ds) (suc k) zero h = absurd (omega arith)
take_less (d ∷ ds) (suc k) (suc m) h = ap (λ t. d ∷ t) (take_less ds k m (omega arith))

module _ {T : Type 0} where
  -- no front longer than k is a prefix
  abbrev pub NoFront : List (List ℕ × T) → List ℕ → ℕ → Type 0
  NoFront pairs c k = (m : ℕ) → k < m → m ≤ length c → pair_of (take m c) pairs ≡ None

  find_parts : (t : List ℕ × T → Bool) (p : List ℕ × T) (ps : List (List ℕ × T)) → find t (p ∷ ps) ≡ None → (t p ≡ false) × (find t ps ≡ None)
  find_parts t p ps h = elim (cases_Bool (t p)) [
    | inl is ↦ let bad : Some p ≡ None = rw is at h in absurd cc
    | inr no' ↦ (no', rw no' at h)
  ]

  none_longer : (pairs : List (List ℕ × T)) (c : List ℕ) (k : ℕ) → k ≤ length c → NoFront pairs c k → NoneLonger prefix_of c (take k c) pairs
  none_longer [] c k le h = tt
  none_longer (p ∷ ps) c k le h =
      (λ does. few does (cases_lt k (length (prefix_of p))), none_longer ps c k le (λ m lt most. (find_parts (is_of (take m c)) p ps (h m lt most)).1))
    where
      few : begins (prefix_of p) c ≡ true → (k < length (prefix_of p)) ⊎ (length (prefix_of p) ≤ k) → length (prefix_of p) ≤ length (take k c)
      few does (inr less) = rw length-take (omega arith)
      few does (inl lt) =
          let m = length (prefix_of p) in
          let no' : is_of (take m c) p ≡ false = (find_parts (is_of (take m c)) p ps (h m lt (begins-length (prefix_of p) c does))).0 in
          absurd (false≢true (sym no' ∙ begins-starts_with (prefix_of p) c ∙ does))

  -- where no longer front is a prefix, the pair is that of the front
  pub longest_of_front : (pairs : List (List ℕ × T)) (c : List ℕ) (k : ℕ) → k ≤ length c → NoFront pairs c k → longest prefix_of pairs c ≡ longest prefix_of pairs (take k c)
  longest_of_front pairs c k le h = longest_at_class prefix_of pairs c (take k c) (begins-take k c) (none_longer pairs c k le h)

  one_more : (pairs : List (List ℕ × T)) (c : List ℕ) (k m : ℕ) → k < length c → pair_of (take (k + 1) c) pairs ≡ None → k < m → m ≤ length (take (k + 1) c) → pair_of (take m (take (k + 1) c)) pairs ≡ None
  one_more pairs c k m within h lt le =
      let few : length (take (k + 1) c) ≤ k + 1 = rw length-take (omega arith) in
      let e : m ≡ k + 1 = omega arith in
      rw (e, take_less c (k + 1) (k + 1) (omega arith)) h

  -- a front that is no prefix adds nothing
  pub longest_without : (pairs : List (List ℕ × T)) (c : List ℕ) (k : ℕ) → k < length c → pair_of (take (k + 1) c) pairs ≡ None → longest prefix_of pairs (take (k + 1) c) ≡ longest prefix_of pairs (take k c)
  longest_without pairs c k within h =
      longest_of_front pairs (take (k + 1) c) k (rw length-take (omega arith)) (λ m lt le. one_more pairs c k m within h lt le)
      ∙ ap (longest prefix_of pairs) (take_less c k (k + 1) (omega arith))

  pub find_passes : (t : List ℕ × T → Bool) (ps : List (List ℕ × T)) (s : List ℕ × T) → find t ps ≡ Some s → t s ≡ true
  find_passes t [] s h = absurd cc
  find_passes t (p ∷ ps) s h = elim (cases_Bool (t p)) [
    | inl is ↦ let same : p ≡ s = same_Some p s (rw is at h) in rw (← same) is
    | inr no' ↦ find_passes t ps s (rw no' at h)
  ]

  first_best : (c : List ℕ) (p : List ℕ × T) (o : Option (List ℕ × T)) → ((t : List ℕ × T) → o ≡ Some t → length (prefix_of t) ≤ length c) → prefix_of p ≡ c → better prefix_of p o ≡ Some p
  first_best c p None h e = refl
  first_best c p (Some t) h e =
      let few = h t refl in
      let long : length (prefix_of p) ≡ length c = ap length e in
      rw (le-ltb (length (prefix_of p)) (length (prefix_of t)) (omega arith)) refl

  later_best : (c : List ℕ) (p s : List ℕ × T) → begins (prefix_of p) c ≡ true → is_of c p ≡ false → prefix_of s ≡ c → better prefix_of p (Some s) ≡ Some s
  later_best c p s does no' e = elim (cases_lt (length (prefix_of p)) (length (prefix_of s))) [
    | inl lt ↦ rw (lt-ltb (length (prefix_of p)) (length (prefix_of s)) lt) refl
    | inr ge ↦
        let few = begins-length (prefix_of p) c does in
        let long : length (prefix_of s) ≡ length c = ap length e in
        let whole : take (length (prefix_of p)) c ≡ c = take_all c (length (prefix_of p)) (omega arith) in
        absurd (false≢true (sym no' ∙ ap (λ q. pointwise ◌==◌ (prefix_of p) q) (sym whole) ∙ begins-starts_with (prefix_of p) c ∙ does))
  ]

  -- the pair of the whole front is the longest
  pub longest_whole : (pairs : List (List ℕ × T)) (c : List ℕ) (s : List ℕ × T) → pair_of c pairs ≡ Some s → longest prefix_of pairs c ≡ Some s
  longest_whole [] c s h = absurd cc
  longest_whole (p ∷ ps) c s h = elim (cases_Bool (is_of c p)) [
    | inl is ↦
        let same : p ≡ s = same_Some p s (rw is at h) in
        let text : prefix_of p ≡ c = same_text (prefix_of p) c (sym is) in
        let does : begins (prefix_of p) c ≡ true = rw text (begins_itself c) in
        rw (← same, does) (first_best c p (longest prefix_of ps c) (λ t e. begins-length (prefix_of t) c (some_longest prefix_of ps c t e).front) text)
    | inr no' ↦
        let rest : pair_of c ps ≡ Some s = rw no' at h in
        let later = longest_whole ps c s rest in
        let text : prefix_of s ≡ c = same_text (prefix_of s) c (sym (find_passes (is_of c) ps s rest)) in
        elim (cases_Bool (begins (prefix_of p) c)) [
          | inl does ↦ rw (does, later) (later_best c p s does no' text)
          | inr not ↦ rw not later
        ]
  ]

  few_digits : (pairs : List (List ℕ × T)) (c : List ℕ) → AllByRecursion (λ r. IsPrefix (prefix_of r)) pairs → 12 ≤ length c → NoneLonger prefix_of c (take 12 c) pairs
  few_digits [] c h le = tt
  few_digits (p ∷ ps) c h le = (λ does. let few = h.0.not_long in rw length-take (omega arith), few_digits ps c h.1 le)

  -- a card meets the pairs of its first twelve digits
  pub longest_of_card : (pairs : List (List ℕ × T)) (c : List ℕ) → AllByRecursion (λ r. IsPrefix (prefix_of r)) pairs → longest prefix_of pairs (take 12 c) ≡ longest prefix_of pairs c
  longest_of_card pairs c h = elim (cases_lt 12 (length c)) [
    | inl lt ↦ sym (longest_at_class prefix_of pairs c (take 12 c) (begins-take 12 c) (few_digits pairs c h (omega arith)))
    | inr le ↦ rw (take_all c 12 le) refl
  ]

  none_at_start : (p : List ℕ × T) → IsPrefix (prefix_of p) → begins (prefix_of p) [] ≡ false
  none_at_start p h = starts (prefix_of p) h.not_short
    where
      starts : (q : List ℕ) → 1 ≤ length q → begins q [] ≡ false
      starts [] le = absurd (omega arith)
      starts (d ∷ q) le = refl

  pub longest_of_none : (pairs : List (List ℕ × T)) → AllByRecursion (λ r. IsPrefix (prefix_of r)) pairs → longest prefix_of pairs [] ≡ None
  longest_of_none [] h = refl
  longest_of_none (p ∷ ps) h = rw (none_at_start p h.0) (longest_of_none ps h.1)

  pub whole_of : (pairs : List (List ℕ × T)) (c : List ℕ) (o : Option (List ℕ × T)) → pair_of c pairs ≡ o → is_some o ≡ true → longest prefix_of pairs c ≡ o
  whole_of pairs c None e h = absurd (false≢true h)
  whole_of pairs c (Some s) e h = longest_whole pairs c s e
