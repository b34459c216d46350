-- Look-ups in two lists.
use Rattle.std.proofs.Common.{◌≡◌, Bool, true, false, cond, List, [], ◌∷◌, ◌++◌, Option, Some, None, refl, sym, ap, ◌∙◌}
use Rattle.std.specs.Option.{option_or}
use Rattle.std.specs.Cmp.{IsEquivalence}
use Rattle.std.specs.Map.{lookup}
use Rattle.crowded_map.specs.Values.{in_either}

or_cond : {X : Type 0} (b : Bool) (v : X) (m n : Option X) → option_or (cond b (Some v) m) n ≡ cond b (Some v) (option_or m n)
or_cond true v m n = refl
or_cond false v m n = refl

pub or_none : {X : Type 0} (m : Option X) → option_or m None ≡ m
or_none None = refl
or_none (Some x) = refl

-- a look-up along two lists
pub lookup_both : {K X : Type 0} (test : K → Bool) (es fs : List (K × X)) → lookup test (es ++ fs) ≡ in_either es fs test
lookup_both test [] fs = refl
lookup_both test (e ∷ es) fs = ap (λ m. cond (test e.0) (Some e.1) m) (lookup_both test es fs) ∙ sym (or_cond (test e.0) e.1 (lookup test es) (lookup test fs))

-- equal keys find the same
pub alike : {K X : Type 0} (E : K → K → Bool) → IsEquivalence E → (k q : K) (es : List (K × X)) → E k q ≡ true → lookup (E q) es ≡ lookup (E k) es
alike E laws k q es t = λ i. lookup (λ x. sym (laws.congr k q x t) i) es

-- a key is put into the first list
pub put_first : {K X : Type 0} (E : K → K → Bool) (key : K) (v : X) (near new far : List (K × X)) → ((q : K) → lookup (E q) new ≡ cond (E key q) (Some v) (lookup (E q) near)) → (q : K) → in_either new far (E q) ≡ cond (E key q) (Some v) (in_either near far (E q))
put_first E key v near new far put q = ap (λ m. option_or m (lookup (E q) far)) (put q) ∙ or_cond (E key q) v (lookup (E q) near) (lookup (E q) far)

-- into the second, where the first lacks it
pub put_second : {K X : Type 0} (E : K → K → Bool) → IsEquivalence E → (key : K) (v : X) (near far new : List (K × X)) → lookup (E key) near ≡ None → ((q : K) → lookup (E q) new ≡ cond (E key q) (Some v) (lookup (E q) far)) → (q : K) → in_either near new (E q) ≡ cond (E key q) (Some v) (in_either near far (E q))
put_second E laws key v near far new none put q = go (E key q) refl
  where
    go : (b : Bool) → E key q ≡ b → in_either near new (E q) ≡ cond b (Some v) (in_either near far (E q))
    go true t = ap (λ m. option_or m (lookup (E q) new)) (alike E laws key q near t ∙ none) ∙ (put q ∙ ap (λ b. cond b (Some v) (lookup (E q) far)) t)
    go false f = ap (λ m. option_or (lookup (E q) near) m) (put q ∙ ap (λ b. cond b (Some v) (lookup (E q) far)) f)

-- a key is taken out of both
pub take_both : {K X : Type 0} (E : K → K → Bool) (key : K) (near far new after : List (K × X)) → ((q : K) → lookup (E q) new ≡ cond (E key q) None (lookup (E q) near)) → ((q : K) → lookup (E q) after ≡ cond (E key q) None (lookup (E q) far)) → (q : K) → in_either new after (E q) ≡ cond (E key q) None (in_either near far (E q))
take_both E key near far new after one other q = ap (λ m. option_or m (lookup (E q) after)) (one q) ∙ (ap (λ m. option_or (cond (E key q) None (lookup (E q) near)) m) (other q) ∙ go (E key q))
  where
    go : (b : Bool) → option_or (cond b None (lookup (E q) near)) (cond b None (lookup (E q) far)) ≡ cond b None (in_either near far (E q))
    go true = refl
    go false = refl

-- a first list that finds the same
pub same_first : {K X : Type 0} (E : K → K → Bool) (near new far : List (K × X)) → ((q : K) → lookup (E q) new ≡ lookup (E q) near) → (q : K) → lookup (E q) (new ++ far) ≡ lookup (E q) (near ++ far)
same_first E near new far same q = lookup_both (E q) new far ∙ (ap (λ m. option_or m (lookup (E q) far)) (same q) ∙ sym (lookup_both (E q) near far))
