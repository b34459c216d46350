-- The keys of a list of entries.
use Rattle.std.proofs.Common.{◌≡◌, Bool, true, false, cond, ◌||◌, List, [], ◌∷◌, Some, is_some, refl, ap, ◌∙◌, sym}
use Rattle.std.specs.List.{list_any}
use Rattle.std.specs.Map.{lookup, keys_of}

-- a key has a value where it is among the keys
pub among_keys : {K X : Type 0} (test : K → Bool) (es : List (K × X)) → list_any test (keys_of es) ≡ is_some (lookup test es)
among_keys test [] = refl
among_keys test (e ∷ es) = ap (λ b. test e.0 || b) (among_keys test es) ∙ go (test e.0)
  where
    go : (b : Bool) → (b || is_some (lookup test es)) ≡ is_some (cond b (Some e.1) (lookup test es))
    go true = refl
    go false = refl

-- after a change of what a key has
pub among_put : {K X : Type 0} (E : K → K → Bool) (key : K) (v : X) (es new : List (K × X)) → ((q : K) → lookup (E q) new ≡ cond (E key q) (Some v) (lookup (E q) es)) → (q : K) → list_any (E q) (keys_of new) ≡ cond (E key q) true (list_any (E q) (keys_of es))
among_put E key v es new put q = among_keys (E q) new ∙ (ap is_some (put q) ∙ (go (E key q) ∙ ap (λ b. cond (E key q) true b) (sym (among_keys (E q) es))))
  where
    go : (b : Bool) → is_some (cond b (Some v) (lookup (E q) es)) ≡ cond b true (is_some (lookup (E q) es))
    go true = refl
    go false = refl

pub among_same : {K X : Type 0} (E : K → K → Bool) (es new : List (K × X)) → ((q : K) → lookup (E q) new ≡ lookup (E q) es) → (q : K) → list_any (E q) (keys_of new) ≡ list_any (E q) (keys_of es)
among_same E es new same q = among_keys (E q) new ∙ (ap is_some (same q) ∙ sym (among_keys (E q) es))
