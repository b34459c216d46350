-- Values one after the other, and their lines.
use Rattle.std.proofs.Common.{◌≡◌, ◌∙◌, ℕ, ◌<◌, ◌+◌, List, [], ◌∷◌, ◌++◌, map, take, get_or, length, ap, sym}
use Rattle.std.proofs.lemmas.List.{map-append, take_more}
use Rattle.serde_json.specs.Data.{Data}
use Rattle.serde_json.specs.View.{view}
use Rattle.serde_json.specs.declared.value.Value.{Value}
use Rattle.refusals_json.specs.Json.{json_line}

-- one more value, of the next row
pub values_more : {A : Type 0} (f : A → Data) (xs : List A) (i : ℕ) (x : A) (before after : List Value) (v : Value) → i < length xs → x ≡ get_or xs i x
    → map view before ≡ map f (take i xs) → after ≡ before ++ v ∷ [] → view v ≡ f x → map view after ≡ map f (take (i + 1) xs)
values_more f xs i x before after v lt is so_far pushed new =
    let rows : map f (take (i + 1) xs) ≡ map f (take i xs) ++ f x ∷ [] = rw (take_more xs i x lt, ← is) (map-append f (take i xs) (x ∷ [])) in
    let values : map view after ≡ map view before ++ view v ∷ [] = ap (map view) pushed ∙ map-append view before (v ∷ []) in
    values ∙ ap (λ (ds : List Data). ds ++ view v ∷ []) so_far ∙ ap (λ (d : Data). map f (take i xs) ++ d ∷ []) new ∙ sym rows

-- a value pushed behind others
pub pushed_view : (before after : List Value) (v : Value) (d : Data) → after ≡ before ++ v ∷ [] → view v ≡ d → map view after ≡ map view before ++ d ∷ []
pushed_view before after v d pushed is = ap (map view) pushed ∙ map-append view before (v ∷ []) ∙ ap (λ (e : Data). map view before ++ e ∷ []) is

pub line_of : (e d : Data) (line : List ℕ) → line ≡ json_line e → e ≡ d → line ≡ json_line d
line_of e d line h is = h ∙ ap json_line is
