-- Values of a list, one after another, and that no part of a report is a float.
use Rattle.std.proofs.Common.{◌≡◌, ℕ, ◌+◌, ◌<◌, ◌≤◌, List, [], ◌∷◌, ◌++◌, length, get_or, take, map, false, refl, sym, ap, ◌∙◌}
use Rattle.std.proofs.lemmas.List.{take_all, take_more}
use Rattle.serde_json.specs.Data.{Data}
use Rattle.serde_json.specs.View.{view, items_of}
use Rattle.serde_json.specs.Written.{has_float, items_have_float}
use Rattle.serde_json.specs.declared.value.Value.{Value}
use Rattle.net_rows.specs.Network.{Network}
use Rattle.net_threads.specs.declared.ended.Ended.{Ended}
use Rattle.net_threads.specs.declared.ended.Finished.{Finished}
use Rattle.net_threads.specs.declared.ended.LineEnd.{LineEnd}
use Rattle.net_threads.specs.declared.ended.SessionEnd.{SessionEnd}
use Rattle.run_report.specs.Answers.{end_data, session_data}
use Rattle.run_report.specs.Reports.{report_data}

map_append : {X Y : Type 0} (f : X → Y) (xs : List X) (x : X) → map f (xs ++ x ∷ []) ≡ map f xs ++ f x ∷ []
map_append f [] x = refl
map_append f (y ∷ xs) x = ap (λ ys. f y ∷ ys) (map_append f xs x)

pub values_more : {X : Type 0} (f : X → Data) (xs : List X) (vs : List Value) (i : ℕ) (x : X) (v : Value) → i < length xs → x ≡ get_or xs i x → view v ≡ f x → map view vs ≡ map f (take i xs) → map view (vs ++ v ∷ []) ≡ map f (take (i + 1) xs)
values_more f xs vs i x v within read is here =
    let next : map f (take (i + 1) xs) ≡ map f (take i xs) ++ f x ∷ [] = ap (map f) (take_more xs i x within ∙ ap (λ y. take i xs ++ y ∷ []) (sym read)) ∙ map_append f (take i xs) x in
    map_append view vs v ∙ ap (λ ds. ds ++ view v ∷ []) here ∙ ap (λ d. map f (take i xs) ++ d ∷ []) is ∙ sym next

pub values_all : {X : Type 0} (f : X → Data) (xs : List X) (vs : List Value) (i : ℕ) → length xs ≤ i → map view vs ≡ map f (take i xs) → map view vs ≡ map f xs
values_all f xs vs i past here = here ∙ ap (map f) (take_all i xs past)

ends_have_no_float : (es : List LineEnd) → items_have_float (items_of (map end_data es)) ≡ false
ends_have_no_float [] = refl
ends_have_no_float (e ∷ es) = ends_have_no_float es

sessions_have_no_float : (ss : List SessionEnd) → items_have_float (items_of (map session_data ss)) ≡ false
sessions_have_no_float [] = refl
sessions_have_no_float (s ∷ ss) = rw ends_have_no_float (sessions_have_no_float ss)

pub report_has_no_float : (t : Network) (ended : Ended) (finished : Finished) → has_float (report_data t ended finished) ≡ false
report_has_no_float t ended finished = rw sessions_have_no_float refl
