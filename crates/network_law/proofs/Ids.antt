-- The ids of nodes.
use Rattle.std.proofs.Common.{◌≡◌, ℕ, zero, suc, ◌-◌, ◌<◌, ◌≤◌, List, length, replicate, drop, true, false, refl, sym, ap, ◌∙◌, arith, eqb, [], ◌∷◌}
use Rattle.std.proofs.lemmas.List.{drop_at, length-replicate}
use Rattle.std.specs.List.{list_all, AllByRecursion}
use Rattle.std.specs.Option.{option_map_or}
use Rattle.std.specs.Prelude.{slice_get}
use Rattle.net_rows.specs.declared.row.Node.{Node}
use Rattle.std.specs.Char.{is_ascii_digit}
use Rattle.card_digits.specs.Numbers.{pad11}
use Rattle.card_digits.specs.Digits.{IsId}
use Rattle.net_rows.specs.Network.{Network}
use Rattle.network_law.specs.Tables.{node_id}
use Rattle.net_rows.specs.Sound.{IsSound}

-- digits that fit eleven, and not all of them zeros
pub record IsIdText (bs : List ℕ) : Type 0 where
  pub fits : length bs ≤ 11
  pub digits : list_all is_ascii_digit bs ≡ true
  pub not_zeros : list_all (λ b. eqb b 48) bs ≡ false

at_node : (P : List ℕ → Type 0) (ks : List Node) (n : ℕ) → AllByRecursion (λ k. P k.id) ks → n < length ks → P (option_map_or (λ k. k.id) (slice_get ks n) [])
at_node P [] n all less = absurd (omega (arith, less))
at_node P (k ∷ ks) zero all less = all.0
at_node P (k ∷ ks) (suc n) all less = at_node P ks n all.1 (omega (arith, less))

pub id_text : (t : Network) → IsSound t → (n : ℕ) → n < length t.nodes → IsIdText (node_id t n)
id_text t sound n less =
    let id : IsId (node_id t n) = at_node IsId t.nodes n sound.ids less in
    record { fits = IsId.few id; digits = IsId.digits id; not_zeros = IsId.not_zeros id }

all_zeros : (n : ℕ) → list_all (λ b. eqb b 48) (replicate n 48) ≡ true
all_zeros zero = refl
all_zeros (suc n) = all_zeros n

drop_same : (x k n : ℕ) → drop k (replicate n x) ≡ replicate (n - k) x
drop_same x zero n = let e : n - 0 ≡ n = omega arith in rw e refl
drop_same x (suc k) zero = let e : 0 - suc k ≡ 0 = omega arith in rw e refl
drop_same x (suc k) (suc n) = let e : suc n - suc k ≡ n - k = omega arith in rw e (drop_same x k n)

padded_zeros : (bs : List ℕ) → pad11 bs ≡ replicate 11 48 → list_all (λ b. eqb b 48) bs ≡ true
padded_zeros bs e =
    let k = drop_at (replicate (11 - length bs) 48) bs (11 - length bs) (length-replicate {A = ℕ} (11 - length bs) 48) in
    let all : bs ≡ replicate (11 - (11 - length bs)) 48 = sym k ∙ (ap (drop (11 - length bs)) e ∙ drop_same 48 (11 - length bs) 11) in
    ap (list_all (λ b. eqb b 48)) all ∙ all_zeros (11 - (11 - length bs))

pub no_zero_id : (t : Network) → IsSound t → (n : ℕ) → n < length t.nodes → pad11 (node_id t n) ≡ replicate 11 48 → ⊥
no_zero_id t sound n less e = no (sym (padded_zeros (node_id t n) e) ∙ IsIdText.not_zeros (id_text t sound n less))
  where
    no : true ≡ false → ⊥
    no p = cc

-- digits that fit eleven: what stands for a node that isn't there has none
pub record FitsId (bs : List ℕ) : Type 0 where
  pub fits : length bs ≤ 11
  pub digits : list_all is_ascii_digit bs ≡ true

ids_fit : (ks : List Node) (n : ℕ) → AllByRecursion (λ k. IsId k.id) ks → FitsId (option_map_or (λ k. k.id) (slice_get ks n) [])
ids_fit [] n all = record { fits = omega arith; digits = refl }
ids_fit (k ∷ ks) zero all = record { fits = IsId.few all.0; digits = IsId.digits all.0 }
ids_fit (k ∷ ks) (suc n) all = ids_fit ks n all.1

pub id_fits : (t : Network) → IsSound t → (n : ℕ) → FitsId (node_id t n)
id_fits t sound n = ids_fit t.nodes n sound.ids
