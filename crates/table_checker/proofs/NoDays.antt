-- Where there is no stand-in row, no node approves by itself.
use Rattle.std.proofs.Common.{◌≡◌, ℕ, zero, suc, List, [], ◌∷◌, None, refl, length, ◌==◌, true, arith}
use Rattle.std.proofs.lemmas.Bool.{eqb-true}
use Rattle.net_rows.specs.Network.{Network, day}
use Rattle.network_law.specs.Checked.{sum_below}
use Rattle.rank_rows.specs.declared.rank.Rank.{Rank}
use Rattle.net_rows.specs.declared.row.Issuer.{Issuer}
use Rattle.table_checker.specs.declared.refusal.Kind.TheVariants as kind
use Rattle.table_checker.specs.Search.{first_below}
use Rattle.table_checker.specs.Rules.{node_refusal}

no_day : (t : Network) (n : ℕ) (class : List ℕ) → t.stand_ins ≡ [] → day t n class ≡ 0
no_day t n class none = rw none refl

pub no_days : (t : Network) (class : List ℕ) (k : ℕ) → t.stand_ins ≡ [] → sum_below (λ n. day t n class) k ≡ 0
no_days t class zero none = refl
no_days t class (suc k) none = rw (no_days t class k none, no_day t k class none) refl

pub none_named : (t : Network) (cert : List Rank) (class : List ℕ) (i : Issuer) (k : ℕ) → t.stand_ins ≡ [] → first_below (node_refusal t cert class kind.NotNamed i) k ≡ None
none_named t cert class i zero none = refl
none_named t cert class i (suc k) none = rw (none_named t cert class i k none, no_day t k class none) refl

pub empty : {A : Type 0} (xs : List A) → (length xs == 0) ≡ true → xs ≡ []
empty [] is = refl
empty (x ∷ xs) is = absurd (omega (arith, eqb-true (length (x ∷ xs)) 0 is))
