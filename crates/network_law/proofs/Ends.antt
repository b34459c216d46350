-- The nodes of a run, and the ends of links.
use Rattle.std.proofs.Common.{◌≡◌, ℕ, ◌≤◌, ◌<◌, List, Option, Some, None, Bool, true, false, cond, ◌||◌, refl, sym, ◌∙◌, subst, inl, inr, ⊎_elim, ◌⊎◌, arith, eqb, length}
use Rattle.std.proofs.lemmas.Bool.{or_cases, eqb-true, eq-eqb, cases_lt}
use Rattle.std.specs.Prelude.{slice_get}
use Rattle.net_rows.specs.Network.{Network, other_end}
use Rattle.net_rows.specs.declared.row.Issuer.{Issuer}
use Rattle.net_rows.specs.declared.row.Link.{Link}
use Rattle.network_law.specs.Tables.{is_home, is_link_of}
use Rattle.network_law.specs.Traces.{History, Event, Has}
use Rattle.network_law.specs.Entries.{ReadEntry, read_history}
use Rattle.network_law.proofs.ReadRuns.{IsLegalRead, IsReadRun}

-- the histories of a run's nodes
abbrev pub histories : (ℕ → List ReadEntry) → ℕ → History
histories traces n = read_history (traces n)

-- every node has a legal trace: one that isn't of the tables has an empty one
pub legal_at : {t : Network} {traces : ℕ → List ReadEntry} → IsReadRun t traces → (n : ℕ) → IsLegalRead t n (traces n)
legal_at {t} {traces} run n = ⊎_elim (λ less. run.legal n less) (λ more. subst (IsLegalRead t n) (sym (run.no_others n more)) (omega arith)) (cases_lt n (length t.nodes))

-- so where something stands in a trace, the node is one of the tables
pub is_node : {t : Network} {traces : ℕ → List ReadEntry} → IsReadRun t traces → (n : ℕ) (e : Event) → Has e (read_history (traces n)) → n < length t.nodes
unfolding read_history
is_node {t} {traces} run n e has = ⊎_elim (λ less. less) (λ more. absurd (none more)) (cases_lt n (length t.nodes))
  where
    none : length t.nodes ≤ n → ⊥
    none more = subst (λ es. Has e (read_history es)) (run.no_others n more) has

pub not_home : (s : Issuer) (n : ℕ) → is_home s n ≡ false → n ≡ s.home → ⊥
not_home s n e same = no (sym (eq-eqb s.home n (sym same)) ∙ e)
  where
    no : true ≡ false → ⊥
    no p = cc

-- the other end of the other end

end_of : ℕ → Link → ℕ
end_of n k = cond (eqb k.from n) k.to k.from

back_end : (k : Link) (n : ℕ) → (eqb k.from n || eqb k.to n) ≡ true → cond (eqb k.from (cond (eqb k.from n) k.to k.from)) k.to k.from ≡ n
back_end k n own = go (eqb k.from n) refl
  where
    ends : (k.from ≡ n) ⊎ (k.to ≡ n)
    ends = ⊎_elim (λ e. inl (eqb-true _ _ e)) (λ e. inr (eqb-true _ _ e)) (or_cases (eqb k.from n) (eqb k.to n) own)

    go : (b : Bool) → eqb k.from n ≡ b → cond (eqb k.from (cond (eqb k.from n) k.to k.from)) k.to k.from ≡ n
    go true at = rw at (test (eqb k.from k.to) refl (eqb-true _ _ at))
      where
        test : (b : Bool) → eqb k.from k.to ≡ b → k.from ≡ n → cond (eqb k.from k.to) k.to k.from ≡ n
        test true same an = rw same (sym (eqb-true k.from k.to same) ∙ an)
        test false same an = rw same an
    go false at =
        let same : eqb k.from k.from ≡ true = eq-eqb _ _ refl in
        rw (at, same) (⊎_elim (λ an. absurd (no an)) (λ bn. bn) ends)
      where
        no : k.from ≡ n → ⊥
        no an = (λ (p : true ≡ false). bad p) (sym (eq-eqb k.from n an) ∙ at)
          where
            bad : true ≡ false → ⊥
            bad p = cc

pub back : (t : Network) (l n : ℕ) → is_link_of t n l ≡ true → other_end t (other_end t n l) l ≡ n
back t l n own = go (slice_get t.links l) refl own
  where
    go : (o : Option Link) → slice_get t.links l ≡ o → is_link_of t n l ≡ true → other_end t (other_end t n l) l ≡ n
    go None at own = absurd (no (rw at at own))
      where
        no : false ≡ true → ⊥
        no p = cc
    go (Some k) at own = rw at (back_end k n (rw at at own))
