-- How long requests wait, by the rows of links.
use Rattle.std.proofs.Common.{◌≡◌, ℕ, suc, ◌<◌, List, [], ◌∷◌, length, map, Some, refl, sym, ◌∙◌, arith}
use Rattle.std.specs.Prelude.{slice_get}
use Rattle.net_rows.specs.declared.row.Link.{Link}
use Rattle.pending_book.specs.Waits.{WaitsView}
use Rattle.node_books.specs.Values.{waits_in}

-- numbers that agree with each link are those of all
pub all_ticks : (ticks : List ℕ) (links : List Link) → length ticks ≡ length links → ((k : ℕ) (link : Link) → k < length links → slice_get links k ≡ Some link → slice_get ticks k ≡ Some link.ticks) → ticks ≡ map (λ (l : Link). l.ticks) links
all_ticks [] [] n same = refl
all_ticks [] (l ∷ links) n same = absurd (omega (arith, n))
all_ticks (t ∷ ticks) [] n same = absurd (omega (arith, n))
all_ticks (t ∷ ticks) (l ∷ links) n same =
    let first : Some t ≡ Some l.ticks = same 0 l (omega arith) refl in
    let rest = all_ticks ticks links (omega (arith, n)) (λ k link lt e. same (suc k) link (omega (arith, lt)) e) in
    cc

-- and so are the waits
pub all_waits : (w : WaitsView) (ticks : List ℕ) (links : List Link) (host : ℕ) → ticks ≡ w.links → w.host ≡ host → length ticks ≡ length links → ((k : ℕ) (link : Link) → k < length links → slice_get links k ≡ Some link → slice_get ticks k ≡ Some link.ticks) → w ≡ waits_in links host
all_waits w ticks links host is same_host n same =
    let e : w.links ≡ map (λ (l : Link). l.ticks) links = sym is ∙ all_ticks ticks links n same in
    build w.links w.host _ host e same_host
  where
    the_waits : List ℕ → ℕ → WaitsView
    the_waits a h = record { links = a; host = h }

    build : (a : List ℕ) (h : ℕ) (b : List ℕ) (g : ℕ) → a ≡ b → h ≡ g → the_waits a h ≡ the_waits b g
    build a h b g e f = rw (e, f) refl
