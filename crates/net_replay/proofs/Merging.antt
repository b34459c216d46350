-- What is merged from the traces are the steps, in the order of their lines.
use Rattle.std.proofs.Common.{◌≡◌, ℕ, suc, ◌<◌, ◌≤◌, List, [], ◌∷◌, ◌++◌, length, map, reverse, set, get_or, Bor, Option, Some, None, Bool, true, false, eqb, eqb-true, eq-eqb, refl, sym, ap, ◌∙◌, subst, arith}
use Rattle.std.proofs.lemmas.Bool.{eqb-false}
use Rattle.std.specs.Prelude.{slice_get}
use Rattle.std.proofs.lemmas.List.{append-nil, map-set, reverse-append}
use Rattle.std.specs.Option.{option_map}
use Rattle.std.proofs.lemmas.Option.{slice_get-map, slice_get_within, slice_get_read}
use Rattle.net_rows.specs.Network.{Network}
use Rattle.network_law.specs.Entries.{Entry}
use Rattle.switch_node.specs.Node.{NodeView}
use Rattle.net_replay.specs.Steps.{Step, entries_at}
use Rattle.net_replay.specs.Traces.{TracesView, AreTraces, AreThere}
use Rattle.net_replay.specs.Merged.{first_and, merged}
use Rattle.net_replay.proofs.Standing.{get_same, get_other}

-- steps the other way round

entries_both : (n : ℕ) (later steps : List Step) → entries_at n (later ++ steps) ≡ entries_at n later ++ entries_at n steps
entries_both n [] steps = refl
entries_both n (s ∷ later) steps = go (eqb s.node n) refl (entries_both n later steps)
  where
    go : (b : Bool) → eqb s.node n ≡ b → entries_at n (later ++ steps) ≡ entries_at n later ++ entries_at n steps → entries_at n (s ∷ (later ++ steps)) ≡ entries_at n (s ∷ later) ++ entries_at n steps
    go true same both = rw same (ap (λ z. s.entry ∷ z) both)
    go false other both = rw other both

entries_reverse : (n : ℕ) (steps : List Step) → reverse (entries_at n steps) ≡ entries_at n (reverse steps)
entries_reverse n [] = refl
entries_reverse n (s ∷ steps) = sym (ap (entries_at n) (reverse-append (s ∷ []) steps) ∙ (entries_both n (reverse steps) (s ∷ []) ∙ go (eqb s.node n) refl (sym (entries_reverse n steps))))
  where
    go : (b : Bool) → eqb s.node n ≡ b → entries_at n (reverse steps) ≡ reverse (entries_at n steps) → entries_at n (reverse steps) ++ entries_at n (s ∷ []) ≡ reverse (entries_at n (s ∷ steps))
    go true same before = rw same (ap (λ z. z ++ s.entry ∷ []) before ∙ sym (reverse-append (s.entry ∷ []) (entries_at n steps)))
    go false other before = rw other (append-nil (entries_at n (reverse steps)) ∙ before)

abbrev node_of : Step → ℕ
node_of s = s.node

there_both : (t : Network) (xs ys : List Step) → AreThere t xs → AreThere t ys → AreThere t (xs ++ ys)
there_both t [] ys p q = q
there_both t (x ∷ xs) ys p q = (p.0, there_both t xs ys p.1 q)

there_reverse : (t : Network) (steps : List Step) → AreThere t steps → AreThere t (reverse steps)
there_reverse t [] p = tt
there_reverse t (s ∷ steps) p = subst (AreThere t) (sym (reverse-append (s ∷ []) steps)) (there_both t (reverse steps) (s ∷ []) (there_reverse t steps p.1) (p.0, tt))

-- steps that are left, the oldest first

abbrev AreLeft : Network → List (List Entry) → List Step → Type 0
AreLeft t rests steps = (n : ℕ) → n < length t.nodes → slice_get rests n ≡ Some (entries_at n steps)

left_is : (t : Network) (steps : List Step) (rests : List (List Entry)) → AreThere t steps → AreLeft t rests steps → merged rests (map node_of steps) ≡ steps
left_is t [] rests there left = refl
left_is t (s ∷ steps) rests there left =
    ap (λ o. first_and rests s.node o (λ z. merged z (map node_of steps))) (left s.node there.0 ∙ ap Some here)
    ∙ ap (λ z. s ∷ z) (left_is t steps (set rests s.node (entries_at s.node steps)) there.1 (λ m less. next m less (eqb s.node m) refl))
  where
    here : entries_at s.node (s ∷ steps) ≡ s.entry ∷ entries_at s.node steps
    here = rw (eq-eqb s.node s.node refl) refl

    other_is : (m : ℕ) → eqb s.node m ≡ false → entries_at m (s ∷ steps) ≡ entries_at m steps
    other_is m other = rw other refl

    next : (m : ℕ) → m < length t.nodes → (b : Bool) → eqb s.node m ≡ b → slice_get (set rests s.node (entries_at s.node steps)) m ≡ Some (entries_at m steps)
    next m less true same = subst (λ z. slice_get (set rests s.node (entries_at s.node steps)) z ≡ Some (entries_at z steps)) (eqb-true s.node m same)
        (get_same rests s.node (entries_at s.node steps) (slice_get_within rests s.node (entries_at s.node (s ∷ steps)) (left s.node there.0)))
    next m less false other = get_other rests s.node m (entries_at s.node steps) (eqb-false s.node m other) ∙ (left m less ∙ ap Some (other_is m other))

-- what is left of each node's trace before the first line
abbrev pub rests_of : List NodeView → List (List Entry)
rests_of nodes = map (λ (a : NodeView). reverse a.trace) nodes

pub merged_is : (t : Network) (steps : List Step) (v : TracesView) → AreTraces t steps v → merged (rests_of v.nodes) v.line_nodes ≡ reverse steps
merged_is t steps v are =
    ap (merged (rests_of v.nodes)) are.line_nodes
    ∙ left_is t (reverse steps) (rests_of v.nodes) (there_reverse t steps are.there)
    (λ n less. slice_get-map (λ (a : NodeView). reverse a.trace) v.nodes n ∙ (ap (option_map (λ (a : NodeView). reverse a.trace)) (are.nodes.1 n less) ∙ ap Some (entries_reverse n steps)))

-- one step is taken

-- the first step, and what is left behind it
pub first_taken : (rests : List (Bor (List Entry))) (ns left : List ℕ) (n i : ℕ) (rest later : Bor (List Entry)) (e : Entry) → ns ≡ n ∷ left → i ≡ n → i < length rests → rest ≡ get_or rests i rest → rest.now ≡ e ∷ later.now
    → merged (map (λ (r : Bor (List Entry)). r.now) rests) ns ≡ record { node = n; entry = e } ∷ merged (map (λ (r : Bor (List Entry)). r.now) (set rests i later)) left
first_taken rests ns left n i rest later e lines place less read is =
    ap (merged seen) (lines ∙ ap (λ z. z ∷ left) (sym place))
    ∙ (ap (λ o. first_and seen i o (λ z. merged z left)) (slice_get-map (λ (r : Bor (List Entry)). r.now) rests i ∙ (ap (option_map (λ (r : Bor (List Entry)). r.now)) (slice_get_read rests (length rests) i rest refl less read) ∙ ap Some is))
    ∙ (ap (λ z. record { node = z; entry = e } ∷ merged (set seen i later.now) left) place
    ∙ ap (λ z. record { node = n; entry = e } ∷ merged z left) (sym (map-set (λ (r : Bor (List Entry)). r.now) rests i later))))
  where
    seen : List (List Entry)
    seen = map (λ (r : Bor (List Entry)). r.now) rests

pub merged_length : (rests : List (List Entry)) (ns : List ℕ) → length (merged rests ns) ≤ length ns
merged_length rests [] = omega arith
merged_length rests (n ∷ ns) = go (slice_get rests n) (λ left. merged_length left ns)
  where
    go : (o : Option (List Entry)) → ((left : List (List Entry)) → length (merged left ns) ≤ length ns) → length (first_and rests n o (λ z. merged z ns)) ≤ suc (length ns)
    go None shorter = omega arith
    go (Some []) shorter = omega arith
    go (Some (e ∷ es)) shorter = let less = shorter (set rests n es) in omega (arith, less)
