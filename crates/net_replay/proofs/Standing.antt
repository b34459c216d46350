-- A step more.
use Rattle.std.proofs.Common.{◌≡◌, ℕ, zero, suc, ◌<◌, ◌==◌, List, [], ◌∷◌, ◌++◌, length, map, reverse, set, get_or, Option, Some, None, Bool, true, false, cond, eqb, eqb-true, eq-eqb, refl, sym, ap, ◌∙◌, subst, arith, append_assoc, length-append, length-set, replicate, inl, inr, ◌⊎◌, if◌then◌else◌}
use Rattle.std.specs.Prelude.{slice_get, option_and_then}
use Rattle.std.specs.Option.{option_map}
use Rattle.std.proofs.lemmas.Bool.{eqb-false}
use Rattle.std.proofs.lemmas.List.{append-nil, map-append, reverse-append, length-reverse}
use Rattle.std.proofs.lemmas.Option.{get_or_from_slice_get, slice_get_within}
use Rattle.net_rows.specs.Network.{Network}
use Rattle.network_law.specs.Cards.{Bytes}
use Rattle.network_law.specs.Entries.{Entry, Output, Put, Answer, Ask, Post}
use Rattle.network_law.specs.Runs.{IsLegal, IsStep, step_refusal}
use Rattle.network_law.specs.Entries.{Input}
use Rattle.network_law.specs.declared.fault.StepFault.{StepFault}
use Rattle.network_law.specs.declared.fault.StepFault.TheVariants.{Decode, ForeignAcquirer, Missing, TypeNotForGate, UnknownAsk, Replacement, HistoryFull, NoPlace, NotLent, Memory as NoMemory}
use Rattle.replay_script.specs.Lines.{Said}
use Rattle.net_replay.specs.declared.fault.ReplayFault.TheVariants.{Memory}
use Rattle.net_replay.specs.Replays.{IsInput, IsSaidFault, fault_of}
use Rattle.switch_node.specs.Node.{NodeView}
use Rattle.net_replay.specs.Steps.{Step, entries_at, packets, packets_in}
use Rattle.step_draft.specs.Outputs.{bytes_of}
use Rattle.net_replay.specs.declared.packets.PacketPlace.{PacketPlace}
use Rattle.net_replay.specs.Packets.{bytes_at, put_at, put_all}
use Rattle.net_replay.specs.Running.{IsAt, ArePackets, ArePlaces}
use Rattle.net_replay.specs.Traces.{nodes_of}
use Rattle.net_replay.proofs.Serials.{get_left}

-- an element of a list is replaced

pub get_same : {X : Type 0} (xs : List X) (i : ℕ) (v : X) → i < length xs → slice_get (set xs i v) i ≡ Some v
get_same [] i v less = absurd (omega (arith, less))
get_same (x ∷ xs) zero v less = refl
get_same (x ∷ xs) (suc i) v less = get_same xs i v (omega (arith, less))

pub get_other : {X : Type 0} (xs : List X) (i j : ℕ) (v : X) → (i ≡ j → ⊥) → slice_get (set xs i v) j ≡ slice_get xs j
get_other [] i j v ne = refl
get_other (x ∷ xs) zero zero v ne = absurd (ne refl)
get_other (x ∷ xs) zero (suc j) v ne = refl
get_other (x ∷ xs) (suc i) zero v ne = refl
get_other (x ∷ xs) (suc i) (suc j) v ne = get_other xs i j v (λ e. ne (ap suc e))

-- the packets of outputs are added

-- the places of those on a link, of the outputs from the k-th on
abbrev places_in : ℕ → ℕ → ℕ → List Output → List PacketPlace
places_in entry k l [] = []
places_in entry k l (Put m s b ∷ os) = if m == l then (record { entry = entry; output = k }) ∷ places_in entry (suc k) l os else places_in entry (suc k) l os
places_in entry k l (Answer b ∷ os) = places_in entry (suc k) l os
places_in entry k l (Ask a b ∷ os) = places_in entry (suc k) l os
places_in entry k l (Post b ∷ os) = places_in entry (suc k) l os

put_all_gets : (entry k : ℕ) (os : List Output) (links : List (List PacketPlace)) (l : ℕ) (xs : List PacketPlace) → slice_get links l ≡ Some xs → slice_get (put_all links entry k os) l ≡ Some (xs ++ places_in entry k l os)
put_all_gets entry k [] links l xs e = e ∙ ap Some (sym (append-nil xs))
put_all_gets entry k (Put m s b ∷ os) links l xs e = go (eqb m l) refl (put_all_gets entry (suc k) os (put_at links m p) l)
  where
    p : PacketPlace
    p = record { entry = entry; output = k }

    rest : List PacketPlace
    rest = places_in entry (suc k) l os

    go : (q : Bool) → eqb m l ≡ q → ((ys : List PacketPlace) → slice_get (put_at links m p) l ≡ Some ys → slice_get (put_all (put_at links m p) entry (suc k) os) l ≡ Some (ys ++ rest)) → slice_get (put_all (put_at links m p) entry (suc k) os) l ≡ Some (xs ++ cond (eqb m l) (p ∷ rest) rest)
    go true same ih =
        let on = eqb-true m l same in
        let here : slice_get links m ≡ Some xs = ap (slice_get links) on ∙ e in
        let put : slice_get (put_at links m p) m ≡ Some (xs ++ p ∷ []) = get_same links m (get_or links m [] ++ p ∷ []) (slice_get_within links m xs here) ∙ ap (λ z. Some (z ++ p ∷ [])) (get_or_from_slice_get links m xs [] here) in
        rw same (ih (xs ++ p ∷ []) (ap (slice_get (put_at links m p)) (sym on) ∙ put) ∙ ap Some (append_assoc xs (p ∷ []) rest))
    go false other ih = rw other (ih xs (get_other links m l (get_or links m [] ++ p ∷ []) (eqb-false m l other) ∙ e))
put_all_gets entry k (Answer b ∷ os) links l xs e = put_all_gets entry (suc k) os links l xs e
put_all_gets entry k (Ask a b ∷ os) links l xs e = put_all_gets entry (suc k) os links l xs e
put_all_gets entry k (Post b ∷ os) links l xs e = put_all_gets entry (suc k) os links l xs e

put_all_length : (entry k : ℕ) (os : List Output) (links : List (List PacketPlace)) → length (put_all links entry k os) ≡ length links
put_all_length entry k [] links = refl
put_all_length entry k (Put m s b ∷ os) links = put_all_length entry (suc k) os (put_at links m (record { entry = entry; output = k })) ∙ length-set links m (get_or links m [] ++ (record { entry = entry; output = k }) ∷ [])
put_all_length entry k (Answer b ∷ os) links = put_all_length entry (suc k) os links
put_all_length entry k (Ask a b ∷ os) links = put_all_length entry (suc k) os links
put_all_length entry k (Post b ∷ os) links = put_all_length entry (suc k) os links

-- what stands at these places

get_end : {X : Type 0} (xs : List X) (x : X) (ys : List X) → slice_get (xs ++ x ∷ ys) (length xs) ≡ Some x
get_end [] x ys = refl
get_end (z ∷ xs) x ys = get_end xs x ys

read_more : (xs ys : List Entry) (p : PacketPlace) (b : Bytes) → bytes_at xs p ≡ Some b → bytes_at (xs ++ ys) p ≡ Some b
read_more xs ys p b e = go (slice_get xs p.entry) refl
  where
    read : Option Entry → Option Bytes
    read found = option_and_then (λ (x : Entry). option_map bytes_of (slice_get x.outputs p.output)) found

    no : None ≡ Some b → ⊥
    no q = cc

    go : (found : Option Entry) → slice_get xs p.entry ≡ found → bytes_at (xs ++ ys) p ≡ Some b
    go None is = absurd (no (sym (ap read is) ∙ e))
    go (Some x) is = ap read (get_left xs ys p.entry x is ∙ sym is) ∙ e

all_read_more : (xs ys : List Entry) (ps : List PacketPlace) (bs : List Bytes) → map (bytes_at xs) ps ≡ map Some bs → map (bytes_at (xs ++ ys)) ps ≡ map Some bs
all_read_more xs ys [] bs e = e
all_read_more xs ys (p ∷ ps) [] e = absurd (no e)
  where
    no : {X : Type 0} {x : X} {ys : List X} → x ∷ ys ≡ [] → ⊥
    no q = cc
all_read_more xs ys (p ∷ ps) (b ∷ bs) e =
    let parts = both e in
    both_back (read_more xs ys p b parts.0) (all_read_more xs ys ps bs parts.1)
  where
    both : {X : Type 0} {x y : X} {xs ys : List X} → x ∷ xs ≡ y ∷ ys → (x ≡ y) × (xs ≡ ys)
    both q = (cc, cc)

    both_back : {X : Type 0} {x y : X} {xs ys : List X} → x ≡ y → xs ≡ ys → x ∷ xs ≡ y ∷ ys
    both_back q r = cc

put_read : (past : List Entry) (e : Entry) (l : ℕ) (pre os : List Output) → e.outputs ≡ pre ++ os → map (bytes_at (past ++ e ∷ [])) (places_in (length past) (length pre) l os) ≡ map Some (packets_in l os)
put_read past e l pre [] is = refl
put_read past e l pre (o ∷ os) is = go o is refl (subst (λ z. map (bytes_at (past ++ e ∷ [])) (places_in (length past) z l os) ≡ map Some (packets_in l os)) one (put_read past e l (pre ++ o ∷ []) os (is ∙ sym (append_assoc pre (o ∷ []) os))))
  where
    one : length (pre ++ o ∷ []) ≡ suc (length pre)
    one = let e = length-append pre (o ∷ []) in omega (arith, e)

    place : PacketPlace
    place = record { entry = length past; output = length pre }

    here : bytes_at (past ++ e ∷ []) place ≡ Some (bytes_of o)
    here = ap (option_and_then (λ (x : Entry). option_map bytes_of (slice_get x.outputs (length pre)))) (get_end past e []) ∙ ap (option_map bytes_of) (ap (λ z. slice_get z (length pre)) is ∙ get_end pre o os)

    Is : Output → Type 0
    Is x = map (bytes_at (past ++ e ∷ [])) (places_in (length past) (length pre) l (x ∷ os)) ≡ map Some (packets_in l (x ∷ os))

    go : (x : Output) → e.outputs ≡ pre ++ x ∷ os → o ≡ x → map (bytes_at (past ++ e ∷ [])) (places_in (length past) (suc (length pre)) l os) ≡ map Some (packets_in l os) → Is x
    go (Put m s b) at same ih = split (eqb m l) refl
      where
        split : (q : Bool) → eqb m l ≡ q → Is (Put m s b)
        split true on = rw on (cons (here ∙ ap (λ z. Some (bytes_of z)) same) ih)
          where
            cons : {X : Type 0} {x y : X} {xs ys : List X} → x ≡ y → xs ≡ ys → x ∷ xs ≡ y ∷ ys
            cons q r = cc
        split false off = rw off ih
    go (Answer b) at same ih = ih
    go (Ask a b) at same ih = ih
    go (Post b) at same ih = ih

-- the places of one entry more
places_more : (es : List Entry) (e : Entry) (l : ℕ) (places : List PacketPlace) → ArePlaces es l places → ArePlaces (e ∷ es) l (places ++ places_in (length es) 0 l e.outputs)
places_more es e l places are = subst (λ z. map (bytes_at z) (places ++ places_in (length es) 0 l e.outputs) ≡ map Some (packets l es ++ packets_in l e.outputs)) (sym (reverse-append (e ∷ []) es))
    (map-append (bytes_at (reverse es ++ e ∷ [])) places (places_in (length es) 0 l e.outputs)
    ∙ (join (all_read_more (reverse es) (e ∷ []) places (packets l es) are) (subst (λ z. map (bytes_at (reverse es ++ e ∷ [])) (places_in z 0 l e.outputs) ≡ map Some (packets_in l e.outputs)) (length-reverse es) (put_read (reverse es) e l [] e.outputs refl))
    ∙ sym (map-append Some (packets l es) (packets_in l e.outputs))))
  where
    join : {X : Type 0} {a b c d : List X} → a ≡ b → c ≡ d → a ++ c ≡ b ++ d
    join p q = cc

-- the entries at each node

entries_same : (n : ℕ) (e : Entry) (steps : List Step) → entries_at n (record { node = n; entry = e } ∷ steps) ≡ e ∷ entries_at n steps
entries_same n e steps = rw (eq-eqb n n refl) refl

entries_other : (n m : ℕ) (e : Entry) (steps : List Step) → eqb n m ≡ false → entries_at m (record { node = n; entry = e } ∷ steps) ≡ entries_at m steps
entries_other n m e steps other = rw other refl

nodes_more : (steps : List Step) (s : Step) → nodes_of steps ++ s.node ∷ [] ≡ nodes_of (s ∷ steps)
nodes_more steps s = sym (ap (map node_of) (reverse-append (s ∷ []) steps) ∙ map-append node_of (reverse steps) (s ∷ []))
  where
    node_of : Step → ℕ
    node_of x = x.node

pub one_more : (t : Network) (nodes : List NodeView) (sent : List (List (List PacketPlace))) (line_nodes : List ℕ) (steps : List Step) → IsAt t nodes sent line_nodes steps
    → (n : ℕ) → n < length t.nodes → (e : Entry) → IsStep t n (entries_at n steps) e → (links : List (List PacketPlace)) → slice_get sent n ≡ Some links
    → IsAt t (set nodes n (record { t = t; n = n; trace = e ∷ entries_at n steps })) (set sent n (put_all links (length (entries_at n steps)) 0 e.outputs)) (line_nodes ++ n ∷ []) (record { node = n; entry = e } ∷ steps)
one_more t nodes sent line_nodes steps at n less e step links there = record {
  nodes_are = (length-set nodes n now ∙ at.nodes_are.0, λ m lm. node m (eqb n m) refl lm);
  sent_are = (length-set sent n (put_all links (length (entries_at n steps)) 0 e.outputs) ∙ at.sent_are.0, λ m lm. put m (eqb n m) refl lm);
  line_nodes_are = ap (λ z. z ++ n ∷ []) at.line_nodes_are ∙ nodes_more steps (record { node = n; entry = e });
  there = (less, at.there);
  legal = λ m lm. right m (eqb n m) refl lm;
}
  where
    now : NodeView
    now = record { t = t; n = n; trace = e ∷ entries_at n steps }

    next : List Step
    next = record { node = n; entry = e } ∷ steps

    some_is : {X : Type 0} (x y : X) → Some x ≡ Some y → x ≡ y
    some_is x y p = cc

    node : (m : ℕ) (b : Bool) → eqb n m ≡ b → m < length t.nodes → slice_get (set nodes n now) m ≡ Some (record { t = t; n = m; trace = entries_at m next })
    node m true same lm = subst (λ z. slice_get (set nodes n now) z ≡ Some (record { t = t; n = z; trace = entries_at z next })) (eqb-true n m same)
        (get_same nodes n now (omega (arith, less, at.nodes_are.0)) ∙ ap (λ z. Some (record { t = t; n = n; trace = z })) (sym (entries_same n e steps)))
    node m false other lm = get_other nodes n m now (eqb-false n m other) ∙ (at.nodes_are.1 m lm ∙ ap (λ z. Some (record { t = t; n = m; trace = z })) (sym (entries_other n m e steps other)))

    now_sent : List (List PacketPlace)
    now_sent = put_all links (length (entries_at n steps)) 0 e.outputs

    on : (l : ℕ) → ((places : List PacketPlace) × (slice_get links l ≡ Some places) × ArePlaces (entries_at n steps) l places) → (places : List PacketPlace) × (slice_get now_sent l ≡ Some places) × ArePlaces (e ∷ entries_at n steps) l places
    on l k = (k.0 ++ places_in (length (entries_at n steps)) 0 l e.outputs, put_all_gets (length (entries_at n steps)) 0 e.outputs links l k.0 k.1, places_more (entries_at n steps) e l k.0 k.2)

    packed : ArePackets (length t.links) (e ∷ entries_at n steps) now_sent
    packed =
        let k = at.sent_are.1 n less in
        let same : k.0 ≡ links = some_is k.0 links (sym k.1 ∙ there) in
        let are : ArePackets (length t.links) (entries_at n steps) links = subst (ArePackets (length t.links) (entries_at n steps)) same k.2 in
        (put_all_length (length (entries_at n steps)) 0 e.outputs links ∙ are.0, λ l ll. on l (are.1 l ll))

    put : (m : ℕ) (b : Bool) → eqb n m ≡ b → m < length t.nodes → (p : List (List PacketPlace)) × (slice_get (set sent n now_sent) m ≡ Some p) × ArePackets (length t.links) (entries_at m next) p
    put m true same lm = subst (λ z. (p : List (List PacketPlace)) × (slice_get (set sent n now_sent) z ≡ Some p) × ArePackets (length t.links) (entries_at z next) p) (eqb-true n m same)
        (now_sent, get_same sent n now_sent (omega (arith, less, at.sent_are.0)), subst (λ z. ArePackets (length t.links) z now_sent) (sym (entries_same n e steps)) packed)
    put m false other lm =
        let k = at.sent_are.1 m lm in
        (k.0, get_other sent n m now_sent (eqb-false n m other) ∙ k.1, subst (λ z. ArePackets (length t.links) z k.0) (sym (entries_other n m e steps other)) k.2)

    right : (m : ℕ) (b : Bool) → eqb n m ≡ b → m < length t.nodes → IsLegal t m (entries_at m next)
    right m true same lm = subst (λ z. IsLegal t z (entries_at z next)) (eqb-true n m same) (subst (IsLegal t n) (sym (entries_same n e steps)) (at.legal n less, step))
    right m false other lm = subst (IsLegal t m) (sym (entries_other n m e steps other)) (at.legal m lm)

pub view_is : (v : NodeView) (t : Network) (n : ℕ) (trace : List Entry) → v.t ≡ t → v.n ≡ n → v.trace ≡ trace → v ≡ record { t = t; n = n; trace = trace }
view_is v t n trace p q r = ap (λ z. record { t = z; n = v.n; trace = v.trace }) p ∙ (ap (λ z. record { t = t; n = z; trace = v.trace }) q ∙ ap (λ z. record { t = t; n = n; trace = z }) r)

-- a step that is refused is the line's fault, but for want of memory
pub refused : (t : Network) (steps : List Step) (number : ℕ) (x : Said) (i : Input) (f : StepFault) → (fault_of number f ≡ Memory → ⊥) → IsInput t steps x.node x.event i → (f ≡ NoMemory) ⊎ (step_refusal t x.node (entries_at x.node steps) i ≡ Some f) → IsSaidFault t steps number x (fault_of number f)
refused t steps number x i f aside brings (inl none) = absurd (aside (ap (fault_of number) none))
refused t steps number x i NoMemory aside brings (inr is) = absurd (aside refl)
refused t steps number x i (Decode d) aside brings (inr is) = (refl, (i, brings, is))
refused t steps number x i ForeignAcquirer aside brings (inr is) = (refl, (i, brings, is))
refused t steps number x i (Missing m) aside brings (inr is) = (refl, (i, brings, is))
refused t steps number x i TypeNotForGate aside brings (inr is) = (refl, (i, brings, is))
refused t steps number x i UnknownAsk aside brings (inr is) = (refl, (i, brings, is))
refused t steps number x i Replacement aside brings (inr is) = (refl, (i, brings, is))
refused t steps number x i HistoryFull aside brings (inr is) = (refl, (i, brings, is))
refused t steps number x i NoPlace aside brings (inr is) = (refl, (i, brings, is))
refused t steps number x i NotLent aside brings (inr is) = (refl, (i, brings, is))

-- what stands at the place of a node

pub node_at : (t : Network) (nodes : List NodeView) (sent : List (List (List PacketPlace))) (line_nodes : List ℕ) (steps : List Step) → IsAt t nodes sent line_nodes steps → (n : ℕ) → n < length t.nodes → (place : ℕ) (v : NodeView) → place ≡ n → v ≡ get_or nodes place v → v ≡ record { t = t; n = n; trace = entries_at n steps }
node_at t nodes sent line_nodes steps at n less place v is e = e ∙ (ap (λ z. get_or nodes z v) is ∙ get_or_from_slice_get nodes n (record { t = t; n = n; trace = entries_at n steps }) v (at.nodes_are.1 n less))

pub links_at : (t : Network) (nodes : List NodeView) (sent : List (List (List PacketPlace))) (line_nodes : List ℕ) (steps : List Step) → IsAt t nodes sent line_nodes steps → (n : ℕ) → n < length t.nodes → (place : ℕ) (v : List (List PacketPlace)) → place ≡ n → v ≡ get_or sent place v → slice_get sent n ≡ Some v
links_at t nodes sent line_nodes steps at n less place v is e =
    let k = at.sent_are.1 n less in
    k.1 ∙ ap Some (sym (e ∙ (ap (λ z. get_or sent z v) is ∙ get_or_from_slice_get sent n k.0 v k.1)))

-- at the start

pub pushed_get : {X : Type 0} (xs : List X) (v : X) (f : ℕ → Option X) → ((n : ℕ) → n < length xs → slice_get xs n ≡ f n) → f (length xs) ≡ Some v → (n : ℕ) → n < suc (length xs) → slice_get (xs ++ v ∷ []) n ≡ f n
pushed_get [] v f all last zero less = sym last
pushed_get [] v f all last (suc n) less = absurd (omega (arith, less))
pushed_get (x ∷ xs) v f all last zero less = all zero (omega arith)
pushed_get (x ∷ xs) v f all last (suc n) less = pushed_get xs v (λ k. f (suc k)) (λ k lk. all (suc k) (omega (arith, lk))) last n (omega (arith, less))

pub none_put : (count : ℕ) → ArePackets count [] (replicate count [])
none_put count = (replicate_length count, λ l less. ([], each count l less, refl))
  where
    replicate_length : (k : ℕ) → length (replicate {A = List PacketPlace} k []) ≡ k
    replicate_length zero = refl
    replicate_length (suc k) = ap suc (replicate_length k)

    each : (k l : ℕ) → l < k → slice_get (replicate {A = List PacketPlace} k []) l ≡ Some []
    each zero l less = absurd (omega (arith, less))
    each (suc k) zero less = refl
    each (suc k) (suc l) less = each k l (omega (arith, less))
