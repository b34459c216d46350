-- All nodes at which a key is open stand in one chain of falling ranks from its gate.
use Rattle.std.proofs.Common.{◌≡◌, ℕ, zero, suc, ◌+◌, ◌≤◌, ◌<◌, List, [], ◌∷◌, Option, Some, None, true, refl, sym, ap, ◌∙◌, subst, inl, inr, ⊎_elim, ◌⊎◌, arith, unwrap_or, length}
use Rattle.std.proofs.lemmas.Bool.{eqb-true, cases_order}
use Rattle.std.proofs.lemmas.Option.{same_Some}
use Rattle.std.specs.Option.{option_or}
use Rattle.card_digits.specs.Digits.{digits_of}
use Rattle.net_rows.specs.Network.{Network, issuer, other_end}
use Rattle.net_rows.specs.declared.row.Issuer.{Issuer}
use Rattle.network_law.specs.Tables.{is_home, is_attached, is_link_of}
use Rattle.network_law.specs.Traces.{ByLink, ReadInput, Take, ReadOutput, Put, Ask, In, Out, History, Opening, opening, forwarded, forwards, Has}
use Rattle.network_law.specs.Entries.{ReadEntry, read_history}
use Rattle.network_law.proofs.ReadRuns.{IsLegalRead, NamesOwnLink, IsReadRun}
use Rattle.network_law.specs.Checked.{Ranks, Falls, IsRanked, IsChecked}
use Rattle.network_law.specs.Claims.{IsForward, IsAsk, OnePath, OpenedByThatPut}
use Rattle.network_law.proofs.Ends.{legal_at, is_node, not_home, back, histories}
use Rattle.message_keys.proofs.Equality.{key_eq_refl}
use Rattle.network_law.proofs.Emits.{decide_keeps}
use Rattle.network_law.proofs.Node.{NodeFacts, Sent, Opened, legal_facts, keeps_issuers, forwarded_has}
use Rattle.iso_message.specs.Fields.{Fields, get, as_kind, el}
use Rattle.message_elements.specs.declared.kind.Kind.TheVariants.{K0100}
use Rattle.message_elements.specs.Groups.{is_request}
use Rattle.card_digits.specs.declared.key.Key.{Key}
use Rattle.message_keys.specs.Keys.{key_of, content, Content}
use Rattle.network_law.specs.Cards.{card_of}

-- takes are from own links

abbrev TakesOwn : Network → ℕ → History → Type 0
TakesOwn t n h = (l s : ℕ) (m : Fields) → Has (In (Take l s m)) h → is_link_of t n l ≡ true

pub legal_own : (t : Network) (n : ℕ) (es : List ReadEntry) → IsLegalRead t n es → TakesOwn t n (read_history es)
unfolding read_history
legal_own t n [] l = λ k s m has. absurd has
legal_own t n (e ∷ es) l = subst (TakesOwn t n) (sym l.1.outputs)
    (decide_keeps t n (read_history es) e.input (TakesOwn t n)
    (λ h o q allowed k s m has. ⊎_elim (λ bad. absurd (no e.input o k s m bad)) (λ below. q k s m below) has)
    (keeps_issuers t n (read_history es) (legal_facts t n es l.0))
    (λ k s m has. ⊎_elim (λ here. own e.input l.1.own k s m here) (λ below. legal_own t n es l.0 k s m below) has))
  where
    no : (i : ReadInput) (o : ReadOutput) (k s : ℕ) (m : Fields) → Out i o ≡ In (Take k s m) → ⊥
    no i o k s m p = cc

    in_parts : (i j : ReadInput) → In i ≡ In j → i ≡ j
    in_parts i j p = cc

    own : (i : ReadInput) → NamesOwnLink t n i → (k s : ℕ) (m : Fields) → In i ≡ In (Take k s m) → is_link_of t n k ≡ true
    own i names k s m p = subst (NamesOwnLink t n) (in_parts i (Take k s m) p) names

-- ranks as numbers, below a bound

pub highest : ℕ
highest = 65536

pub below_highest : (n : ℕ) → n < 65536 → n ≤ highest
unfolding highest
below_highest n less = omega (arith, less)

pub rank : Ranks → List ℕ → ℕ → ℕ
rank ranks card n = unwrap_or (ranks n card) 0

pub record RankFalls (ranks : Ranks) (card : List ℕ) (low high : ℕ) : Type 0 where
  pub less : rank ranks card low < rank ranks card high
  pub bound : rank ranks card high ≤ highest

pub falls : (ranks : Ranks) (card : List ℕ) (low high : ℕ) → Falls (ranks low card) (ranks high card) → RankFalls ranks card low high
unfolding rank
falls ranks card low high f =
    let a : rank ranks card high ≡ f.from = ap (λ o. unwrap_or o 0) f.is_from in
    let b : rank ranks card low ≡ f.to = ap (λ o. unwrap_or o 0) f.is_to in
    let c : f.from ≤ highest = below_highest f.from f.bound in
    let d = f.less in
    record { less = omega (arith, a, b, d); bound = omega (arith, a, c) }

-- a request on a link is the forward of its key
pub has_forwarded : (h : History) (i : ReadInput) (l s : ℕ) (x : Fields) → Has (Out i (Put l s x)) h → is_request x.kind ≡ true → (w : ℕ) × (forwarded h (key_of x) ≡ Some w)
unfolding forwarded
has_forwarded [] i l s x has r = absurd has
has_forwarded (In j ∷ h) i l s x has r = ⊎_elim (λ bad. absurd (no bad)) (λ below. has_forwarded h i l s x below r) has
  where
    no : In j ≡ Out i (Put l s x) → ⊥
    no p = cc
has_forwarded (Out j o ∷ h) i l s x has r = go (forwarded h (key_of x)) refl (λ below. has_forwarded h i l s x below r) has
  where
    no : None ≡ Some l → ⊥
    no p = cc

    out_parts : Out j o ≡ Out i (Put l s x) → o ≡ Put l s x
    out_parts p = cc

    go : (w : Option ℕ) → forwarded h (key_of x) ≡ w → (Has (Out i (Put l s x)) h → (w' : ℕ) × (forwarded h (key_of x) ≡ Some w')) → (Out j o ≡ Out i (Put l s x)) ⊎ Has (Out i (Put l s x)) h → (w' : ℕ) × (option_or (forwarded h (key_of x)) (forwards (key_of x) o) ≡ Some w')
    go (Some w) at rest has = (w, rw at refl)
    go None at rest (inl here) = (l, rw (at, out_parts here, r, key_eq_refl (key_of x)) refl)
    go None at rest (inr below) = let z = rest below in absurd (bad z.0 (sym at ∙ z.1))
      where
        bad : (w : ℕ) → None ≡ Some w → ⊥
        bad w p = cc

unfoldable pub option_next : Option ℕ → (ℕ → Option ℕ) → Option ℕ
option_next None f = None
option_next (Some n) f = f n

unfoldable pub link_next : Network → ℕ → Option ℕ → Option ℕ
link_next t n None = None
link_next t n (Some l) = Some (other_end t n l)

-- where the node puts a request of k
unfoldable pub next : Network → (ℕ → List ReadEntry) → Key → ℕ → Option ℕ
next t traces k n = link_next t n (forwarded (read_history (traces n)) k)

-- the nodes from the gate on, each by its place
unfoldable pub chain : Network → (ℕ → List ReadEntry) → Key → ℕ → ℕ → Option ℕ
chain t traces k g zero = Some g
chain t traces k g (suc j) = option_next (chain t traces k g j) (next t traces k)

-- the content of a put request is that of its opening
same_content : (m : Fields) → content (as_kind K0100 m) ≡ content m
unfolding content el get
same_content m = refl

-- messages of one content have one card
pub same_card : (m m' : Fields) → content m ≡ content m' → card_of m ≡ card_of m'
unfolding content card_of
same_card m m' e = ap (λ (c : Content). digits_of c.card) e

-- where a node with k open stands
pub record Stands (t : Network) (traces : ℕ → List ReadEntry) (k : Key) (n : ℕ) (op : Opening) : Type 0 where
  pub gate : ℕ
  pub place : ℕ
  pub first : Opening
  pub is_gate : is_attached t gate k.acquirer ≡ true
  pub at : chain t traces k gate place ≡ Some n
  pub opened_at_gate : opening t (read_history (traces gate)) k ≡ Some first
  pub same : content op.message ≡ content first.message

-- a node that took a request, and the node that put it
pub record Came (t : Network) (traces : ℕ → List ReadEntry) (k : Key) (n : ℕ) (op : Opening) : Type 0 where
  pub link : ℕ
  pub serial : ℕ
  pub input : op.input ≡ Take link serial op.message
  pub source : op.source ≡ ByLink link
  pub from_input : ReadInput
  pub put : Has (Out from_input (Put link serial op.message)) (read_history (traces (other_end t n link)))
  pub back_to : other_end t (other_end t n link) link ≡ n
  pub sent : Sent t (other_end t n link) (read_history (traces (other_end t n link))) link op.message

module _ (t : Network) (ranks : Ranks) (traces : ℕ → List ReadEntry) (run : IsReadRun t traces) (ranked : IsRanked t ranks) (sound : IsChecked t) (k : Key) where
  facts : (n : ℕ) → NodeFacts t n (read_history (traces n))
  facts n = legal_facts t n (traces n) (legal_at run n)

  came : (n : ℕ) (op : Opening) → opening t (read_history (traces n)) k ≡ Some op → Came t traces k n op ⊎ (is_attached t n k.acquirer ≡ true)
  came n op e = ⊎_elim taken (λ z. inr z.2) (o.from)
    where
      o : Opened t n (read_history (traces n)) k op
      o = (facts n).opens k op e

      taken : (l : ℕ) × (s : ℕ) × (op.input ≡ Take l s op.message) × (op.source ≡ ByLink l) → Came t traces k n op ⊎ (is_attached t n k.acquirer ≡ true)
      taken p =
          let has : Has (In (Take p.0 p.1 op.message)) (read_history (traces n)) = subst (λ z. Has (In z) (read_history (traces n))) p.2 (Opened.has ((facts n).opens k op e)) in
          let put = run.linked n p.0 p.1 op.message has in
          let own = legal_own t n (traces n) (legal_at run n) p.0 p.1 op.message has in
          inl (record { link = p.0; serial = p.1; input = p.2; source = p.3; from_input = put.0; put = put.1; back_to = back t p.0 n own; sent = (facts (other_end t n p.0)).puts put.0 p.0 p.1 op.message put.1 (Opened.request ((facts n).opens k op e)) })

  -- the forward of k at a node, and where it leads
  forward_is : (n l s : ℕ) (i : ReadInput) (x : Fields) → Has (Out i (Put l s x)) (read_history (traces n)) → is_request x.kind ≡ true → key_of x ≡ k → forwarded (read_history (traces n)) k ≡ Some l
  forward_is n l s i x has r e =
      let f = has_forwarded (read_history (traces n)) i l s x has r in
      let g : forwarded (read_history (traces n)) k ≡ Some f.0 = ap (forwarded (read_history (traces n))) (sym e) ∙ f.1 in
      let b = forwarded_has (read_history (traces n)) k f.0 g in
      let one = (facts n).one_put b.0 i f.0 b.1 l s b.2 x b.3 has b.4 r (b.5 ∙ sym e) in
      g ∙ ap Some one.0

  pub next_is : (g j n l s : ℕ) (i : ReadInput) (x : Fields) → chain t traces k g j ≡ Some n → Has (Out i (Put l s x)) (read_history (traces n)) → is_request x.kind ≡ true → key_of x ≡ k → chain t traces k g (suc j) ≡ Some (other_end t n l)
  unfolding chain option_next next link_next
  next_is g j n l s i x at has r e = rw (at, forward_is n l s i x has r e) refl

  key_here : (n : ℕ) (op : Opening) → opening t (read_history (traces n)) k ≡ Some op → key_of op.message ≡ k
  key_here n op e = Opened.key ((facts n).opens k op e)

  request_here : (n : ℕ) (op : Opening) → opening t (read_history (traces n)) k ≡ Some op → is_request op.message.kind ≡ true
  request_here n op e = Opened.request ((facts n).opens k op e)

  -- a request that stands on a link falls
  sent_falls : (n l : ℕ) (x : Fields) (sent : Sent t n (read_history (traces n)) l x) → n < length t.nodes → RankFalls ranks (card_of sent.op.message) (other_end t n l) n
  sent_falls n l x sent less = falls ranks (card_of sent.op.message) (other_end t n l) n (ranked (card_of sent.op.message) sent.s n l sent.issued less (not_home sent.s n sent.away) sent.on_route)

  -- by induction on how far the rank is from the greatest
  stands_by : (fuel n : ℕ) (op : Opening) → opening t (read_history (traces n)) k ≡ Some op → highest < rank ranks (card_of op.message) n + fuel → Stands t traces k n op
  unfolding chain
  stands_by zero n op e far = ⊎_elim from_link from_gate (came n op e)
    where
      from_gate : is_attached t n k.acquirer ≡ true → Stands t traces k n op
      from_gate a = record { gate = n; place = 0; first = op; is_gate = a; at = refl; opened_at_gate = e; same = refl }

      from_link : Came t traces k n op → Stands t traces k n op
      from_link c =
          let f = sent_falls (other_end t n c.link) c.link op.message c.sent (is_node run (other_end t n c.link) (Out c.from_input (Put c.link c.serial op.message)) c.put) in
          let same : card_of op.message ≡ card_of c.sent.op.message = same_card op.message c.sent.op.message (ap content c.sent.same ∙ same_content c.sent.op.message) in
          let less : rank ranks (card_of c.sent.op.message) n < rank ranks (card_of c.sent.op.message) (other_end t n c.link) = subst (λ z. rank ranks (card_of c.sent.op.message) z < rank ranks (card_of c.sent.op.message) (other_end t n c.link)) c.back_to f.less in
          let bound = f.bound in
          let far' : highest < rank ranks (card_of c.sent.op.message) n + 0 = subst (λ z. highest < rank ranks z n + 0) same far in
          absurd (omega (arith, less, bound, far'))
  stands_by (suc fuel) n op e far = ⊎_elim (λ c. from_link c (stands_by fuel (other_end t n c.link))) from_gate (came n op e)
    where
      from_gate : is_attached t n k.acquirer ≡ true → Stands t traces k n op
      from_gate a = record { gate = n; place = 0; first = op; is_gate = a; at = refl; opened_at_gate = e; same = refl }

      from_link : (c : Came t traces k n op) → ((op' : Opening) → opening t (read_history (traces (other_end t n c.link))) k ≡ Some op' → highest < rank ranks (card_of op'.message) (other_end t n c.link) + fuel → Stands t traces k (other_end t n c.link) op') → Stands t traces k n op
      from_link c ih =
          let f = sent_falls (other_end t n c.link) c.link op.message c.sent (is_node run (other_end t n c.link) (Out c.from_input (Put c.link c.serial op.message)) c.put) in
          let same : content op.message ≡ content c.sent.op.message = ap content c.sent.same ∙ same_content c.sent.op.message in
          let card : card_of op.message ≡ card_of c.sent.op.message = same_card op.message c.sent.op.message same in
          let less : rank ranks (card_of c.sent.op.message) n < rank ranks (card_of c.sent.op.message) (other_end t n c.link) = subst (λ z. rank ranks (card_of c.sent.op.message) z < rank ranks (card_of c.sent.op.message) (other_end t n c.link)) c.back_to f.less in
          let far' : highest < rank ranks (card_of c.sent.op.message) n + suc fuel = subst (λ z. highest < rank ranks z n + suc fuel) card far in
          let opened_there : opening t (read_history (traces (other_end t n c.link))) k ≡ Some c.sent.op = ap (opening t (read_history (traces (other_end t n c.link)))) (sym (key_here n op e)) ∙ c.sent.is in
          let above = ih c.sent.op opened_there (omega (arith, less, far')) in
          let at : chain t traces k above.gate (suc above.place) ≡ Some n = next_is above.gate above.place (other_end t n c.link) c.link c.serial c.from_input op.message above.at c.put (request_here n op e) (key_here n op e) ∙ ap Some c.back_to in
          record { gate = above.gate; place = suc above.place; first = above.first; is_gate = above.is_gate; at = at; opened_at_gate = above.opened_at_gate; same = same ∙ above.same }

  pub stands : (n : ℕ) (op : Opening) → opening t (read_history (traces n)) k ≡ Some op → Stands t traces k n op
  stands n op e = stands_by (suc highest) n op e (omega arith)

  -- wherever k is open its content is the same
  pub same_everywhere : (n n' : ℕ) (op op' : Opening) → opening t (read_history (traces n)) k ≡ Some op → opening t (read_history (traces n')) k ≡ Some op' → content op.message ≡ content op'.message
  same_everywhere n n' op op' e e' =
      let a = stands n op e in
      let b = stands n' op' e' in
      let g = sound.single_gates k.acquirer a.gate b.gate a.is_gate b.is_gate in
      let f : a.first ≡ b.first = same_Some _ _ (sym a.opened_at_gate ∙ (ap (λ z. opening t (read_history (traces z)) k) g ∙ b.opened_at_gate)) in
      a.same ∙ (ap (λ (z : Opening). content z.message) f ∙ sym b.same)

  -- one step of the chain
  pub step_back : (g j b : ℕ) → chain t traces k g (suc j) ≡ Some b → (a : ℕ) × (chain t traces k g j ≡ Some a) × (l : ℕ) × (forwarded (read_history (traces a)) k ≡ Some l) × (other_end t a l ≡ b)
  unfolding chain option_next next link_next
  step_back g j b e = go (chain t traces k g j) refl
    where
      go : (o : Option ℕ) → chain t traces k g j ≡ o → (a : ℕ) × (chain t traces k g j ≡ Some a) × (l : ℕ) × (forwarded (read_history (traces a)) k ≡ Some l) × (other_end t a l ≡ b)
      go None at = absurd (no (rw at at e))
        where
          no : None ≡ Some b → ⊥
          no p = cc
      go (Some a) at = (a, at, test.0, test.1, test.2)
        where
          test : (l : ℕ) × (forwarded (read_history (traces a)) k ≡ Some l) × (other_end t a l ≡ b)
          test = by_forward (forwarded (read_history (traces a)) k) refl
            where
              by_forward : (w : Option ℕ) → forwarded (read_history (traces a)) k ≡ w → (l : ℕ) × (forwarded (read_history (traces a)) k ≡ Some l) × (other_end t a l ≡ b)
              by_forward None f = absurd (no (rw (at, f) at e))
                where
                  no : None ≡ Some b → ⊥
                  no p = cc
              by_forward (Some l) f = (l, f, same_Some _ _ (rw (at, f) at e))

  -- a forward of k falls in the ranks of k's card
  pub forward_falls : (n0 : ℕ) (op0 : Opening) → opening t (read_history (traces n0)) k ≡ Some op0 → (a l : ℕ) → forwarded (read_history (traces a)) k ≡ Some l → rank ranks (card_of op0.message) (other_end t a l) < rank ranks (card_of op0.message) a
  forward_falls n0 op0 e0 a l f =
      let b = forwarded_has (read_history (traces a)) k l f in
      let sent = (facts a).puts b.0 l b.1 b.2 b.3 b.4 in
      let opened_here : opening t (read_history (traces a)) k ≡ Some sent.op = ap (opening t (read_history (traces a))) (sym b.5) ∙ sent.is in
      let same : content sent.op.message ≡ content op0.message = same_everywhere a n0 sent.op op0 opened_here e0 in
      let card : card_of sent.op.message ≡ card_of op0.message = same_card sent.op.message op0.message same in
      subst (λ c. rank ranks c (other_end t a l) < rank ranks c a) card (sent_falls a l b.2 sent (is_node run a (Out b.0 (Put l b.1 b.2)) b.3)).less

  lower : (n0 : ℕ) (op0 : Opening) → opening t (read_history (traces n0)) k ≡ Some op0 → (g j' j a b : ℕ) → j < j' → chain t traces k g j ≡ Some a → chain t traces k g j' ≡ Some b → rank ranks (card_of op0.message) b < rank ranks (card_of op0.message) a
  lower n0 op0 e0 g zero j a b less at at' = absurd (omega (arith, less))
  lower n0 op0 e0 g (suc j') j a b less at at' = ⊎_elim here (below (λ lt. lower n0 op0 e0 g j' j a s.0 lt at s.1)) (cases_order j j')
    where
      s : (a' : ℕ) × (chain t traces k g j' ≡ Some a') × (l : ℕ) × (forwarded (read_history (traces a')) k ≡ Some l) × (other_end t a' l ≡ b)
      s = step_back g j' b at'

      fall : rank ranks (card_of op0.message) b < rank ranks (card_of op0.message) s.0
      fall = subst (λ z. rank ranks (card_of op0.message) z < rank ranks (card_of op0.message) s.0) s.4 (forward_falls n0 op0 e0 s.0 s.2 s.3)

      here : j ≡ j' → rank ranks (card_of op0.message) b < rank ranks (card_of op0.message) a
      here e =
          let same : s.0 ≡ a = same_Some _ _ (sym s.1 ∙ (ap (chain t traces k g) (sym e) ∙ at)) in
          subst (λ z. rank ranks (card_of op0.message) b < rank ranks (card_of op0.message) z) same fall

      below : (j < j' → rank ranks (card_of op0.message) s.0 < rank ranks (card_of op0.message) a) → (j < j') ⊎ (j' < j) → rank ranks (card_of op0.message) b < rank ranks (card_of op0.message) a
      below ih (inl lt) = let r = ih lt in omega (arith, r, fall)
      below ih (inr gt) = absurd (omega (arith, less, gt))

  -- no node stands twice
  one_place : (n0 : ℕ) (op0 : Opening) → opening t (read_history (traces n0)) k ≡ Some op0 → (g j j' a : ℕ) → chain t traces k g j ≡ Some a → chain t traces k g j' ≡ Some a → j ≡ j'
  one_place n0 op0 e0 g j j' a at at' = ⊎_elim (λ e. e) (⊎_elim (λ lt. absurd (no (lower n0 op0 e0 g j' j a a lt at at'))) (λ gt. absurd (no (lower n0 op0 e0 g j j' a a gt at' at)))) (cases_order j j')
    where
      no : rank ranks (card_of op0.message) a < rank ranks (card_of op0.message) a → ⊥
      no lt = omega (arith, lt)

  -- a node that has put a request of k has it open
  opened_of : (n l s : ℕ) (x : Fields) → IsForward (histories traces) k n l s x → (op : Opening) × (opening t (read_history (traces n)) k ≡ Some op)
  opened_of n l s x f =
      let sent = (facts n).puts f.input l s x f.put f.request in
      (sent.op, ap (opening t (read_history (traces n))) (sym f.key) ∙ sent.is)

  -- two nodes that put k to one node are one
  one_sender : (n l s n' l' s' : ℕ) (x x' : Fields) → IsForward (histories traces) k n l s x → IsForward (histories traces) k n' l' s' x' → other_end t n l ≡ other_end t n' l' → n ≡ n'
  one_sender n l s n' l' s' x x' f f' e =
      let o = opened_of n l s x f in
      let o' = opened_of n' l' s' x' f' in
      let a = stands n o.0 o.1 in
      let b = stands n' o'.0 o'.1 in
      let g : a.gate ≡ b.gate = sound.single_gates k.acquirer a.gate b.gate a.is_gate b.is_gate in
      let at : chain t traces k a.gate (suc a.place) ≡ Some (other_end t n l) = next_is a.gate a.place n l s f.input x a.at f.put f.request f.key in
      let at' : chain t traces k b.gate (suc b.place) ≡ Some (other_end t n' l') = next_is b.gate b.place n' l' s' f'.input x' b.at f'.put f'.request f'.key in
      let at'' : chain t traces k a.gate (suc b.place) ≡ Some (other_end t n l) = ap (λ z. chain t traces k z (suc b.place)) g ∙ (at' ∙ ap Some (sym e)) in
      let same : suc a.place ≡ suc b.place = one_place n o.0 o.1 a.gate (suc a.place) (suc b.place) (other_end t n l) at at'' in
      let place : a.place ≡ b.place = omega (arith, same) in
      same_Some _ _ (sym a.at ∙ (ap (chain t traces k a.gate) place ∙ (ap (λ z. chain t traces k z b.place) g ∙ b.at)))

  same_put : (n l s n' l' s' : ℕ) (x x' : Fields) → IsForward (histories traces) k n l s x → IsForward (histories traces) k n' l' s' x' → n ≡ n' → (l ≡ l') × (s ≡ s') × (x ≡ x')
  same_put n l s n' l' s' x x' f f' e =
      (facts n).one_put f.input f'.input l s l' s' x x' f.put (subst (λ z. Has (Out f'.input (Put l' s' x')) (read_history (traces z))) (sym e) f'.put) f.request f'.request (f.key ∙ sym f'.key)

  pub one_forward : (n l s n' l' s' : ℕ) (x x' : Fields) → IsForward (histories traces) k n l s x → IsForward (histories traces) k n' l' s' x' → other_end t n l ≡ other_end t n' l' → (n ≡ n') × (l ≡ l') × (s ≡ s')
  one_forward n l s n' l' s' x x' f f' e =
      let m : n ≡ n' = one_sender n l s n' l' s' x x' f f' e in
      let p = same_put n l s n' l' s' x x' f f' m in
      (m, p.0, p.1)

  home_of : (n n' : ℕ) (s s' : Issuer) → s ≡ s' → is_home s n ≡ true → is_home s' n' ≡ true → n ≡ n'
  home_of n n' s s' e h h' = sym (eqb-true s.home n h) ∙ (ap Issuer.home e ∙ eqb-true s'.home n' h')

  pub one_ask_in_all : (n a n' a' : ℕ) → IsAsk (histories traces) k n a → IsAsk (histories traces) k n' a' → (n ≡ n') × (a ≡ a')
  one_ask_in_all n a n' a' q q' =
      let b = (facts n).asks q.input a q.message q.put in
      let b' = (facts n').asks q'.input a' q'.message q'.put in
      let o : opening t (read_history (traces n)) k ≡ Some b.op = ap (opening t (read_history (traces n))) (sym q.key) ∙ b.is in
      let o' : opening t (read_history (traces n')) k ≡ Some b'.op = ap (opening t (read_history (traces n'))) (sym q'.key) ∙ b'.is in
      let same : content b.op.message ≡ content b'.op.message = same_everywhere n n' b.op b'.op o o' in
      let card : card_of b.op.message ≡ card_of b'.op.message = same_card b.op.message b'.op.message same in
      let issuers : b.s ≡ b'.s = same_Some b.s b'.s (sym b.issued ∙ (ap (issuer t) card ∙ b'.issued)) in
      let nodes : n ≡ n' = home_of n n' b.s b'.s issuers b.home b'.home in
      (nodes, (facts n).one_ask q.input q'.input a a' q.message q'.message q.put (subst (λ z. Has (Out q'.input (Ask a' q'.message)) (read_history (traces z))) (sym nodes) q'.put) (q.key ∙ sym q'.key))

  pub opened_by_put : (n l s : ℕ) (x : Fields) (op : Opening) → IsForward (histories traces) k n l s x → opening t (read_history (traces (other_end t n l))) k ≡ Some op → op.input ≡ Take l s x
  unfolding chain
  opened_by_put n l s x op f e = ⊎_elim from_link from_gate (came (other_end t n l) op e)
    where
      from_gate : is_attached t (other_end t n l) k.acquirer ≡ true → op.input ≡ Take l s x
      from_gate is_gate =
          let o = opened_of n l s x f in
          let a = stands n o.0 o.1 in
          let g : a.gate ≡ other_end t n l = sound.single_gates k.acquirer a.gate (other_end t n l) a.is_gate is_gate in
          let at : chain t traces k a.gate (suc a.place) ≡ Some (other_end t n l) = next_is a.gate a.place n l s f.input x a.at f.put f.request f.key in
          let at0 : chain t traces k a.gate 0 ≡ Some (other_end t n l) = first_is a.gate (other_end t n l) g in
          let bad : suc a.place ≡ 0 = one_place n o.0 o.1 a.gate (suc a.place) 0 (other_end t n l) at at0 in
          absurd (omega (arith, bad))
        where
          first_is : (g m : ℕ) → g ≡ m → chain t traces k g 0 ≡ Some m
          first_is g m p = ap Some p

      from_link : Came t traces k (other_end t n l) op → op.input ≡ Take l s x
      from_link c =
          let f' : IsForward (histories traces) k (other_end t (other_end t n l) c.link) c.link c.serial op.message = record { input = c.from_input; put = c.put; request = request_here (other_end t n l) op e; key = key_here (other_end t n l) op e } in
          let m : n ≡ other_end t (other_end t n l) c.link = one_sender n l s (other_end t (other_end t n l) c.link) c.link c.serial x op.message f f' (sym c.back_to) in
          let p = same_put n l s (other_end t (other_end t n l) c.link) c.link c.serial x op.message f f' m in
          c.input ∙ (ap (λ z. Take z c.serial op.message) (sym p.0) ∙ (ap (λ z. Take l z op.message) (sym p.1) ∙ ap (Take l s) (sym p.2)))

-- the laws

pub OnePath_holds : (t : Network) (ranks : Ranks) (traces : ℕ → List ReadEntry) → IsReadRun t traces → IsRanked t ranks → IsChecked t → OnePath t (histories traces)
OnePath_holds t ranks traces run ranked sound = record {
  forwards = λ k. one_forward t ranks traces run ranked sound k;
  asks = λ k. one_ask_in_all t ranks traces run ranked sound k;
}

pub OpenedByThatPut_holds : (t : Network) (ranks : Ranks) (traces : ℕ → List ReadEntry) → IsReadRun t traces → IsRanked t ranks → IsChecked t → OpenedByThatPut t (histories traces)
OpenedByThatPut_holds t ranks traces run ranked sound k n l s x op f e = opened_by_put t ranks traces run ranked sound k n l s x op f e
