-- Each advice stands in a node's store or was posted at the home of its card, and no identity is posted twice.
use Rattle.std.proofs.Common.{◌≡◌, ℕ, zero, suc, ◌+◌, ◌≤◌, ◌<◌, List, [], ◌∷◌, ◌++◌, filter, reverse, replicate, length, Option, Some, None, Bool, true, false, not, ◌&&◌, refl, sym, ap, ◌∙◌, subst, inl, inr, ⊎_elim, ◌⊎◌, arith}
use Rattle.std.proofs.lemmas.Bool.{cond_both, eqb-true}
use Rattle.std.proofs.lemmas.Option.{same_Some}
use mathlib.Core.List.{reverse-cons}
use Rattle.card_digits.specs.Numbers.{pad11}
use Rattle.net_rows.specs.Network.{Network, issuer, other_end}
use Rattle.net_rows.specs.declared.row.Issuer.{Issuer}
use Rattle.network_law.specs.Tables.{node_id, is_attached}
use Rattle.network_law.specs.Traces.{ReadInput, Put, In, Out, History, Opening, opening, Advice, advices, stored, is_at_home, home_is, IsIn, Has}
use Rattle.network_law.specs.Entries.{ReadEntry, read_history}
use Rattle.network_law.proofs.ReadRuns.{IsReadRun}
use Rattle.network_law.specs.Checked.{Ranks, IsRanked, IsChecked}
use Rattle.network_law.specs.Claims.{IsStored, IsPosted, post_count, AdvicesKept}
use Rattle.network_law.proofs.Node.{Opened, legal_facts}
use Rattle.network_law.proofs.Chain.{rank, highest, RankFalls, falls, legal_own}
use Rattle.network_law.proofs.Ids.{no_zero_id}
use Rattle.network_law.proofs.Ends.{legal_at, is_node, not_home, back, histories}
use Rattle.network_law.proofs.Reversals.{legal_sent}
use Rattle.network_law.proofs.Provenance.{advice_04xx}
use Rattle.network_law.proofs.Accounts.{Alike, alike_refl, alike_more, alike_card, alike_home, any_is, posted_some}
use Rattle.network_law.proofs.Posts.{legal_acc, post_has, post_counted, put_is_sent}
use Rattle.network_law.proofs.AdviceMarks.{Acc, posts}
use Rattle.network_law.proofs.Origins.{Made, TakenAs, Entered, AdviceFacts, legal_advices}
use Rattle.iso_message.specs.Fields.{Fields}
use Rattle.message_elements.specs.Groups.{group, is_04xx, is_advice_group}
use Rattle.card_digits.specs.declared.key.Key.{Key}
use Rattle.message_keys.specs.declared.keys.AdviceId.{AdviceId}
use Rattle.message_keys.specs.Keys.{identity_of, content}
use Rattle.network_law.specs.Cards.{card_of}

not_both : (b : Bool) → b ≡ true → b ≡ false → ⊥
not_both b p q = cc

-- members of a store

pub filter_in : {X : Type 0} (p : X → Bool) (xs : List X) (x : X) → IsIn x xs → p x ≡ true → IsIn x (filter p xs)
filter_in p [] x m e = m
filter_in p (y ∷ ys) x m e = cond_both (p y) (y ∷ filter p ys) (filter p ys) (IsIn x)
    (λ _. ⊎_elim inl (λ old. inr (filter_in p ys x old e)) m)
    (λ off. ⊎_elim (λ same. absurd (not_both (p y) (ap p same ∙ e) off)) (λ old. filter_in p ys x old e) m)

append_left : {X : Type 0} (xs ys : List X) (x : X) → IsIn x xs → IsIn x (xs ++ ys)
append_left [] ys x m = absurd m
append_left (z ∷ zs) ys x m = ⊎_elim inl (λ r. inr (append_left zs ys x r)) m

append_right : {X : Type 0} (xs ys : List X) (x : X) → IsIn x ys → IsIn x (xs ++ ys)
append_right [] ys x m = m
append_right (z ∷ zs) ys x m = inr (append_right zs ys x m)

pub reverse_in : {X : Type 0} (xs : List X) (x : X) → IsIn x xs → IsIn x (reverse xs)
reverse_in [] x m = m
reverse_in (y ∷ ys) x m = subst (IsIn x) (sym (reverse-cons y ys)) (⊎_elim (λ e. append_right (reverse ys) (y ∷ []) x (inl e)) (λ r. append_left (reverse ys) (y ∷ []) x (reverse_in ys x r)) m)

stored_in : (t : Network) (n : ℕ) (h : History) (a : Advice) → IsIn a (advices t n h) → a.acked ≡ false → is_at_home t n a.message ≡ false → IsIn a (stored t n h)
unfolding stored
stored_in t n h a m e f = reverse_in (filter (λ b. not b.acked && not (is_at_home t n b.message)) (advices t n h)) a (filter_in (λ b. not b.acked && not (is_at_home t n b.message)) (advices t n h) a m (rw (e, f) refl))

home_is_home : (n : ℕ) (o : Option Issuer) → home_is n o ≡ true → (s : Issuer) × (o ≡ Some s) × (s.home ≡ n)
home_is_home n None e = absurd (not_both false e refl)
home_is_home n (Some s) e = (s, refl, eqb-true s.home n e)

-- the node at which an identity began
record Began (t : Network) (traces : ℕ → List ReadEntry) (x : Fields) : Type 0 where
  node : ℕ
  advice : Advice
  has : IsIn advice (advices t node (read_history (traces node)))
  alike : Alike advice.message x
  how : ((node < length t.nodes) × ((identity_of x).forwarder ≡ pad11 (node_id t node))) ⊎ (((identity_of x).forwarder ≡ replicate 11 48) × (is_attached t node (identity_of x).key.acquirer ≡ true))

began_alike : (t : Network) (traces : ℕ → List ReadEntry) (x y : Fields) → Alike x y → Began t traces x → Began t traces y
began_alike t traces x y a b = record {
  node = Began.node b;
  advice = Began.advice b;
  has = Began.has b;
  alike = alike_more (Began.advice b).message x y (Began.alike b) a;
  how = ⊎_elim (λ p. inl (p.0, ap AdviceId.forwarder (sym a.id) ∙ p.1)) (λ p. inr (ap AdviceId.forwarder (sym a.id) ∙ p.0, ap (λ z. is_attached t (Began.node b) (Key.acquirer (AdviceId.key z))) (sym a.id) ∙ p.1)) (Began.how b);
}

module _ (t : Network) (ranks : Ranks) (traces : ℕ → List ReadEntry) (run : IsReadRun t traces) (ranked : IsRanked t ranks) (sound : IsChecked t) where
  at : ℕ → History
  at n = read_history (traces n)

  acc : (n : ℕ) → Acc t n (read_history (traces n))
  acc n = legal_acc t n (traces n) (legal_at run n)

  adv : (n : ℕ) → AdviceFacts t n (read_history (traces n))
  adv n = legal_advices t n (traces n) (legal_at run n)

  -- an advice on a link falls
  sent_falls : (n l s : ℕ) (i : ReadInput) (x : Fields) → Has (Out i (Put l s x)) (read_history (traces n)) → is_advice_group (group x.kind) ≡ true → RankFalls ranks (card_of x) (other_end t n l) n
  sent_falls n l s i x has g = go (is_04xx x.kind) refl
    where
      go : (b : Bool) → is_04xx x.kind ≡ b → RankFalls ranks (card_of x) (other_end t n l) n
      go true r =
          let q = legal_sent t n (traces n) (legal_at run n) i l s x has (advice_04xx x.kind g r).1 in
          falls ranks (card_of x) (other_end t n l) n (ranked (card_of x) q.s n l q.issued (is_node run n (Out i (Put l s x)) has) (not_home q.s n q.away) q.on_route)
      go false r =
          let q = (adv n).stands i l s x has g r in
          falls ranks (card_of x) (other_end t n l) n (ranked (card_of x) q.s n l q.issued (is_node run n (Out i (Put l s x)) has) (not_home q.s n q.away) q.on_route)

  -- a node with an open key is one of the tables
  live : (n : ℕ) (k : Key) (op : Opening) → opening t (read_history (traces n)) k ≡ Some op → n < length t.nodes
  live n k op e = is_node run n (In op.input) o.has
    where
      o : Opened t n (read_history (traces n)) k op
      o = (legal_facts t n (traces n) (legal_at run n)).opens k op e

  -- the advice that was taken, at the node that put it
  record Above (n : ℕ) (x : Fields) : Type 0 where
    node : ℕ
    advice : Advice
    has : IsIn advice (advices t node (read_history (traces node)))
    alike : Alike advice.message x
    less : rank ranks (card_of x) n < rank ranks (card_of x) node
    bound : rank ranks (card_of x) node ≤ highest

  above : (n : ℕ) (x : Fields) → TakenAs (read_history (traces n)) x → Above n x
  above n x s =
      let n' : ℕ = other_end t n s.link in
      let put = run.linked n s.link s.serial s.message s.has in
      let back' : other_end t (other_end t n s.link) s.link ≡ n = back t s.link n (legal_own t n (traces n) (legal_at run n) s.link s.serial s.message s.has) in
      let f = sent_falls (other_end t n s.link) s.link s.serial put.0 s.message put.1 s.kind in
      let a = (acc (other_end t n s.link)).put (s.link, s.message) (put_is_sent (read_history (traces (other_end t n s.link))) put.0 s.link s.serial s.message put.1 s.kind) in
      let card : card_of s.message ≡ card_of x = alike_card s.message x s.alike in
      let less : rank ranks (card_of s.message) n < rank ranks (card_of s.message) (other_end t n s.link) = subst (λ z. rank ranks (card_of s.message) z < rank ranks (card_of s.message) (other_end t n s.link)) back' f.less in
      record {
        node = other_end t n s.link;
        advice = a.0;
        has = a.1;
        alike = alike_more a.0.message s.message x a.2 s.alike;
        less = subst (λ c. rank ranks c n < rank ranks c (other_end t n s.link)) card less;
        bound = subst (λ c. rank ranks c (other_end t n s.link) ≤ highest) card f.bound;
      }

  made_here : (n : ℕ) (a : Advice) → IsIn a (advices t n (read_history (traces n))) → Made t n (read_history (traces n)) a.message → Began t traces a.message
  made_here n a m w = record { node = n; advice = a; has = m; alike = alike_refl a.message; how = inl (live n w.key w.op w.opens, w.forwarder) }

  entered_here : (n : ℕ) (a : Advice) → IsIn a (advices t n (read_history (traces n))) → Entered t n a.message → Began t traces a.message
  unfolding identity_of
  entered_here n a m w = record { node = n; advice = a; has = m; alike = alike_refl a.message; how = inr (w.forwarder, w.gate) }

  began : (fuel n : ℕ) (a : Advice) → IsIn a (advices t n (read_history (traces n))) → highest < rank ranks (card_of a.message) n + fuel → Began t traces a.message
  began zero n a m far = ⊎_elim (λ w. made_here n a m w) (λ r. ⊎_elim too_far (λ w. entered_here n a m w) r) ((adv n).origins.from a m)
    where
      too_far : TakenAs (read_history (traces n)) a.message → Began t traces a.message
      too_far s =
          let b = above n a.message s in
          let less = Above.less b in
          let bound = Above.bound b in
          absurd (omega (arith, less, bound, far))
  began (suc fuel) n a m far = ⊎_elim (λ w. made_here n a m w) (λ r. ⊎_elim (λ s. up s (λ n' b m' far'. began fuel n' b m' far')) (λ w. entered_here n a m w) r) ((adv n).origins.from a m)
    where
      up : TakenAs (read_history (traces n)) a.message → ((n' : ℕ) (b : Advice) → IsIn b (advices t n' (read_history (traces n'))) → highest < rank ranks (card_of b.message) n' + fuel → Began t traces b.message) → Began t traces a.message
      up s ih =
          let b = above n a.message s in
          let less : rank ranks (card_of (Advice.message (Above.advice b))) n < rank ranks (card_of (Advice.message (Above.advice b))) (Above.node b) = subst (λ c. rank ranks c n < rank ranks c (Above.node b)) (sym (alike_card (Above.advice b).message a.message (Above.alike b))) (Above.less b) in
          let far' : highest < rank ranks (card_of (Advice.message (Above.advice b))) n + suc fuel = subst (λ c. highest < rank ranks c n + suc fuel) (sym (alike_card (Above.advice b).message a.message (Above.alike b))) far in
          began_alike t traces (Above.advice b).message a.message (Above.alike b) (ih (Above.node b) (Above.advice b) (Above.has b) (omega (arith, less, far')))

  -- an identity began at one node
  one_node : (x y : Fields) (b : Began t traces x) (c : Began t traces y) → identity_of x ≡ identity_of y → Began.node b ≡ Began.node c
  one_node x y b c e = ⊎_elim
      (λ p. ⊎_elim
      (λ q. sound.single_ids (Began.node b) (Began.node c) p.0 q.0 (sym p.1 ∙ (ap AdviceId.forwarder e ∙ q.1)))
      (λ q. absurd (no_zero_id t sound.sound (Began.node b) p.0 (sym p.1 ∙ (ap AdviceId.forwarder e ∙ q.0))))
      (Began.how c))
      (λ p. ⊎_elim
      (λ q. absurd (no_zero_id t sound.sound (Began.node c) q.0 (sym q.1 ∙ (ap AdviceId.forwarder (sym e) ∙ p.0))))
      (λ q. sound.single_gates (identity_of x).key.acquirer (Began.node b) (Began.node c) p.1 (ap (λ z. is_attached t (Began.node c) (Key.acquirer (AdviceId.key z))) e ∙ q.1))
      (Began.how c))
      (Began.how b)

  -- so it has one content over the run
  pub one_content : (n m : ℕ) (a b : Advice) → IsIn a (advices t n (read_history (traces n))) → IsIn b (advices t m (read_history (traces m))) → identity_of a.message ≡ identity_of b.message → content a.message ≡ content b.message
  one_content n m a b has has' e =
      let x = began (suc (highest)) n a has (omega arith) in
      let y = began (suc (highest)) m b has' (omega arith) in
      let same : Began.node x ≡ Began.node y = one_node a.message b.message x y e in
      let there : IsIn (Began.advice y) (advices t (Began.node x) (read_history (traces (Began.node x)))) = subst (λ z. IsIn (Began.advice y) (advices t z (read_history (traces z)))) (sym same) (Began.has y) in
      sym (Began.alike x).content_is ∙ ((acc (Began.node x)).single (Began.advice x) (Began.advice y) (Began.has x) there ((Began.alike x).id ∙ (e ∙ sym (Began.alike y).id)) ∙ (Began.alike y).content_is)

  Somewhere : Fields → Type 0
  Somewhere x = (m : ℕ) × (IsStored t (histories traces) x m ⊎ IsPosted t (histories traces) x m)

  somewhere_alike : (x y : Fields) → Alike x y → Somewhere x → Somewhere y
  unfolding Somewhere
  somewhere_alike x y a w = (w.0, ⊎_elim (λ s. inl (s.0, s.1, s.2 ∙ a.id, s.3 ∙ a.content_is)) (λ p. inr (p.0, p.1, p.2, p.3 ∙ a.id, p.4 ∙ a.content_is, sym (alike_home t w.0 x y a) ∙ p.5)) w.1)

  -- the advice at the node that acknowledged it
  record Below (n : ℕ) (a : Advice) : Type 0 where
    node : ℕ
    advice : Advice
    has : IsIn advice (advices t node (read_history (traces node)))
    alike : Alike advice.message a.message
    less : rank ranks (card_of a.message) node < rank ranks (card_of a.message) n

  below : (n : ℕ) (a : Advice) → IsIn a (advices t n (read_history (traces n))) → a.acked ≡ true → Below n a
  below n a m e =
      let k = (adv n).origins.acked a m e in
      let back' : other_end t (other_end t n k.link) k.link ≡ n = back t k.link n (legal_own t n (traces n) (legal_at run n) k.link k.serial k.message k.has) in
      let put = run.linked n k.link k.serial k.message k.has in
      let s = (adv (other_end t n k.link)).acks put.0 k.link k.serial k.message put.1 k.ack k.code in
      let b = any_is (identity_of k.message) (advices t (other_end t n k.link) (read_history (traces (other_end t n k.link)))) s.known_now in
      let put' = run.linked (other_end t n k.link) k.link s.serial s.message s.has in
      let here : Has (Out put'.0 (Put k.link s.serial s.message)) (read_history (traces n)) = subst (λ z. Has (Out put'.0 (Put k.link s.serial s.message)) (read_history (traces z))) back' put'.1 in
      let f = sent_falls n k.link s.serial put'.0 s.message here s.kind in
      let c = (acc n).put (k.link, s.message) (put_is_sent (read_history (traces n)) put'.0 k.link s.serial s.message here s.kind) in
      let c_id : identity_of c.0.message ≡ identity_of a.message = c.2.id ∙ (s.same ∙ k.same) in
      let c_same : content c.0.message ≡ content a.message = (acc n).single c.0 a c.1 m c_id in
      let card : card_of s.message ≡ card_of a.message = alike_card s.message a.message (record { id = s.same ∙ k.same; content_is = sym c.2.content_is ∙ c_same }) in
      let b_id : identity_of b.0.message ≡ identity_of a.message = b.2 ∙ k.same in
      record {
        node = other_end t n k.link;
        advice = b.0;
        has = b.1;
        alike = record { id = b_id; content_is = one_content (other_end t n k.link) n b.0 a b.1 m b_id };
        less = subst (λ c. rank ranks c (other_end t n k.link) < rank ranks c n) card f.less;
      }

  somewhere : (fuel n : ℕ) (a : Advice) → IsIn a (advices t n (read_history (traces n))) → rank ranks (card_of a.message) n < fuel → Somewhere a.message
  unfolding Somewhere
  somewhere zero n a m far = absurd (omega (arith, far))
  somewhere (suc fuel) n a m far = go (is_at_home t n a.message) refl a.acked refl (λ n' b m' far'. somewhere fuel n' b m' far')
    where
      go : (b : Bool) → is_at_home t n a.message ≡ b → (c : Bool) → a.acked ≡ c → ((n' : ℕ) (b : Advice) → IsIn b (advices t n' (read_history (traces n'))) → rank ranks (card_of b.message) n' < fuel → Somewhere b.message) → Somewhere a.message
      go true home c e ih =
          let x = (acc n).home a m home in
          let p = post_has (read_history (traces n)) x.0 x.1 in
          (n, inr (p.0, x.0, p.1, x.2.id, x.2.content_is, home))
      go false away false e ih = (n, inl (a, stored_in t n (read_history (traces n)) a m e away, refl, refl))
      go false away true e ih =
          let b = below n a m e in
          let less : rank ranks (card_of (Advice.message (Below.advice b))) (Below.node b) < rank ranks (card_of a.message) n = subst (λ c. rank ranks c (Below.node b) < rank ranks (card_of a.message) n) (sym (alike_card (Below.advice b).message a.message (Below.alike b))) (Below.less b) in
          somewhere_alike (Below.advice b).message a.message (Below.alike b) (ih (Below.node b) (Below.advice b) (Below.has b) (omega (arith, less, far)))

  -- the advice of a post
  posted_advice : (id : AdviceId) (n : ℕ) → 0 < post_count (read_history (traces n)) id → (a : Advice) × IsIn a (advices t n (read_history (traces n))) × (identity_of a.message ≡ id) × (is_at_home t n a.message ≡ true)
  posted_advice id n more =
      let e = post_counted (read_history (traces n)) id in
      let x = posted_some id (posts (read_history (traces n))) (subst (λ z. 0 < z) e more) in
      let a = (acc n).posted x.0 x.1 in
      (a.0, a.1, a.2.id ∙ x.2, alike_home t n a.0.message x.0 a.2 ∙ a.3)

  one_home : (id : AdviceId) (n m : ℕ) → 0 < post_count (read_history (traces n)) id → 0 < post_count (read_history (traces m)) id → n ≡ m
  one_home id n m p q =
      let a = posted_advice id n p in
      let b = posted_advice id m q in
      let same : content a.0.message ≡ content b.0.message = one_content n m a.0 b.0 a.1 b.1 (a.2 ∙ sym b.2) in
      let card : card_of a.0.message ≡ card_of b.0.message = alike_card a.0.message b.0.message (record { id = a.2 ∙ sym b.2; content_is = same }) in
      let h = home_is_home n (issuer t (card_of a.0.message)) a.3 in
      let h' = home_is_home m (issuer t (card_of b.0.message)) b.3 in
      let s : h.0 ≡ h'.0 = same_Some h.0 h'.0 (sym h.1 ∙ (ap (issuer t) card ∙ h'.1)) in
      sym h.2 ∙ (ap Issuer.home s ∙ h'.2)

pub AdvicesKept_holds : (t : Network) (ranks : Ranks) (traces : ℕ → List ReadEntry) → IsReadRun t traces → IsRanked t ranks → IsChecked t → AdvicesKept t (histories traces)
unfolding Somewhere
AdvicesKept_holds t ranks traces run ranked sound = record {
  somewhere = λ n a m. somewhere t ranks traces run ranked sound (suc (rank ranks (card_of a.message) n)) n a m (omega arith);
  once = one_home t ranks traces run ranked sound;
  one = λ id n. subst (λ z. z ≤ 1) (sym (post_counted (read_history (traces n)) id)) ((acc t ranks traces run ranked sound n).one id);
}
