-- What is kept of advices, posts and sent advices, as lists: each step keeps it.
use Rattle.std.proofs.Common.{◌≡◌, ℕ, ◌+◌, ◌≤◌, List, [], ◌∷◌, map, Bool, true, false, cond, if◌then◌else◌, ◌<◌, refl, sym, ap, ◌∙◌, subst, inl, inr, ⊎_elim, ◌⊎◌, arith}
use Rattle.std.proofs.lemmas.Bool.{or_cases, cond_both}
use Rattle.std.specs.List.{list_any}
use Rattle.net_rows.specs.Network.{Network, issuer}
use Rattle.network_law.specs.Traces.{ReadInput, Enter, Take, LinkUp, LinkDown, Tick, HostAnswer, NewDate, TakePacket, Lend, Advice, has_identity, add_advice, acked_by, home_is, is_at_home, IsIn}
use Rattle.network_law.proofs.Provenance.{in_acked, any_in}
use Rattle.network_law.proofs.Chain.{same_card}
use Rattle.message_keys.proofs.Equality.{identity_eq_refl, identity_eq_is}
use Rattle.iso_message.specs.Fields.{Fields}
use Rattle.message_keys.specs.Keys.{identity_of, identity_eq, content}
use Rattle.message_keys.specs.declared.keys.AdviceId.{AdviceId}
use Rattle.network_law.specs.Cards.{card_of}

not_both : (b : Bool) → b ≡ true → b ≡ false → ⊥
not_both b p q = cc

-- identities

pub any_is : (id : AdviceId) (as' : List Advice) → list_any (has_identity id) as' ≡ true → (a : Advice) × IsIn a as' × (identity_of a.message ≡ id)
any_is id [] e = absurd (not_both false e refl)
any_is id (a ∷ as') e = ⊎_elim (λ here. (a, inl refl, identity_eq_is (identity_of a.message) id here)) (λ there. (let r = any_is id as' there in (r.0, inr r.1, r.2))) (or_cases (has_identity id a) (list_any (has_identity id) as') e)

pub is_any : (id : AdviceId) (a : Advice) (as' : List Advice) → IsIn a as' → identity_of a.message ≡ id → list_any (has_identity id) as' ≡ true
is_any id a as' m e = any_in (has_identity id) a as' m (ap (λ z. identity_eq z id) e ∙ identity_eq_refl id)

-- messages with the same identity and content

pub record Alike (x y : Fields) : Type 0 where
  pub id : identity_of x ≡ identity_of y
  pub content_is : content x ≡ content y

pub alike_refl : (x : Fields) → Alike x x
alike_refl x = record { id = refl; content_is = refl }

pub alike_sym : (x y : Fields) → Alike x y → Alike y x
alike_sym x y a = record { id = sym a.id; content_is = sym a.content_is }

pub alike_more : (x y z : Fields) → Alike x y → Alike y z → Alike x z
alike_more x y z a b = record { id = a.id ∙ b.id; content_is = a.content_is ∙ b.content_is }

pub alike_is : (x y : Fields) → x ≡ y → Alike x y
alike_is x y e = record { id = ap identity_of e; content_is = ap content e }

pub alike_card : (x y : Fields) → Alike x y → card_of x ≡ card_of y
alike_card x y a = same_card x y a.content_is

pub alike_home : (t : Network) (n : ℕ) (x y : Fields) → Alike x y → is_at_home t n x ≡ is_at_home t n y
alike_home t n x y a = ap (λ c. home_is n (issuer t c)) (alike_card x y a)

-- how often an identity is posted

unfoldable pub posted_of : AdviceId → List Fields → ℕ
posted_of id [] = 0
posted_of id (x ∷ ps) = (if identity_eq (identity_of x) id then 1 else 0) + posted_of id ps

pub record Accounts (t : Network) (n : ℕ) (as' : List Advice) (ps : List Fields) (us : List (ℕ × Fields)) : Type 0 where
  pub home : (a : Advice) → IsIn a as' → is_at_home t n a.message ≡ true → (x : Fields) × IsIn x ps × Alike x a.message
  pub posted : (x : Fields) → IsIn x ps → (a : Advice) × IsIn a as' × Alike a.message x × (is_at_home t n x ≡ true)
  pub put : (u : ℕ × Fields) → IsIn u us → (a : Advice) × IsIn a as' × Alike a.message u.1
  pub one : (id : AdviceId) → posted_of id ps ≤ 1
  pub single : (a b : Advice) → IsIn a as' → IsIn b as' → identity_of a.message ≡ identity_of b.message → content a.message ≡ content b.message

pub posted_none : (id : AdviceId) (ps : List Fields) → ((x : Fields) → IsIn x ps → identity_of x ≡ id → ⊥) → posted_of id ps ≡ 0
unfolding posted_of
posted_none id [] none = refl
posted_none id (x ∷ ps) none = go (identity_eq (identity_of x) id) refl (posted_none id ps (λ y m. none y (inr m)))
  where
    go : (b : Bool) → identity_eq (identity_of x) id ≡ b → posted_of id ps ≡ 0 → (cond (identity_eq (identity_of x) id) 1 0) + posted_of id ps ≡ 0
    go true at rest = absurd (none x (inl refl) (identity_eq_is (identity_of x) id at))
    go false at rest = rw at (omega (arith, rest))

pub posted_some : (id : AdviceId) (ps : List Fields) → 0 < posted_of id ps → (x : Fields) × IsIn x ps × (identity_of x ≡ id)
unfolding posted_of
posted_some id [] more = absurd (omega (arith, more))
posted_some id (x ∷ ps) more = go (identity_eq (identity_of x) id) refl (posted_some id ps)
  where
    go : (b : Bool) → identity_eq (identity_of x) id ≡ b → (0 < posted_of id ps → (y : Fields) × IsIn y ps × (identity_of y ≡ id)) → (y : Fields) × IsIn y (x ∷ ps) × (identity_of y ≡ id)
    go true at rest = (x, inl refl, identity_eq_is (identity_of x) id at)
    go false at rest =
        let more' : 0 < 0 + posted_of id ps = rw at at more in
        let r = rest (omega (arith, more')) in
        (r.0, inr r.1, r.2)

-- acknowledged advices

pub in_acked_back : (i : ReadInput) (a : Advice) (as' : List Advice) → IsIn a as' → (b : Advice) × IsIn b (map (acked_by i) as') × (b.message ≡ a.message)
in_acked_back i a [] m = absurd m
in_acked_back i a (b ∷ as') m = ⊎_elim (λ e. (acked_by i b, inl refl, acked_message i b ∙ ap Advice.message e)) (λ r. (let x = in_acked_back i a as' r in (x.0, inr x.1, x.2))) m
  where
    acked_message : (i : ReadInput) (b : Advice) → (acked_by i b).message ≡ b.message
    acked_message (Take l s m) b = refl
    acked_message (Enter m) b = refl
    acked_message (LinkUp l) b = refl
    acked_message (LinkDown l) b = refl
    acked_message Tick b = refl
    acked_message (HostAnswer c d) b = refl
    acked_message (NewDate d) b = refl
    acked_message (TakePacket lk sr pk) b = refl
    acked_message (Lend br cd dt am) b = refl

pub accounts_acked : (t : Network) (n : ℕ) (i : ReadInput) (as' : List Advice) (ps : List Fields) (us : List (ℕ × Fields)) → Accounts t n as' ps us → Accounts t n (map (acked_by i) as') ps us
accounts_acked t n i as' ps us q = record {
  home = λ a m e. (let b = in_acked a i as' m in let r = q.home b.0 b.1 (ap (is_at_home t n) b.2 ∙ e) in (r.0, r.1, alike_more r.0 b.0.message a.message r.2 (alike_is b.0.message a.message b.2)));
  posted = λ x m. (let r = q.posted x m in let b = in_acked_back i r.0 as' r.1 in (b.0, b.1, alike_more b.0.message r.0.message x (alike_is b.0.message r.0.message b.2) r.2, r.3));
  put = λ u m. (let r = q.put u m in let b = in_acked_back i r.0 as' r.1 in (b.0, b.1, alike_more b.0.message r.0.message u.1 (alike_is b.0.message r.0.message b.2) r.2));
  one = q.one;
  single = λ a b m m' e. (let c = in_acked a i as' m in let d = in_acked b i as' m' in ap content (sym c.2) ∙ (q.single c.0 d.0 c.1 d.1 (ap identity_of c.2 ∙ (e ∙ ap identity_of (sym d.2))) ∙ ap content d.2));
}

-- an advice that is kept

unfoldable pub kept_posts : Network → ℕ → Bool → Fields → List Fields → List Fields
kept_posts t n true x ps = ps
kept_posts t n false x ps = cond (is_at_home t n x) (x ∷ ps) ps

abbrev pub KeptSends : Bool → Fields → List (ℕ × Fields) → List (ℕ × Fields) → Type 0
KeptSends k x us us' = (u : ℕ × Fields) → IsIn u us' → IsIn u us ⊎ ((k ≡ false) × Alike x u.1)

pub in_add_front : (a : Advice) (as' : List Advice) → list_any (has_identity (identity_of a.message)) as' ≡ false → add_advice a as' ≡ a ∷ as'
in_add_front a as' e = rw e refl

pub in_add_known : (a : Advice) (as' : List Advice) → list_any (has_identity (identity_of a.message)) as' ≡ true → add_advice a as' ≡ as'
in_add_known a as' e = rw e refl

accounts_new : (t : Network) (n : ℕ) (a : Advice) (as' : List Advice) (ps : List Fields) (us us' : List (ℕ × Fields)) → Accounts t n as' ps us → list_any (has_identity (identity_of a.message)) as' ≡ false → KeptSends false a.message us us' → Accounts t n (a ∷ as') (kept_posts t n false a.message ps) us'
unfolding kept_posts posted_of
accounts_new t n a as' ps us us' q fresh sends = cond_both (is_at_home t n a.message) (a.message ∷ ps) ps (λ z. Accounts t n (a ∷ as') z us') at_home away
  where
    no_other : (b : Advice) → IsIn b as' → identity_of b.message ≡ identity_of a.message → ⊥
    no_other b m e = not_both (list_any (has_identity (identity_of a.message)) as') (is_any (identity_of a.message) b as' m e) fresh

    no_post : (x : Fields) → IsIn x ps → identity_of x ≡ identity_of a.message → ⊥
    no_post x m e = let r = q.posted x m in no_other r.0 r.1 (r.2.id ∙ e)

    put' : (u : ℕ × Fields) → IsIn u us' → (b : Advice) × IsIn b (a ∷ as') × Alike b.message u.1
    put' u m = ⊎_elim (λ old. (let r = q.put u old in (r.0, inr r.1, r.2))) (λ new. (a, inl refl, new.1)) (sends u m)

    single' : (b c : Advice) → IsIn b (a ∷ as') → IsIn c (a ∷ as') → identity_of b.message ≡ identity_of c.message → content b.message ≡ content c.message
    single' b c (inl e) (inl e') same = ap (λ z. content (Advice.message z)) (sym e ∙ e')
    single' b c (inl e) (inr m') same = absurd (no_other c m' (sym same ∙ ap (λ z. identity_of (Advice.message z)) (sym e)))
    single' b c (inr m) (inl e') same = absurd (no_other b m (same ∙ ap (λ z. identity_of (Advice.message z)) (sym e')))
    single' b c (inr m) (inr m') same = q.single b c m m' same

    at_home : is_at_home t n a.message ≡ true → Accounts t n (a ∷ as') (a.message ∷ ps) us'
    at_home h = record {
      home = λ b m e. ⊎_elim (λ same. (a.message, inl refl, alike_is a.message b.message (ap Advice.message same))) (λ old. (let r = q.home b old e in (r.0, inr r.1, r.2))) m;
      posted = λ x m. ⊎_elim (λ same. (a, inl refl, alike_is a.message x same, ap (is_at_home t n) (sym same) ∙ h)) (λ old. (let r = q.posted x old in (r.0, inr r.1, r.2, r.3))) m;
      put = put';
      one = λ id. one' id (identity_eq (identity_of a.message) id) refl;
      single = single';
    }
      where
        one' : (id : AdviceId) (b : Bool) → identity_eq (identity_of a.message) id ≡ b → (cond (identity_eq (identity_of a.message) id) 1 0) + posted_of id ps ≤ 1
        one' id true at =
            let z : posted_of id ps ≡ 0 = posted_none id ps (λ x m e. no_post x m (e ∙ sym (identity_eq_is (identity_of a.message) id at))) in
            rw at (omega (arith, z))
        one' id false at = let z = q.one id in rw at (omega (arith, z))

    away : is_at_home t n a.message ≡ false → Accounts t n (a ∷ as') ps us'
    away h = record {
      home = λ b m e. ⊎_elim (λ same. absurd (not_both (is_at_home t n a.message) (ap (λ z. is_at_home t n (Advice.message z)) same ∙ e) h)) (λ old. q.home b old e) m;
      posted = λ x m. (let r = q.posted x m in (r.0, inr r.1, r.2, r.3));
      put = put';
      one = q.one;
      single = single';
    }

accounts_more : (t : Network) (n : ℕ) (as' : List Advice) (ps : List Fields) (us us' : List (ℕ × Fields)) → Accounts t n as' ps us → ((u : ℕ × Fields) → IsIn u us' → IsIn u us ⊎ ((a : Advice) × IsIn a as' × Alike a.message u.1)) → Accounts t n as' ps us'
accounts_more t n as' ps us us' q sends = record { home = q.home; posted = q.posted; put = λ u m. ⊎_elim (λ old. q.put u old) (λ new. new) (sends u m); one = q.one; single = q.single }

pub accounts_sent : (t : Network) (n : ℕ) (as' : List Advice) (ps : List Fields) (us us' : List (ℕ × Fields)) → Accounts t n as' ps us → ((u : ℕ × Fields) → IsIn u us' → IsIn u us ⊎ ((a : Advice) × IsIn a as' × Alike a.message u.1)) → Accounts t n as' ps us'
accounts_sent = accounts_more

pub accounts_kept : (t : Network) (n : ℕ) (a : Advice) (x : Fields) (k : Bool) (as' : List Advice) (ps : List Fields) (us us' : List (ℕ × Fields)) → Accounts t n as' ps us → a.message ≡ x → list_any (has_identity (identity_of x)) as' ≡ k → KeptSends k x us us' → Accounts t n (add_advice a as') (kept_posts t n k x ps) us'
unfolding kept_posts posted_of
accounts_kept t n a x true as' ps us us' q e known sends =
    subst (λ z. Accounts t n z ps us') (sym (in_add_known a as' (ap (λ z. list_any (has_identity (identity_of z)) as') e ∙ known)))
    (accounts_more t n as' ps us us' q (λ u m. ⊎_elim inl (λ bad. absurd (not_both true refl bad.0)) (sends u m)))
accounts_kept t n a x false as' ps us us' q e known sends =
    let fresh : list_any (has_identity (identity_of a.message)) as' ≡ false = ap (λ z. list_any (has_identity (identity_of z)) as') e ∙ known in
    subst (λ z. Accounts t n z (cond (is_at_home t n x) (x ∷ ps) ps) us') (sym (in_add_front a as' fresh))
    (subst (λ z. Accounts t n (a ∷ as') (cond (is_at_home t n z) (z ∷ ps) ps) us') e
    (accounts_new t n a as' ps us us' q fresh (λ u m. ⊎_elim inl (λ new. inr (refl, alike_more a.message x u.1 (alike_is a.message x e) new.1)) (sends u m))))
