-- What an input that isn't refused has.
use Rattle.std.proofs.Common.{◌≡◌, ℕ, List, [], ◌∷◌, Option, Some, None, Bool, true, false, not, refl, subst, ⊎_elim}
use Rattle.std.proofs.lemmas.Bool.{not-false}
use Rattle.std.specs.Option.{option_or, option_map}
use Rattle.iso_message.specs.Fields.{Fields, has}
use Rattle.message_elements.specs.Groups.{group}
use Rattle.message_keys.specs.Keys.{own_key}
use Rattle.net_rows.specs.Network.{Network}
use Rattle.network_law.specs.declared.fault.StepFault.TheVariants.{ForeignAcquirer, Missing, TypeNotForGate}
use Rattle.network_law.specs.Tables.{is_attached}
use Rattle.network_law.specs.Traces.{Enter, Take, History, IsIn}
use Rattle.network_law.specs.Refusals.{refusal, when, entered_kind, taken_kind, required_entered, required_taken, first_missing, strange_original, missing}

pub or_none : {X : Type 0} (a b : Option X) → option_or a b ≡ None → (a ≡ None) × (b ≡ None)
or_none None b e = (refl, e)
or_none (Some x) b e = cc

pub when_none : {X : Type 0} (b : Bool) (x : X) → when b x ≡ None → b ≡ false
when_none true x e = cc
when_none false x e = refl

map_none : {X Y : Type 0} (f : X → Y) (o : Option X) → option_map f o ≡ None → o ≡ None
map_none f None e = refl
map_none f (Some x) e = cc

-- the type is right, what is required is there, and element 90 isn't strange
pub record IsWhole (ns : List ℕ) (m : Fields) : Type 0 where
  pub none_missing : first_missing m ns ≡ None
  pub not_strange : strange_original m ≡ false

whole : (m : Fields) (ns : List ℕ) → option_map Missing (missing m ns) ≡ None → IsWhole ns m
whole m ns e =
    let p = or_none (first_missing m ns) (when (strange_original m) 90) (map_none Missing (missing m ns) e) in
    record { none_missing = p.0; not_strange = when_none (strange_original m) 90 p.1 }

pub record EnteredFacts (t : Network) (n : ℕ) (m : Fields) : Type 0 where
  pub kind : entered_kind m.kind ≡ true
  pub is_whole : IsWhole (required_entered (group m.kind)) m
  pub attached : is_attached t n (own_key m).acquirer ≡ true

pub entered_facts : (t : Network) (n : ℕ) (h : History) (m : Fields) → refusal t n h (Enter m) ≡ None → EnteredFacts t n m
unfolding refusal
entered_facts t n h m e =
    let a = or_none (when (not (entered_kind m.kind)) TypeNotForGate) _ e in
    let b = or_none (option_map Missing (missing m (required_entered (group m.kind)))) _ a.1 in
    let c = or_none (when (not (is_attached t n (own_key m).acquirer)) ForeignAcquirer) _ b.1 in
    record {
      kind = not-false _ (when_none (not (entered_kind m.kind)) TypeNotForGate a.0);
      is_whole = whole m (required_entered (group m.kind)) b.0;
      attached = not-false _ (when_none (not (is_attached t n (own_key m).acquirer)) ForeignAcquirer c.0);
    }

pub record TakenFacts (m : Fields) : Type 0 where
  pub kind : taken_kind m.kind ≡ true
  pub is_whole : IsWhole (required_taken (group m.kind) m.kind) m

pub taken_facts : (t : Network) (n : ℕ) (h : History) (l s : ℕ) (m : Fields) → refusal t n h (Take l s m) ≡ None → TakenFacts m
unfolding refusal
taken_facts t n h l s m e =
    let a = or_none (when (not (taken_kind m.kind)) TypeNotForGate) _ e in
    let b = or_none (option_map Missing (missing m (required_taken (group m.kind) m.kind))) _ a.1 in
    record { kind = not-false _ (when_none (not (taken_kind m.kind)) TypeNotForGate a.0); is_whole = whole m (required_taken (group m.kind) m.kind) b.0 }

-- what is required is there
pub is_there : (m : Fields) (ns : List ℕ) (n : ℕ) → first_missing m ns ≡ None → IsIn n ns → has m n ≡ true
is_there m [] n e i = absurd i
is_there m (k ∷ ns) n e i = go (has m k) refl (is_there m ns n)
  where
    go : (b : Bool) → has m k ≡ b → (first_missing m ns ≡ None → IsIn n ns → has m n ≡ true) → has m n ≡ true
    go true at rest = ⊎_elim (λ same. subst (λ j. has m j ≡ true) same at) (λ below. rest (rw at at e) below) i
    go false at rest = absurd (no (rw at at e))
      where
        no : Some k ≡ None → ⊥
        no p = cc
