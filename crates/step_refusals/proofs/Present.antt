-- Messages in which nothing is missing have what their keys and identities are made of.
use Rattle.std.proofs.Common.{◌≡◌, ℕ, ◌==◌, true, false, List, [], ◌∷◌, Option, Some, None, ◌⊎◌, refl, sym, ◌∙◌, subst, inl, inr}
use Rattle.std.specs.Option.{option_or}
use Rattle.std.proofs.lemmas.Bool.{cases_Bool, eqb-true}
use Rattle.message_elements.specs.declared.kind.Kind.{Kind}
use Rattle.message_elements.specs.declared.kind.Kind.TheVariants.{K0100, K0101, K0110, K0120, K0121, K0130, K0400, K0401, K0410, K0420, K0421, K0430}
use Rattle.message_elements.specs.declared.kind.Group.{Group}
use Rattle.message_elements.specs.declared.kind.Group.TheVariants as groups
use Rattle.iso_message.specs.Fields.{Fields, has}
use Rattle.message_elements.specs.Groups.{group, is_04xx, is_answer, is_advice_group}
use Rattle.message_keys.specs.Keys.{has_key, has_identity}
use Rattle.iso_message.specs.Made.{has_own_key, is_one_of}
use Rattle.network_law.specs.Refusals.{first_missing, missing, required_entered, required_taken, entered_kind}

-- each of the elements is there
pub present : (m : Fields) (ns : List ℕ) (n : ℕ) → first_missing m ns ≡ None → is_one_of ns n ≡ true → has m n ≡ true
present m [] n none one = absurd cc
present m (k ∷ ns) n none one = elim (cases_Bool (has m k)) [
  | inr absent ↦ absurd (let some : Some k ≡ None = rw absent at none in cc)
  | inl there ↦ elim (cases_Bool (k == n)) [
    | inl same ↦ subst (λ (z : ℕ). has m z ≡ true) (eqb-true k n same) there
    | inr other ↦ present m ns n (rw there at none) (rw other at one)
  ]
]

none_first : {X : Type 0} (o other : Option X) → option_or o other ≡ None → o ≡ None
none_first None other e = refl
none_first (Some x) other e = absurd cc

-- kinds and their groups

reversals : (k : Kind) → group k ≡ groups.Reversal → is_04xx k ≡ true
reversals K0400 e = refl
reversals K0401 e = refl
reversals K0420 e = refl
reversals K0421 e = refl
reversals K0100 e = absurd cc
reversals K0101 e = absurd cc
reversals K0110 e = absurd cc
reversals K0120 e = absurd cc
reversals K0121 e = absurd cc
reversals K0130 e = absurd cc
reversals K0410 e = absurd cc
reversals K0430 e = absurd cc

stand_ins : (k : Kind) → group k ≡ groups.Advice → is_04xx k ≡ false
stand_ins K0120 e = refl
stand_ins K0121 e = refl
stand_ins K0100 e = absurd cc
stand_ins K0101 e = absurd cc
stand_ins K0110 e = absurd cc
stand_ins K0130 e = absurd cc
stand_ins K0400 e = absurd cc
stand_ins K0401 e = absurd cc
stand_ins K0410 e = absurd cc
stand_ins K0420 e = absurd cc
stand_ins K0421 e = absurd cc
stand_ins K0430 e = absurd cc

not_entered : (k : Kind) → group k ≡ groups.Advice → entered_kind k ≡ false
not_entered K0120 e = refl
not_entered K0121 e = refl
not_entered K0100 e = absurd cc
not_entered K0101 e = absurd cc
not_entered K0110 e = absurd cc
not_entered K0130 e = absurd cc
not_entered K0400 e = absurd cc
not_entered K0401 e = absurd cc
not_entered K0410 e = absurd cc
not_entered K0420 e = absurd cc
not_entered K0421 e = absurd cc
not_entered K0430 e = absurd cc

advices : (g : Group) → is_advice_group g ≡ true → (g ≡ groups.Advice) ⊎ (g ≡ groups.Reversal)
advices groups.Advice e = inl refl
advices groups.Reversal e = inr refl
advices groups.AuthorizationRequest e = absurd cc
advices groups.AuthorizationResponse e = absurd cc
advices groups.AdviceResponse e = absurd cc
advices groups.ReversalResponse e = absurd cc

-- identities and keys

reversal_known : (m : Fields) → group m.kind ≡ groups.Reversal → has m 90 ≡ true → has_identity m ≡ true
unfolding has_identity has_key
reversal_known m g h = rw (g, reversals m.kind g, h) refl

stand_in_known : (m : Fields) → group m.kind ≡ groups.Advice → has m 32 ≡ true → has m 11 ≡ true → has m 7 ≡ true → has_identity m ≡ true
unfolding has_identity has_key has_own_key
stand_in_known m g a b d = rw (g, stand_ins m.kind g, a, b, d) refl

pub entered_known : (m : Fields) → entered_kind m.kind ≡ true → missing m (required_entered (group m.kind)) ≡ None → is_advice_group (group m.kind) ≡ true → has_identity m ≡ true
entered_known m kind none advice = elim (advices (group m.kind) advice) [
  | inl g ↦ absurd (let wrong : true ≡ false = sym kind ∙ not_entered m.kind g in cc)
  | inr g ↦ reversal_known m g (present m (required_entered groups.Reversal) 90 (none_first _ _ (rw g at none)) refl)
]

pub taken_known : (m : Fields) → missing m (required_taken (group m.kind) m.kind) ≡ None → is_advice_group (group m.kind) ≡ true → has_identity m ≡ true
taken_known m none advice = elim (advices (group m.kind) advice) [
  | inl g ↦
      let ns = required_taken groups.Advice m.kind in
      let all : first_missing m ns ≡ None = none_first _ _ (rw g at none) in
      stand_in_known m g (present m ns 32 all refl) (present m ns 11 all refl) (present m ns 7 all refl)
  | inr g ↦ reversal_known m g (present m (required_taken groups.Reversal m.kind) 90 (none_first _ _ (rw g at none)) refl)
]

answers : (k : Kind) → is_answer k ≡ true → k ≡ K0110
answers K0110 e = refl
answers K0100 e = absurd cc
answers K0101 e = absurd cc
answers K0120 e = absurd cc
answers K0121 e = absurd cc
answers K0130 e = absurd cc
answers K0400 e = absurd cc
answers K0401 e = absurd cc
answers K0410 e = absurd cc
answers K0420 e = absurd cc
answers K0421 e = absurd cc
answers K0430 e = absurd cc

pub answer_known : (m : Fields) → is_answer m.kind ≡ true → missing m (required_taken (group m.kind) m.kind) ≡ None → has_key m ≡ true
unfolding has_key has_own_key
answer_known m answer none =
    let k = answers m.kind answer in
    let ns = required_taken groups.AuthorizationResponse K0110 in
    let all : first_missing m ns ≡ None = none_first _ _ (rw k at none) in
    rw (k, present m ns 32 all refl, present m ns 11 all refl, present m ns 7 all refl) refl
