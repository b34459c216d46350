-- The code of a message is its element 39.
use Rattle.std.proofs.Common.{◌≡◌, ℕ, List, [], Some, None, Bool, true, false, ◌&&◌, cond, refl, ap}
use Rattle.iso_message.specs.Fields.{Fields, get, el}
use Rattle.message_elements.specs.Groups.{group, is_advice_group}
use Rattle.message_keys.specs.Keys.{key_of, identity_of, identity_eq, code_of}
use Rattle.message_keys.specs.declared.keys.AdviceId.{AdviceId}
use Rattle.kept_messages.specs.Ways.{advice_of}

pub found_code : (m : Fields) (v : List ℕ) → get m 39 ≡ Some v → code_of m ≡ v
unfolding code_of el
found_code m v e = rw e refl

pub no_code : (m : Fields) → get m 39 ≡ None → code_of m ≡ []
unfolding code_of el
no_code m e = rw e refl

pub advice_is : (m : Fields) → is_advice_group (group m.kind) ≡ true → Some (identity_of m) ≡ advice_of m
advice_is m e = rw e refl

pub puts_it : (m : Fields) (id own : AdviceId) → Some own ≡ advice_of m → identity_eq own id ≡ (is_advice_group (group m.kind) && identity_eq (identity_of m) id)
puts_it m id own a = go (is_advice_group (group m.kind)) a
  where
    go : (b : Bool) → Some own ≡ cond b (Some (identity_of m)) None → identity_eq own id ≡ (b && identity_eq (identity_of m) id)
    go true a = (let is : own ≡ identity_of m = cc in ap (λ z. identity_eq z id) is)
    go false a = cc

pub puts_none : (m : Fields) (id : AdviceId) → None ≡ advice_of m → false ≡ (is_advice_group (group m.kind) && identity_eq (identity_of m) id)
puts_none m id a = go (is_advice_group (group m.kind)) a
  where
    go : (b : Bool) → None ≡ cond b (Some (identity_of m)) None → false ≡ (b && identity_eq (identity_of m) id)
    go true a = cc
    go false a = refl

pub no_advice : (m : Fields) → is_advice_group (group m.kind) ≡ false → None ≡ advice_of m
no_advice m e = rw e refl

pub id_key : (m : Fields) (id : AdviceId) → id ≡ identity_of m → AdviceId.key id ≡ key_of m
unfolding identity_of
id_key m id e = rw e refl
