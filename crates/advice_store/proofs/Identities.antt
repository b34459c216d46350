-- The identities that are known, as a list and as a set.
use Rattle.std.proofs.Common.{◌≡◌, true, cond, List, [], ◌∷◌, ◌++◌, refl, sym, ◌∙◌}
use Rattle.std.specs.List.{list_any}
use Rattle.message_keys.specs.Keys.{identity_eq}
use Rattle.message_keys.specs.declared.keys.AdviceId.{AdviceId}
use Rattle.book_index.proofs.Identities.{any_is, derived_id_eq, derived_id_is}
use Rattle.book_index.proofs.Texts.{any_push}
use Rattle.advice_store.specs.Books.{AreKnown}

pub known_more : (keys new known : List AdviceId) (id : AdviceId) → ((q : AdviceId) → list_any (derived_id_eq q) new ≡ cond (derived_id_eq id q) true (list_any (derived_id_eq q) keys)) → AreKnown keys known → AreKnown new (known ++ id ∷ [])
known_more keys new known id more h q =
    sym (any_is q new)
    ∙ (more q ∙ (rw (derived_id_is id q, any_is q keys, h q) refl ∙ sym (any_push (λ x. identity_eq x q) known id)))

pub known_again : (keys new known : List AdviceId) → ((q : AdviceId) → list_any (derived_id_eq q) new ≡ list_any (derived_id_eq q) keys) → AreKnown keys known → AreKnown new known
known_again keys new known same h q = sym (any_is q new) ∙ (same q ∙ (any_is q keys ∙ h q))
