use Rattle.message_keys.proofs.Equality.{key_eq_refl, key_eq_is, content_eq_refl, content_eq_is, identity_eq_refl, identity_eq_is}
use Rattle.message_keys.proofs.laws.equality.Goals as goal

pub returns-clause-keys : goal.returns-clause-keys
returns-clause-keys c a b = (key_eq_is a b, λ e. rw (← e) (key_eq_refl a))

pub returns-clause-contents : goal.returns-clause-contents
returns-clause-contents c a b = (content_eq_is a b, λ e. rw (← e) (content_eq_refl a))

pub returns-clause-identities : goal.returns-clause-identities
returns-clause-identities c a b = (identity_eq_is a b, λ e. rw (← e) (identity_eq_refl a))
