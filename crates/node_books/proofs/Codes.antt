-- What an output does to the store and the books.
use Rattle.std.proofs.Common.{◌≡◌, List, [], ◌∷◌, map, Some, None, Bool, true, false, ◌||◌, cond, refl}
use Rattle.iso_message.specs.Fields.{Fields}
use Rattle.message_elements.specs.Groups.{group, is_advice_group}
use Rattle.message_keys.specs.Keys.{identity_of}
use Rattle.message_keys.specs.declared.keys.AdviceId.{AdviceId}
use Rattle.network_law.specs.Traces.{ReadOutput, Put, Answer, Ask, Post, PutPacket, is_put_of}
use Rattle.node_machine.specs.Books.{Stored, Advised, Granted}
use Rattle.node_machine.specs.Machine.{marked}
use Rattle.node_machine.specs.Lists.{Lists, after_output}
use Rattle.kept_messages.specs.declared.output.Way.{Way}
use Rattle.kept_messages.specs.declared.output.Way.TheVariants as ways
use Rattle.kept_messages.specs.Ways.{message_of, output_of}
use Rattle.node_books.specs.Ways.{mark_if, put_in, after_way}
use Rattle.advice_store.specs.Advices.{marked_by}

or_false : (b : Bool) → (b || false) ≡ b
or_false true = refl
or_false false = refl

map_ext : {X : Type 0} (f g : X → X) → ((x : X) → f x ≡ g x) → (xs : List X) → map f xs ≡ map g xs
map_ext f g h [] = refl
map_ext f g h (x ∷ xs) = rw (h x, map_ext f g h xs) refl

unmarked : (o : ReadOutput) (store : List Stored) → ((a : Stored) → marked o a ≡ a) → map (marked o) store ≡ store
unmarked o [] f = refl
unmarked o (a ∷ others) f = rw (f a, unmarked o others f) refl

same_flag : (o : ReadOutput) → ((id : AdviceId) → is_put_of id o ≡ false) → (a : Stored) → marked o a ≡ a
same_flag o e (Advised a) = rw (e (identity_of a.message), or_false a.put) refl
same_flag o e (Granted g) = refl

-- what an output does to the store
pub marks_put : (o : ReadOutput) (store : List Stored) → mark_if (put_in o) store ≡ map (marked o) store
marks_put (Put l s m) store = go (is_advice_group (group m.kind)) refl
  where
    same : is_advice_group (group m.kind) ≡ true → (a : Stored) → marked_by (identity_of m) a ≡ marked (Put l s m) a
    same e (Advised a) = rw e refl
    same e (Granted g) = refl

    go : (b : Bool) → is_advice_group (group m.kind) ≡ b → mark_if (cond b (Some (identity_of m)) None) store ≡ map (marked (Put l s m)) store
    go true e = map_ext (marked_by (identity_of m)) (marked (Put l s m)) (same e) store
    go false e = Rattle.std.proofs.Common.sym (unmarked (Put l s m) store (same_flag (Put l s m) (λ id. rw e refl)))
marks_put (Answer m) store = Rattle.std.proofs.Common.sym (unmarked (Answer m) store (same_flag (Answer m) (λ id. refl)))
marks_put (Ask n m) store = Rattle.std.proofs.Common.sym (unmarked (Ask n m) store (same_flag (Ask n m) (λ id. refl)))
marks_put (Post m) store = Rattle.std.proofs.Common.sym (unmarked (Post m) store (same_flag (Post m) (λ id. refl)))
marks_put (PutPacket l s p) store = Rattle.std.proofs.Common.sym (unmarked (PutPacket l s p) store (same_flag (PutPacket l s p) (λ id. refl)))

after_of : (w : Way) (m : Fields) (x : Lists) → after_way w (output_of w m) x ≡ after_output (output_of w m) x
after_of (ways.Put l s) m x = rw (marks_put (Put l s m) x.store) refl
after_of ways.Answer m x = rw (Rattle.std.proofs.Common.sym (marks_put (Answer m) x.store)) refl
after_of (ways.Ask a) m x = rw (Rattle.std.proofs.Common.sym (marks_put (Ask a m) x.store)) refl
after_of ways.Post m x = rw (Rattle.std.proofs.Common.sym (marks_put (Post m) x.store)) refl

pub after_is : (w : Way) (o : ReadOutput) (x : Lists) → output_of w (message_of o) ≡ o → after_way w o x ≡ after_output o x
after_is w o x e = Rattle.std.proofs.Common.subst (λ z. after_way w z x ≡ after_output z x) e (after_of w (message_of o) x)
