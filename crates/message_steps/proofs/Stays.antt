-- What an input that acknowledges nothing leaves.
use Rattle.std.proofs.Common.{◌≡◌, ℕ, ◌+◌, List, [], ◌∷◌, filter, false, not, refl, arith}
use Rattle.network_law.specs.Traces as messages
use Rattle.node_machine.specs.Books.{Stored}
use Rattle.node_machine.specs.Machine as machine

pub zero_plus : (n : ℕ) → 0 + n ≡ n
zero_plus n = omega arith

-- an input that acknowledges nothing leaves the store
pub stays : (i : messages.ReadInput) → ((a : Stored) → machine.acks i a ≡ false) → (xs : List Stored) → filter (λ a. not (machine.acks i a)) xs ≡ xs
stays i none [] = refl
stays i none (a ∷ xs) = rw (none a, stays i none xs) refl
