-- What is known of the bytes behind a binary element.
use Rattle.std.proofs.Common.{◌≡◌, ℕ, List, Ok, subst}
use Rattle.message_bytes.specs.declared.runs.Known.{Known}
use Rattle.message_bytes.specs.Known.{IsKnown}
use Rattle.message_bytes.proofs.KnownLemmas.{known_behind}
use Rattle.iso_message.specs.Elements.{binary_at}
use Rattle.iso_message.proofs.Pieces.{binary_takes}

pub binary_behind : (k : Known) (n : ℕ) (bytes v rest : List ℕ) → binary_at n bytes ≡ Ok (v, rest) → IsKnown k bytes → IsKnown k rest
binary_behind k n bytes v rest e h =
    let b = binary_takes n bytes v rest e in
    known_behind k b.0 rest (subst (λ (bs : List ℕ). IsKnown k bs) b.1 h)
