-- Fronts of texts that went out, and texts in pieces.
use Rattle.std.proofs.Common.{◌≡◌, ℕ, List, [], ◌++◌, Option, sym, ap, subst, ◌∙◌, append-nil}
use Rattle.std.specs.Io.KnownBytes.{Appends}
use Rattle.std.proofs.KnownBytes.{Appends-nil}
use Rattle.card_digits.specs.Stream.{AppendsFront}
use Rattle.message_text.specs.Printed.{Sends}

-- all that was there to send went out
pub all_sent : (a b : Option (List ℕ)) (old text new : List ℕ) → Appends a b (old ++ text) → new ≡ [] → Sends a b old text new
all_sent a b old text new p e = record { sent = old ++ text; sends = p; whole = sym (append-nil (old ++ text)) ∙ ap (λ z. (old ++ text) ++ z) (sym e) }

-- all of it waits
pub none_sent : (a : Option (List ℕ)) (old text new : List ℕ) → new ≡ old ++ text → Sends a a old text new
none_sent a old text new e = record { sent = []; sends = Appends-nil a; whole = sym e }

pub front_is : (a b : Option (List ℕ)) (xs ys : List ℕ) → xs ≡ ys → AppendsFront a b xs → AppendsFront a b ys
front_is a b xs ys e f = subst (AppendsFront a b) e f
