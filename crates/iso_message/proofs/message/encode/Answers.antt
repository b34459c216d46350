use Rattle.std.proofs.Common.{◌≡◌, rules, sym, subst, List, ℕ}
use Rattle.iso_message.specs.Grammar.{Spells}
use Rattle.iso_message.specs.Spelling.{spelling}
use Rattle.iso_message.proofs.Canonical.{spells}
use Rattle.iso_message.proofs.message.encode.Goals as goal

pub returns-clause-spells : goal.returns-clause-spells
returns-clause-spells c =
    let e : c.encode_into.new.out.items ≡ spelling c.args.message.now = search rules in
    subst (λ (bytes : List ℕ). Spells bytes c.args.message.now) (sym e) (spells c.args.message.now c.kind.ensures.is_message)
