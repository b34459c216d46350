use Rattle.std.proofs.Common.{◌≡◌, true, false, sym, ap, ◌∙◌}
use Rattle.message_elements.specs.Groups.{is_04xx}
use Rattle.message_keys.proofs.KeyLemmas.{key_of_original, key_of_itself}
use Rattle.message_keys.proofs.keys.key_of.Goals as goal

pub returns-then-is_04xx : goal.returns-then-is_04xx
returns-then-is_04xx c =
    let is : is_04xx c.args.message.now.kind ≡ true = ap is_04xx (sym c.kind.ensures.kind) ∙ sym c.is_04xx.ensures ∙ c.if-is_04xx.true in
    c.original_key.ensures ∙ sym (key_of_original c.args.message.now is)

pub returns-else-is_04xx : goal.returns-else-is_04xx
returns-else-is_04xx c =
    let is : is_04xx c.args.message.now.kind ≡ false = ap is_04xx (sym c.kind.ensures.kind) ∙ sym c.is_04xx.ensures ∙ c.if-is_04xx.false in
    c.own_key.ensures ∙ sym (key_of_itself c.args.message.now is)
