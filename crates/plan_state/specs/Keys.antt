-- Keys of messages that are told apart by their bytes alone.
use Rattle.std.specs.Prelude.{◌≡◌, ℕ, List, Option, Some, option_and_then}
use Rattle.std.specs.Result.{result_ok}
use Rattle.card_digits.specs.declared.key.Key.{Key}
use Rattle.message_keys.specs.Keys.{when, has_key, key_of}
use Rattle.iso_message.specs.Messages.{read}

-- the key of the message that the bytes spell: for a reversal, that of its original
abbrev pub key_in : List ℕ → Option Key
key_in bytes = option_and_then (λ m. when (has_key m) (key_of m)) (result_ok (read bytes))

abbrev pub IsAnswerTo : List ℕ → List ℕ → Type 0
IsAnswerTo line answer = (k : Key) × (key_in line ≡ Some k) × (key_in answer ≡ Some k)
