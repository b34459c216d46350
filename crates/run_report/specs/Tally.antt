-- What a tally of answers has.
use Rattle.std.specs.Prelude.{◌≡◌, List}
use Rattle.std.specs.HashSet.{contains}
use Rattle.card_digits.specs.declared.key.Key.{Key}
use Rattle.message_keys.specs.Keys.{key_eq}
use Rattle.run_report.specs.declared.answered.Answered.{Answered}
use Rattle.run_report.specs.declared.tally.Tally.{Tally}
use Rattle.run_report.specs.Own.{was_answered, own_among}
use Rattle.run_report.specs.Counted.{counted}

-- it has the keys of these answers, of which the newest stands first, and counts those that the node approves by itself
pub record Counts (t : Tally) (answers : List Answered) : Type 0 where
  pub keys : (k : Key) → contains key_eq t.keys k ≡ was_answered k answers
  pub own : t.own ≡ counted (own_among answers)
