-- The class that a picture shows.
use Rattle.std.specs.Prelude.{ℕ, List, Option, Some, None, slice_get, option_map, option_and_then}
use Rattle.std.specs.Option.{option_or}
use Rattle.card_digits.specs.Longest.{longest}
use Rattle.net_rows.specs.Network.{Network, classes}
use Rattle.net_rows.specs.declared.row.Issuer.{Issuer}
use Rattle.table_checker.specs.declared.refusal.Refusal.{Refusal}
use Rattle.table_checker.specs.declared.refusal.Refusal.TheVariants as refusals

-- the class of cards that begin with these digits: the longest that begins them
abbrev pub class_at : Network → List ℕ → Option (List ℕ)
class_at t digits = longest (λ p. p) (classes t) digits

-- the class that a refusal names, if it names one
abbrev pub named_class : Refusal → Option (List ℕ)
named_class (refusals.NoRank n class) = Some class
named_class (refusals.NotLess n class l) = Some class
named_class (refusals.NotNamed n class) = Some class
named_class (refusals.OverCeiling class sum ceiling) = Some class
named_class (refusals.NoIssuer n class) = Some class
named_class _ = None

abbrev pub first_prefix : Network → Option (List ℕ)
first_prefix t = option_map (λ (i : Issuer). i.prefix) (slice_get t.issuers 0)

-- for want of a prefix: the class of the verdict's refusal, or else the prefix of the first issuer
abbrev pub usual_class : Network → Option Refusal → Option (List ℕ)
usual_class t verdict = option_or (option_and_then named_class verdict) (first_prefix t)

abbrev pub shown_class : Network → Option Refusal → Option (List ℕ) → Option (List ℕ)
shown_class t verdict None = usual_class t verdict
shown_class t verdict (Some prefix) = class_at t prefix
