-- The elements that a made message carries of another.
use Rattle.std.specs.Prelude.{ℕ, List}
use Rattle.iso_message.specs.declared.carried.Carried.{Carried}
use Rattle.iso_message.specs.declared.carried.Carried.TheVariants.{Response, Advice}
use Rattle.iso_message.specs.Made.{response_numbers, advice_numbers}

abbrev pub carried_numbers : Carried → List ℕ
carried_numbers Response = response_numbers
carried_numbers Advice = advice_numbers
