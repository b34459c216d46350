use Rattle.std.proofs.Common.{◌≡◌, Err, rules}
use Rattle.element_spans.specs.declared.finding.LocateFault.TheVariants.{TooFewPlaces}
use Rattle.card_switch_c.proofs.messages.cs_message_read.Goals as goal

pub returns-in-Err-TooFewPlaces-clause-few : goal.returns-in-Err-TooFewPlaces-clause-few
returns-in-Err-TooFewPlaces-clause-few c = λ e.
    let here : c.locate.result ≡ Err (TooFewPlaces c.in-Err-TooFewPlaces.count) = search rules in
    (c.locate.ensures.places c.in-Err-TooFewPlaces.count here).1
