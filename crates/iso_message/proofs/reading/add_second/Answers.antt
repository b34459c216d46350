use Rattle.std.proofs.Common.{refl}
use Rattle.iso_message.specs.Elements.{with_all}
use Rattle.iso_message.proofs.Steps.{marks_none}
use Rattle.iso_message.proofs.reading.add_second.Goals as goal

pub returns-then-map-eq0 : goal.returns-then-map-eq0
unfolding with_all
returns-then-map-eq0 c = rw (c.if-map-eq0.true, marks_none 128) refl
