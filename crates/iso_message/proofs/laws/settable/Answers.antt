use Rattle.message_elements.specs.Table.{form_of}
use Rattle.iso_message.specs.Spelling.{piece}
use Rattle.iso_message.proofs.Canonical.{piece_again}
use Rattle.iso_message.proofs.Good.{good}
use Rattle.iso_message.proofs.MessageLemmas.{settable, fits_again}
use Rattle.iso_message.proofs.laws.settable.Goals as goal

pub returns-clause-may_set : goal.returns-clause-may_set
returns-clause-may_set c n value bytes none = (piece (form_of n) value, piece_again (form_of n) value (settable n value bytes none).2)

pub returns-clause-only_so : goal.returns-clause-only_so
returns-clause-only_so c n value text p = fits_again (form_of n) n value (good (form_of n) value text p)
