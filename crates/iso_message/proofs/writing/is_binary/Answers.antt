use Rattle.std.proofs.Common.{ℕ, Bool, ◌||◌, eqb, refl}
use Rattle.std.proofs.lemmas.Bool.{agree_below_at}
use Rattle.message_elements.specs.Table.{form_of}
use Rattle.iso_message.specs.Spelling.{is_binary}
use Rattle.iso_message.proofs.writing.is_binary.Goals as goal

is_one_of_three : ℕ → Bool
is_one_of_three n = eqb n 52 || eqb n 64 || eqb n 128

pub returns : goal.returns
unfolding is_one_of_three form_of
returns c = agree_below_at is_one_of_three (λ n. is_binary (form_of n)) 256 c.args.number refl c.ranges.number.fits
