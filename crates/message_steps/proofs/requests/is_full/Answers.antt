use Rattle.message_steps.proofs.Requested.{two_more}
use Rattle.message_steps.proofs.requests.is_full.Goals as goal

pub returns : goal.returns
returns c t n = rw (← c.books.ensures) (two_more t n c.books.result.now.lists c.load.result (c.load.ensures t n))
