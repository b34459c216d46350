use Rattle.rank_cert.proofs.LineFields.{is_like}
use Rattle.rank_cert.proofs.row.Spelled.rank_behind.Goals as goal

pub returns : goal.returns
returns c = rw (← c.self.view_is) (λ text name named.
    is_like text name c.args.behind.now c.self.inside.prefix c.self.inside.text.now c.in_ok-behind_word.field-0.now c.in_ok-rank.rest.now name c.in_ok-rank.rank
    named.cut named.is c.self.invariant c.in_ok-behind_word.ensures c.in_ok-rank.ensures)
