use Rattle.table_checker.proofs.Codes.{set_known}
use Rattle.table_checker.specs.Known.{AreKnown}
use Rattle.table_checker.proofs.class.At.look_up.Goals as goal

pub returns-clause-known : goal.returns-clause-known
returns-clause-known c =
    let kept : AreKnown c.args.self.now c.found_rank-rank.new.known.ranks = rw c.found_rank-rank.ensures.ranks c.requires.known.ranks in
    record {
      ranks = rw c.add.ensures.ranks (set_known c.args.self.now c.found_rank-rank.new.known.ranks c.args.node _ kept (rw (← c.found_rank-rank.ensures.rank) c.add.ensures.code));
      falling = c.add.ensures.falling c.args.self.now.tables.now (rw (c.found_rank-rank.ensures.ranks, c.found_rank-rank.ensures.falling) c.requires.known.falling);
    }
