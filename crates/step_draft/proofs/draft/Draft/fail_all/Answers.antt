use Rattle.std.proofs.Common.{◌<◌, ◌≤◌, ◌∙◌, arith, length}
use Rattle.node_machine.specs.Lists.{row_fails, view}
use Rattle.node_machine.specs.Steps as steps
use Rattle.node_books.specs.Effects.{progress}
use Rattle.step_draft.specs.Failures.{cause_of, keys_at}
use Rattle.step_draft.proofs.FailingPlaces.{all_failed, failed_last, failed_more, failing_there, still_quiet}
use Rattle.step_draft.proofs.draft.Draft.fail_all.Goals as goal

pub fail_at-requires-clause-place : goal.fail_at-requires-clause-place
fail_at-requires-clause-place c =
    let x = c.args.self.now.base in
    let places = c.in_ok-places.places.items in
    let ok = c.in_ok-places.places.ok.0 in
    let less = c.loop-i-test.true in
    let end = c.len-i-end.ensures in
    let lt : c.loop-i.i < length places = omega (arith, ok, less, end) in
    failing_there (row_fails c.args.tables.now x.count (cause_of c.args.cause.now)) x c.loop-i.self.base places c.loop-i.i c.index.result.now c.in_ok-places.ensures.exact c.loop-i.invariant.base lt c.index.ensures

pub loop-i-preserved : goal.loop-i-preserved
loop-i-preserved c =
    let t = c.args.tables.now in
    let n = c.args.node in
    let x = c.args.self.now.base in
    let y = c.loop-i.self.base in
    let places = c.in_ok-places.places.items in
    let place = c.index.result.now in
    let ok = c.in_ok-places.places.ok.0 in
    let less = c.loop-i-test.true in
    let end = c.len-i-end.ensures in
    let lt : c.loop-i.i < length places = omega (arith, ok, less, end) in
    let step = c.in_ok-fail_at.ensures.ok in
    record {
      base = c.in_ok-fail_at.ensures.base ∙ c.loop-i.invariant.base;
      quiet = still_quiet t n x y place (progress c.loop-i.self) (progress c.fail_at.new.self) step c.loop-i.invariant.quiet;
      rest = failed_more t n x y places c.loop-i.i place (steps.fail_all t n (view t n x) (keys_at x.rows places) (progress c.args.self.now)) (progress c.loop-i.self) (progress c.fail_at.new.self) lt c.index.ensures c.loop-i.invariant.base step c.loop-i.invariant.rest;
    }

pub returns-clause-ok : goal.returns-clause-ok
returns-clause-ok c =
    let t = c.args.tables.now in
    let n = c.args.node in
    let x = c.args.self.now.base in
    let places = c.in_ok-places.places.items in
    let ok = c.in_ok-places.places.ok.0 in
    let past = c.loop-i-test.false in
    let end = c.len-i-end.ensures in
    let le : length places ≤ c.loop-i.i = omega (arith, ok, past, end) in
    all_failed t n x (cause_of c.args.cause.now) places (progress c.args.self.now) (progress c.loop-i.self) c.row_count.ensures.unique c.in_ok-places.ensures.exact
    (failed_last t n x places c.loop-i.i (steps.fail_all t n (view t n x) (keys_at x.rows places) (progress c.args.self.now)) (progress c.loop-i.self) le c.loop-i.invariant.rest)
