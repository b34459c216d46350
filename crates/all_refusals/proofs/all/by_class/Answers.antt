use Rattle.std.proofs.Common.{rules, ◌≡◌, map}
use Rattle.std.proofs.lemmas.Result.{IfOk-weaker}
use Rattle.net_rows.specs.Network.{classes}
use Rattle.all_refusals.specs.Rows.{shown}
use Rattle.all_refusals.specs.Known.{list_of}
use Rattle.all_refusals.specs.Found.{Rule, class_rules, of_rule}
use Rattle.all_refusals.proofs.Adding.{shown_each}
use Rattle.all_refusals.proofs.all.by_class.Goals as goal

pub returns : goal.returns
returns c =
    let t = c.args.tables.now in
    let all : c.deref.result.now ≡ classes t = search rules in
    let each : (rule : Rule) → map (shown t) (list_of c.in_ok-lists.lists rule) ≡ of_rule t c.args.cert.now rule = λ rule. rw all at (c.in_ok-lists.ensures rule) in
    IfOk-weaker c.joined.result _ _ (λ found is. rw is (shown_each t (list_of c.in_ok-lists.lists) (of_rule t c.args.cert.now) each class_rules)) c.joined.ensures
