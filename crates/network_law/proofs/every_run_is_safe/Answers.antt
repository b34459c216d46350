use Rattle.network_law.proofs.every_run_is_safe.Goals as goal
use Rattle.network_law.specs.Entries.{history}
use Rattle.network_law.proofs.Reading.{in_messages, read_run}
use Rattle.network_law.proofs.Chain.{OnePath_holds, OpenedByThatPut_holds}
use Rattle.network_law.proofs.Used.{NamedApprovers_holds}
use Rattle.network_law.proofs.Exposure.{WithinCeiling_holds}
use Rattle.network_law.proofs.Reversals.{NoRepeatReply_holds}
use Rattle.network_law.proofs.Covered.{AdvicesKept_holds}
use Rattle.network_law.proofs.Late.{LateApprovalsUndone_holds}
use Rattle.network_law.proofs.Approvals.{ApprovalsLead_holds}

pub returns-clause-safe : goal.returns-clause-safe
unfolding history
returns-clause-safe c t ranks traces sound ranked bounded run =
    let read = read_run t traces sound run in
    record {
      one_path = OnePath_holds t ranks (in_messages traces) read ranked sound;
      that_put = OpenedByThatPut_holds t ranks (in_messages traces) read ranked sound;
      named = NamedApprovers_holds t (in_messages traces) read bounded;
      ceiling = WithinCeiling_holds t (in_messages traces) read sound bounded;
      no_repeat_reply = NoRepeatReply_holds t ranks (in_messages traces) read ranked sound;
    }

pub returns-clause-covered : goal.returns-clause-covered
unfolding history
returns-clause-covered c t ranks traces sound ranked run =
    let read = read_run t traces sound run in
    record {
      advices = AdvicesKept_holds t ranks (in_messages traces) read ranked sound;
      late_approvals = LateApprovalsUndone_holds t (in_messages traces) read;
      approvals_lead = ApprovalsLead_holds t ranks (in_messages traces) read ranked sound;
    }
