use Rattle.std.proofs.Common.{◌≡◌, ℕ, ◌+◌, ◌≤◌, List, length, map}
use Rattle.std.specs.Prelude.{vec_len, vec_capacity}
use Rattle.iso_message.specs.Messages.{marks}
use Rattle.iso_message.specs.Spans.{IsLonger}
use Rattle.iso_message.specs.Spelling.{AreGood, pieces}
use Rattle.response_bytes.proofs.Steps.{IsOnWay}
use Rattle.response_bytes.proofs.response.push_kept.Given as goal

abbrev pub invariant-loop-left : goal.invariant-loop-left
invariant-loop-left l = record {
  order : l.from ≤ l.at;
  inside : l.at ≤ length l.body;
  longer : IsLonger l.fn.out.items l.out.items;
  capacity : vec_capacity l.fn.out ≤ vec_capacity l.out;
  room : vec_len l.out ≤ vec_len l.fn.out + l.from;
  on_way : (es : List (ℕ × List ℕ)) → AreGood es → map (λ e. e.0) es ≡ marks 64 64 l.fn.left → l.body ≡ pieces es → IsOnWay l.up_to es l.left l.body l.from l.at l.fn.out.items l.out.items;
}

abbrev pub decreases-loop-left : goal.decreases-loop-left
decreases-loop-left l = length (marks 64 64 l.left)
