use Rattle.std.proofs.Common.{◌≡◌, ◌++◌, take}
use Rattle.refusals_json.specs.ListedJson.{refusals_json}
use Rattle.refusals_json.proofs.listed_json.add_refusals.Given as goal

-- the lines so far
abbrev pub invariant-loop-refusal : goal.invariant-loop-refusal
invariant-loop-refusal l = l.text.items ≡ l.fn.text.items ++ refusals_json l.tables (take l.refusal-index l.found)
