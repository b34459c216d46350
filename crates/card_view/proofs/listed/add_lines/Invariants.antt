use Rattle.std.proofs.Common.{◌≡◌, ◌++◌, take}
use Rattle.card_view.specs.Listed.{refusals_text}
use Rattle.card_view.proofs.listed.add_lines.Given as goal

-- the lines so far
abbrev pub invariant-loop-refusal : goal.invariant-loop-refusal
invariant-loop-refusal l = l.text.items ≡ l.fn.text.items ++ refusals_text l.tables (take l.refusal-index l.found)
