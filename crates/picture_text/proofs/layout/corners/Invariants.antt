use Rattle.std.proofs.Common.{◌≡◌, ◌++◌, drop}
use Rattle.picture_text.specs.Layout.{corners_from, corners_in}
use Rattle.picture_text.proofs.layout.corners.Given as goal

-- the corners so far, and those of the nodes that follow
abbrev pub invariant-loop-place : goal.invariant-loop-place
invariant-loop-place l = l.corners.items ++ corners_from l.columns l.place (drop l.place l.columns) ≡ corners_in l.columns
