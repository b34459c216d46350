use Rattle.std.proofs.Common.{◌≡◌, map, take}
use Rattle.std.specs.List.{flat_map}
use Rattle.all_refusals.specs.Rows.{shown}
use Rattle.all_refusals.specs.Known.{list_of}
use Rattle.all_refusals.specs.Found.{Rule, refusals_at}
use Rattle.all_refusals.proofs.all.lists_along.Given as goal

-- those of the classes so far
abbrev pub invariant-loop-class : goal.invariant-loop-class
invariant-loop-class l = record {
  routes : l.routes.rows ≡ l.tables.routes;
  stand_ins : l.stand_ins.rows ≡ l.tables.stand_ins;
  lists : (rule : Rule) → map (shown l.tables) (list_of l.lists rule) ≡ flat_map (refusals_at l.tables l.cert rule) (take l.class-index l.all);
}
