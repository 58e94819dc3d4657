use Rattle.std.proofs.Common.{◌≡◌, ◌≤◌, drop, length, map, max}
use Rattle.std.specs.Prelude.{slice_index}
use Rattle.wh_dag.specs.Level.{level_over}
use Rattle.wh_dag.proofs.level.level_above.Given as goal

abbrev pub invariant-loop-child : goal.invariant-loop-child
invariant-loop-child l = record {
  level : max l.level (level_over (map (slice_index l.levels) (drop l.child-index l.own))) ≡ level_over (map (slice_index l.levels) l.own);
  small : l.level ≤ length l.levels;
}
