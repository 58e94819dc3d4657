use Rattle.std.proofs.Common.{◌≡◌, ◌<◌, ◌≤◌, ℕ, length}
use Rattle.std.specs.Prelude.{slice_index}
use Rattle.wh_dag.specs.Level.{level_of}
use Rattle.wh_dag.proofs.level.levels.Given as goal

abbrev pub invariant-loop-view : goal.invariant-loop-view
invariant-loop-view l = record {
  counted : length l.levels.items ≡ l.view;
  each : (v : ℕ) → v < l.view → slice_index l.levels.items v ≡ level_of l.shape v;
  small : (v : ℕ) → v < l.view → slice_index l.levels.items v ≤ v;
}
