use Rattle.std.proofs.Common.{◌≡◌, ◌++◌, drop, length}
use Rattle.std.specs.Vec.Iter.{into_iter_items, into_iter_len}
use Rattle.wh_dag.specs.CatalogParts.{dealt_definitions}
use Rattle.wh_dag.proofs.dealt.definitions.Given as goal

abbrev pub invariant-loop-view : goal.invariant-loop-view
invariant-loop-view g l = record {
  all : l.dealt.items ++ dealt_definitions (drop l.view l.shape) (into_iter_items l.given) ≡ dealt_definitions l.shape l.fn.given.items;
  left : into_iter_len l.given ≡ length (into_iter_items l.given);
}
