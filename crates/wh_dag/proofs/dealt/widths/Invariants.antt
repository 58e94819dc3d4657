use Rattle.std.proofs.Common.{◌≡◌, ◌++◌, drop, length}
use Rattle.std.specs.Vec.Iter.{into_iter_items, into_iter_len}
use Rattle.wh_dag.specs.CatalogParts.{dealt_widths}
use Rattle.wh_dag.proofs.dealt.widths.Given as goal

abbrev pub invariant-loop-definition : goal.invariant-loop-definition
invariant-loop-definition g l = record {
  all : l.dealt.items ++ dealt_widths (drop l.definition-index l.definitions) (into_iter_items l.given) ≡ dealt_widths l.definitions l.fn.given.items;
  left : into_iter_len l.given ≡ length (into_iter_items l.given);
}
