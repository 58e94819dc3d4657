use Rattle.wh_dag.proofs.Marked.{IsMarked, IsTreeBelow}
use Rattle.wh_dag.proofs.kinds.is_tree.Given as goal

abbrev pub invariant-loop-view : goal.invariant-loop-view
invariant-loop-view l = record { marked : IsMarked l.shape l.taken l.view; tree : IsTreeBelow l.shape l.view }
