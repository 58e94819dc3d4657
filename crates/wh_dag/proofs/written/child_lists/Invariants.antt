use Rattle.std.proofs.Common.{◌≡◌, take, drop, map}
use Rattle.wh_dag.specs.Lists.{lists_of}
use Rattle.wh_dag.specs.Written.{texts, written, children_written}
use Rattle.wh_dag.specs.Fault.{fault_from, first_fault}
use Rattle.wh_dag.proofs.written.child_lists.Given as goal

abbrev pub invariant-loop-view : goal.invariant-loop-view
invariant-loop-view l = record {
  lists : lists_of l.lists.items ≡ map (children_written (texts l.names)) (written (take l.view l.over));
  fault : fault_from (texts l.names) l.view (written (drop l.view l.over)) ≡ first_fault (texts l.names) (written l.over);
}
