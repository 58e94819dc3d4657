use Rattle.std.proofs.Common.{◌≡◌, [], take, drop}
use Rattle.wh_dag.specs.Written.{texts, numbers_of}
use Rattle.wh_dag.specs.Fault.{children_fault}
use Rattle.wh_dag.proofs.written.numbers.Given as goal

abbrev pub invariant-loop-place : goal.invariant-loop-place
invariant-loop-place l = record {
  numbers : l.own.items ≡ numbers_of (texts l.names) (texts (take l.place l.children));
  fault : children_fault (texts l.names) l.view (texts (take l.place l.children)) (texts (drop l.place l.children)) ≡ children_fault (texts l.names) l.view [] (texts l.children);
}
