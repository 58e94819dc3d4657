use Rattle.std.proofs.Common.{◌≡◌, ℕ, take}
use Rattle.wh_dag.specs.Siblings.{have_parent}
use Rattle.wh_cert.specs.Relations.{related}
use Rattle.wh_cert.proofs.relation.Relation.of_siblings.Given as goal

abbrev pub invariant-loop-view : goal.invariant-loop-view
invariant-loop-view l = (a b : ℕ) → related l.siblings a b ≡ have_parent (take l.view l.children) a b
