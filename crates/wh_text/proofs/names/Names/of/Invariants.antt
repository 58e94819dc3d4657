use Rattle.std.proofs.Common.{◌≡◌, take}
use Rattle.wh_dag.specs.Written.{texts}
use Rattle.wh_text.specs.Inner.Names.{IsIndex}
use Rattle.wh_text.proofs.names.Names.of.Given as goal

abbrev pub invariant-loop-view : goal.invariant-loop-view
invariant-loop-view l = (texts l.names.items ≡ take l.view l.shape.names) × IsIndex l.numbers (texts l.names.items)
