use Rattle.std.proofs.Common.{◌≡◌, ◌++◌, drop}
use Rattle.wh_dialogue.specs.Said.{size_lines}
use Rattle.wh_dialogue.proofs.tables.append_sizes.Given as goal

abbrev pub invariant-loop-view : goal.invariant-loop-view
invariant-loop-view l = l.out.items ++ size_lines (drop l.view l.names) (drop l.view l.sizes) ≡ l.initial.out.items ++ size_lines l.names l.sizes
