use Rattle.std.proofs.Common.{◌≡◌, ◌++◌, take}
use Rattle.wh_text_lines.specs.TreeText.{parted_text}
use Rattle.wh_text_lines.proofs.plan.tree.append_parted.Given as goal

abbrev pub invariant-loop-expression : goal.invariant-loop-expression
invariant-loop-expression l = l.out.items ≡ l.initial.out.items ++ parted_text l.names (take l.expression-index l.list)
