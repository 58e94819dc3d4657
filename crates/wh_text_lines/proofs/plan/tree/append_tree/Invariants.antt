use Rattle.std.proofs.Common.{◌≡◌, ◌++◌, take}
use Rattle.wh_text_lines.specs.TreeText.{tree_text}
use Rattle.wh_text_lines.proofs.plan.tree.append_tree.Given as goal

abbrev pub invariant-loop-node : goal.invariant-loop-node
invariant-loop-node l = l.out.items ≡ l.initial.out.items ++ tree_text l.names (take l.node-index l.nodes)
