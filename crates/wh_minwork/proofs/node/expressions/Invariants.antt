use Rattle.std.proofs.Common.{◌≡◌, map, take}
use Rattle.wh_minwork.specs.Inner.Nodes.{expression_of}
use Rattle.wh_minwork.proofs.node.expressions.Given as goal

abbrev pub invariant-loop-node : goal.invariant-loop-node
invariant-loop-node l = l.list.items ≡ map expression_of (take l.node-index l.nodes)
