-- What a sort answers, in words of the graph that its sets tell of.
use Rattle.std.specs.Prelude.{ℕ, List, map}
use Rattle.wh_minwork.specs.Inner.Left.{IsRound}
use Rattle.wh_minwork.specs.Inner.Nodes.{expression_of, is_node, leads}
use Rattle.wh_minwork.specs.Sorted.{IsSorted, IsSimpleCycle}
use Rattle.wh_minwork.specs.declared.node.Node.{Node}
use Rattle.wh_minwork.specs.declared.sort.Sorting.{Sorting}
use Rattle.wh_minwork.specs.declared.sort.Sorting.TheVariants.{Order, Round}

-- a cycle of nodes, none of which stands twice in it
pub record IsSimpleRound (shape : List (List ℕ)) (decided : List (ℕ × ℕ)) (nodes : List Node) : Type 0 where
  pub round : IsRound (leads shape decided) (is_node shape) nodes
  pub simple : IsSimpleCycle shape decided (map expression_of nodes)

-- all nodes, sorted, or a cycle of them
abbrev pub IsSorting : List (List ℕ) → List (ℕ × ℕ) → Sorting → Type 0
IsSorting shape decided (Order nodes) = IsSorted shape decided (map expression_of nodes.items)
IsSorting shape decided (Round nodes) = IsSimpleRound shape decided nodes.items
