-- A tree of a plan as text: a line for each node, in preorder.
use Rattle.std.specs.Prelude.{◌++◌, ℕ, List, [], ◌∷◌, codes}
use Rattle.std.specs.List.{flat_map, join_with_byte}
use Rattle.wh_cert.specs.declared.tree.TreeNode.{TreeNode}
use Rattle.wh_cert.specs.declared.tree.TreeNode.TheVariants.{Bound, Cycle, Branch}
use Rattle.wh_dag.specs.Written.{name_of}
use Rattle.wh_dag.specs.declared.siblings.Couple.{Couple}
use Rattle.wh_text_lines.specs.ExpressionText.{expression_text}
use Rattle.wh_strategy.specs.declared.expression.Expression.{Expression}

-- the expressions of a cycle after its first one, each parted from the one before
abbrev pub parted_text : List (List ℕ) → List Expression → List ℕ
parted_text names list = flat_map (λ expression. codes "; " ++ expression_text names expression) list

-- the words of a cycle: `cycle E; E; ..`
abbrev pub cycle_text : List (List ℕ) → List Expression → List ℕ
cycle_text names [] = codes "cycle"
cycle_text names (first ∷ rest) = codes "cycle " ++ (expression_text names first ++ parted_text names rest)

-- the words of a branch: `branch U W`; a number that is no view's has no name
abbrev pub branch_words : List (List ℕ) → Couple → List (List ℕ)
branch_words names couple = codes "branch" ∷ name_of names couple.lower ∷ name_of names couple.higher ∷ []

-- a node as it is written, without its LF
abbrev pub node_text : List (List ℕ) → TreeNode → List ℕ
node_text names Bound = codes "bound"
node_text names (Cycle list) = cycle_text names list
node_text names (Branch couple) = join_with_byte 32 (branch_words names couple)

-- the nodes of a tree as they are written: a line for each
abbrev pub tree_text : List (List ℕ) → List TreeNode → List ℕ
tree_text names nodes = flat_map (λ node. node_text names node ++ 10 ∷ []) nodes
