-- The nodes of a graph as a program holds them, the edges between them as a test, and how often a node stands in a list.
use Rattle.std.specs.Prelude.{ℕ, ◌+◌, List, [], ◌∷◌, length, Bool, false, ◌&&◌, ◌||◌, ◌==◌, nat_lt, if◌then◌else◌}
use Rattle.wh_dag.specs.Shape.{has, children_of}
use Rattle.wh_strategy.specs.declared.expression.Expression.{Expression}
use Rattle.wh_strategy.specs.declared.expression.Expression.TheVariants.{Comp as comp, Inst as inst}
use Rattle.wh_cert.specs.Graph.{decides}
use Rattle.wh_minwork.specs.declared.node.Node.{Node}
use Rattle.wh_minwork.specs.declared.node.Node.TheVariants.{Comp, Inst}

-- the expression that the node stands for
abbrev pub expression_of : Node → Expression
expression_of (Comp v u) = comp v (u ∷ [])
expression_of (Inst v) = inst v

-- the two are the same node
abbrev pub same_node : Node → Node → Bool
same_node (Comp a b) (Comp c d) = (a == c) && (b == d)
same_node (Comp a b) (Inst c) = false
same_node (Inst a) (Comp c d) = false
same_node (Inst a) (Inst c) = a == c

-- the shape has the node: a Comp of a view from a child of it, or an Inst of a view
abbrev pub is_node : List (List ℕ) → Node → Bool
is_node shape (Comp v u) = has (children_of shape v) u
is_node shape (Inst v) = nat_lt v (length shape)

-- the first has to stand before the second, by the rules or by a decision
abbrev pub leads : List (List ℕ) → List (ℕ × ℕ) → Node → Node → Bool
leads shape decided (Comp v u) (Inst w) = (u == w) || (v == w)
leads shape decided (Inst u) (Comp v w) = has (children_of shape v) u && (has (children_of shape v) w && decides decided u w)
leads shape decided (Comp u x) (Comp v w) = w == u
leads shape decided (Inst u) (Inst w) = false

-- 1 where the test holds, else 0
abbrev pub one_if : Bool → ℕ
one_if b = if b then 1 else 0

-- 1 for the node itself, else 0
abbrev pub one : Node → Node → ℕ
one x e = one_if (same_node x e)

-- how often the node stands in the list
unfoldable pub times : Node → List Node → ℕ
times e [] = 0
times e (x ∷ xs) = one x e + times e xs
