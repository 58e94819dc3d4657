-- What a sorted list of a graph is, and why a graph was not sorted.
use Rattle.std.specs.Prelude.{◌≡◌, ℕ, ◌<◌, List}
use Rattle.wh_strategy.specs.declared.expression.Expression.{Expression}
use Rattle.wh_strategy.specs.Expression.{At}
use Rattle.wh_cert.specs.Graph.{IsNode, HasEdge, IsCycle}
use Rattle.wh_minwork.specs.declared.graph.SortFault.{SortFault}
use Rattle.wh_minwork.specs.declared.graph.SortFault.TheVariants.{Cycle, Memory}

-- each node of the graph stands once in the list, nothing else does, and each edge leads forward
pub record IsSorted (shape : List (List ℕ)) (decided : List (ℕ × ℕ)) (list : List Expression) : Type 0 where
  pub nodes : (p : ℕ) (e : Expression) → At list p e → IsNode shape e
  pub once : (p q : ℕ) (e : Expression) → At list p e → At list q e → p ≡ q
  pub all : (e : Expression) → IsNode shape e → (p : ℕ) × At list p e
  pub forward : (p q : ℕ) (x y : Expression) → At list p x → At list q y → HasEdge shape decided x y → p < q

-- the graph has no cycle
abbrev pub IsAcyclic : List (List ℕ) → List (ℕ × ℕ) → Type 0
IsAcyclic shape decided = (cycle : List Expression) → IsCycle shape decided cycle → ⊥

-- a simple cycle: a cycle in which no expression stands twice
pub record IsSimpleCycle (shape : List (List ℕ)) (decided : List (ℕ × ℕ)) (list : List Expression) : Type 0 where
  pub cycle : IsCycle shape decided list
  pub once : (p q : ℕ) (e : Expression) → At list p e → At list q e → p ≡ q

-- why a graph was not sorted: a simple cycle of it, or want of memory
abbrev pub IsUnsorted : List (List ℕ) → List (ℕ × ℕ) → SortFault → Type 0
IsUnsorted shape decided (Cycle cycle) = IsSimpleCycle shape decided cycle.items
IsUnsorted shape decided Memory = Unit {0}
