-- What is planned, and why nothing is.
use Rattle.std.specs.Prelude.{◌≡◌, ◌↔◌, ◌⊎◌, ℕ, ◌≤◌, List, length}
use Rattle.std.specs.List.{All}
use Rattle.wh_dag.specs.Kinds.{IsTree, IsUniform}
use Rattle.wh_strategy.specs.declared.expression.Expression.{Expression}
use Rattle.wh_strategy.specs.Prices.{Prices}
use Rattle.wh_strategy.specs.Rules.{IsCorrect, IsOneWay}
use Rattle.wh_strategy.specs.declared.sizes.Size.{Size}
use Rattle.wh_strategy.specs.Work.{work_of}
use Rattle.wh_cert.specs.Bound.{pair_bound_of}
use Rattle.wh_cert.specs.Certificate.{IsJudged}
use Rattle.wh_cert.specs.Graph.{IsCycle, IsOrdered}
use Rattle.wh_cert.specs.Search.{nodes_of}
use Rattle.wh_cert.specs.Tree.{tree_of}
use Rattle.wh_cert.specs.declared.certificate.Certificate.{Certificate}
use Rattle.wh_cert.specs.declared.certificate.Certificate.TheVariants.{Pairs, Search}
use Rattle.wh_cert.specs.declared.certificate.Scope.{Scope}
use Rattle.wh_cert.specs.declared.certificate.Scope.TheVariants as scope
use Rattle.wh_cert.specs.declared.certificate.Verdict.{Verdict}
use Rattle.wh_cert.specs.declared.certificate.Verdict.TheVariants as verdict
use Rattle.wh_minwork.specs.Plan.{IsAcyclicAsDesired, IsSortedAsDesired}
use Rattle.wh_prune.specs.Branching.{BranchesOnCycle}
use Rattle.wh_prune.specs.Spent.{IsSpent}
use Rattle.wh_prune.specs.declared.fault.PruneFault.{PruneFault}
use Rattle.wh_prune.specs.declared.fault.PruneFault.TheVariants.{Budget, Memory}

-- the verdict that a certificate of this scope is to have
abbrev pub accepted_for : Scope → Verdict
accepted_for scope.All = verdict.All
accepted_for scope.OneWay = verdict.OneWay

-- a tree has no more nodes than the budget says
abbrev pub IsWithinBudget : ℕ → Certificate → Type 0
IsWithinBudget budget (Pairs lines) = Unit {0}
IsWithinBudget budget (Search nodes) = length nodes ≤ budget

-- a tree branches on couples of cycles alone
abbrev pub HasBranchesOnCycles : List (List ℕ) → (ℕ → Size) → Certificate → Type 0
HasBranchesOnCycles shape sizes (Pairs lines) = Unit {0}
HasBranchesOnCycles shape sizes (Search nodes) = All (BranchesOnCycle shape sizes) (nodes_of (tree_of nodes))

-- the ordered graph has a cycle
abbrev pub IsCyclicAsDesired : List (List ℕ) → (ℕ → Size) → Type 0
IsCyclicAsDesired shape sizes = (decided : List (ℕ × ℕ)) × (cycle : List Expression) × IsOrdered shape sizes decided × IsCycle shape decided cycle

-- A plan of least work: its list is a correct one-way strategy of this work, and its certificate is accepted for its scope. The scope
-- is All exactly where the work is the pair bound; then no correct strategy costs less, with Comps of any width. In any case no one-way
-- strategy does. A tree branches on couples of cycles alone.
pub record IsLeastPlan (shape : List (List ℕ)) (sizes : ℕ → Size) (prices : Prices) (work : ℕ) (own : Scope) (list : List Expression) (certificate : Certificate) : Type 0 where
  pub correct : IsCorrect shape list
  pub one_way : IsOneWay list
  pub worked : work ≡ work_of shape sizes prices list
  pub all : own ≡ scope.All ↔ work ≡ pair_bound_of shape sizes prices
  pub accepted : IsJudged shape sizes prices work certificate (accepted_for own)
  pub branches : HasBranchesOnCycles shape sizes certificate
  pub least_of_all : own ≡ scope.All → (other : List Expression) → IsCorrect shape other → work ≤ work_of shape sizes prices other
  pub least_one_way : (other : List Expression) → IsCorrect shape other → IsOneWay other → work ≤ work_of shape sizes prices other

-- The scope and the list go by the ordered graph. Where that has no cycle the scope is All, and the list is sorted by it; so in a tree
-- and in a uniform shape, whatever the sizes. The scope is one-way only where it has one.
pub record GoesByOrder (shape : List (List ℕ)) (sizes : ℕ → Size) (own : Scope) (list : List Expression) : Type 0 where
  pub acyclic : IsAcyclicAsDesired shape sizes → own ≡ scope.All
  pub sorted : IsAcyclicAsDesired shape sizes → IsSortedAsDesired shape sizes list
  pub all_by_shape : (IsTree shape ⊎ IsUniform shape) → own ≡ scope.All
  pub cyclic : own ≡ scope.OneWay → IsCyclicAsDesired shape sizes

-- why a search has no plan: its budget was spent, or memory was refused
abbrev pub IsSearchReason : List (List ℕ) → (ℕ → Size) → Prices → ℕ → PruneFault → Type 0
IsSearchReason shape sizes prices budget (Budget opened best) = IsSpent shape sizes prices budget opened best
IsSearchReason shape sizes prices budget Memory = Unit {0}

-- why there is no plan: a search was needed, since the ordered graph has a cycle, and its budget was spent; or memory was refused
abbrev pub IsPlanReason : List (List ℕ) → (ℕ → Size) → Prices → ℕ → PruneFault → Type 0
IsPlanReason shape sizes prices budget (Budget opened best) = IsCyclicAsDesired shape sizes × IsSpent shape sizes prices budget opened best
IsPlanReason shape sizes prices budget Memory = Unit {0}
