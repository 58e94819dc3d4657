-- What MinWork answers.
use Rattle.std.specs.Prelude.{ℕ, List}
use Rattle.wh_strategy.specs.declared.expression.Expression.{Expression}
use Rattle.wh_strategy.specs.declared.sizes.Size.{Size}
use Rattle.wh_cert.specs.Graph.{IsOrdered}
use Rattle.wh_minwork.specs.Sorted.{IsSorted, IsAcyclic, IsSimpleCycle}
use Rattle.wh_minwork.specs.declared.minwork.MinFault.{MinFault}
use Rattle.wh_minwork.specs.declared.minwork.MinFault.TheVariants.{Cyclic, Memory}

-- the list is sorted by the ordered graph, in which all couples are decided by the desired order
abbrev pub IsSortedAsDesired : List (List ℕ) → (ℕ → Size) → List Expression → Type 0
IsSortedAsDesired shape sizes list = (decided : List (ℕ × ℕ)) × IsOrdered shape sizes decided × IsSorted shape decided list

-- the ordered graph has no cycle, in whatever list its decisions are written
abbrev pub IsAcyclicAsDesired : List (List ℕ) → (ℕ → Size) → Type 0
IsAcyclicAsDesired shape sizes = (decided : List (ℕ × ℕ)) → IsOrdered shape sizes decided → IsAcyclic shape decided

-- why there is no plan: a simple cycle of the ordered graph, or want of memory
abbrev pub IsMinReason : List (List ℕ) → (ℕ → Size) → MinFault → Type 0
IsMinReason shape sizes (Cyclic cycle) = (decided : List (ℕ × ℕ)) × IsOrdered shape sizes decided × IsSimpleCycle shape decided cycle.items
IsMinReason shape sizes Memory = Unit {0}
