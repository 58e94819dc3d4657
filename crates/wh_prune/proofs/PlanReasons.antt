-- Why there is no plan, from what MinWork and the search answered.
use Rattle.std.proofs.Common.{Global, ◌≡◌, ◌⊎◌, ℕ, List}
use Rattle.wh_dag.specs.Kinds.{IsTree, IsUniform}
use Rattle.wh_strategy.specs.Prices.{Prices}
use Rattle.wh_strategy.specs.declared.expression.Expression.{Expression}
use Rattle.wh_strategy.specs.declared.sizes.Size.{Size}
use Rattle.wh_cert.specs.declared.certificate.Scope.{Scope}
use Rattle.wh_minwork.specs.Plan.{IsMinReason}
use Rattle.wh_minwork.specs.declared.minwork.MinFault.{MinFault}
use Rattle.wh_minwork.specs.declared.minwork.MinFault.TheVariants as min
use Rattle.wh_prune.specs.Plan.{GoesByOrder, IsPlanReason, IsSearchReason}
use Rattle.wh_prune.specs.declared.fault.PruneFault.{PruneFault}
use Rattle.wh_prune.specs.declared.fault.PruneFault.TheVariants.{Budget, Memory}
use Rattle.std.specs.Prelude.{Vec}

-- a search that MinWork's cycle asked for
pub plan_reason : (shape : List (List ℕ)) (sizes : ℕ → Size) (prices : Prices) (budget : ℕ) (cycle : Vec Expression Global) (fault : PruneFault)
    → IsMinReason shape sizes (min.Cyclic cycle) → IsSearchReason shape sizes prices budget fault → IsPlanReason shape sizes prices budget fault
plan_reason shape sizes prices budget cycle (Budget opened best) m s = ((m.0, cycle.items, m.1, m.2.cycle), s)
plan_reason shape sizes prices budget cycle Memory m s = tt

-- a cycle is no want of memory
pub not_memory : (cycle : Vec Expression Global) → ◌≡◌ {A = MinFault} (min.Cyclic cycle) min.Memory → ⊥
not_memory cycle e = cc

-- a plan where MinWork met a cycle
pub by_cycle : (shape : List (List ℕ)) (sizes : ℕ → Size) (cycle : Vec Expression Global) (own : Scope) (list : List Expression) → IsMinReason shape sizes (min.Cyclic cycle)
    → ((IsTree shape ⊎ IsUniform shape) → ◌≡◌ {A = MinFault} (min.Cyclic cycle) min.Memory) → GoesByOrder shape sizes own list
by_cycle shape sizes cycle own list m never = record {
  acyclic = λ none. absurd (none m.0 m.1 cycle.items m.2.cycle);
  sorted = λ none. absurd (none m.0 m.1 cycle.items m.2.cycle);
  all_by_shape = λ kind. absurd (not_memory cycle (never kind));
  cyclic = λ _. (m.0, cycle.items, m.1, m.2.cycle);
}
