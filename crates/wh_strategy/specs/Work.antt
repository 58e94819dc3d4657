-- The work of a strategy: what each expression reads and writes, summed over the list. It is meant for correct lists: of a Comp
-- with a source twice, or with one that is no child, the sums say nothing of use.
use Rattle.std.specs.Prelude.{ℕ, ◌+◌, ◌*◌, List, length, slice_get, Option, Some, None, if◌then◌else◌}
use Rattle.std.specs.List.{sum_by}
use Rattle.wh_dag.specs.Shape.{has, children_of}
use Rattle.wh_strategy.specs.declared.expression.Expression.{Expression}
use Rattle.wh_strategy.specs.declared.expression.Expression.TheVariants.{Comp, Inst}
use Rattle.wh_strategy.specs.Expression.{is_new}
use Rattle.wh_strategy.specs.Prices.{Prices}
use Rattle.wh_strategy.specs.declared.sizes.Size.{Size}
use Rattle.wh_strategy.specs.Sums.{sum_below, parts}

-- the size of the state of u at this place: the new one once its Inst stands earlier, else the old one
abbrev pub state : (ℕ → Size) → List Expression → ℕ → ℕ → ℕ
state sizes list place u = if is_new list place u then (sizes u).post else (sizes u).pre

-- what the term of a Comp for one part of its sources reads: the changes of the part, and the states of the view's other children
abbrev pub term : (ℕ → Size) → List Expression → ℕ → List ℕ → List ℕ → ℕ
term sizes list place children part = sum_by (λ u. if has part u then (sizes u).change else state sizes list place u) children

-- what the expression at this place reads as a Comp, over the non-empty parts of its sources
abbrev pub comp_rows : List (List ℕ) → (ℕ → Size) → List Expression → ℕ → Option Expression → ℕ
comp_rows shape sizes list place None = 0
comp_rows shape sizes list place (Some (Comp v ys)) = sum_by (term sizes list place (children_of shape v)) (parts ys)
comp_rows shape sizes list place (Some (Inst v)) = 0

-- what the expression writes as an Inst
abbrev pub inst_rows : (ℕ → Size) → Option Expression → ℕ
inst_rows sizes None = 0
inst_rows sizes (Some (Comp v ys)) = 0
inst_rows sizes (Some (Inst v)) = (sizes v).change

-- what the expression at this place costs
abbrev pub cost_at : List (List ℕ) → (ℕ → Size) → Prices → List Expression → ℕ → ℕ
cost_at shape sizes prices list place =
    prices.comp * comp_rows shape sizes list place (slice_get list place) + prices.inst * inst_rows sizes (slice_get list place)

-- the work of the list at these prices
abbrev pub work_of : List (List ℕ) → (ℕ → Size) → Prices → List Expression → ℕ
work_of shape sizes prices list = sum_below (cost_at shape sizes prices list) (length list)
