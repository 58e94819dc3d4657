-- The pair bound: what the Comps of a night cost at least, pair by pair of the views that a view is over, and the Insts.
use Rattle.std.specs.Prelude.{ℕ, ◌+◌, ◌*◌, List, [], ◌∷◌, length, min, if◌then◌else◌}
use Rattle.std.specs.List.{sum_by}
use Rattle.wh_dag.specs.Shape.{children_of}
use Rattle.wh_strategy.specs.Prices.{Prices}
use Rattle.wh_strategy.specs.declared.sizes.Size.{Size}
use Rattle.wh_strategy.specs.Sums.{sum_below}
use Rattle.wh_cert.specs.Graph.{decides}

-- the sum of f over each two members of the list, the earlier one first
unfoldable pub sum_pairs : (ℕ → ℕ → ℕ) → List ℕ → ℕ
sum_pairs f [] = 0
sum_pairs f (u ∷ us) = sum_by (f u) us + sum_pairs f us

-- what a pair costs where u is installed first: the Comp from w reads the new u, and that from u the old w
abbrev pub in_order : (ℕ → Size) → ℕ → ℕ → ℕ
in_order sizes u w = (sizes w).pre + (sizes u).post

-- the pair minimum: the better of the two orders
abbrev pub pair_min : (ℕ → Size) → ℕ → ℕ → ℕ
pair_min sizes u w = min (in_order sizes u w) (in_order sizes w u)

-- the rows that the Comps of a view over these children read, where this is what each pair costs: their changes, and the pairs
abbrev pub rows_by : (ℕ → ℕ → ℕ) → (ℕ → Size) → List ℕ → ℕ
rows_by pair sizes children = sum_by (λ u. (sizes u).change) children + sum_pairs pair children

-- the cost of all views' Comps and Insts, where this is what each pair costs
abbrev pub cost_by : (ℕ → ℕ → ℕ) → List (List ℕ) → (ℕ → Size) → Prices → ℕ
cost_by pair shape sizes prices =
    prices.comp * sum_below (λ v. rows_by pair sizes (children_of shape v)) (length shape) + prices.inst * sum_below (λ v. (sizes v).change) (length shape)

-- the pair bound: each pair at its minimum
abbrev pub pair_bound_of : List (List ℕ) → (ℕ → Size) → Prices → ℕ
pair_bound_of shape sizes prices = cost_by (pair_min sizes) shape sizes prices

-- what a pair costs by these decisions: that of the decided order, or the minimum where neither order is decided
abbrev pub decided_value : (ℕ → Size) → List (ℕ × ℕ) → ℕ → ℕ → ℕ
decided_value sizes decided u w =
    if decides decided u w then in_order sizes u w
    else (if decides decided w u then in_order sizes w u else pair_min sizes u w)

-- the decided bound: the pair bound with each decided couple at its decision's value, under every common parent
abbrev pub decided_bound_of : List (List ℕ) → (ℕ → Size) → Prices → List (ℕ × ℕ) → ℕ
decided_bound_of shape sizes prices decided = cost_by (decided_value sizes decided) shape sizes prices
