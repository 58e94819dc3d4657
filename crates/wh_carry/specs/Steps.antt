-- What a night reports of each expression.
use Rattle.std.specs.Prelude.{◌≡◌, ℕ, List, length, slice_get, Some}
use Rattle.wh_strategy.specs.declared.expression.Expression.{Expression}
use Rattle.wh_strategy.specs.Expression.{At}
use Rattle.wh_strategy.specs.Prices.{Prices}
use Rattle.wh_strategy.specs.declared.sizes.Size.{Size}
use Rattle.wh_strategy.specs.Work.{cost_at}
use Rattle.wh_row.specs.Bag.{Bag, size, difference_of}
use Rattle.wh_maint.specs.Size.{capped}

-- how many rows each view has before and after a night, and how many change
abbrev pub true_sizes : (ℕ → Bag) → (ℕ → Bag) → ℕ → Size
true_sizes old new u = record { pre = size (old u); post = size (new u); change = size (difference_of (new u) (old u)) }

-- each row counts 1, whether it is read or written
abbrev pub one_each : Prices
one_each = record { comp = 1; inst = 1 }

-- the rows of the expression at this place: its part of the work at the true sizes, each row counting 1, or 2^128 - 1 in place of more
abbrev pub rows_at : List (List ℕ) → List Expression → (ℕ → Bag) → (ℕ → Bag) → ℕ → ℕ
rows_at shape list old new place = capped (cost_at shape (true_sizes old new) one_each list place)

-- these are the expressions of the list in their order, each with its rows
pub record AreSteps (shape : List (List ℕ)) (list : List Expression) (old new : ℕ → Bag) (steps : List (Expression × ℕ)) : Type 0 where
  pub each : length steps ≡ length list
  pub rows : (place : ℕ) (e : Expression) → At list place e → slice_get steps place ≡ Some (e, rows_at shape list old new place)
