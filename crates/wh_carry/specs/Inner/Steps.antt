-- What a night reports of each expression: what only proofs and private contracts use.
use Rattle.std.specs.Prelude.{◌≡◌, ℕ, ◌<◌, List, length, slice_get, Some}
use Rattle.wh_strategy.specs.declared.expression.Expression.{Expression}
use Rattle.wh_strategy.specs.Expression.{At}
use Rattle.wh_row.specs.Bag.{Bag}
use Rattle.wh_carry.specs.Steps.{rows_at}

-- so are the first of them
pub record AreFirstSteps (shape : List (List ℕ)) (list : List Expression) (old new : ℕ → Bag) (places : ℕ) (steps : List (Expression × ℕ)) : Type 0 where
  pub each : length steps ≡ places
  pub rows : (place : ℕ) (e : Expression) → place < places → At list place e → slice_get steps place ≡ Some (e, rows_at shape list old new place)
