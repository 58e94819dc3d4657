-- Expressions and the places where they stand.
use Rattle.std.specs.Prelude.{◌≡◌, ◌≢◌, ℕ, List, [], take, slice_get, Some, Bool, false, ◌==◌}
use Rattle.std.specs.List.{list_any}
use Rattle.wh_strategy.specs.declared.expression.Expression.{Expression}
use Rattle.wh_strategy.specs.declared.expression.Expression.TheVariants.{Comp, Inst}

-- this expression stands at this place of the list, counted from 0
abbrev pub At : List Expression → ℕ → Expression → Type 0
At list place e = slice_get list place ≡ Some e

-- the expression is a Comp from some view
abbrev pub HasSources : Expression → Type 0
HasSources (Comp v ys) = ys ≢ []
HasSources (Inst v) = ⊥

-- the expression installs u
abbrev pub is_inst : ℕ → Expression → Bool
is_inst u (Comp v ys) = false
is_inst u (Inst v) = v == u

-- u is new at this place: its Inst stands earlier
unfoldable pub is_new : List Expression → ℕ → ℕ → Bool
is_new list place u = list_any (is_inst u) (take place list)
