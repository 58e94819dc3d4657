-- Tables of what stands earlier than a place, for views below 64.
use Rattle.std.specs.Prelude.{◌≡◌, ℕ, ◌<◌, List, [], Bool, false, length, slice_index_or}
use Rattle.std.specs.List.{list_any}
use Rattle.wh_strategy.specs.declared.earlier.Tables.{Tables}
use Rattle.wh_strategy.specs.declared.expression.Expression.{Expression}
use Rattle.wh_strategy.specs.Tests.{is_installed, is_taken, reads}

-- these flags tell of each view whether one of these installs it
pub record TellsInstalled (flags : List Bool) (before : List Expression) : Type 0 where
  pub many : length flags ≡ 64
  pub told : (u : ℕ) → u < 64 → slice_index_or flags u false ≡ is_installed before u

-- these rows tell of each view and each source whether one of these is a Comp of the view from the source
pub record TellsTaken (rows : List (List Bool)) (before : List Expression) : Type 0 where
  pub many : length rows ≡ 64
  pub wide : (v : ℕ) → v < 64 → length (slice_index_or rows v []) ≡ 64
  pub told : (v u : ℕ) → v < 64 → u < 64 → slice_index_or (slice_index_or rows v []) u false ≡ is_taken before v u

-- these flags tell of each view whether one of these reads its changes
pub record TellsRead (flags : List Bool) (before : List Expression) : Type 0 where
  pub many : length flags ≡ 64
  pub told : (v : ℕ) → v < 64 → slice_index_or flags v false ≡ list_any (reads v) before

-- all tables tell of these
pub record Tells (tables : Tables) (before : List Expression) : Type 0 where
  pub installed : TellsInstalled tables.installed.flags before
  pub taken : TellsTaken tables.taken.rows before
  pub read : TellsRead tables.read.flags before
