use Rattle.std.proofs.Common.{◌≡◌, ◌<◌, ℕ, Some}
use Rattle.std.specs.Prelude.{slice_get}
use Rattle.wh_strategy.specs.declared.sizes.SizeRow.{SizeRow}
use Rattle.wh_strategy.specs.Sizes.{IsSizeRow}
use Rattle.wh_strategy.proofs.sizes.Sizes.new.Given as goal

abbrev pub invariant-loop-view : goal.invariant-loop-view
invariant-loop-view l = (u : ℕ) (row : SizeRow) → u < l.view → slice_get l.row-items u ≡ Some row → IsSizeRow row
