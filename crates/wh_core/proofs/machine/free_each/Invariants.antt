use Rattle.std.proofs.Common.{◌≡◌, ℕ, ◌<◌}
use Rattle.std.specs.Prelude.{Some, None, slice_get}
use Rattle.wh_core.proofs.machine.free_each.Given as goal

abbrev pub invariant-loop-holder : goal.invariant-loop-holder
invariant-loop-holder l = (k : ℕ) → k < l.holder-index → slice_get l.holders k ≡ Some None
