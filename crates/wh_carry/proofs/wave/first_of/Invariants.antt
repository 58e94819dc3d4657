use Rattle.std.proofs.Common.{◌≡◌, ℕ, ◌<◌, true, Option, None, Some}
use Rattle.std.specs.Prelude.{slice_get}
use Rattle.wh_dag.specs.Shape.{has}
use Rattle.wh_carry.specs.declared.wave.Refusal.{Refusal}
use Rattle.wh_carry.proofs.wave.first_of.Given as goal

abbrev pub invariant-loop-view : goal.invariant-loop-view
invariant-loop-view l = (u : ℕ) (r : Option Refusal) → u < l.view → has l.views u ≡ true → slice_get l.refusals u ≡ Some r → r ≡ None
