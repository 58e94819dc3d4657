use Rattle.std.proofs.Common.{◌≡◌, ◌<◌, ℕ, Some}
use Rattle.std.specs.Prelude.{slice_get}
use Rattle.wh_strategy.specs.declared.rule.Rule.{Rule}
use Rattle.wh_strategy.specs.Tests.{Passes}
use Rattle.wh_strategy.proofs.correct.first_of.Given as goal

abbrev pub invariant-loop-rule : goal.invariant-loop-rule
invariant-loop-rule l = (k : ℕ) (r : Rule) → k < l.rule-index → slice_get l.rules k ≡ Some r → Passes l.children l.list r
