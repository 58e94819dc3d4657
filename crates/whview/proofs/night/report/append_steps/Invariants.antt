use Rattle.std.proofs.Common.{◌≡◌, ◌++◌, take}
use Rattle.std.specs.Prelude.{flat_map}
use Rattle.whview.specs.NightOutput.{step_text}
use Rattle.whview.proofs.night.report.append_steps.Given as goal

abbrev pub invariant-loop-expression : goal.invariant-loop-expression
invariant-loop-expression l = l.out.items ≡ l.initial.out.items ++ flat_map (step_text l.names) (take l.expression-index l.steps)
