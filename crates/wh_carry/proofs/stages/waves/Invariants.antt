use Rattle.std.proofs.Common.{◌≡◌, [], ◌++◌, drop}
use Rattle.wh_carry.specs.Waves.{stages_after, stages_of}
use Rattle.wh_carry.proofs.stages.waves.Given as goal

abbrev pub invariant-loop-expression : goal.invariant-loop-expression
invariant-loop-expression l =
    record {
      whole : l.stages.items ++ stages_after l.jobs.items (drop l.expression-index l.list) ≡ stages_of l.list;
      none : l.list ≡ [] → l.jobs.items ≡ [];
    }
