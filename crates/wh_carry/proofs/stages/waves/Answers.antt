use Rattle.std.proofs.Common.{sym, ap, ◌∙◌, arith}
use Rattle.wh_carry.specs.Waves.{stages_of}
use Rattle.wh_carry.proofs.StageLists.{all_taken}
use Rattle.wh_carry.proofs.stages.waves.Goals as goal

pub returns-clause-stages : goal.returns-clause-stages
returns-clause-stages c =
    let list = c.as_slice-list.result.now in
    c.in_ok-end_wave.ensures.ended
    ∙ sym (all_taken c.loop-expression.stages.items c.loop-expression.jobs.items c.loop-expression.expression-index list (omega arith))
    ∙ c.loop-expression.invariant.whole
    ∙ ap stages_of (c.as_slice-list.ensures ∙ c.strategy.ensures.list)
