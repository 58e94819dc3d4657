use Rattle.std.proofs.Common.{sym, ap, subst, ◌∙◌, ◌++◌, ◌∷◌}
use Rattle.wh_carry.specs.Kept.{kept}
use Rattle.wh_carry.specs.declared.stages.Stage.TheVariants as stage
use Rattle.wh_carry.specs.Standing.{IsStageIn}
use Rattle.wh_carry.specs.Inner.Standing.{GoesPast}
use Rattle.wh_carry.proofs.course.stage_of.Goals as goal

pub wave_part-requires-clause-jobs : goal.wave_part-requires-clause-jobs
wave_part-requires-clause-jobs g c κs within =
    subst (λ jobs. IsStageIn c.args.catalog.now (stage.Wave jobs)) (sym c.as_slice.ensures) (subst (IsStageIn c.args.catalog.now) c.in-Wave.is c.requires.stage)

pub returns-in_ok-goes-in-Wave-clause-goes : goal.returns-in_ok-goes-in-Wave-clause-goes
returns-in_ok-goes-in-Wave-clause-goes g c = λ n before after same keys split stands.
    let is = c.in-Wave.is ∙ ap stage.Wave (sym c.as_slice.ensures) in
    subst (λ x. GoesPast n before x after c.in_ok-goes-in-Wave.goes (kept c.args.state.now) (kept c.wave_part.new.state) c.args.course.now c.wave_part.new.course) (sym is)
    (c.in_ok-goes-in-Wave.ensures.goes n before after same (split ∙ ap (λ x. before ++ x ∷ after) is) stands)

pub returns-in_ok-goes-in-Inst-clause-goes : goal.returns-in_ok-goes-in-Inst-clause-goes
returns-in_ok-goes-in-Inst-clause-goes g c = λ n before after same keys split stands.
    subst (λ x. GoesPast n before x after c.in_ok-goes-in-Inst.goes (kept c.args.state.now) (kept c.inst_part.new.state) c.args.course.now c.inst_part.new.course) (sym c.in-Inst.is)
    (c.in_ok-goes-in-Inst.ensures.goes n before after same keys (split ∙ ap (λ x. before ++ x ∷ after) c.in-Inst.is) stands)
