use Rattle.std.proofs.Common.{◌≡◌, sym, ap, subst, ◌∙◌, ◌++◌, ◌∷◌, []}
use Rattle.std.specs.Prelude.{IfSome}
use Rattle.wh_carry.specs.Kept.{kept}
use Rattle.wh_carry.specs.declared.stages.Stage.TheVariants as stage
use Rattle.wh_carry.specs.Stages.{place_behind}
use Rattle.wh_carry.specs.Standing.{IsStageIn}
use Rattle.wh_night.specs.Inner.Underway.{CanPublish, IsAt, night_given}
use Rattle.wh_night.proofs.Outs.{if_err, on_four, on_ok}
use Rattle.wh_night.proofs.StageByStage.{inst_goes, inst_stops, its_wave, wave_goes, wave_stops}
use Rattle.wh_night.proofs.stages.stage_of.Goals as goal

pub wave-requires-clause-jobs : goal.wave-requires-clause-jobs
wave-requires-clause-jobs g c κs within =
    subst (λ jobs. IsStageIn c.args.asked.now.catalog.now (stage.Wave jobs)) (sym c.as_slice.ensures) (subst (IsStageIn c.args.asked.now.catalog.now) c.in-Wave.is c.requires.stage)

pub returns-in-Wave-clause-goes : goal.returns-in-Wave-clause-goes
returns-in-Wave-clause-goes g c =
    on_ok _ _ c.wave.result
    (λ goes t before after split here.
    let n = night_given c.args.asked.now.catalog.now (g.O.Outlet.keys c.args.outlet.now) t in
    let m = g.O.Outlet.kept c.args.writer.now in
    let is : c.args.stage.now ≡ stage.Wave c.as_slice.result.now = c.in-Wave.is ∙ ap stage.Wave (sym c.as_slice.ensures) in
    let split_so = split ∙ ap (λ x. before ++ x ∷ after) is in
    subst (λ x. IsAt n t.before (place_behind (before ++ x ∷ [])) (kept c.wave.new.progress.state) c.wave.new.progress.steps.items m) (sym is)
    (wave_goes n t.before m before after (kept c.args.progress.now.state) c.args.progress.now.steps.items here c.as_slice.result.now split_so (kept c.wave.new.progress.state) c.wave.new.progress.steps.items
    (goes (g.O.Outlet.keys c.args.outlet.now) (place_behind before) t (its_wave n t.before m before after (kept c.args.progress.now.state) c.args.progress.now.steps.items here c.as_slice.result.now split_so) here.come)))
    c.wave.ensures.goes

pub returns-in-Wave-clause-stops : goal.returns-in-Wave-clause-stops
returns-in-Wave-clause-stops g c =
    if_err _ _ c.wave.result
    (λ fault refused t before after split here.
    let n = night_given c.args.asked.now.catalog.now (g.O.Outlet.keys c.args.outlet.now) t in
    let m = g.O.Outlet.kept c.args.writer.now in
    let is : c.args.stage.now ≡ stage.Wave c.as_slice.result.now = c.in-Wave.is ∙ ap stage.Wave (sym c.as_slice.ensures) in
    let split_so = split ∙ ap (λ x. before ++ x ∷ after) is in
    wave_stops n t.before m before after (kept c.args.progress.now.state) c.args.progress.now.steps.items here c.as_slice.result.now split_so fault
    (refused (g.O.Outlet.keys c.args.outlet.now) (place_behind before) t (its_wave n t.before m before after (kept c.args.progress.now.state) c.args.progress.now.steps.items here c.as_slice.result.now split_so) here.come))
    c.wave.ensures.refused

pub returns-in-Inst-clause-goes : goal.returns-in-Inst-clause-goes
returns-in-Inst-clause-goes g c =
    on_four _ _ _ _ _ c.inst.result
    (λ passed done report out t before after split here.
    let n = night_given c.args.asked.now.catalog.now (g.O.Outlet.keys c.args.outlet.now) t in
    let split_so = split ∙ ap (λ x. before ++ x ∷ after) c.in-Inst.is in
    subst (λ x. IsAt n t.before (place_behind (before ++ x ∷ [])) (kept c.inst.new.progress.state) c.inst.new.progress.steps.items (g.O.Outlet.kept c.inst.new.writer)) (sym c.in-Inst.is)
    (inst_goes n t.before (g.O.Outlet.kept c.args.writer.now) before after (kept c.args.progress.now.state) c.args.progress.now.steps.items here c.in-Inst.view split_so (kept c.inst.new.progress.state) c.inst.new.progress.steps.items (g.O.Outlet.kept c.inst.new.writer)
    passed done report out))
    c.inst.ensures.passed c.inst.ensures.done c.inst.ensures.reported c.inst.ensures.out

pub returns-in-Inst-clause-stops : goal.returns-in-Inst-clause-stops
returns-in-Inst-clause-stops g c =
    if_err _ _ c.inst.result
    (λ fault stopped t before after split here.
    inst_stops (night_given c.args.asked.now.catalog.now (g.O.Outlet.keys c.args.outlet.now) t) t.before (g.O.Outlet.kept c.args.writer.now) before after (kept c.args.progress.now.state) c.args.progress.now.steps.items here c.in-Inst.view
    (split ∙ ap (λ x. before ++ x ∷ after) c.in-Inst.is) fault (g.O.Outlet.kept c.inst.new.writer) stopped)
    c.inst.ensures.err

pub inst-requires-clause-publishes : goal.inst-requires-clause-publishes
inst-requires-clause-publishes g c κs within =
    subst (λ x. IfSome (g.O.Outlet.kept c.args.writer.now) (CanPublish c.args.asked.now.catalog.now x (kept c.args.progress.now.state))) c.in-Inst.is c.requires.publishes
