use Rattle.std.proofs.Common.{◌≡◌, ℕ, sym, ap, ◌∙◌, List, [], ◌∷◌, ◌++◌}
use Rattle.std.specs.Global.{Vec}
use Rattle.wh_strategy.specs.declared.expression.Expression.TheVariants.{Comp}
use Rattle.wh_carry.specs.declared.stages.Job.{Job}
use Rattle.wh_carry.specs.declared.stages.Stage.{Stage}
use Rattle.wh_carry.specs.declared.stages.Stage.TheVariants as stage
use Rattle.wh_carry.specs.Waves.{is_target_among, stages_after}
use Rattle.wh_carry.proofs.StageLists.{inst_next, comp_after, comp_within}
use Rattle.wh_carry.proofs.stages.add_expression.Goals.{then-reads_target+in_ok-end_wave-in-Comp, else-reads_target}
use Rattle.wh_carry.proofs.stages.add_expression.Goals as goal

pub returns-in_ok-push-in-Inst : goal.returns-in_ok-push-in-Inst
returns-in_ok-push-in-Inst c = λ rest.
    let old : List Stage = c.args.stages.now.items in
    let jobs : List Job = c.args.jobs.now.items in
    let v = c.in-Inst.view in
    let ended = c.in_ok-end_wave-in-Inst.ensures in
    (λ i. ((c.in_ok-push-in-Inst.ensures.items ∙ ap (λ ss. ss ++ stage.Inst v ∷ []) ended.ended) i) ++ stages_after (ended.none_open i) rest)
    ∙ inst_next old jobs v rest
    ∙ ap (λ e. old ++ stages_after jobs (e ∷ rest)) (sym c.in-Inst.is)

pub returns-in_ok-push-in-Comp : goal.returns-in_ok-push-in-Comp
returns-in_ok-push-in-Comp c = λ rest.
    let old : List Stage = c.args.stages.now.items in
    let jobs : List Job = c.args.jobs.now.items in
    let v = c.in-Comp.view in
    let ys : List ℕ = c.in-Comp.from in
    let target : is_target_among ys jobs ≡ c.reads_target.result = sym (c.reads_target.ensures ∙ (λ i. is_target_among (c.as_slice.ensures i) (c.as_slice-in-Comp.ensures.value i))) in
    let now : List Job → List Job = λ js. js ++ record { view = v; from = ys } ∷ [] in
    let pushed : c.push-in-Comp.new.self.items ≡ now c.if-reads_target.jobs.items = c.in_ok-push-in-Comp.ensures.items ∙ ap (λ f. c.if-reads_target.jobs.items ++ record { view = v; from = f } ∷ []) c.in_ok-from-in-Comp.ensures.copy in
    let ended = λ (done : c.if-reads_target.stages.items ++ stages_after (now c.if-reads_target.jobs.items) rest ≡ old ++ stages_after jobs (Comp v ys ∷ rest)).
    ap (λ js. c.if-reads_target.stages.items ++ stages_after js rest) pushed ∙ done ∙ ap (λ e. old ++ stages_after jobs (e ∷ rest)) (sym c.in-Comp.is) in
    elim c.if-reads_target.branch [
      | then-reads_target+in_ok-end_wave-in-Comp w ↦
          let over = w.in_ok-end_wave-in-Comp.ensures in
          ended ((λ i. (ap (λ (x : Vec Stage). x.items) w.stages-is ∙ over.ended) i ++ stages_after (now ((ap (λ (x : Vec Job). x.items) w.jobs-is ∙ over.none_open) i)) rest) ∙ comp_after old jobs v ys rest (target ∙ w.if-reads_target.true))
      | else-reads_target w ↦
          ended ((λ i. (w.stages-is i).items ++ stages_after (now (w.jobs-is i).items) rest) ∙ comp_within old jobs v ys rest (target ∙ w.if-reads_target.false))
    ]
