use Rattle.std.proofs.Common.{◌≡◌, refl, sym, ap, subst, ◌∙◌, ℕ, suc, ◌+◌, List, [], ◌∷◌, ◌++◌, take, drop, length, Some, arith}
use Rattle.std.specs.Prelude.{slice_get}
use Rattle.std.proofs.lemmas.Option.{slice_get_read}
use Rattle.wh_carry.specs.declared.stages.Stage.{Stage}
use Rattle.wh_carry.specs.Kept.{kept}
use Rattle.wh_carry.proofs.HandedOn.{handed_on}
use Rattle.wh_carry.proofs.StageLaws.{lists_have_one_stages}
use Rattle.wh_carry.specs.Stages.{place_behind}
use Rattle.wh_carry.proofs.CourseWaves.{split_at, take_all, take_next}
use Rattle.wh_night.specs.Inner.Underway.{IsAt, night_given}
use Rattle.wh_night.proofs.Taken.{can_publish}
use Rattle.wh_night.proofs.stages.through.Goals as goal

pub loop-stage-init : goal.loop-stage-init
loop-stage-init g c = record {
  home = refl;
  parts = c.requires.parts;
  fit = c.requires.fit;
  come = λ t are here. here;
}

pub stage_of-requires-clause-stage : goal.stage_of-requires-clause-stage
stage_of-requires-clause-stage g c κs within =
    let here : slice_get c.args.stages.now c.loop-stage.stage-index ≡ Some c.stage-item.result = slice_get_read c.args.stages.now (length c.args.stages.now) c.loop-stage.stage-index c.stage-item.result refl (omega arith) c.stage-item.is in
    c.requires.stages c.loop-stage.stage-index c.stage-item.result here

-- how the stages split before the one in turn
split_here : (stages : List Stage) (i : ℕ) (x : Stage) → slice_get stages i ≡ Some x → stages ≡ take i stages ++ x ∷ drop (i + 1) stages
split_here stages i x e = let f : suc i ≡ i + 1 = omega arith in sym (split_at stages i x e) ∙ ap (λ k. take i stages ++ x ∷ drop k stages) f

pub stage_of-requires-clause-publishes : goal.stage_of-requires-clause-publishes
stage_of-requires-clause-publishes g c κs within =
    let stages : List Stage = c.args.stages.now in
    let i : ℕ = c.loop-stage.stage-index in
    let x : Stage = c.stage-item.result in
    let here : slice_get stages i ≡ Some x = slice_get_read stages (length stages) i x refl (omega arith) c.stage-item.is in
    let r = c.requires.begun in
    can_publish c.args.asked.now.catalog.now (g.O.Outlet.keys c.args.outlet.now) r.given stages r.fit c.requires.some (take i stages) (drop (i + 1) stages) (kept c.loop-stage.progress.state) c.loop-stage.progress.steps.items (g.O.Outlet.kept c.loop-stage.writer)
    (c.loop-stage.invariant.come r.given r.fit.are r.at) x (split_here stages i x here)

pub loop-stage-preserved : goal.loop-stage-preserved
loop-stage-preserved g c =
    let stages : List Stage = c.args.stages.now in
    let i : ℕ = c.loop-stage.stage-index in
    let x : Stage = c.stage-item.result in
    let here : slice_get stages i ≡ Some x = slice_get_read stages (length stages) i x refl (omega arith) c.stage-item.is in
    let next : take (i + 1) stages ≡ take i stages ++ x ∷ [] = take_next stages i x here in
    record {
      home = c.in_ok-stage_of.ensures.home ∙ c.loop-stage.invariant.home;
      parts = c.in_ok-stage_of.ensures.parts;
      fit = c.in_ok-stage_of.ensures.fit;
      come = λ t are at. subst (λ ts. IsAt (night_given c.args.asked.now.catalog.now (g.O.Outlet.keys c.args.outlet.now) t) t.before (place_behind ts) (kept c.stage_of.new.progress.state) c.stage_of.new.progress.steps.items (g.O.Outlet.kept c.stage_of.new.writer)) (sym next)
          (c.in_ok-stage_of.ensures.goes t (take i stages) (drop (i + 1) stages) (sym are ∙ split_here stages i x here) (c.loop-stage.invariant.come t are at));
    }

pub returns-in_err-stage_of-clause-stops : goal.returns-in_err-stage_of-clause-stops
returns-in_err-stage_of-clause-stops g c = handed_on _ c.from_residual.result c.in_err-stage_of.field-0.0 c.from_residual.ensures (λ t are at.
    let stages : List Stage = c.args.stages.now in
    let i : ℕ = c.loop-stage.stage-index in
    let x : Stage = c.stage-item.result in
    let here : slice_get stages i ≡ Some x = slice_get_read stages (length stages) i x refl (omega arith) c.stage-item.is in
    c.in_err-stage_of.ensures.stops t (take i stages) (drop (i + 1) stages) (sym are ∙ split_here stages i x here) (c.loop-stage.invariant.come t are at))

pub returns-clause-goes : goal.returns-clause-goes
returns-clause-goes g c = λ t are at.
    let stages : List Stage = c.args.stages.now in
    let all : take c.loop-stage.stage-index stages ≡ stages = take_all c.loop-stage.stage-index stages (omega arith) in
    let whole : place_behind (take c.loop-stage.stage-index stages) ≡ length t.list = ap place_behind (all ∙ are) ∙ ap length (lists_have_one_stages t.list).0.joined in
    subst (λ p. IsAt (night_given c.args.asked.now.catalog.now (g.O.Outlet.keys c.args.outlet.now) t) t.before p (kept c.loop-stage.progress.state) c.loop-stage.progress.steps.items (g.O.Outlet.kept c.loop-stage.writer)) whole (c.loop-stage.invariant.come t are at)
