use Rattle.std.proofs.Common.{◌≡◌, ◌∷◌, ◌++◌, [], ◌∙◌, append_assoc, map, subst, sym}
use Rattle.std.proofs.lemmas.Result.{err_from_is_err_and}
use Rattle.std.specs.Vec.Iter.{into_iter_items}
use Rattle.wh_load.specs.ReadingShown.{shown_given}
use Rattle.whview.specs.Inner.FitReplay.{IsNightsFault}
use Rattle.whview.proofs.ReplayDecided.{AreJudgedSoFar, judged_more, nights_fault}
use Rattle.whview.proofs.replay.judged.Goals as goal

pub returns-in_err-correct-clause-err : goal.returns-in_err-correct-clause-err
returns-in_err-correct-clause-err c =
    let at = c.loop-night in
    let steps : into_iter_items at.night-iterator ≡ c.in-Some.night ∷ into_iter_items c.next.new.self = c.in-Some.ensures.steps.0 in
    let all = rw steps at at.invariant.all ∙ c.into_iter-night-iterator.ensures.into_iter_gives.0 in
    let p = err_from_is_err_and c.from_residual.result c.from_residual.ensures.1 in
    rw (p.1, p.2) (subst (λ ns. IsNightsFault c.args.shape.now.children (map shown_given ns) c.in_err-correct.field-0.0) all
    (nights_fault c.args.shape.now.children at.yielded (into_iter_items c.next.new.self) c.in-Some.night c.in_err-correct.field-0.0 at.invariant.correct c.in_err-correct.ensures.err))

pub loop-night-preserved : goal.loop-night-preserved
loop-night-preserved c =
    let at = c.loop-night in
    let steps : into_iter_items at.night-iterator ≡ c.in-Some.night ∷ into_iter_items c.next.new.self = c.in-Some.ensures.steps.0 in
    let more = judged_more c.args.shape.now.children at.judged.items at.yielded c.in-Some.night c.in_ok-correct.correct at.invariant.nights at.invariant.judged at.invariant.correct c.in_ok-correct.ensures.ok in
    let so = subst (λ done. AreJudgedSoFar c.args.shape.now.children done (at.yielded ++ c.in-Some.night ∷ [])) (sym c.in-Ok.ensures.items) more in
    record { nights = so.nights; judged = so.judged; correct = so.correct; all = append_assoc at.yielded (c.in-Some.night ∷ []) _ ∙ rw (← steps) at.invariant.all }
