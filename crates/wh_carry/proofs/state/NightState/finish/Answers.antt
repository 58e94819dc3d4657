use Rattle.std.proofs.Common.{◌≡◌, sym, ap, subst, ◌∙◌, true, false, eqb, length, arith}
use Rattle.std.proofs.lemmas.Bool.{both_ways}
use Rattle.wh_dag.specs.Shape.{has}
use Rattle.wh_carry.specs.Kept.{KeptLists, kept, HaveParts, CanFinish}
use Rattle.wh_carry.specs.Refused.{IsFirstUnfinishedIn}
use Rattle.wh_carry.proofs.HandedOn.{handed_on}
use Rattle.wh_carry.proofs.Storing.{below, none_below, next_below, skip_below, all_below, unfinished_first, finishes_first, finishes_next, can_finish_after}
use Rattle.wh_carry.proofs.state.NightState.finish.Goals.{then-has_view+in_ok-finish_one, else-has_view}
use Rattle.wh_carry.proofs.state.NightState.finish.Goals as goal

pub loop-view-init : goal.loop-view-init
loop-view-init g c = record { parts = c.requires.parts; fit = c.requires.fit; passed = λ u l m. absurd (omega arith); done = none_below c.args.catalog.now (kept c.args.self.now) c.args.views.now }

pub returns-in_err-finish_one-clause-refused : goal.returns-in_err-finish_one-clause-refused
returns-in_err-finish_one-clause-refused g c =
    let v = c.loop-view.view in
    let m : has c.args.views.now v ≡ true = sym c.has_view.ensures ∙ c.if-has_view.true in
    handed_on (IsFirstUnfinishedIn c.args.catalog.now (kept c.args.self.now) c.args.views.now) c.from_residual.result c.in_err-finish_one.field-0.0 c.from_residual.ensures (record {
      view = v;
      among = m;
      lower = λ u l h. c.loop-view.invariant.passed u l h;
      refused = unfinished_first c.args.catalog.now (kept c.args.self.now) (kept c.loop-view.self) (below c.args.views.now v) v c.in_err-finish_one.field-0.0 c.loop-view.invariant.done c.in_err-finish_one.ensures.refused;
    })

pub loop-view-preserved : goal.loop-view-preserved
loop-view-preserved g c =
    let v = c.loop-view.view in
    let cat = c.args.catalog.now in
    elim c.if-has_view.branch [
      | then-has_view+in_ok-finish_one w ↦
          let m : has c.args.views.now v ≡ true = sym c.has_view.ensures ∙ w.if-has_view.true in
          record {
            parts = subst (HaveParts cat) (sym w.self-is) w.in_ok-finish_one.ensures.parts;
            fit = subst (λ s. CanFinish cat (kept s)) (sym w.self-is) (can_finish_after cat (kept c.loop-view.self) (kept w.finish_one.new.self) (λ u. eqb v u) c.loop-view.invariant.fit w.in_ok-finish_one.ensures.done);
            passed = finishes_next cat (kept c.args.self.now) c.args.views.now v c.loop-view.invariant.passed
                (λ _. finishes_first cat (kept c.args.self.now) (kept c.loop-view.self) c.args.views.now v c.loop-view.invariant.done w.in_ok-finish_one.ensures.passed);
            done = ap kept w.self-is ∙ next_below cat (kept c.args.self.now) (kept c.loop-view.self) (kept w.finish_one.new.self) c.args.views.now v m c.loop-view.invariant.done w.in_ok-finish_one.ensures.done;
          }
      | else-has_view w ↦
          let out : has c.args.views.now v ≡ false = sym c.has_view.ensures ∙ w.if-has_view.false in
          record {
            parts = subst (HaveParts cat) (sym w.self-is) c.loop-view.invariant.parts;
            fit = subst (λ s. CanFinish cat (kept s)) (sym w.self-is) c.loop-view.invariant.fit;
            passed = finishes_next cat (kept c.args.self.now) c.args.views.now v c.loop-view.invariant.passed (λ m. absurd (both_ways (has c.args.views.now v) out m));
            done = ap kept w.self-is ∙ skip_below cat (kept c.args.self.now) (kept c.loop-view.self) c.args.views.now v out c.loop-view.invariant.done;
          }
    ]

pub returns-clause-done : goal.returns-clause-done
returns-clause-done g c =
    all_below c.args.catalog.now (kept c.args.self.now) (kept c.loop-view.self) c.args.views.now c.loop-view.view
    (λ u m. let k = c.requires.views u m in let e = c.requires.parts.each_known in let n = c.len-view-end.ensures in let same = ap (λ (z : KeptLists). length z.known) c.self.view_is in omega arith)
    c.loop-view.invariant.done

pub returns-clause-passed : goal.returns-clause-passed
returns-clause-passed g c = λ u m.
    let k = c.requires.views u m in
    let e = c.requires.parts.each_known in
    let n = c.len-view-end.ensures in
    let same = ap (λ (z : KeptLists). length z.known) c.self.view_is in
    c.loop-view.invariant.passed u (omega arith) m
