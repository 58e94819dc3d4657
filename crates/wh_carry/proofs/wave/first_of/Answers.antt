use Rattle.std.proofs.Common.{◌≡◌, ap, ◌∙◌, sym, ⊎_elim, arith}
use Rattle.std.specs.Prelude.{slice_get}
use Rattle.std.proofs.lemmas.Bool.{cases_lt}
use Rattle.std.proofs.lemmas.Option.{slice_get_within}
use Rattle.wh_dag.specs.Shape.{has}
use Rattle.wh_carry.proofs.wave.first_of.Goals as goal

pub loop-view-preserved : goal.loop-view-preserved
loop-view-preserved c = λ u r l m is. ⊎_elim
    (λ k. c.loop-view.invariant u r k m is)
    (λ k.
    let e : u ≡ c.loop-view.view = omega arith in
    c.refusal_at.ensures.none c.in_default.is r (ap (has c.args.views.now) (sym e) ∙ m) (ap (slice_get c.args.refusals.now) (sym e) ∙ is))
    (cases_lt u c.loop-view.view)

pub returns-clause-none : goal.returns-clause-none
returns-clause-none c = λ e u r m is. let k = slice_get_within c.args.refusals.now u r is in c.loop-view.invariant u r (omega arith) m is
