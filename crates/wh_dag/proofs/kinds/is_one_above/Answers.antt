use Rattle.std.proofs.Common.{◌≡◌, ◌+◌, get_or, sym, ◌∙◌, subst, ⊎_elim}
use Rattle.std.proofs.lemmas.Bool.{false≢true, eqb-true, or_cases}
use Rattle.wh_dag.proofs.Marked.{has_at, has_more, has_none}
use Rattle.wh_dag.proofs.kinds.is_one_above.Goals as goal

pub loop-child-init : goal.loop-child-init
loop-child-init c u m = absurd (false≢true (sym (has_none u) ∙ m))

pub returns-then-level-levels : goal.returns-then-level-levels
returns-then-level-levels c = (
  λ t. absurd (false≢true t),
  λ f. absurd (c.if-level-levels.true (f _ (has_at c.args.own.now c.loop-child.child-index 0 c.loop-child-test.true))),
)

pub loop-child-preserved : goal.loop-child-preserved
loop-child-preserved c u m =
    ⊎_elim
    (λ t. c.loop-child.invariant u t)
    (λ t. subst (λ z. c.args.level ≡ get_or c.args.levels.now z 0 + 1) (eqb-true _ u t) c.if-level-levels.false)
    (or_cases _ _ (sym (has_more c.args.own.now c.loop-child.child-index u c.loop-child-test.true) ∙ m))
