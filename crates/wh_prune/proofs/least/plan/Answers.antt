use Rattle.std.proofs.Common.{◌∙◌, sym, subst}
use Rattle.std.proofs.lemmas.Result.{err_from_is_err_and}
use Rattle.wh_strategy.specs.Prices.{prices_of}
use Rattle.wh_strategy.specs.Sizes.{sizes_of}
use Rattle.wh_minwork.specs.Plan.{IsMinReason}
use Rattle.wh_prune.proofs.PlanReasons.{by_cycle, not_memory, plan_reason}
use Rattle.wh_prune.proofs.least.plan.Goals as goal

pub returns-in_err-planned-in-Err-Cyclic-clause-err : goal.returns-in_err-planned-in-Err-Cyclic-clause-err
returns-in_err-planned-in-Err-Cyclic-clause-err c =
    let shape = c.args.shape.now.children in
    let sizes = sizes_of c.args.sizes.now in
    let given = err_from_is_err_and c.from_residual.result c.from_residual.ensures.1 in
    rw (given.1, given.2)
    (plan_reason shape sizes (prices_of c.args.costs) c.args.budget c.in-Err-Cyclic.field-0-0 c.in_err-planned-in-Err-Cyclic.field-0.0
    (subst (IsMinReason shape sizes) c.in-Err-Cyclic.field-0-is c.in-Err-Cyclic.ensures.err)
    c.in_err-planned-in-Err-Cyclic.ensures.err)

pub returns-in_err-planned-in-Err-Cyclic-clause-never_spent : goal.returns-in_err-planned-in-Err-Cyclic-clause-never_spent
returns-in_err-planned-in-Err-Cyclic-clause-never_spent c =
    let given = err_from_is_err_and c.from_residual.result c.from_residual.ensures.1 in
    rw (given.1, given.2) (λ kind. absurd (not_memory c.in-Err-Cyclic.field-0-0 (sym c.in-Err-Cyclic.field-0-is ∙ c.in-Err-Cyclic.ensures.never_cyclic kind)))

pub returns-in-Err-Cyclic-clause-by_order : goal.returns-in-Err-Cyclic-clause-by_order
returns-in-Err-Cyclic-clause-by_order c =
    let shape = c.args.shape.now.children in
    let sizes = sizes_of c.args.sizes.now in
    by_cycle shape sizes c.in-Err-Cyclic.field-0-0 c.certified-in-Err-Cyclic.result.scope c.certified-in-Err-Cyclic.result.correct.list
    (subst (IsMinReason shape sizes) c.in-Err-Cyclic.field-0-is c.in-Err-Cyclic.ensures.err)
    (λ kind. sym c.in-Err-Cyclic.field-0-is ∙ c.in-Err-Cyclic.ensures.never_cyclic kind)
