use Rattle.std.proofs.Common.{◌≡◌, ◌<◌, filter, length, sym, ap, ◌∙◌, arith}
use Rattle.wh_dag.specs.Siblings.{is_couple, pairs_with, each_below, couples_of}
use Rattle.wh_dag.proofs.SiblingLists.{kept_none, made_each, some_each, on_err}
use Rattle.wh_dag.proofs.siblings.couples.Goals as goal

pub loop-lower-init : goal.loop-lower-init
loop-lower-init c =
    rw c.new-couples.ensures.items
    (record { made = sym (kept_none (is_couple c.args.shape.now) (λ lower. pairs_with lower (length c.args.shape.now))) })

pub loop-lower-preserved : goal.loop-lower-preserved
loop-lower-preserved c =
    record { made = made_each (is_couple c.args.shape.now) (λ lower. pairs_with lower (length c.args.shape.now)) c.loop-lower.lower c.loop-lower.couples.items c.add_couples_with.new.couples.items c.loop-lower.invariant.made c.in_ok-add_couples_with.ensures.added }

pub returns-clause-couples : goal.returns-clause-couples
unfolding couples_of
returns-clause-couples c =
    let n : c.loop-lower.lower ≡ length c.args.shape.now = omega arith in
    c.loop-lower.invariant.made ∙ ap (λ k. filter (is_couple c.args.shape.now) (each_below (λ lower. pairs_with lower (length c.args.shape.now)) k)) n

pub returns-in_err-add_couples_with-clause-memory : goal.returns-in_err-add_couples_with-clause-memory
unfolding couples_of
returns-in_err-add_couples_with-clause-memory c =
    let low : c.loop-lower.lower < length c.args.shape.now = omega arith in
    on_err _ (some_each (is_couple c.args.shape.now) (λ lower. pairs_with lower (length c.args.shape.now)) (length c.args.shape.now) c.loop-lower.lower low c.in_err-add_couples_with.ensures.memory)
