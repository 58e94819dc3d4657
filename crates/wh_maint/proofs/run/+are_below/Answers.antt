use Rattle.std.proofs.Common.{◌≡◌, true, subst, take, drop, length, get_or, ◌-◌}
use Rattle.wh_dag.specs.Shape.{has}
use Rattle.wh_maint.proofs.OpenedContents.{none_below, more_below}
use Rattle.wh_maint.proofs.Standing.{parted}
use Rattle.wh_maint.proofs.Unchanged.{no_views}
use Rattle.wh_maint.proofs.run.+are_below.Goals as goal

pub returns-in-empty : goal.returns-in-empty
returns-in-empty t c = λ r u h. none_below c.args.end u (subst (λ vs. has vs u ≡ true) (no_views c.args.views.now c.in-empty.len_below) h)

pub returns-then-view-end : goal.returns-then-view-end
returns-then-view-end t c = λ r u h.
    let first = get_or c.args.views.now 0 0 in
    let rest = take (length c.args.views.now - 1) (drop 1 c.args.views.now) in
    let all = parted c.args.views.now c.in-len1-up.len_at_least in
    more_below c.args.end first rest c.if-view-end.true (c.are_below.ensures r) u (subst (λ vs. has vs u ≡ true) all h)
