use Rattle.std.proofs.Common.{ap, ◌∙◌, to_z-of_z}
use Rattle.wh_row.specs.Bag.{count, plus}
use Rattle.wh_row.proofs.BagLaws.{count-plus}
use Rattle.wh_maint.proofs.group_change.add_times.Goals as goal

pub returns-in-Ok-clause-added : goal.returns-in-Ok-clause-added
returns-in-Ok-clause-added c = λ q.
    ap (λ b. count b q) c.in-Ok.ensures.ok
    ∙ ap (λ n. count (plus c.args.bag.now c.args.row.now n) q) (to_z-of_z c.ranges.times)
    ∙ count-plus c.args.bag.now c.args.row.now c.args.times q
