use Rattle.std.proofs.Common.{◌≤◌, sym, subst}
use Rattle.wh_strategy.specs.Prices.{prices_of}
use Rattle.wh_strategy.specs.Sizes.{sizes_of}
use Rattle.wh_strategy.specs.Work.{work_of}
use Rattle.wh_cert.proofs.Least.{pair_bound-le_work}
use Rattle.wh_cert.proofs.WeighedSizes.{sizes_grow_within}
use Rattle.wh_cert.proofs.bound.pair_bound.Goals as goal

pub returns-clause-least : goal.returns-clause-least
returns-clause-least c list co =
    let shape = c.args.shape.now.children in
    let sizes = sizes_of c.args.sizes.now in
    subst (λ n. n ≤ work_of shape sizes (prices_of c.args.costs) list) (sym c.bound_of.ensures.value)
    (pair_bound-le_work shape sizes (prices_of c.args.costs) list c.bound_of.ensures.shape (sizes_grow_within c.args.sizes.now c.bound_of.ensures.sizes) co)
