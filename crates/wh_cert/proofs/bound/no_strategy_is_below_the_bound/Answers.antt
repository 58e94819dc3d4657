use Rattle.wh_strategy.specs.Sizes.{sizes_of}
use Rattle.wh_cert.proofs.Least.{pair_bound-le_work}
use Rattle.wh_cert.proofs.WeighedSizes.{sizes_grow_within}
use Rattle.wh_cert.proofs.bound.no_strategy_is_below_the_bound.Goals as goal

pub returns : goal.returns
returns c shape rows prices list sh are co = pair_bound-le_work shape (sizes_of rows) prices list sh (sizes_grow_within rows are) co
