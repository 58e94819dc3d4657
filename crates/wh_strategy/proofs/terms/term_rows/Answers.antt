use Rattle.std.proofs.Common.{arith}
use Rattle.std.proofs.lemmas.Grind.{common_steps}
use Rattle.wh_strategy.specs.Sizes.{sizes_of}
use Rattle.wh_strategy.proofs.PlaceCosts.{terms_by_child}
use Rattle.wh_strategy.proofs.terms.term_rows.Goals as goal

pub returns-clause-value : goal.returns-clause-value
returns-clause-value c =
    rw (terms_by_child (sizes_of c.args.sizes.now) c.args.list.now c.args.place c.args.children.now c.args.sources.now) (grind (arith, common_steps))
