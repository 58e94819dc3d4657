use Rattle.std.proofs.lemmas.Bool.{both_ways}
use Rattle.wh_dag.proofs.Within.{of_one_width}
use Rattle.wh_dag.proofs.definition.Definition.fits.Goals as goal

pub returns-else-are_within : goal.returns-else-are_within
returns-else-are_within g c = (
  λ t. absurd (both_ways c.are_within.result c.if-are_within.false t),
  λ one. rw (c.are_within.ensures, c.width-width.ensures)
      ((of_one_width c.args.join.now c.args.filter.now c.args.out.now c.pred-pred.ensures.fits).1 one).0,
)
