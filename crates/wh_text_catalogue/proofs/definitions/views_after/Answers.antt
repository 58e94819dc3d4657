use Rattle.std.proofs.Common.{arith, rules}
use Rattle.std.proofs.lemmas.Grind.{common_steps}
use Rattle.wh_text_catalogue.proofs.definitions.views_after.Goals as goal

pub loop-table-preserved : goal.loop-table-preserved
loop-table-preserved c = record {
  read = grind (arith, common_steps);
  grows = λ first begins. c.next_view.ensures.grows first (c.loop-table.invariant.grows first begins);
  numbered = search rules;
}
