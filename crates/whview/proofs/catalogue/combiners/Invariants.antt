use Rattle.std.proofs.Common.{◌≡◌, All, take}
use Rattle.wh_dag.specs.Output.{exprs_of}
use Rattle.whview.proofs.catalogue.combiners.Given as goal

abbrev pub invariant-loop-expr : goal.invariant-loop-expr
invariant-loop-expr g l = record {
  exprs : exprs_of l.combiners.items ≡ take l.expr-index l.exprs;
  widths : All (λ c. c.width ≡ l.width) l.combiners.items;
}
