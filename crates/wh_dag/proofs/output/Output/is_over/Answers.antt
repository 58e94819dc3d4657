use Rattle.std.proofs.Common.{◌==◌, ◌&&◌}
use Rattle.std.specs.List.{list_all}
use Rattle.wh_formula.specs.Expr.{fits}
use Rattle.wh_dag.proofs.Within.{kept_over, summed_over, when_true, when_false}
use Rattle.wh_dag.proofs.output.Output.is_over.Goals as goal

pub returns-in-Keep : goal.returns-in-Keep
returns-in-Keep g c = rw (c.are_over.ensures, c.deref.ensures.value, c.in-Keep.is) (kept_over c.args.width c.in-Keep.kept)

pub returns-then-are_within : goal.returns-then-are_within
returns-then-are_within g c =
    rw (c.in-Sums.is)
    (when_true c.are_within.result c.are_over-then-are_within.result c.if-are_within.true
    (rw (c.are_within.ensures, c.are_over-then-are_within.ensures, c.deref-in-Sums.ensures.value, c.deref-then-are_within.ensures.value)
    (summed_over c.args.width c.in-Sums.group c.in-Sums.sums)))

pub returns-else-are_within : goal.returns-else-are_within
returns-else-are_within g c =
    rw (c.in-Sums.is)
    (when_false c.are_within.result
    (list_all (λ combiner. (combiner.width == c.args.width) && fits c.args.width combiner.expr) c.in-Sums.sums.items)
    c.if-are_within.false
    (rw (c.are_within.ensures, c.deref-in-Sums.ensures.value) (summed_over c.args.width c.in-Sums.group c.in-Sums.sums)))
