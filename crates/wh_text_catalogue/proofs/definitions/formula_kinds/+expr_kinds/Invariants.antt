use Rattle.std.proofs.Common.{◌+◌, ◌*◌}
use Rattle.wh_text_catalogue.proofs.definitions.formula_kinds.+expr_kinds.Given as goal

abbrev pub decreases-typed_expr : goal.decreases-typed_expr
decreases-typed_expr l = 2 * l.levels

abbrev pub decreases-typed_operation : goal.decreases-typed_operation
decreases-typed_operation l = 2 * l.levels + 1
