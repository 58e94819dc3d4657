use Rattle.wh_text_catalogue.proofs.definitions.formula_columns.+unknown_in_expr.Given as goal

abbrev pub decreases-unknown_in_expr : goal.decreases-unknown_in_expr
decreases-unknown_in_expr l = l.levels
