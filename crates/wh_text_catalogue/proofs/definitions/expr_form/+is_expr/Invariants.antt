use Rattle.wh_text_catalogue.proofs.definitions.expr_form.+is_expr.Given as goal

abbrev pub decreases-is_expr : goal.decreases-is_expr
decreases-is_expr l = l.levels
