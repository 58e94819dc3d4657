use Rattle.std.proofs.Common.{◌≡◌, ◌+◌, ◌*◌, drop, map}
use Rattle.toml.specs.View.{view}
use Rattle.wh_text_catalogue.specs.FormulaColumns.{first_unknown, unknown_in_pred}
use Rattle.wh_text_catalogue.proofs.definitions.formula_columns.+pred_columns.Given as goal

abbrev pub decreases-unknown_in_pred : goal.decreases-unknown_in_pred
decreases-unknown_in_pred l = 2 * l.levels

abbrev pub decreases-unknown_in_preds : goal.decreases-unknown_in_preds
decreases-unknown_in_preds l = 2 * l.levels + 1

abbrev pub invariant-unknown_in_preds-loop-value : goal.invariant-unknown_in_preds-loop-value
invariant-unknown_in_preds-loop-value l =
    first_unknown (unknown_in_pred l.header.columns l.levels) (map view l.values) ≡ first_unknown (unknown_in_pred l.header.columns l.levels) (map view (drop l.value-index l.values))
