use Rattle.std.proofs.Common.{◌≡◌, ◌+◌, ◌*◌, drop, map}
use Rattle.std.specs.List.{list_all}
use Rattle.toml.specs.View.{view}
use Rattle.wh_text_catalogue.specs.PredForm.{is_pred}
use Rattle.wh_text_catalogue.proofs.definitions.pred_form.+pred_levels.Given as goal

abbrev pub decreases-is_pred : goal.decreases-is_pred
decreases-is_pred l = 2 * l.levels

abbrev pub decreases-are_preds : goal.decreases-are_preds
decreases-are_preds l = 2 * l.levels + 1

abbrev pub invariant-are_preds-loop-value : goal.invariant-are_preds-loop-value
invariant-are_preds-loop-value l = list_all (is_pred l.levels) (map view l.values) ≡ list_all (is_pred l.levels) (map view (drop l.value-index l.values))
