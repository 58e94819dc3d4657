use Rattle.std.proofs.Common.{◌≡◌, true, false}
use Rattle.wh_dag.specs.Shape.{has}
use Rattle.wh_dag.proofs.PartSums.{charged_within, charged_without}
use Rattle.wh_strategy.proofs.terms.child_rows.Goals as goal

pub returns-then-has_view-clause-value : goal.returns-then-has_view-clause-value
returns-then-has_view-clause-value c =
    let inside : has c.args.sources.now c.args.child ≡ true = cc in
    charged_within _ _ _ _ _ c.requires.once inside c.requires.some c.half_power-half.ensures.value

pub returns-else-has_view-clause-value : goal.returns-else-has_view-clause-value
returns-else-has_view-clause-value c =
    let outside : has c.args.sources.now c.args.child ≡ false = cc in
    charged_without c.args.change _ _ _ _ outside c.half_power-half.ensures.value
