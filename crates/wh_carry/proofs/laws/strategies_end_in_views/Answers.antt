use Rattle.wh_carry.proofs.Stands.{strategies_end_in_views}
use Rattle.wh_carry.proofs.laws.strategies_end_in_views.Goals as goal

pub returns : goal.returns
returns c = strategies_end_in_views
