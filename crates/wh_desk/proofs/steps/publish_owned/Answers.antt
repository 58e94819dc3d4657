use Rattle.wh_desk.proofs.Keeps.{puts}
use Rattle.wh_desk.proofs.steps.publish_owned.Goals as goal

pub publish_as-requires : goal.publish_as-requires
publish_as-requires g c next is = puts c.window_law.ensures c.well_formed_goes_on_law.ensures _ _ _ next _ c.requires is
