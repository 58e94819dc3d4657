use Rattle.wh_core.proofs.Pages.{pages_show}
use Rattle.wh_core.proofs.Sound.{versions_are_contents}
use Rattle.wh_core.proofs.laws.pages_show_rows.Goals as goal

pub returns : goal.returns
returns c = pages_show (versions_are_contents c.versions_stay_law.ensures)
