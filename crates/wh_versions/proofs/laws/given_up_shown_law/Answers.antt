use Rattle.wh_versions.proofs.ShownLaws.{each_gives_up}
use Rattle.wh_versions.proofs.laws.given_up_shown_law.Goals as goal

pub returns : goal.returns
returns c = each_gives_up
