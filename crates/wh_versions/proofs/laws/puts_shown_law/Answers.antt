use Rattle.wh_versions.proofs.ShownLaws.{each_put_is_shown}
use Rattle.wh_versions.proofs.laws.puts_shown_law.Goals as goal

pub returns : goal.returns
returns c = each_put_is_shown
