use Rattle.wh_versions.proofs.ShownLaws.{each_begin_keeps}
use Rattle.wh_versions.proofs.laws.begun_shown_law.Goals as goal

pub returns : goal.returns
returns c = each_begin_keeps
