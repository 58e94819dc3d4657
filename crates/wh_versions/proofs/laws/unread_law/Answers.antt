use Rattle.wh_versions.proofs.TableLaws.{unread_is_tested}
use Rattle.wh_versions.proofs.laws.unread_law.Goals as goal

pub returns : goal.returns
returns c = unread_is_tested
