use Rattle.wh_headline.proofs.Told.{told_pages}
use Rattle.wh_headline.proofs.desks.told_pages_are_of_contents.Goals as goal

pub returns : goal.returns
returns c = told_pages c.seen_versions_stay_law.ensures
