use Rattle.wh_core.proofs.Later.{nights_come_later}
use Rattle.wh_core.proofs.laws.nights_come_later.Goals as goal

pub returns : goal.returns
returns c = nights_come_later
