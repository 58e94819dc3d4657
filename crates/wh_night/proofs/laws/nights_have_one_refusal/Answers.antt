use Rattle.wh_night.proofs.OneRefusal.{one_refusal}
use Rattle.wh_night.proofs.laws.nights_have_one_refusal.Goals as goal

pub returns : goal.returns
returns c = one_refusal
