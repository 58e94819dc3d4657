use Rattle.whview.proofs.PlansCertified.{least_plan_is_certified, printed_plan_is_certified, printed_plan_is_read_back}
use Rattle.whview.proofs.laws.a_printed_plan_is_certified.Goals as goal

pub returns-clause-read_back : goal.returns-clause-read_back
returns-clause-read_back c = printed_plan_is_read_back

pub returns-clause-certified : goal.returns-clause-certified
returns-clause-certified c = least_plan_is_certified

pub returns-clause-printed : goal.returns-clause-printed
returns-clause-printed c = printed_plan_is_certified
