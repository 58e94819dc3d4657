use Rattle.whview.proofs.SingleAnswers.{one_certification, one_check, one_handed, one_line}
use Rattle.whview.proofs.SingleNights.{one_night}
use Rattle.whview.proofs.SinglePlans.{one_plan}
use Rattle.whview.proofs.SingleReplays.{one_replay}
use Rattle.whview.proofs.laws.one_answer_law.Goals as goal

pub returns-clause-check : goal.returns-clause-check
returns-clause-check c = one_check

pub returns-clause-plan : goal.returns-clause-plan
returns-clause-plan c = one_plan

pub returns-clause-certify : goal.returns-clause-certify
returns-clause-certify c = one_certification

pub returns-clause-night : goal.returns-clause-night
returns-clause-night c = one_night

pub returns-clause-replay : goal.returns-clause-replay
returns-clause-replay c = one_replay

pub returns-clause-handed : goal.returns-clause-handed
returns-clause-handed c = one_handed

pub returns-clause-in_line : goal.returns-clause-in_line
returns-clause-in_line c = one_line
