use Rattle.wh_strategy.proofs.Agreeing.{first_place, refused, correct_keeps, keeps_correct, passes_keeps, keeps_passes}
use Rattle.wh_strategy.proofs.correct.rules_agree.Goals as goal

pub returns-clause-places : goal.returns-clause-places
returns-clause-places c = λ shape list sh. (correct_keeps shape list sh, keeps_correct shape list sh)

pub returns-clause-tests : goal.returns-clause-tests
returns-clause-tests c = λ rule shape list. (keeps_passes rule shape list, passes_keeps rule shape list)

pub returns-clause-first : goal.returns-clause-first
returns-clause-first c = λ rule shape list place. first_place rule shape list place

pub returns-clause-refused : goal.returns-clause-refused
returns-clause-refused c = λ rule shape list place. refused rule shape list place
