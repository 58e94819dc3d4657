use Rattle.wh_cert.proofs.Trees.{accepted_shows}
use Rattle.wh_cert.proofs.acceptance.no_one_way_strategy_is_below_a_tree.Goals as goal

pub returns : goal.returns
returns c shape sizes prices work tree list sh good co ow = accepted_shows shape sizes prices work tree list sh good co ow
