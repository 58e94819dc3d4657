use Rattle.std.proofs.Common.{refl}
use Rattle.std.specs.List.Sorted.{IsStrictlySortedBy}
use Rattle.wh_pieces.proofs.tests.a_map_is_made_of_rows_that_rise.Goals as goal

pub from_rising-requires-clause-rising : goal.from_rising-requires-clause-rising
unfolding IsStrictlySortedBy
from_rising-requires-clause-rising g c = ((refl, (refl, tt)), ((refl, tt), (tt, tt)))

pub from_rising-requires-2-clause-rising : goal.from_rising-requires-2-clause-rising
unfolding IsStrictlySortedBy
from_rising-requires-2-clause-rising g c = tt
