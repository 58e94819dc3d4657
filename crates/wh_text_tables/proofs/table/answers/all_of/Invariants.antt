use Rattle.std.proofs.Common.{◌≡◌, Some, map}
use Rattle.wh_text_tables.proofs.table.answers.all_of.Given as goal

abbrev pub invariant-loop-answer : goal.invariant-loop-answer
invariant-loop-answer g l = l.yielded ≡ map Some l.all.items
