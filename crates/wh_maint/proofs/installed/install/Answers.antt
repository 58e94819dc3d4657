use Rattle.std.proofs.Common.{ap}
use Rattle.std.specs.Prelude.{Err}
use Rattle.wh_maint.proofs.NoRows.{none_counts}
use Rattle.wh_maint.proofs.installed.install.Goals as goal

pub returns-in_default-clause-memory : goal.returns-in_default-clause-memory
returns-in_default-clause-memory c = λ _ none. c.in_default.ensures.memory c.in_default.ensures.err none.0

pub returns-in-Err-Memory-clause-memory : goal.returns-in-Err-Memory-clause-memory
returns-in-Err-Memory-clause-memory c = λ _ none.
    c.in-Err-Memory.ensures.memory (ap Err c.in-Err-Memory.field-0-is) (λ row counts. absurd (counts (none_counts c.args.delta.now none.1 row)))
