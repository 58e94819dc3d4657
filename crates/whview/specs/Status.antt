-- The numbers of the statuses that the program ends with where its output does not fail.
use Rattle.std.specs.Prelude.{ℕ}
use Rattle.whview.specs.declared.status.Status.{Status}
use Rattle.whview.specs.declared.status.Status.TheVariants.{Done, Fault, Limit, Negative, Words}

-- the number of a status: 0 done, 1 a negative verdict or refused night, 2 words that are not taken, 3 a faulty input, 4 memory or a budget
abbrev pub status_number : Status → ℕ
status_number Done = 0
status_number Negative = 1
status_number Words = 2
status_number Fault = 3
status_number Limit = 4
