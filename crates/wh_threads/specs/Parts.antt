-- Into how many parts work is cut.
use Rattle.std.specs.Prelude.{ℕ, ◌*◌, max, min, cond, nat_lt}
use Rattle.wh_threads.specs.declared.Work.{Work}
use Rattle.wh_threads.specs.declared.Work.TheVariants.{DrivingRows, Records, WrittenRows, Bytes}

-- a part of so many driving rows, records, rows that are written, or bytes that are read is worth a thread
abbrev pub least_part : Work → ℕ
least_part DrivingRows = 1000
least_part Records = 10000
least_part WrittenRows = 10000
least_part Bytes = 65536

-- the parts of work that is worth so many at most, by so many threads: one by one thread, and four for each of several
abbrev pub parts_of : ℕ → ℕ → ℕ
parts_of threads worth = cond (nat_lt threads 2) 1 (max 1 (min (threads * 4) worth))
