use Rattle.std.proofs.Common.{ℕ, ◌+◌, List, length}
use Rattle.wh_text_tables.proofs.PartReads.{IsTaken}
use Rattle.wh_text_tables.proofs.part.read_rows.Given as goal

-- these records were taken, and the next may be
abbrev pub invariant-rows : goal.invariant-rows
invariant-rows g l =
    let scheme = g.R.PartReader.scheme l.reader in
    let seen = g.R.PartReader.seen in
    (before : List (List (List ℕ)))
    × IsTaken scheme (record { kind = l.kind; width = l.width; rows = l.fn.records.left }) before (seen l.fn.state) l.records (seen l.state)
    × g.R.PartReader.is_ready l.reader (seen l.state) (l.records.given + 1)

abbrev pub decreases-rows : goal.decreases-rows
decreases-rows g l = length l.records.left
