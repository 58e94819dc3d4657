-- A row that is lent with its value.
use Rattle.std.specs.Prelude.{ℤ, List}
use Rattle.std.specs.Borrow.{Bor}
use Rattle.wh_pieces.specs.Row.{Row}

-- the row's cells, and its value
abbrev pub lent : {T : Type 0} → Bor (List ℤ) × T → Row × T
lent e = (e.0.now, e.1)
