-- By how much the rows of a view count otherwise in what an open night writes than in the current version.
use Rattle.std.specs.Prelude.{ℕ, unwrap_or}
use Rattle.wh_row.specs.Bag.{Bag, difference_of}
use Rattle.wh_store.specs.Versions.{Versions, table_in}

-- The change that is being written of a view: each row counts what it counts in what the open night has written so far, less what it counts
-- in the current version. No row changes where no night is open. Once all of a night is written, a commit makes the view's next table by it
abbrev pub change_written : Versions → ℕ → Bag
change_written v view = difference_of (table_in (unwrap_or v.draft v.newest) view) (table_in v.newest view)
