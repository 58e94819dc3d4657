-- The rows of a view that have pairs, each pair a version's number and what the row counts from that version on.
use Rattle.std.specs.Prelude.{ℕ, ◌-◌, Bool, true, false, not, List, [], ◌∷◌, map, filter, slice_index_or}
use Rattle.wh_pieces.specs.Pieces.{found, with_entry}
use Rattle.wh_row.specs.Bag.{Bag, written}
use Rattle.wh_row.specs.Row.{Row}
use Rattle.wh_row.specs.Weigh.{Counted}
use Rattle.wh_versions.specs.Rows.{Pairs, with_pair, without_pair, is_unread}
use Rattle.wh_versions.specs.Tables.{opening, pairs_in}

-- rows in rising order, each with its pairs, the newest first
abbrev pub Paired : Type 0
Paired = List (Row × Pairs)

-- those that have a pair
abbrev pub are_some : Pairs → Bool
are_some [] = false
are_some (p ∷ ps) = true

abbrev pub has_pair : Row × Pairs → Bool
has_pair e = are_some e.1

abbrev pub with_pairs : Paired → Paired
with_pairs rows = filter has_pair rows

-- of each of these tables its rows as version 0 alone, each with the pair of its count
abbrev pub opening_rows : List Bag → List Paired
opening_rows tables = map (λ table. opening (written table)) tables

-- those of which a session of the n - 1 versions before m reads something: the others go as night m begins. The test tells what `IsUnread` says (`UnreadIsTested`)
abbrev pub still_read : ℕ → ℕ → Paired → Paired
still_read n m rows = filter (λ e. not (is_unread (n - 1) m e.1)) rows

-- the rows once night m has written these counts, one after another: `written` of wh_versions says it of one row, this of the whole list
abbrev pub put_in : ℕ → ℕ → Counted → Paired → Paired
put_in n m [] rows = rows
put_in n m (e ∷ es) rows = put_in n m es (with_entry rows e.0 (with_pair n m e.1 (pairs_in (found e.0 rows))))

-- the rows once night m is given up: `given_up` of wh_versions says it of one row, this of the whole list
abbrev pub taken_back : ℕ → Paired → Paired
taken_back m rows = with_pairs (map (λ e. (e.0, without_pair m e.1)) rows)

-- the rows of a view
abbrev pub rows_in : List Paired → ℕ → Paired
rows_in rows view = slice_index_or rows view []

-- the pairs of a row of a view
abbrev pub pairs_at : List Paired → ℕ → Row → Pairs
pairs_at rows view row = pairs_in (found row (rows_in rows view))
