-- The rows that a version shows, a page at a time.
use Rattle.std.specs.Prelude.{ℕ, ℤ, pos, Bool, not, List, map, filter, Option, Some, None}
use Rattle.std.specs.Ordering.{int_eq}
use Rattle.wh_row.specs.Row.{Row}
use Rattle.wh_row.specs.Weigh.{Counted, above}
use Rattle.wh_versions.specs.Rows.{Pairs, read}
use Rattle.wh_versions.specs.Tables.{ViewRows}

-- what a session of version s reads of a row
abbrev pub read_of : ℕ → Row × Pairs → Row × ℤ
read_of s e = (e.0, read s e.1)

-- the row counts
abbrev pub is_counted : Row × ℤ → Bool
is_counted e = not (int_eq e.1 (pos 0))

-- the rows that count in version s, each with its count
abbrev pub shown_of : ℕ → List (Row × Pairs) → Counted
shown_of s rows = filter is_counted (map (read_of s) rows)

-- the rows that version s shows, in rising order, each with its count
abbrev pub shown_at : ViewRows → ℕ → Counted
shown_at t s = shown_of s t.rows

-- the rows after this row, or all of them where there is none
abbrev pub rows_after : Option Row → Counted → Counted
rows_after None es = es
rows_after (Some row) es = above row es
