-- Rows and their order.
use Rattle.std.specs.Prelude.{ℤ, Bool, List}
use Rattle.std.specs.declared.cmp.Ordering.{Ordering}
use Rattle.std.specs.Ordering.{int_cmp, is_eq}
use Rattle.std.specs.Cmp.Lexicographic.{slice_cmp}

-- a row is the list of its cells
abbrev pub Row : Type 0
Row = List ℤ

-- rows are ordered by their first cell that differs; a row that ends there comes first
abbrev pub row_cmp : Row → Row → Ordering
row_cmp = slice_cmp int_cmp

-- the test that two rows are one
abbrev pub is_row : Row → Row → Bool
is_row q r = is_eq (row_cmp q r)
