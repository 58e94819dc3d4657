use Rattle.std.proofs.Common.{◌≡◌, ◌+◌, drop}
use Rattle.std.specs.Cmp.Lexicographic.{pointwise}
use Rattle.std.specs.Str.{bytes_eq}
use Rattle.csv.specs.Records.{fields_of}
use Rattle.wh_text.specs.Columns.{names_of}
use Rattle.wh_text_tables.proofs.table.header.are_names.Given as goal

abbrev pub invariant-loop-place : goal.invariant-loop-place
invariant-loop-place l =
    pointwise bytes_eq (drop l.from (fields_of l.cells)) (names_of l.columns) ≡ pointwise bytes_eq (drop (l.from + l.place) (fields_of l.cells)) (names_of (drop l.place l.columns))
