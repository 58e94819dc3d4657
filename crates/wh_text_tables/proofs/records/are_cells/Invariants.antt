use Rattle.std.proofs.Common.{◌≡◌, drop, map}
use Rattle.std.specs.Cmp.Lexicographic.{pointwise}
use Rattle.std.specs.Str.{bytes_eq}
use Rattle.csv.specs.Records.{fields_of}
use Rattle.wh_text_tables.proofs.records.are_cells.Given as goal

abbrev pub invariant-loop-place : goal.invariant-loop-place
invariant-loop-place l =
    pointwise bytes_eq (fields_of l.cells) (map (λ word. word.now) l.words) ≡ pointwise bytes_eq (drop l.place (fields_of l.cells)) (map (λ word. word.now) (drop l.place l.words))
