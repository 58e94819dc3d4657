use Rattle.std.proofs.Common.{rules, ◌≡◌, ◌++◌, ◌∷◌, ◌∙◌, ap, map, ℤ, FitsSigned, to_z, of_z, to_z-of_z, sym}
use Rattle.std.specs.Int.{w64}
use Rattle.csv.specs.Writing.{default_writer, row_text}
use Rattle.wh_row.specs.Row.{Row}
use Rattle.wh_row.specs.Weigh.{Counted}
use Rattle.wh_text.specs.Columns.{kinds_of}
use Rattle.wh_text_tables.specs.Inner.TableWritten.{rows_text}
use Rattle.wh_text_tables.specs.TableWritten.{record_of}
use Rattle.wh_text_tables.proofs.TableLines.{lines-next}
use Rattle.wh_text_tables.proofs.table.write.append_rows.Goals as goal

pub loop-row-preserved : goal.loop-row-preserved
loop-row-preserved c =
    let fits : FitsSigned w64 c.in-Some.count = search rules in
    let row = c.in-Some.row.now in
    let n = to_z w64 (of_z w64 c.in-Some.count) in
    let e : Row × ℤ = (row, n) in
    let steps : c.loop-row.row-iterator ≡ e ∷ c.next.new.self = c.in-Some.ensures.steps ∙ (λ i. (row, sym (to_z-of_z fits) i) ∷ c.next.new.self) in
    let line = record_of c.args.dict.now (kinds_of c.args.columns.now) in
    let text = row_text default_writer (line e) in
    let out = c.loop-row.out.items in
    let written : c.write_row.new.out.items ≡ out ++ text = search rules in
    record {
      next = search rules;
      so_far = lines-next (row_text default_writer) (line e) (map line c.loop-row.row-iterator) (map line c.next.new.self) out c.write_row.new.out.items (c.args.out.now.items ++ rows_text c.args.columns.now c.args.dict.now c.args.rows)
          (ap (λ (es : Counted). map line es) steps) written c.loop-row.invariant.so_far;
    }
