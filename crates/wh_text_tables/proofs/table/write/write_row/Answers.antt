use Rattle.std.proofs.Common.{◌++◌, ◌∙◌, ap, arith, to_z, of_z, to_z-of_z, FitsSigned, ℤ, sym, subst}
use Rattle.std.specs.Int.{w64}
use Rattle.csv.specs.Writing.{default_writer, row_text}
use Rattle.wh_text.specs.Columns.{kinds_of}
use Rattle.wh_text_tables.specs.TableWritten.{cell_texts, record_of}
use Rattle.wh_text_tables.proofs.TableLines.{row-end, row-start}
use Rattle.wh_text_tables.proofs.table.write.write_row.Goals as goal

pub loop-place-init : goal.loop-place-init
loop-place-init c =
    let n = to_z w64 (of_z w64 c.args.count) in
    let fits : FitsSigned w64 n = subst (FitsSigned w64) (sym (to_z-of_z c.ranges.count)) c.ranges.count in
    row-start n (cell_texts c.args.dict.now (kinds_of c.args.columns.now) c.args.row.now) c.args.out.now.items c.append_number.new.out.items fits c.in_ok-append_number.ensures

pub returns : goal.returns
returns c =
    let n = to_z w64 (of_z w64 c.args.count) in
    row-end c.args.dict.now c.args.columns.now c.loop-place.place c.args.row.now c.loop-place.out.items c.push.new.self.items (c.args.out.now.items ++ row_text default_writer (record_of c.args.dict.now (kinds_of c.args.columns.now) (c.args.row.now, n))) (omega (arith, c.loop-place-test.false)) c.in_ok-push.ensures.items c.loop-place.invariant
    ∙ ap (λ (z : ℤ). c.args.out.now.items ++ row_text default_writer (record_of c.args.dict.now (kinds_of c.args.columns.now) (c.args.row.now, z))) (to_z-of_z c.ranges.count)
