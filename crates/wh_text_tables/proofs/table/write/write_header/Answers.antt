use Rattle.std.proofs.Common.{◌++◌, ◌∙◌, arith}
use Rattle.csv.specs.Writing.{default_writer, field_text, row_text}
use Rattle.wh_text.specs.Columns.{names_of}
use Rattle.wh_text_tables.specs.TableText.{counted_header}
use Rattle.wh_text_tables.proofs.TableLines.{header-end, header-next, header-start}
use Rattle.wh_text_tables.proofs.table.write.write_header.Goals as goal

pub loop-column-init : goal.loop-column-init
loop-column-init c = header-start (names_of c.args.columns.now) c.args.out.now.items c.push.new.self.items c.in_ok-push.ensures.items

pub loop-column-preserved : goal.loop-column-preserved
loop-column-preserved c =
    header-next c.args.columns.now c.loop-column.column-index c.column-item.result c.loop-column.out.items c.append_text.new.out.items (c.args.out.now.items ++ row_text default_writer (counted_header (names_of c.args.columns.now))) c.column-item.is (omega (arith, c.loop-column-test.true))
    (c.in_ok-append_text.ensures ∙ (λ i. c.in_ok-push-2.ensures.items i ++ field_text default_writer ((c.as_bytes.ensures.value ∙ c.name.ensures) i))) c.loop-column.invariant

pub returns : goal.returns
returns c =
    header-end c.args.columns.now c.loop-column.column-index c.loop-column.out.items c.push-2.new.self.items (c.args.out.now.items ++ row_text default_writer (counted_header (names_of c.args.columns.now))) (omega (arith, c.loop-column-test.false)) c.in_ok-push-3.ensures.items c.loop-column.invariant
