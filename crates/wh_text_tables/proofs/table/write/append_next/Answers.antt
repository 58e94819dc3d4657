use Rattle.std.proofs.Common.{◌≡◌, ◌++◌, ◌∙◌, ap, arith, get_or, pos, rules, FitsSigned, w64, to_z, of_z, to_z-of_z}
use Rattle.csv.specs.Writing.{default_writer, field_text}
use Rattle.wh_text_tables.specs.TableWritten.{cell_text}
use Rattle.wh_text_tables.proofs.TableLines.{cell-none, cell-some, same-default}
use Rattle.wh_text_tables.proofs.table.write.append_next.Goals as goal

pub returns-in_ok-append_cell : goal.returns-in_ok-append_cell
returns-in_ok-append_cell c kinds =
    let fits : FitsSigned w64 (get_or c.args.row.now c.args.place (pos 0)) = search rules in
    let number = to_z w64 (of_z w64 (get_or c.args.row.now c.args.place (pos 0))) in
    let own : number ≡ get_or c.args.row.now c.args.place number = to_z-of_z fits ∙ same-default c.args.row.now c.args.place (pos 0) number (omega (arith, c.if-place-row.true)) in
    cell-some c.args.dict.now c.args.kind kinds c.args.row.now c.args.place number c.args.out.now.items c.append_cell.new.out.items (omega (arith, c.if-place-row.true)) own
    (c.in_ok-append_cell.ensures ∙ ap (λ t. t ++ field_text default_writer (cell_text c.args.dict.now c.args.kind number)) c.in_ok-push.ensures.items)

pub returns-else-place-row : goal.returns-else-place-row
returns-else-place-row c kinds =
    cell-none c.args.dict.now c.args.kind kinds c.args.row.now c.args.place c.args.out.now.items c.push.new.self.items (omega (arith, c.if-place-row.false)) c.in_ok-push.ensures.items
