use Rattle.std.proofs.Common.{◌≡◌, ◌∙◌, sym, ap, Some, Ok}
use Rattle.std.proofs.lemmas.Result.{err_from_is_err_and}
use Rattle.std.specs.Prelude.{option_map, slice_get}
use Rattle.wh_later.proofs.TextsGrow.{answer-begins, taken_back}
use Rattle.wh_text_catalogue.specs.Definitions.{shown_view}
use Rattle.wh_text_tables.specs.TableRead.{table_gives}
use Rattle.wh_text_tables.specs.declared.table.header.Content.TheVariants as content
use Rattle.wh_stay.specs.Pages.{one_record}
use Rattle.wh_stay.specs.Standing.{shown_standing, with_texts}
use Rattle.wh_stay.proofs.RowsNamed.{named, not_sole, over_some}
use Rattle.wh_stay.proofs.standing.Standing.read_row.Goals as goal

pub returns-in_err-sole_row-clause-err : goal.returns-in_err-sole_row-clause-err
returns-in_err-sole_row-clause-err g c =
    let texts = c.args.self.now.texts in
    let own = c.in-Some.own.now in
    let cells = c.args.cells.now in
    let views = c.args.self.now.views.items in
    let there : slice_get views c.args.view ≡ Some own = ap (λ vs. slice_get vs c.args.view) (sym c.deref.ensures.value) ∙ sym c.view_at.ensures ∙ ap (option_map (λ own. own.now)) c.in-Some.is in
    let is = c.deref-4.ensures.value ∙ c.in_ok-text.ensures ∙ ap (λ columns. one_record columns cells) c.deref-2.ensures.value in
    let given = ap (λ columns. table_gives columns texts c.deref-4.result.now) (sym c.deref-3.ensures.value) ∙ c.in_ok-read.ensures.ok in
    let p = err_from_is_err_and c.from_residual-in_err-sole_row.result c.from_residual-in_err-sole_row.ensures.1 in
    rw (p.1, p.2)
    (not_sole views c.args.view texts cells own there c.deref-4.result.now is (c.in_ok-read.field-0, c.read_table-read.new.dict) given c.in_err-sole_row.field-0.0 c.in_err-sole_row.ensures.err)

pub returns-in_err-sole_row-clause-same : goal.returns-in_err-sole_row-clause-same
returns-in_err-sole_row-clause-same g c =
    let texts = c.args.self.now.texts in
    let read = c.read_table-read in
    ap (with_texts (shown_standing c.args.self.now)) (taken_back texts read.new.dict c.truncate.new.self c.len-before.result
    (answer-begins content.Table c.deref-3.result.now texts read.new.dict c.deref-4.result.now read.result read.ensures.ok read.ensures.kept) c.len-before.ensures.len c.truncate.ensures)

pub returns-clause-ok : goal.returns-clause-ok
returns-clause-ok g c =
    let texts = c.args.self.now.texts in
    let own = c.in-Some.own.now in
    let cells = c.args.cells.now in
    let there : slice_get c.args.self.now.views.items c.args.view ≡ Some own =
    ap (λ vs. slice_get vs c.args.view) (sym c.deref.ensures.value) ∙ sym c.view_at.ensures ∙ ap (option_map (λ own. own.now)) c.in-Some.is in
    let is = c.deref-4.ensures.value ∙ c.in_ok-text.ensures ∙ ap (λ columns. one_record columns cells) c.deref-2.ensures.value in
    let given = ap (λ columns. table_gives columns texts c.deref-4.result.now) (sym c.deref-3.ensures.value) ∙ c.in_ok-read.ensures.ok in
    over_some c.args.self.now.views.items c.args.view texts cells own there c.in_ok-sole_row.field-0.items
    (named (shown_view own).columns texts cells c.deref-4.result.now is (c.in_ok-read.field-0, c.read_table-read.new.dict) (Ok c.in_ok-sole_row.field-0.items) given c.in_ok-sole_row.ensures.ok)

pub returns-clause-same : goal.returns-clause-same
returns-clause-same g c =
    let texts = c.args.self.now.texts in
    let read = c.read_table-read in
    ap (with_texts (shown_standing c.args.self.now)) (taken_back texts read.new.dict c.truncate.new.self c.len-before.result
    (answer-begins content.Table c.deref-3.result.now texts read.new.dict c.deref-4.result.now read.result read.ensures.ok read.ensures.kept) c.len-before.ensures.len c.truncate.ensures)
