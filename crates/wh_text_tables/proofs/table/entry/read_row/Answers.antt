use Rattle.std.proofs.Common.{rules, ◌≡◌, ◌<◌, ◌≤◌, ◌+◌, ◌∷◌, ◌++◌, ◌∙◌, [], ap, arith, length, drop, FitsSigned, w64, to_z-of_z}
use Rattle.std.proofs.lemmas.Result.{err_from_is_err_and}
use Rattle.csv.specs.Records.{fields_of}
use Rattle.wh_text.specs.Columns.{kinds_of}
use Rattle.wh_text.proofs.DictGrowth.{begins-texts, begins-trans}
use Rattle.wh_text_tables.specs.Records.{cell}
use Rattle.wh_text_tables.proofs.TableRow.{IsReadTo-cons, IsReadTo-end, IsReadTo-next, IsReadTo-row, IsReadTo-texts, row-refused}
use Rattle.wh_text_tables.proofs.table.entry.read_row.Goals as goal

pub overflow_add-from : goal.overflow_add-from
overflow_add-from c = omega (arith, c.requires.few, c.loop-place-test.true)

pub returns-in_err-value-clause-err : goal.returns-in_err-value-clause-err
returns-in_err-value-clause-err c =
    let cells = fields_of c.args.cells.now in
    let place = c.loop-place.place in
    let column = c.column-item.result in
    let columns = c.args.reader.now.columns.now in
    let below : place < length columns = omega (arith, c.loop-place-test.true) in
    let read = IsReadTo-cons columns cells c.args.from place column c.args.dict.now c.loop-place.dict c.loop-place.row.items c.column-item.is below (omega (arith, c.requires.cells)) c.loop-place.invariant in
    let p = err_from_is_err_and c.from_residual.result c.from_residual.ensures.1 in
    let bad = rw (c.kind.ensures, c.cell-text.ensures) at c.in_err-value.ensures.err in
    rw (p.1, p.2) (row-refused (kinds_of columns) (kinds_of (drop (place + 1) columns)) column.kind (drop c.args.from cells) (drop (c.args.from + (place + 1)) cells) (cell cells (c.args.from + place)) c.args.dict.now c.loop-place.dict c.loop-place.row.items c.args.number c.in_err-value.field-0.0 read bad)

pub returns-in_err-push-clause-begins : goal.returns-in_err-push-clause-begins
returns-in_err-push-clause-begins c =
    begins-trans c.args.dict.now c.loop-place.dict c.number_of.new.dict c.loop-place.invariant.begins (rw c.in_ok-value.ensures.texts (begins-texts c.loop-place.dict _))

pub loop-place-preserved : goal.loop-place-preserved
loop-place-preserved c =
    let cells = fields_of c.args.cells.now in
    let place = c.loop-place.place in
    let column = c.column-item.result in
    let columns = c.args.reader.now.columns.now in
    let below : place < length columns = omega (arith, c.loop-place-test.true) in
    let read = IsReadTo-cons columns cells c.args.from place column c.args.dict.now c.loop-place.dict c.loop-place.row.items c.column-item.is below (omega (arith, c.requires.cells)) c.loop-place.invariant in
    let number = rw (c.kind.ensures, c.cell-text.ensures) at c.in_ok-value.ensures.ok in
    let grown = rw (c.kind.ensures, c.cell-text.ensures) at c.in_ok-value.ensures.texts in
    let fits : FitsSigned w64 c.in_ok-value.value = search rules in
    let pushed : c.push.new.self.items ≡ c.loop-place.row.items ++ c.in_ok-value.value ∷ [] = c.in_ok-push.ensures.items ∙ ap (λ v. c.loop-place.row.items ++ v ∷ []) (to_z-of_z fits) in
    rw pushed (IsReadTo-next (kinds_of columns) (kinds_of (drop (place + 1) columns)) column.kind (drop c.args.from cells) (drop (c.args.from + (place + 1)) cells) (cell cells (c.args.from + place)) c.args.dict.now c.loop-place.dict c.number_of.new.dict c.loop-place.row.items c.in_ok-value.value read number grown)

pub returns-clause-ok : goal.returns-clause-ok
returns-clause-ok c =
    let cells = fields_of c.args.cells.now in
    let past : length c.args.reader.now.columns.now ≤ c.loop-place.place = omega (arith, c.loop-place-test.false) in
    let read = IsReadTo-end c.args.reader.now.columns.now cells c.args.from c.loop-place.place c.args.dict.now c.loop-place.dict c.loop-place.row.items past c.loop-place.invariant in
    IsReadTo-row (kinds_of c.args.reader.now.columns.now) (drop c.args.from cells) (drop (c.args.from + c.loop-place.place) cells) c.args.dict.now c.loop-place.dict c.loop-place.row.items read

pub returns-clause-texts : goal.returns-clause-texts
returns-clause-texts c =
    let cells = fields_of c.args.cells.now in
    let past : length c.args.reader.now.columns.now ≤ c.loop-place.place = omega (arith, c.loop-place-test.false) in
    let read = IsReadTo-end c.args.reader.now.columns.now cells c.args.from c.loop-place.place c.args.dict.now c.loop-place.dict c.loop-place.row.items past c.loop-place.invariant in
    IsReadTo-texts (kinds_of c.args.reader.now.columns.now) (drop c.args.from cells) (drop (c.args.from + c.loop-place.place) cells) c.args.dict.now c.loop-place.dict c.loop-place.row.items read
