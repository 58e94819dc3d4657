use Rattle.std.proofs.Common.{◌≡◌, ◌+◌, ◌∙◌, ap, sym, false}
use Rattle.csv.specs.Records.{fields_of}
use Rattle.wh_text_tables.specs.Unread.{Unread, left_of}
use Rattle.wh_text_tables.proofs.RecordReads.{counted-next, formed-read, gives-next, left-read, left-end, left-error}
use Rattle.wh_text_tables.proofs.records.CsvRecords.read.Goals as goal

pub invariant_of-self : goal.invariant_of-self
invariant_of-self c =
    let is = c.self.invariant.reading c.if-self.false in
    let taken = rw c.in-Ok-true.field-0-test at (c.in-Ok-true.ensures.reads is.trims is.ready) in
    let step = left-read c.self.inside.reader c.read_record.new.self (fields_of c.read_record.new.row) is taken (c.in-Ok-true.ensures.ready is.trims) in
    counted-next c.self.inside.ended c.self.inside.reader c.read_record.new.self c.self.inside.given (fields_of c.read_record.new.row) c.if-self.false c.self.invariant step.0 step.1

pub returns-in-Ok-true-clause-ok : goal.returns-in-Ok-true-clause-ok
returns-in-Ok-true-clause-ok c =
    let is = c.self.invariant.reading c.if-self.false in
    let taken = rw c.in-Ok-true.field-0-test at (c.in-Ok-true.ensures.reads is.trims is.ready) in
    let step = left-read c.self.inside.reader c.read_record.new.self (fields_of c.read_record.new.row) is taken (c.in-Ok-true.ensures.ready is.trims) in
    gives-next c.self.inside.ended c.self.inside.reader c.read_record.new.self c.self.inside.given (fields_of c.read_record.new.row) c.args.self.now c.if-self.false c.self.view_is step.1

pub returns-in-Ok-true-clause-formed : goal.returns-in-Ok-true-clause-formed
returns-in-Ok-true-clause-formed c _ =
    let is = c.self.invariant.reading c.if-self.false in
    formed-read (c.self.inside.given + 1) (fields_of c.read_record.new.row) (c.in-Ok-true.ensures.text is.trims)

pub returns-in-Ok-false-clause-ok : goal.returns-in-Ok-false-clause-ok
returns-in-Ok-false-clause-ok c =
    let is = c.self.invariant.reading c.if-self.false in
    let ended = rw c.in-Ok-false.field-0-test at (c.in-Ok-false.ensures.reads is.trims is.ready) in
    let left = left-end c.self.inside.reader c.read_record.new.self (fields_of c.read_record.new.row) is ended in
    ap (λ (u : Unread). u.left) (sym c.self.view_is) ∙ rw c.if-self.false left

pub returns-in-Err-clause-err : goal.returns-in-Err-clause-err
returns-in-Err-clause-err c =
    let is = c.self.invariant.reading c.if-self.false in
    let why = c.in-Err.ensures.why is.trims is.ready in
    let left : c.args.self.now.left ≡ left_of false c.self.inside.reader =
    ap (λ (u : Unread). u.left) (sym c.self.view_is) ∙ ap (λ ended. left_of ended c.self.inside.reader) c.if-self.false in
    let given : c.args.self.now.given ≡ c.self.inside.given = ap (λ (u : Unread). u.given) (sym c.self.view_is) in
    rw (c.read_fault.ensures, ← given) (left-error c.self.inside.reader c.read_record.new.self c.in-Err.error.kind c.args.self.now is left why)
