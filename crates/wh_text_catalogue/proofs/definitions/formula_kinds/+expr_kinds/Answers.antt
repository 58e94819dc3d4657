use Rattle.std.proofs.Common.{◌-◌, arith}
use Rattle.toml.specs.View.{view}
use Rattle.wh_text_catalogue.specs.ExprForm.{Literal, Operation, Reference}
use Rattle.wh_text_catalogue.specs.FormulaKinds.{typed_column}
use Rattle.wh_text_catalogue.proofs.FormulaSteps.{typed_expr-level, keeping-err, keeping-ok}
use Rattle.wh_text_catalogue.proofs.definitions.formula_kinds.+expr_kinds.Goals as goal

pub typed_expr-returns-in-Some-Literal-clause-ok : goal.typed_expr-returns-in-Some-Literal-clause-ok
typed_expr-returns-in-Some-Literal-clause-ok t c =
    let same = rw c.in-Some-Literal.field-0-is at c.in-Some-Literal.ensures in
    rw (typed_expr-level c.args.header.now c.args.levels (c.args.levels - 1) (view c.args.value.now) c.args.texts.now (Literal c.in-Some-Literal.text.now) (omega arith) same)
    c.literal.ensures.ok

pub typed_expr-returns-in-Some-Reference-clause-ok : goal.typed_expr-returns-in-Some-Reference-clause-ok
typed_expr-returns-in-Some-Reference-clause-ok t c =
    let same = rw c.in-Some-Reference.field-0-is at c.in-Some-Reference.ensures in
    rw (typed_expr-level c.args.header.now c.args.levels (c.args.levels - 1) (view c.args.value.now) c.args.texts.now (Reference c.in-Some-Reference.text.now) (omega arith) same)
    (keeping-ok c.column.result (typed_column c.args.header.now c.in-Some-Reference.text.now) c.args.texts.now c.column.ensures.ok)

pub typed_expr-returns-in-Some-Reference-clause-err : goal.typed_expr-returns-in-Some-Reference-clause-err
typed_expr-returns-in-Some-Reference-clause-err t c =
    let same = rw c.in-Some-Reference.field-0-is at c.in-Some-Reference.ensures in
    rw (typed_expr-level c.args.header.now c.args.levels (c.args.levels - 1) (view c.args.value.now) c.args.texts.now (Reference c.in-Some-Reference.text.now) (omega arith) same)
    (keeping-err c.column.result (typed_column c.args.header.now c.in-Some-Reference.text.now) c.args.texts.now c.column.ensures.err)

pub typed_expr-returns-in-Some-Operation-clause-ok : goal.typed_expr-returns-in-Some-Operation-clause-ok
typed_expr-returns-in-Some-Operation-clause-ok t c =
    let same = rw c.in-Some-Operation.field-0-is at c.in-Some-Operation.ensures in
    rw (typed_expr-level c.args.header.now c.args.levels (c.args.levels - 1) (view c.args.value.now) c.args.texts.now (Operation c.in-Some-Operation.sign (view c.in-Some-Operation.left.now) (view c.in-Some-Operation.right.now)) (omega arith) same)
    c.typed_operation.ensures.ok

pub typed_expr-returns-in-Some-Operation-clause-err : goal.typed_expr-returns-in-Some-Operation-clause-err
typed_expr-returns-in-Some-Operation-clause-err t c =
    let same = rw c.in-Some-Operation.field-0-is at c.in-Some-Operation.ensures in
    rw (typed_expr-level c.args.header.now c.args.levels (c.args.levels - 1) (view c.args.value.now) c.args.texts.now (Operation c.in-Some-Operation.sign (view c.in-Some-Operation.left.now) (view c.in-Some-Operation.right.now)) (omega arith) same)
    c.typed_operation.ensures.err
