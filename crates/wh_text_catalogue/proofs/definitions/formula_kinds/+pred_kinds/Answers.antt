use Rattle.std.proofs.Common.{ℕ, ◌-◌, ◌+◌, ◌<◌, length, map, arith}
use Rattle.toml.specs.View.{view}
use Rattle.wh_formula.specs.Pred.{PredTree}
use Rattle.wh_formula.proofs.Parts.{most_levels-below}
use Rattle.wh_text_catalogue.specs.PredForm.{All, Any, Compare, Not}
use Rattle.wh_text_catalogue.proofs.FormulaSteps.{typed_pred-level}
use Rattle.wh_text_catalogue.proofs.definitions.formula_kinds.+pred_kinds.Goals as goal

pub typed_pred-returns-in-Some-Compare-clause-ok : goal.typed_pred-returns-in-Some-Compare-clause-ok
typed_pred-returns-in-Some-Compare-clause-ok t c =
    let same = rw c.in-Some-Compare.field-0-is at c.in-Some-Compare.ensures in
    rw (typed_pred-level c.args.header.now c.args.levels (c.args.levels - 1) (view c.args.value.now) c.args.texts.now (Compare c.in-Some-Compare.comparison (view c.in-Some-Compare.left.now) (view c.in-Some-Compare.right.now)) (omega arith) same)
    c.typed_comparison.ensures.ok

pub typed_pred-returns-in-Some-Compare-clause-err : goal.typed_pred-returns-in-Some-Compare-clause-err
typed_pred-returns-in-Some-Compare-clause-err t c =
    let same = rw c.in-Some-Compare.field-0-is at c.in-Some-Compare.ensures in
    rw (typed_pred-level c.args.header.now c.args.levels (c.args.levels - 1) (view c.args.value.now) c.args.texts.now (Compare c.in-Some-Compare.comparison (view c.in-Some-Compare.left.now) (view c.in-Some-Compare.right.now)) (omega arith) same)
    c.typed_comparison.ensures.err

pub typed_pred-returns-in-Some-All-clause-ok : goal.typed_pred-returns-in-Some-All-clause-ok
typed_pred-returns-in-Some-All-clause-ok t c =
    let same = rw c.in-Some-All.field-0-is at c.in-Some-All.ensures in
    rw (typed_pred-level c.args.header.now c.args.levels (c.args.levels - 1) (view c.args.value.now) c.args.texts.now (All (map view c.in-Some-All.parts.now)) (omega arith) same)
    c.typed_all.ensures.ok

pub typed_pred-returns-in-Some-All-clause-err : goal.typed_pred-returns-in-Some-All-clause-err
typed_pred-returns-in-Some-All-clause-err t c =
    let same = rw c.in-Some-All.field-0-is at c.in-Some-All.ensures in
    rw (typed_pred-level c.args.header.now c.args.levels (c.args.levels - 1) (view c.args.value.now) c.args.texts.now (All (map view c.in-Some-All.parts.now)) (omega arith) same)
    c.typed_all.ensures.err

pub typed_pred-returns-in-Some-Any-clause-ok : goal.typed_pred-returns-in-Some-Any-clause-ok
typed_pred-returns-in-Some-Any-clause-ok t c =
    let same = rw c.in-Some-Any.field-0-is at c.in-Some-Any.ensures in
    rw (typed_pred-level c.args.header.now c.args.levels (c.args.levels - 1) (view c.args.value.now) c.args.texts.now (Any (map view c.in-Some-Any.parts.now)) (omega arith) same)
    c.typed_any.ensures.ok

pub typed_pred-returns-in-Some-Any-clause-err : goal.typed_pred-returns-in-Some-Any-clause-err
typed_pred-returns-in-Some-Any-clause-err t c =
    let same = rw c.in-Some-Any.field-0-is at c.in-Some-Any.ensures in
    rw (typed_pred-level c.args.header.now c.args.levels (c.args.levels - 1) (view c.args.value.now) c.args.texts.now (Any (map view c.in-Some-Any.parts.now)) (omega arith) same)
    c.typed_any.ensures.err

pub typed_pred-returns-in-Some-Not-clause-ok : goal.typed_pred-returns-in-Some-Not-clause-ok
typed_pred-returns-in-Some-Not-clause-ok t c =
    let same = rw c.in-Some-Not.field-0-is at c.in-Some-Not.ensures in
    rw (typed_pred-level c.args.header.now c.args.levels (c.args.levels - 1) (view c.args.value.now) c.args.texts.now (Not (view c.in-Some-Not.part.now)) (omega arith) same)
    c.typed_not.ensures.ok

pub typed_pred-returns-in-Some-Not-clause-err : goal.typed_pred-returns-in-Some-Not-clause-err
typed_pred-returns-in-Some-Not-clause-err t c =
    let same = rw c.in-Some-Not.field-0-is at c.in-Some-Not.ensures in
    rw (typed_pred-level c.args.header.now c.args.levels (c.args.levels - 1) (view c.args.value.now) c.args.texts.now (Not (view c.in-Some-Not.part.now)) (omega arith) same)
    c.typed_not.ensures.err

pub typed_all-returns-clause-within : goal.typed_all-returns-clause-within
typed_all-returns-clause-within t c =
    let few = λ (k : ℕ) (d : PredTree) (l : k < length c.in_ok-parts.parts.items). c.in_ok-parts.ensures.within k d l in
    rw c.all.ensures (omega (arith, most_levels-below c.in_ok-parts.parts.items (c.args.levels + 1) (λ k d l. omega (arith, few k d l)) (omega arith)))

pub typed_any-returns-clause-within : goal.typed_any-returns-clause-within
typed_any-returns-clause-within t c =
    let few = λ (k : ℕ) (d : PredTree) (l : k < length c.in_ok-parts.parts.items). c.in_ok-parts.ensures.within k d l in
    rw c.any.ensures (omega (arith, most_levels-below c.in_ok-parts.parts.items (c.args.levels + 1) (λ k d l. omega (arith, few k d l)) (omega arith)))
