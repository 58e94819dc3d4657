use Rattle.std.proofs.Common.{◌≡◌, ◌<◌, ◌∙◌, sym, ap, subst, true, length, arith}
use Rattle.std.proofs.lemmas.List.{get_or_read}
use Rattle.wh_dag.specs.Catalog.{is_base}
use Rattle.wh_dag.specs.Shape.{Views}
use Rattle.wh_row.specs.Bag.{empty}
use Rattle.wh_maint.specs.Comp.{bag_at}
use Rattle.wh_maint.specs.Refused.{IsChangeFault}
use Rattle.wh_carry.specs.Refused.{IsBaseFault}
use Rattle.wh_carry.proofs.HandedOn.{handed_on}
use Rattle.wh_carry.proofs.Reasons.{base_reason}
use Rattle.wh_carry.proofs.carrying.base_changes.Goals as goal

pub returns-in_err-changed-clause-refused : goal.returns-in_err-changed-clause-refused
returns-in_err-changed-clause-refused g c =
    let cat = c.args.catalog.now in
    let v = c.loop-view.view in
    let each_t = c.requires.tables.each in
    let each_c = c.requires.changes.each in
    let end = c.len-view-end.ensures.len ∙ ap (λ (x : Views). length x.children) c.shape.ensures.views in
    let inside : v < length cat.views.children = omega arith in
    let base : is_base cat v ≡ true = sym c.is_base.ensures ∙ c.if-is_base.true in
    let table = get_or_read c.args.tables.now v c.index-tables-view.result (omega arith) c.index-tables-view.is empty in
    let change = get_or_read c.args.changes.now v c.index-changes-view.result (omega arith) c.index-changes-view.is empty in
    let fault = c.in_err-changed.field-0.0 in
    handed_on (IsBaseFault cat (bag_at c.args.tables.now) (bag_at c.args.changes.now)) c.from_residual.result fault c.from_residual.ensures
    (base_reason cat (bag_at c.args.tables.now) (bag_at c.args.changes.now) v inside base c.loop-view.invariant fault
    (subst (λ t. IsChangeFault v t (bag_at c.args.changes.now v) fault) table
    (subst (λ d. IsChangeFault v c.index-tables-view.result d fault) change c.in_err-changed.ensures.refused)))
