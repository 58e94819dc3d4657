use Rattle.std.proofs.Common.{◌≡◌, ap, subst, ◌∙◌, length, arith, IfOk}
use Rattle.std.proofs.lemmas.List.{get_or_read}
use Rattle.wh_dag.specs.Catalog.{width_of}
use Rattle.wh_row.specs.Bag.{HasWidth, empty}
use Rattle.wh_maint.specs.Summary.{change_of}
use Rattle.wh_maint.specs.Finishing.{kind_in}
use Rattle.wh_maint.specs.Comp.{bag_at}
use Rattle.wh_carry.specs.Kept.{KeptLists}
use Rattle.wh_carry.proofs.Storing.{if_ok_is, change_wide}
use Rattle.wh_carry.proofs.state.NightState.change_of.Goals as goal

pub returns-clause-width : goal.returns-clause-width
returns-clause-width g c =
    let cat = c.args.catalog.now in
    let v = c.args.view in
    let s : KeptLists = c.args.self.now in
    let same = ap (λ (z : KeptLists). z.tables) c.self.view_is in
    let l = c.requires.view in
    let each = ap length same ∙ c.requires.parts.tables.each in
    let table : c.index.result.now ≡ bag_at s.tables v = get_or_read c.self.inside.tables.items v c.index.result.now (omega arith) c.index.ensures empty ∙ ap (λ bs. bag_at bs v) same in
    if_ok_is (λ b. HasWidth b (width_of cat v)) (change_of (kind_in cat v) (bag_at s.tables v) (bag_at c.args.pending.now.columns)) c.finish.result
    (subst (λ t. IfOk c.finish.result (λ x. x ≡ change_of (kind_in cat v) t (bag_at c.args.pending.now.columns))) table c.finish.ensures.change)
    (change_wide cat s v c.args.pending.now c.requires.parts c.requires.view c.requires.derived c.requires.pending)
