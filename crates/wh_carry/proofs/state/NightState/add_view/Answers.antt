use Rattle.std.proofs.Common.{◌+◌, suc, sym, ap, subst, ◌∙◌, map, take, cond, [], ◌∷◌, ◌++◌}
use Rattle.std.specs.List.{range_with_len}
use Rattle.wh_dag.specs.Catalog.{width_of, is_base}
use Rattle.wh_row.specs.Bag.{HasWidth, empty}
use Rattle.wh_maint.specs.Comp.{bag_at}
use Rattle.wh_carry.specs.Kept.{KeptLists}
use Rattle.wh_carry.proofs.FirstTables.{one_more}
use Rattle.wh_carry.proofs.Nights.{first_parts_more, first_wide}
use Rattle.wh_carry.proofs.state.NightState.add_view.Goals as goal

pub returns-clause-parts : goal.returns-clause-parts
returns-clause-parts g c =
    let cat = c.args.catalog.now in
    let v = c.args.view in
    let old : KeptLists = c.args.self.now in
    let next : KeptLists =
    record { tables = take (v + 1) c.self.inside.tables.items; pendings = c.push-2.new.self.items; changes = c.push.new.self.items; known = c.push-3.new.self.items } in
    first_parts_more cat (record old { tables = take v old.tables }) next v (bag_at old.tables v) c.in_ok-first_change.field-0 c.in_ok-new.field-0 c.is_base-is_base.result c.requires.parts
    c.requires.table
    (subst (λ b. HasWidth b (width_of cat v)) (sym (c.in_ok-first_change.ensures ∙ (λ i. cond (c.is_base-is_base.ensures i) c.args.change.now empty))) (first_wide (is_base cat v) c.args.change.now (width_of cat v) c.requires.change))
    (λ i. record { view = c.in_ok-new.ensures.view i; columns = (c.in_ok-new.ensures.columns ∙ ap (λ n. map (λ _. empty) (range_with_len 0 (suc n))) c.sums_of.ensures) i })
    c.is_base-is_base.ensures
    (ap (λ (z : KeptLists). take (v + 1) z.tables) c.self.view_is ∙ one_more old.tables v c.requires.there)
    (c.in_ok-push.ensures.items ∙ ap (λ (z : KeptLists). z.changes ++ c.in_ok-first_change.field-0 ∷ []) c.self.view_is)
    (c.in_ok-push-2.ensures.items ∙ ap (λ (z : KeptLists). z.pendings ++ c.in_ok-new.field-0 ∷ []) c.self.view_is)
    (c.in_ok-push-3.ensures.items ∙ ap (λ (z : KeptLists). z.known ++ c.is_base-is_base.result ∷ []) c.self.view_is)
