use Rattle.std.proofs.Common.{◌≡◌, ◌∙◌, ◌+◌, ◌<◌, ◌≤◌, ◌^◌, ap, sym, subst, rules, arith, add-one, length, lit<, suc, take}
use Rattle.std.specs.Prelude.{slice_index_or, slice_set}
use Rattle.std.specs.List.{AllByRecursion}
use Rattle.wh_versions.specs.Tables.{ViewRows}
use Rattle.wh_store.specs.Inner.Kept.{Begins, Returns, back_rows, begun_rows}
use Rattle.wh_store.proofs.KeptLaws.{all_at}
use Rattle.wh_store.proofs.RowLaws.{all_changed, all_next, all_taken, length_changed, next_changed, none_changed, not_changed, some_changed}
use Rattle.wh_store.proofs.tables.give_up_each.Goals as goal

pub loop-table-init : goal.loop-table-init
loop-table-init g c = record { rows = none_changed back_rows c.args.tables.now; returns = tt }

pub give_up_one-requires : goal.give_up_one-requires
give_up_one-requires g c =
    let i = c.loop-table.table-index in
    let old = c.args.tables.now in
    let rows = c.loop-table.invariant.rows in
    let inside : i < length c.loop-table.tables = search rules in
    let within : i < length (some_changed back_rows i old) = subst (λ xs. i < length xs) rows inside in
    let at = not_changed back_rows i old c.table-item.result within (c.table-item.is ∙ ap (λ xs. slice_index_or xs i c.table-item.result) rows) in
    let own = all_at (λ (t : ViewRows). 0 < t.night) old i c.table-item.result (subst (λ x. i < x) (length_changed back_rows i old) within) at c.requires in
    (lit< tt, subst (λ (t : ViewRows). 0 < t.night) c.table-item.is own)

pub loop-table-preserved : goal.loop-table-preserved
loop-table-preserved g c =
    let i = c.loop-table.table-index in
    let old = c.args.tables.now in
    let rows = c.loop-table.invariant.rows in
    let inside : i < length c.loop-table.tables = search rules in
    let within : i < length (some_changed back_rows i old) = subst (λ xs. i < length xs) rows inside in
    let here = c.table-item.is ∙ ap (λ xs. slice_index_or xs i c.table-item.result) rows in
    let at = not_changed back_rows i old c.table-item.result within here in
    record {
      rows = ap (λ x. slice_set c.loop-table.tables i x) (c.give_up_one.ensures.rows ∙ ap back_rows (sym c.table-item.is))
          ∙ ap (λ xs. slice_set xs i (back_rows c.table-item.result)) rows
          ∙ next_changed back_rows i old c.table-item.result within here
          ∙ ap (λ j. some_changed back_rows j old) (sym (add-one i));
      returns = subst (λ j. AllByRecursion Returns (take j old)) (sym (add-one i))
          (all_next Returns i old c.table-item.result (subst (λ x. i < x) (length_changed back_rows i old) within) at (subst (λ (t : ViewRows). Returns t) (sym c.table-item.is) c.give_up_one.ensures.returns) c.loop-table.invariant.returns);
    }

pub returns-clause-rows : goal.returns-clause-rows
returns-clause-rows g c =
    let i = c.loop-table.table-index in
    let old = c.args.tables.now in
    let rows = c.loop-table.invariant.rows in
    let end : length c.loop-table.tables ≤ i = search rules in
    let all : length old ≤ i = subst (λ x. x ≤ i) (ap length rows ∙ length_changed back_rows i old) end in
    rows ∙ all_changed back_rows i old all

pub returns-clause-returns : goal.returns-clause-returns
returns-clause-returns g c =
    let i = c.loop-table.table-index in
    let old = c.args.tables.now in
    let rows = c.loop-table.invariant.rows in
    let end : length c.loop-table.tables ≤ i = search rules in
    let all : length old ≤ i = subst (λ x. x ≤ i) (ap length rows ∙ length_changed back_rows i old) end in
    all_taken Returns i old all c.loop-table.invariant.returns
