use Rattle.std.proofs.Common.{◌≡◌, ◌∙◌, ◌+◌, ◌<◌, ◌≤◌, ◌^◌, ap, sym, subst, rules, arith, add-one, length, lit<, suc, take}
use Rattle.std.specs.Prelude.{slice_index_or, slice_set}
use Rattle.std.specs.List.{AllByRecursion}
use Rattle.wh_versions.specs.Tables.{ViewRows}
use Rattle.wh_store.specs.Inner.Kept.{Begins, Returns, back_rows, begun_rows}
use Rattle.wh_store.proofs.KeptLaws.{all_at}
use Rattle.wh_store.proofs.RowLaws.{all_changed, all_next, all_taken, length_changed, next_changed, none_changed, not_changed, some_changed}
use Rattle.wh_store.proofs.tables.begin_each.Goals as goal

pub loop-table-init : goal.loop-table-init
loop-table-init g c = record { rows = none_changed (begun_rows g.row.N) c.args.tables.now; keeps = tt }

pub begin_one-requires : goal.begin_one-requires
begin_one-requires g c =
    let i = c.loop-table.table-index in
    let old = c.args.tables.now in
    let rows = c.loop-table.invariant.rows in
    let inside : i < length c.loop-table.tables = search rules in
    let within : i < length (some_changed (begun_rows g.row.N) i old) = subst (λ xs. i < length xs) rows inside in
    let at = not_changed (begun_rows g.row.N) i old c.table-item.result within (c.table-item.is ∙ ap (λ xs. slice_index_or xs i c.table-item.result) rows) in
    let own = all_at (λ (t : ViewRows). t.night + 1 < 2 ^ 64) old i c.table-item.result (subst (λ x. i < x) (length_changed (begun_rows g.row.N) i old) within) at c.requires.numbers in
    (lit< tt, (c.requires.enough, subst (λ (t : ViewRows). t.night + 1 < 2 ^ 64) c.table-item.is own))

pub loop-table-preserved : goal.loop-table-preserved
loop-table-preserved g c =
    let i = c.loop-table.table-index in
    let old = c.args.tables.now in
    let rows = c.loop-table.invariant.rows in
    let inside : i < length c.loop-table.tables = search rules in
    let within : i < length (some_changed (begun_rows g.row.N) i old) = subst (λ xs. i < length xs) rows inside in
    let here = c.table-item.is ∙ ap (λ xs. slice_index_or xs i c.table-item.result) rows in
    let at = not_changed (begun_rows g.row.N) i old c.table-item.result within here in
    record {
      rows = ap (λ x. slice_set c.loop-table.tables i x) (c.begin_one.ensures.rows ∙ ap (begun_rows g.row.N) (sym c.table-item.is))
          ∙ ap (λ xs. slice_set xs i ((begun_rows g.row.N) c.table-item.result)) rows
          ∙ next_changed (begun_rows g.row.N) i old c.table-item.result within here
          ∙ ap (λ j. some_changed (begun_rows g.row.N) j old) (sym (add-one i));
      keeps = subst (λ j. AllByRecursion (Begins g.row.N) (take j old)) (sym (add-one i))
          (all_next (Begins g.row.N) i old c.table-item.result (subst (λ x. i < x) (length_changed (begun_rows g.row.N) i old) within) at (subst (λ (t : ViewRows). Begins g.row.N t) (sym c.table-item.is) c.begin_one.ensures.keeps) c.loop-table.invariant.keeps);
    }

pub returns-clause-rows : goal.returns-clause-rows
returns-clause-rows g c =
    let i = c.loop-table.table-index in
    let old = c.args.tables.now in
    let rows = c.loop-table.invariant.rows in
    let end : length c.loop-table.tables ≤ i = search rules in
    let all : length old ≤ i = subst (λ x. x ≤ i) (ap length rows ∙ length_changed (begun_rows g.row.N) i old) end in
    rows ∙ all_changed (begun_rows g.row.N) i old all

pub returns-clause-keeps : goal.returns-clause-keeps
returns-clause-keeps g c =
    let i = c.loop-table.table-index in
    let old = c.args.tables.now in
    let rows = c.loop-table.invariant.rows in
    let end : length c.loop-table.tables ≤ i = search rules in
    let all : length old ≤ i = subst (λ x. x ≤ i) (ap length rows ∙ length_changed (begun_rows g.row.N) i old) end in
    all_taken (Begins g.row.N) i old all c.loop-table.invariant.keeps
