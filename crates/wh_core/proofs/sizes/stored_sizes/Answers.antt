use Rattle.std.proofs.Common.{sym, ap, ◌∙◌, ℕ, ◌<◌, List, [], ◌∷◌, ◌++◌, length, take, arith}
use Rattle.wh_row.specs.Bag.{Bag, empty, size}
use Rattle.wh_store.specs.Versions.{table_in, versions_of}
use Rattle.wh_carry.proofs.CourseWaves.{take_all, take_next}
use Rattle.wh_core.specs.Tables.{sizes_of}
use Rattle.wh_core.proofs.Tables.{read_there}
use Rattle.wh_core.proofs.TableSizes.{sizes_more}
use Rattle.wh_core.proofs.sizes.stored_sizes.Goals as goal

pub loop-view-preserved : goal.loop-view-preserved
loop-view-preserved c = λ opening ops shows.
    let newest : List Bag = (versions_of opening ops).newest in
    let v : ℕ = c.loop-view.view in
    let all = c.current_views-view-end.ensures.of_list opening ops shows in
    let inside : v < length newest = omega (arith, all) in
    c.in_ok-push.ensures.items
    ∙ (λ i. c.loop-view.invariant opening ops shows i ++ (c.total.ensures ∙ ap size (c.in_ok-table.ensures.of_list opening ops shows)) i ∷ [])
    ∙ sizes_more (take v newest) (table_in newest v)
    ∙ ap sizes_of (sym (take_next newest v (table_in newest v) (read_there newest v empty inside)))

pub returns : goal.returns
returns c = λ opening ops shows.
    let newest : List Bag = (versions_of opening ops).newest in
    let all = c.current_views-view-end.ensures.of_list opening ops shows in
    c.loop-view.invariant opening ops shows ∙ ap sizes_of (take_all c.loop-view.view newest (omega (arith, all)))
