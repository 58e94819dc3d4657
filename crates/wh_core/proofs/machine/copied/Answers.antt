use Rattle.std.proofs.Common.{sym, ◌∙◌, ℕ, ◌+◌, ◌<◌, List, [], ◌∷◌, ◌++◌, length, arith}
use Rattle.wh_row.specs.Bag.{Bag, empty}
use Rattle.wh_store.specs.Versions.{table_in, versions_of}
use Rattle.wh_carry.proofs.CourseWaves.{take_all, take_next}
use Rattle.wh_core.proofs.Tables.{read_there}
use Rattle.wh_core.proofs.machine.copied.Goals as goal

pub loop-view-preserved : goal.loop-view-preserved
loop-view-preserved c = λ opening ops shows.
    let newest : List Bag = (versions_of opening ops).newest in
    let v : ℕ = c.loop-view.view in
    let all = c.current_views-view-end.ensures.of_list opening ops shows in
    let inside : v < length newest = omega (arith, all) in
    c.in_ok-push.ensures.items
    ∙ (λ i. c.loop-view.invariant opening ops shows i ++ c.in_ok-table.ensures.of_list opening ops shows i ∷ [])
    ∙ sym (take_next newest v (table_in newest v) (read_there newest v empty inside))

pub returns : goal.returns
returns c = λ opening ops shows.
    let newest : List Bag = (versions_of opening ops).newest in
    let all = c.current_views-view-end.ensures.of_list opening ops shows in
    c.loop-view.invariant opening ops shows ∙ take_all c.loop-view.view newest (omega (arith, all))
