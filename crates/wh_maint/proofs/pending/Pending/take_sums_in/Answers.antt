use Rattle.std.proofs.Common.{◌≡◌, ◌+ℤ◌, List, ◌∷◌, suc, length, sym, ap, ◌∙◌, arith}
use Rattle.wh_row.specs.Bag.{Bag, count}
use Rattle.wh_maint.specs.Comp.{bag_at}
use Rattle.wh_maint.proofs.BothSums.{whole, columns_by}
use Rattle.wh_maint.proofs.Parts.{count_merged}
use Rattle.wh_maint.proofs.pending.Pending.take_sums_in.Goals as goal

pub returns-clause-sums : goal.returns-clause-sums
returns-clause-sums c = λ j q.
    let before = c.as_mut_slice-columns.result.now in
    let after = c.take_columns_in.new.sums in
    let more = c.as_mut_slice.result.now in
    let mine = columns_by c.self.inside.view c.self.inside.counts before _ c.args.self.now c.as_mut_slice-columns.ensures.value c.self.view_is in
    let theirs : more ≡ c.args.others.items = c.as_mut_slice.ensures.value in
    let long : length after ≡ length before = c.in-Ok.ensures.columns in
    let held = ap length c.as_mut_slice-columns.ensures.value in
    let columns = ap length mine in
    let others = ap length theirs in
    let same : length more ≡ length before = omega (arith, columns, others, c.requires.columns) in
    ap (λ (cs : List Bag). count (bag_at cs j) q) (whole c.self.inside.sums.len c.self.inside.sums.items after (omega arith) (omega (arith, c.self.inside.sums.ok.0)))
    ∙ ap (λ (cs : List Bag). count (bag_at cs j) q) c.in-Ok.ensures.sums
    ∙ count_merged before more same j q
    ∙ (λ i. count (bag_at (mine i) (suc j)) q +ℤ count (bag_at (theirs i) j) q)
