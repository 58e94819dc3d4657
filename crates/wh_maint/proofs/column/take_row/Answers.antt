use Rattle.std.proofs.Common.{rules, ◌≡◌, ap, sym, subst, ◌∙◌, pos, negsuc, ◌+ℤ◌, FitsSigned, to_z, of_z, arith}
use Rattle.std.specs.Int.{w128}
use Rattle.std.proofs.lemmas.Int.{ints}
use Rattle.wh_row.specs.Bag.{count}
use Rattle.wh_maint.proofs.NewSums.{plus_there, plus_other, taken_row, cancelled_by, least_by}
use Rattle.wh_maint.proofs.column.take_row.Goals as goal

pub add_freely-requires-in-None-2-clause-there : goal.add_freely-requires-in-None-2-clause-there
add_freely-requires-in-None-2-clause-there c = λ z.
    let mid : count c.add_freely-in-None.new.sums c.args.row.now ≡ negsuc 0 =
    plus_there c.args.sums.now c.add_freely-in-None.new.sums c.args.row.now (pos 170141183460469231731687303715884105727) c.add_freely-in-None.ensures
    ∙ ap (λ n. pos 170141183460469231731687303715884105727 +ℤ n) (sym c.sum.ensures) ∙ least_by c.sum.result (search rules) c.in-None.ensures in
    absurd (let bad : negsuc 0 ≡ pos 0 = sym mid ∙ z in cc)

pub add_freely-requires-in-None-2-clause-fits : goal.add_freely-requires-in-None-2-clause-fits
add_freely-requires-in-None-2-clause-fits c =
    let mid : count c.add_freely-in-None.new.sums c.args.row.now ≡ negsuc 0 =
    plus_there c.args.sums.now c.add_freely-in-None.new.sums c.args.row.now (pos 170141183460469231731687303715884105727) c.add_freely-in-None.ensures
    ∙ ap (λ n. pos 170141183460469231731687303715884105727 +ℤ n) (sym c.sum.ensures) ∙ least_by c.sum.result (search rules) c.in-None.ensures in
    subst (λ z. FitsSigned w128 (z +ℤ pos 1)) (sym mid) (let f : FitsSigned w128 (pos 0) = omega (arith, ints) in f)

pub returns-in-Some : goal.returns-in-Some
returns-in-Some c =
    let old = c.args.sums.now in
    let new = c.add_freely.new.sums in
    let n = to_z w128 (of_z w128 c.in-Some.less) in
    taken_row old new c.args.row.now
    (plus_there old new c.args.row.now n c.add_freely.ensures ∙ ap (λ z. n +ℤ z) (sym c.sum.ensures) ∙ cancelled_by c.sum.result c.in-Some.less (search rules) c.in-Some.ensures)
    (plus_other old new c.args.row.now n c.add_freely.ensures)

pub returns-in-None : goal.returns-in-None
returns-in-None c =
    let old = c.args.sums.now in
    let mid = c.add_freely-in-None.new.sums in
    let new = c.add_freely-in-None-2.new.sums in
    let most = pos 170141183460469231731687303715884105727 in
    let there : count mid c.args.row.now ≡ negsuc 0 =
    plus_there old mid c.args.row.now most c.add_freely-in-None.ensures ∙ ap (λ n. most +ℤ n) (sym c.sum.ensures) ∙ least_by c.sum.result (search rules) c.in-None.ensures in
    taken_row old new c.args.row.now
    (plus_there mid new c.args.row.now (pos 1) c.add_freely-in-None-2.ensures ∙ ap (λ n. pos 1 +ℤ n) there)
    (λ q t. plus_other mid new c.args.row.now (pos 1) c.add_freely-in-None-2.ensures q t ∙ plus_other old mid c.args.row.now most c.add_freely-in-None.ensures q t)
