use Rattle.std.proofs.Common.{◌≡◌, sym, ◌∙◌}
use Rattle.std.specs.declared.cmp.Ordering.TheVariants.{Less}
use Rattle.wh_row.specs.Row.{row_cmp}
use Rattle.wh_maint.proofs.FirstAbsent.{first_with, first_turned, below_both, below_lesser}
use Rattle.wh_maint.proofs.base_change.first_absent.Goals as goal

pub returns-in-None-Some : goal.returns-in-None-Some
returns-in-None-Some c =
    let table = c.args.table.now in
    let delta = c.args.delta.now in
    let second = c.in-None-Some.second.now in
    first_turned table delta second (first_with delta table second c.in-None-Some.ensures' (λ q l n. c.in-None-Some.ensures q n))

pub returns-in-Some-None : goal.returns-in-Some-None
returns-in-Some-None c = first_with c.args.table.now c.args.delta.now c.in-Some-None.first.now c.in-Some-None.ensures (λ q l n. c.in-Some-None.ensures' q n)

pub returns-in-Less : goal.returns-in-Less
returns-in-Less c =
    let table = c.args.table.now in
    let delta = c.args.delta.now in
    let first = c.in-Some-Some.first.now in
    let second = c.in-Some-Some.second.now in
    let less : row_cmp second first ≡ Less = sym c.cmp.ensures ∙ c.in-Less.is in
    first_turned table delta second (first_with delta table second c.in-Some-Some.ensures' (λ q l n. c.in-Some-Some.ensures.others q (below_lesser q first second less l) n))

pub returns-in_default : goal.returns-in_default
returns-in_default c =
    let first = c.in-Some-Some.first.now in
    let second = c.in-Some-Some.second.now in
    first_with c.args.table.now c.args.delta.now first c.in-Some-Some.ensures (λ q l n. c.in-Some-Some.ensures'.others q (below_both q first second (λ e. c.in_default.not-Less (c.cmp.ensures ∙ e)) l) n)
