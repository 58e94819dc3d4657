use Rattle.std.proofs.Common.{rules, ◌≡◌, ℕ, suc, sym, ap, subst, ◌∙◌}
use Rattle.wh_row.specs.Bag.{Bag, sum_of}
use Rattle.wh_maint.specs.Comp.{bag_at, merged}
use Rattle.wh_maint.specs.Refused.{SumsTogetherFit}
use Rattle.wh_maint.proofs.BothSums.{on_ok, all_opened, column_more}
use Rattle.wh_maint.proofs.taken.+take_columns_in.Goals as goal

pub absorb-requires : goal.absorb-requires
absorb-requires t c =
    let first = c.in-Some.first.now in
    let other = c.in-Some-split_first_mut.other.now in
    subst (λ (b : Bag). SumsTogetherFit first b) (sym c.replace.ensures.value)
    (all_opened first other c.in-Some.rest.now c.in-Some-split_first_mut.others.now c.args.sums.now c.args.others.now c.in-Some.ensures.cases.0 c.in-Some-split_first_mut.ensures.cases.0 c.requires.fits 0)

pub take_columns_in-requires : goal.take_columns_in-requires
take_columns_in-requires t c =
    let first = c.in-Some.first.now in
    let other = c.in-Some-split_first_mut.other.now in
    let rest = c.in-Some.rest.now in
    let others = c.in-Some-split_first_mut.others.now in
    let fits : (j : ℕ) → SumsTogetherFit (bag_at rest j) (bag_at others j) =
    λ j. all_opened first other rest others c.args.sums.now c.args.others.now c.in-Some.ensures.cases.0 c.in-Some-split_first_mut.ensures.cases.0 c.requires.fits (suc j) in
    search (rules, fits)

pub returns-clause-sums : goal.returns-clause-sums
returns-clause-sums t c =
    let first = c.in-Some.first.now in
    let other = c.in-Some-split_first_mut.other.now in
    let rest = c.in-Some.rest.now in
    let others = c.in-Some-split_first_mut.others.now in
    on_ok c.take_columns_in.result (c.take_columns_in.new.sums ≡ merged rest others) _
    (column_more first other c.absorb.new.sums rest others c.args.sums.now c.args.others.now c.take_columns_in.new.sums c.in-Some.ensures.cases.0 c.in-Some-split_first_mut.ensures.cases.0
    (c.in_ok-absorb.ensures.sum ∙ ap (sum_of first) c.replace.ensures.value))
    c.take_columns_in.ensures.sums
