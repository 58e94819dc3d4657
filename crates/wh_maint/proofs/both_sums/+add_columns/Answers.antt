use Rattle.std.proofs.Common.{◌≡◌, ◌∷◌, sym, subst, ◌∙◌, length, arith}
use Rattle.std.specs.Prelude.{IsTrue}
use Rattle.wh_row.specs.Bag.{SumFits}
use Rattle.wh_maint.specs.Refused.{MergedFit}
use Rattle.wh_maint.proofs.BothSums.{on_ok, none_fit, fit_here, fit_less, nothing_here, nothing_less, column_more}
use Rattle.wh_maint.proofs.Lacking.{not_true}
use Rattle.wh_maint.proofs.NewSums.{apart, brings_some, taken_back, others_same, column_added}
use Rattle.wh_maint.proofs.both_sums.+add_columns.Goals as goal

pub returns-in_default-clause-fits : goal.returns-in_default-clause-fits
returns-in_default-clause-fits t c =
    let none : length c.args.others.now ≡ 0 = c.in_default.ensures.cases in
    let same : length c.args.others.now ≡ length c.args.sums.now = c.requires in
    on_ok c.merge.result (SumFits c.args.counts.now c.args.more.now) (MergedFit (c.args.counts.now ∷ c.args.sums.now) (c.args.more.now ∷ c.args.others.now))
    (none_fit c.args.counts.now c.args.more.now c.args.sums.now c.args.others.now (omega arith) none) c.merge.ensures.fits

pub returns-in_default-clause-memory : goal.returns-in_default-clause-memory
returns-in_default-clause-memory t c = λ e nothing. c.merge.ensures.memory e (nothing 0)

pub returns-then-not-fit-clause-large : goal.returns-then-not-fit-clause-large
returns-then-not-fit-clause-large t c = λ _ all.
    let first = c.in-Some-split_first_mut.first.now in
    let rest = c.in-Some-split_first_mut.rest.now in
    not_true (subst IsTrue c.if-not-fit.true
    (c.fit.ensures.1 (fit_here c.args.counts.now c.args.more.now first c.in-Some.other.now rest c.in-Some.others.now c.args.sums.now c.args.others.now c.in-Some-split_first_mut.ensures.cases.0 c.in-Some.ensures.cases.0 all)))

pub returns-in_err-new-clause-memory : goal.returns-in_err-new-clause-memory
returns-in_err-new-clause-memory t c = λ _ nothing.
    let first = c.in-Some-split_first_mut.first.now in
    let rest = c.in-Some-split_first_mut.rest.now in
    c.in_err-new.ensures.memory
    (nothing_here c.args.counts.now c.args.more.now first c.in-Some.other.now rest c.in-Some.others.now c.args.sums.now c.args.others.now c.in-Some-split_first_mut.ensures.cases.0 c.in-Some.ensures.cases.0 nothing)

pub returns-in_err-add_new-clause-memory : goal.returns-in_err-add_new-clause-memory
returns-in_err-add_new-clause-memory t c = λ _ nothing.
    let first = c.in-Some-split_first_mut.first.now in
    let rest = c.in-Some-split_first_mut.rest.now in
    brings_some first c.in-Some.other.now c.in_ok-new.new c.in_ok-new.ensures.new c.in_err-add_new.ensures.memory
    (nothing_here c.args.counts.now c.args.more.now first c.in-Some.other.now rest c.in-Some.others.now c.args.sums.now c.args.others.now c.in-Some-split_first_mut.ensures.cases.0 c.in-Some.ensures.cases.0 nothing)

pub returns-in-Err-clause-large : goal.returns-in-Err-clause-large
returns-in-Err-clause-large t c = λ e all.
    let first = c.in-Some-split_first_mut.first.now in
    let rest = c.in-Some-split_first_mut.rest.now in
    c.in-Err.ensures.large e
    (fit_less c.args.counts.now c.args.more.now first c.in-Some.other.now rest c.in-Some.others.now c.args.sums.now c.args.others.now c.in-Some-split_first_mut.ensures.cases.0 c.in-Some.ensures.cases.0 all)

pub returns-in-Err-clause-memory : goal.returns-in-Err-clause-memory
returns-in-Err-clause-memory t c = λ e nothing.
    let first = c.in-Some-split_first_mut.first.now in
    let rest = c.in-Some-split_first_mut.rest.now in
    c.in-Err.ensures.memory e
    (nothing_less c.args.counts.now c.args.more.now first c.in-Some.other.now rest c.in-Some.others.now c.args.sums.now c.args.others.now c.in-Some-split_first_mut.ensures.cases.0 c.in-Some.ensures.cases.0 nothing)

pub returns-in-Err-clause-sums_err : goal.returns-in-Err-clause-sums_err
returns-in-Err-clause-sums_err t c =
    let first = c.in-Some-split_first_mut.first.now in
    let back : c.take_back.new.sums ≡ first =
    taken_back first c.in_ok-new.new c.add_new.new.sums c.take_back.new.sums (apart first c.in-Some.other.now c.in_ok-new.new c.in_ok-new.ensures.new)
    (others_same first c.in_ok-new.new c.add_new.new.sums c.in_ok-add_new.ensures.ok) c.take_back.ensures.gone c.take_back.ensures.kept in
    (λ i. back i ∷ c.in-Err.ensures.sums_err i) ∙ sym c.in-Some-split_first_mut.ensures.cases.0

pub returns-clause-sums : goal.returns-clause-sums
returns-clause-sums t c =
    let first = c.in-Some-split_first_mut.first.now in
    let rest = c.in-Some-split_first_mut.rest.now in
    column_more first c.in-Some.other.now c.add_others.new.sums rest c.in-Some.others.now c.args.sums.now c.args.others.now c.add_columns.new.sums c.in-Some-split_first_mut.ensures.cases.0 c.in-Some.ensures.cases.0
    (column_added first c.in-Some.other.now c.in_ok-new.new c.add_new.new.sums c.add_others.new.sums c.in_ok-add_new.ensures.ok c.add_others.ensures)
    c.in_default-add_columns.ensures.sums
