use Rattle.std.proofs.Common.{rules, ◌≡◌, ◌+◌, ◌∙◌, ◌++◌, List, ap, sym, subst, refl, take, length, Err, arith, length-append}
use Rattle.wh_row.specs.Weigh.{Counted}
use Rattle.wh_row.specs.Records.{joined}
use Rattle.wh_row.specs.Inner.Added.{AreAddedUp}
use Rattle.wh_row.proofs.PartLaws.{joined-next}
use Rattle.wh_row.proofs.AddedLaws.{none_added, many_next, refused, all_parts}
use Rattle.wh_row.proofs.added.added_up.Goals as goal

pub loop-records-init : goal.loop-records-init
loop-records-init c = record {
  up = none_added c.new-bag.result c.new-bag.ensures;
  many = refl;
}

pub loop-records-preserved : goal.loop-records-preserved
loop-records-preserved c =
    let parts = c.args.parts.now in
    let i = c.loop-records.records-index in
    let item = c.records-item.result in
    let before = joined (take i parts) in
    let next = ap (λ (es : Counted). before ++ es) c.records-item.is ∙ joined-next parts i item c.loop-records-test.true in
    let all : length before + c.len.result ≡ length (joined (take (i + 1) parts)) = omega (arith, c.len.ensures, length-append before item, ap (λ (es : Counted). length es) next) in
    record {
      up = subst (λ (es : Counted). AreAddedUp es c.add_each.new.bag) next (c.in_ok-add_each.ensures.ok before c.loop-records.invariant.up);
      many = many_next c.with-before.result c.loop-records.before (length before) c.len.result _ c.with-before.ensures c.loop-records.invariant.many all;
    }

pub returns-in_err-add_each : goal.returns-in_err-add_each
returns-in_err-add_each c =
    let parts = c.args.parts.now in
    let i = c.loop-records.records-index in
    refused parts i c.records-item.result c.from_residual.result c.in_err-add_each.field-0.0 c.loop-records-test.true c.records-item.is c.from_residual.ensures
    (λ place is. c.in_err-add_each.ensures.large (joined (take i parts)) place c.loop-records.invariant.up c.loop-records.invariant.many (ap Err is))
    (λ is. c.in_err-add_each.ensures.memory (ap Err is))

pub returns : goal.returns
returns c = all_parts c.args.parts.now c.loop-records.records-index c.loop-records.bag c.loop-records.invariant.up (omega arith)
