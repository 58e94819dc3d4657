use Rattle.std.proofs.Common.{rules}
use Rattle.wh_carry.proofs.HandedOn.{handed_on}
use Rattle.wh_text_bundle.specs.Files.{HasNoFiled}
use Rattle.whview.specs.Inner.BundleFiles.{IsFillingFault}
use Rattle.whview.proofs.FilledBundles.{at_end, at_start, filling_fault, one_more, rest_fault}
use Rattle.whview.proofs.files.fill.Goals as goal

pub loop-part-init : goal.loop-part-init
loop-part-init g c = at_start c.args.bundle.now c.new-all.result.items (search rules)

pub returns-in_err-put_filed-clause-err : goal.returns-in_err-put_filed-clause-err
returns-in_err-put_filed-clause-err g c =
    let part = c.in-Some.part in
    handed_on (IsFillingFault c.args.from.now.limit c.args.bundle.now) c.from_residual.result c.in_err-put_filed.field-0.0 c.from_residual.ensures
    (filling_fault c.args.from.now.limit c.args.bundle.now c.loop-part.all.items c.loop-part.rest.now part.above.now part.heading.now part.path.now part.below.now c.in_err-put_filed.field-0.0
    c.loop-part.invariant c.in-Some.ensures.part c.in_err-put_filed.ensures.err)

pub loop-part-smaller : goal.loop-part-smaller
loop-part-smaller g c = c.in-Some.ensures.shorter

pub loop-part-preserved : goal.loop-part-preserved
loop-part-preserved g c =
    let part = c.in-Some.part in
    let put = c.in_ok-put_filed.ensures.part in
    one_more c.args.bundle.now c.loop-part.all.items c.loop-part.rest.now part.above.now part.heading.now part.path.now part.below.now put.0 c.put_filed.new.all.items c.loop-part.invariant c.in-Some.ensures.part put.1

pub returns-in_err-put-clause-err : goal.returns-in_err-put-clause-err
returns-in_err-put-clause-err g c =
    let none : HasNoFiled c.loop-part.rest.now = search rules in
    handed_on (IsFillingFault c.args.from.now.limit c.args.bundle.now) c.from_residual-in_err-put.result c.in_err-put.field-0.0 c.from_residual-in_err-put.ensures
    (rest_fault c.args.from.now.limit c.args.bundle.now c.loop-part.all.items c.loop-part.rest.now c.in_err-put.field-0.0 c.loop-part.invariant none c.in_err-put.ensures.err)

pub returns-clause-filled : goal.returns-clause-filled
returns-clause-filled g c =
    let none : HasNoFiled c.loop-part.rest.now = search rules in
    at_end c.args.bundle.now c.loop-part.all.items c.loop-part.rest.now c.put.new.all.items c.loop-part.invariant none c.in_ok-put.ensures.bytes
