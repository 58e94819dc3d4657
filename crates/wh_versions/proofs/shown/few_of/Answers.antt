use Rattle.std.proofs.Common.{List, length, ap, arith, length-append}
use Rattle.wh_pieces.specs.Flat.{flat}
use Rattle.wh_pieces.proofs.FlatLaws.{length-flat}
use Rattle.wh_versions.proofs.shown.few_of.Goals as goal

pub loop-few-smaller : goal.loop-few-smaller
loop-few-smaller g c =
    let run = flat c.in-Some.field-0-0 c.in-Some.field-0-1.now c.in-Some.pairs.now in
    let parts = ap (λ (xs : List _). length xs) c.in-Some.ensures.rows in
    omega (arith, parts, length-append run c.run.new.self, length-flat c.in-Some.field-0-0 c.in-Some.field-0-1.now c.in-Some.pairs.now, c.in-Some.ensures.some)

pub loop-few-preserved : goal.loop-few-preserved
loop-few-preserved g c =
    let run = flat c.in-Some.field-0-0 c.in-Some.field-0-1.now c.in-Some.pairs.now in
    let parts = ap (λ (xs : List _). length xs) c.in-Some.ensures.rows in
    let all = length-append run c.run.new.self in
    let few = length-flat c.in-Some.field-0-0 c.in-Some.field-0-1.now c.in-Some.pairs.now in
    record {
      within = omega (arith, c.in-Some.ensures.few, c.loop-few.invariant.within);
      all = omega (arith, parts, all, few, c.loop-few.invariant.all);
    }
