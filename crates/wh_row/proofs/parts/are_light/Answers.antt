use Rattle.std.proofs.Common.{◌≡◌, ◌<◌, List, take, get_or, length, ap, sym, arith}
use Rattle.std.proofs.lemmas.List.{take_all}
use Rattle.wh_row.specs.Weigh.{Counted}
use Rattle.wh_row.specs.Records.{joined}
use Rattle.wh_row.specs.Inner.Parts.{weight}
use Rattle.wh_row.proofs.PartLaws.{light_fits, weight-joined-next}
use Rattle.wh_row.proofs.parts.are_light.Goals as goal

pub loop-records-preserved : goal.loop-records-preserved
loop-records-preserved c =
    let parts = c.args.parts.now in
    let i = c.loop-records.records-index in
    let item = c.records-item.result in
    let below : i < length parts = c.loop-records-test.true in
    let next = weight-joined-next parts i item below in
    let here : weight (get_or parts i item) ≡ weight item = ap weight (sym c.records-item.is) in
    omega (arith, c.loop-records.invariant, c.in-Some.ensures, next, here)

pub returns : goal.returns
returns c = λ _.
    let parts = c.args.parts.now in
    let i = c.loop-records.records-index in
    let all = take_all i parts (omega (arith, c.loop-records-test.false)) in
    let whole : weight (joined (take i parts)) ≡ weight (joined parts) = ap (λ (ps : List Counted). weight (joined ps)) all in
    light_fits (joined parts) (omega (arith, c.loop-records.invariant, whole))
