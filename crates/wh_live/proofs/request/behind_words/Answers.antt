use Rattle.std.proofs.Common.{rules, ◌≢◌, sym, ◌∙◌, drop, arith}
use Rattle.std.proofs.lemmas.List.{drop_all}
use Rattle.wh_live.proofs.CellsBehind.{byte_last, byte_more}
use Rattle.wh_live.proofs.request.behind_words.Goals.{then-blank+then-begun, else-blank, else-blank-via-then-blank+else-begun, else-blank-via-else-blank}
use Rattle.wh_live.proofs.request.behind_words.Goals as goal

pub loop-place-preserved : goal.loop-place-preserved
loop-place-preserved c =
    let some : c.loop-place.left ≢ 0 = search rules in
    c.loop-place.invariant
    ∙ byte_more c.args.line.now c.loop-place.place c.loop-place.left c.if-blank.left c.loop-place.begun c.is_blank-blank.result (omega (arith, c.loop-place-test.true)) some c.is_blank-blank.ensures
    (elim c.if-blank.branch [
      | then-blank+then-begun w ↦ search rules
      | else-blank w ↦ elim w.else-blank.branch [
        | else-blank-via-then-blank+else-begun v ↦ search rules
        | else-blank-via-else-blank v ↦ search rules
      ]
    ])

pub returns : goal.returns
returns c =
    let line = c.args.line.now in
    sym (c.loop-place.invariant ∙ byte_last (drop c.loop-place.place line) c.loop-place.left c.loop-place.begun (drop_all c.loop-place.place line (omega (arith, c.loop-place-test.false))))
