use Rattle.std.proofs.Common.{◌++◌, List, length, sym, ap, ◌∙◌, arith, append_assoc, length-append}
use Rattle.wh_pieces.specs.Flat.{flat}
use Rattle.wh_pieces.proofs.FlatLaws.{length-flat}
use Rattle.wh_row.specs.Weigh.{Counted}
use Rattle.wh_versions.specs.Pages.{shown_of}
use Rattle.wh_versions.proofs.PageLaws.{told}
use Rattle.wh_versions.proofs.RunLaws.{shown-append, shown_few, page_needs}
use Rattle.wh_versions.proofs.shown.shown_by_runs.Goals as goal

pub loop-rows-smaller : goal.loop-rows-smaller
loop-rows-smaller g c =
    let run = flat c.in-Some.width c.in-Some.cells.now c.in-Some.pairs.now in
    let parts = ap (λ (xs : List _). length xs) c.in-Some.ensures.rows in
    omega (arith, parts, length-append run c.run.new.self, length-flat c.in-Some.width c.in-Some.cells.now c.in-Some.pairs.now, c.in-Some.ensures.some)

pub loop-rows-preserved : goal.loop-rows-preserved
loop-rows-preserved g c =
    let s = c.args.version in
    let run = flat c.in-Some.width c.in-Some.cells.now c.in-Some.pairs.now in
    let added = ap (λ (xs : Counted). length xs) c.in_ok-add_shown.ensures.ok ∙ length-append c.loop-rows.rows (shown_of s run) in
    record {
      few = omega (arith, added, shown_few s run, length-flat c.in-Some.width c.in-Some.cells.now c.in-Some.pairs.now, c.in-Some.ensures.few, c.len.ensures, c.len-in-loop-rows.ensures, c.loop-rows-test.true, c.min-most.ensures);
      so_far = ap (λ (xs : Counted). xs ++ shown_of s c.run.new.self) c.in_ok-add_shown.ensures.ok
          ∙ append_assoc c.loop-rows.rows (shown_of s run) (shown_of s c.run.new.self)
          ∙ ap (λ (xs : Counted). c.loop-rows.rows ++ xs) (sym (ap (shown_of s) c.in-Some.ensures.rows ∙ shown-append s run c.run.new.self))
          ∙ c.loop-rows.invariant.so_far;
    }

pub returns-in_err-add_shown-clause-memory : goal.returns-in_err-add_shown-clause-memory
returns-in_err-add_shown-clause-memory g c =
    let s = c.args.version in
    let run = flat c.in-Some.width c.in-Some.cells.now c.in-Some.pairs.now in
    let rest = ap (shown_of s) c.in-Some.ensures.rows ∙ shown-append s run c.run.new.self in
    let all = ap (λ (xs : Counted). c.loop-rows.rows ++ xs) (sym rest) ∙ c.loop-rows.invariant.so_far in
    told (page_needs c.args.limit c.loop-rows.rows (shown_of s run) (shown_of s c.run.new.self) (shown_of s c.args.entries) all c.in_err-add_shown.ensures.memory (omega (arith, c.loop-rows-test.true))) c.from_residual.result
