use Rattle.std.proofs.Common.{◌≢◌, ℕ, zero, suc, ◌<◌, List, [], ◌∷◌, take, ◌++◌, length, ap, sym, ◌∙◌, arith, append_assoc, length-append}
use Rattle.wh_pieces.specs.Flat.{flat}
use Rattle.wh_pieces.proofs.FlatLaws.{length-flat}
use Rattle.wh_row.proofs.MapLaws.{told_err}
use Rattle.wh_row.proofs.rows.Rows.cut.Goals as goal

some_taken : {A : Type 0} (n : ℕ) (xs : List A) → 0 < n → 0 < length xs → take n xs ≢ []
some_taken zero xs a b = absurd (omega (arith, a))
some_taken (suc n) [] a b = absurd (omega (arith, b))
some_taken (suc n) (x ∷ xs) a b = λ e. cc

pub loop-rest-smaller : goal.loop-rest-smaller
loop-rest-smaller c =
    let run = flat c.in-Some.width c.in-Some.cells.now c.in-Some.counts.now in
    let more = ap length c.in_ok-append.ensures.ok ∙ length-append c.loop-rest.taken run in
    let count = length-flat c.in-Some.width c.in-Some.cells.now c.in-Some.counts.now in
    omega (arith, c.in-Some.ensures.some, c.in-Some.ensures.few, c.len.ensures, c.len-in-loop-rest.ensures)

pub loop-rest-preserved : goal.loop-rest-preserved
loop-rest-preserved c =
    let run = flat c.in-Some.width c.in-Some.cells.now c.in-Some.counts.now in
    let more = ap length c.in_ok-append.ensures.ok ∙ length-append c.loop-rest.taken run in
    let count = length-flat c.in-Some.width c.in-Some.cells.now c.in-Some.counts.now in
    record {
      few = omega (arith, c.in-Some.ensures.few, c.len.ensures, c.len-in-loop-rest.ensures, c.loop-rest.invariant.few);
      parts = ap (λ es. es ++ c.run.new.self) c.in_ok-append.ensures.ok
          ∙ append_assoc c.loop-rest.taken run c.run.new.self
          ∙ ap (λ es. c.loop-rest.taken ++ es) (sym c.in-Some.ensures.rows)
          ∙ c.loop-rest.invariant.parts;
    }

pub returns-in_err-append-clause-memory : goal.returns-in_err-append-clause-memory
returns-in_err-append-clause-memory c =
    let run = flat c.in-Some.width c.in-Some.cells.now c.in-Some.counts.now in
    let count = length-flat c.in-Some.width c.in-Some.cells.now c.in-Some.counts.now in
    let rest = ap length c.in-Some.ensures.rows ∙ length-append run c.run.new.self in
    let all = ap length (sym c.loop-rest.invariant.parts) ∙ length-append c.loop-rest.taken c.loop-rest.rest in
    told_err c.from_residual.result _ (some_taken c.args.limit c.args.self (omega (arith, c.in-Some.ensures.some, c.in-Some.ensures.few, c.len-in-loop-rest.ensures)) (omega (arith, all, rest, count, c.in-Some.ensures.some)))
