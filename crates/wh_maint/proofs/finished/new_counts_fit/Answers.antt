use Rattle.std.proofs.Common.{rules, ◌≡◌, refl, sym, ◌∙◌, ◌<◌, ◌≤◌, suc, false, FitsSigned, arith}
use Rattle.std.proofs.lemmas.Bool.{false≢true}
use mir.Syntax.{w64}
use Rattle.wh_row.specs.Row.{Row}
use Rattle.wh_row.specs.Bag.{count, empty}
use Rattle.wh_maint.specs.Comp.{bag_at}
use Rattle.wh_maint.proofs.CountsChecked.{columns_fit, each_column, pending_fit}
use Rattle.wh_maint.proofs.finished.new_counts_fit.Goals as goal

pub returns-then-is_empty : goal.returns-then-is_empty
returns-then-is_empty c =
    let none : c.args.table.now ≡ empty = search rules in
    let fits : (g : Row) → FitsSigned w64 (count (bag_at c.args.pending.now.columns 0) g) = search rules in
    (λ _. pending_fit c.args.sums c.args.table.now (bag_at c.args.pending.now.columns) none fits, λ _. refl)

pub returns-then-not-summed_fit : goal.returns-then-not-summed_fit
returns-then-not-summed_fit c =
    let large : c.summed_fit.result ≡ false = search rules in
    let below : c.loop-number.number < c.args.sums = c.loop-number-test.true in
    (λ t. absurd (false≢true t), λ all. absurd (false≢true (sym large ∙ c.summed_fit.ensures.1 (each_column c.args.sums c.args.table.now (bag_at c.args.pending.now.columns) all (suc c.loop-number.number) (omega arith)))))

pub returns : goal.returns
returns c =
    let over : c.args.sums ≤ c.loop-number.number = c.loop-number-test.false in
    (λ _. columns_fit c.args.sums c.args.table.now (bag_at c.args.pending.now.columns) (λ j l. c.loop-number.invariant j (omega arith)), λ _. refl)
