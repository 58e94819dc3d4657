use Rattle.std.proofs.Common.{rules, ◌≡◌, ℕ, suc, ◌+◌, ap, subst, ◌∙◌, ◌++◌, [], ◌∷◌, ℤ, FitsSigned, to_z-of_z, arith}
use mir.Syntax.{w64}
use Rattle.wh_maint.specs.Inner.Finishing.{cell_after}
use Rattle.wh_maint.proofs.FirstFaults.{err_where}
use Rattle.wh_maint.proofs.MadeRows.{next_cells, next_fits}
use Rattle.wh_maint.proofs.group_change.with_cells.Goals as goal

pub loop-number-preserved : goal.loop-number-preserved
loop-number-preserved c =
    let f : ℕ → ℤ = cell_after c.args.sums c.args.pending.now.columns c.args.old c.args.group.now in
    let n : ℕ = c.loop-number.number in
    let fits : FitsSigned w64 c.in-Some.sum = search rules in
    let next : n + 1 ≡ suc n = omega arith in
    let is : c.in-Some.sum ≡ f (suc n) = c.in-Some.ensures ∙ ap f next in
    record {
      cells = next_cells f c.args.group.now c.loop-number.row.items _ (suc n) (suc (n + 1)) c.in-Some.sum c.loop-number.invariant.cells
          (c.in-Ok-push-2.ensures.items ∙ ap (λ z. c.loop-number.row.items ++ z ∷ []) (to_z-of_z fits)) is (ap suc next);
      fit = next_fits f n (subst (FitsSigned w64) is fits) c.loop-number.invariant.fit;
    }

pub returns-in_default-push-2-clause-range : goal.returns-in_default-push-2-clause-range
returns-in_default-push-2-clause-range c = err_where c.first_fault-in_default-push-2.result _ c.first_fault-in_default-push-2.ensures
