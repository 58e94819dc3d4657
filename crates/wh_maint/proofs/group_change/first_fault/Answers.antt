use Rattle.std.proofs.Common.{rules, ◌≡◌, ◌<◌, ℕ, suc, ◌+◌, sym, ap, subst, ◌∙◌, ℤ, FitsSigned, arith}
use mir.Syntax.{w64}
use Rattle.wh_maint.specs.Inner.Finishing.{cell_after}
use Rattle.wh_maint.proofs.FirstFaults.{range_there, memory_there}
use Rattle.wh_maint.proofs.MadeRows.{next_fits}
use Rattle.wh_maint.proofs.group_change.first_fault.Goals as goal

pub loop-number-preserved : goal.loop-number-preserved
loop-number-preserved c =
    let f : ℕ → ℤ = cell_after c.args.sums c.args.pending.now.columns c.args.old c.args.group.now in
    let n : ℕ = c.loop-number.number in
    let fits : FitsSigned w64 c.in-Some.field-0 = search rules in
    let next : n + 1 ≡ suc n = omega arith in
    let is : c.in-Some.field-0 ≡ f (suc n) = c.in-Some.ensures ∙ ap f next in
    record { fit = next_fits f n (subst (FitsSigned w64) is fits) c.loop-number.invariant.fit }

pub returns-in_default : goal.returns-in_default
returns-in_default c =
    let f : ℕ → ℤ = cell_after c.args.sums c.args.pending.now.columns c.args.old c.args.group.now in
    let n : ℕ = c.loop-number.number in
    let next : n + 1 ≡ suc n = omega arith in
    let within : n < c.args.sums = omega arith in
    range_there _ (λ all. c.in_default.ensures (subst (λ (k : ℕ). FitsSigned w64 (f k)) (sym next) (all n within)))

pub returns : goal.returns
returns c = memory_there _ (λ not. not (λ j l. c.loop-number.invariant.fit j (omega arith)))
