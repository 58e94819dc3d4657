use Rattle.std.proofs.Common.{rules, IsTrue, ◌↔◌, subst, FitsSigned}
use mir.Syntax.{w64}
use Rattle.wh_maint.specs.Inner.Finishing.{cell_after}
use Rattle.wh_maint.proofs.NewRows.{after_told}
use Rattle.wh_maint.proofs.group_change.count_fits.Goals as goal

pub returns : goal.returns
returns c =
    let fits : IsTrue c.is_some.result ↔ FitsSigned w64 (cell_after c.args.sums c.args.pending.now.columns c.old_row.result c.args.group.now 0) = search rules in
    subst (λ z. IsTrue c.is_some.result ↔ FitsSigned w64 z) (after_told c.args.sums c.args.table.now c.args.pending.now.columns c.requires.fit c.old_row.result c.args.group.now c.old_row.ensures 0) fits
