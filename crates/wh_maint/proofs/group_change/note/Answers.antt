use Rattle.std.proofs.Common.{rules, ◌≡◌, sym, ap, ◌∙◌, pos, FitsSigned, to_z, of_z, to_z-of_z}
use mir.Syntax.{w64}
use Rattle.wh_row.specs.Bag.{count}
use Rattle.wh_maint.proofs.NewRows.{noted_already, noted_now}
use Rattle.wh_maint.proofs.OneRow.{on_ok}
use Rattle.wh_maint.proofs.group_change.note.Goals as goal

pub returns-then-count-ne0-clause-noted : goal.returns-then-count-ne0-clause-noted
returns-then-count-ne0-clause-noted c = λ g. noted_already c.args.seen.now c.args.group.now g (λ e. c.if-count-ne0.true (ap (of_z w64) (c.count.ensures ∙ e)))

pub returns-clause-noted : goal.returns-clause-noted
returns-clause-noted c = on_ok c.add_times.result (λ added g.
    let fits : FitsSigned w64 c.count.result = search rules in
    let none : count c.args.seen.now c.args.group.now ≡ pos 0 = sym c.count.ensures ∙ sym (to_z-of_z fits) ∙ ap (to_z w64) c.if-count-ne0.false in
    noted_now c.args.seen.now c.add_times.new.bag c.args.group.now g none (added g)) c.add_times.ensures.added
