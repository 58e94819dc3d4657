use Rattle.std.proofs.Common.{◌≡◌, sym, subst, ◌∙◌, true, FitsSigned}
use mir.Syntax.{w64}
use Rattle.wh_maint.specs.Summary.{is_touched}
use Rattle.wh_maint.specs.Comp.{bag_at}
use Rattle.wh_maint.proofs.NewRows.{after_told, value_asked, touched_at}
use Rattle.wh_maint.proofs.NoRows.{one_counts}
use Rattle.wh_maint.proofs.DoneGroups.{made_already, made_now}
use Rattle.wh_maint.proofs.OneRow.{on_both}
use Rattle.wh_maint.proofs.group_change.add_group.Goals as goal

pub returns-then-stands_within-clause-made : goal.returns-then-stands_within-clause-made
returns-then-stands_within-clause-made c = λ done is h.
    made_already c.args.sums c.args.table.now (bag_at c.args.pending.now.columns) done c.args.change.now c.args.group.now (is ∙ sym c.stands_within.ensures ∙ c.if-stands_within.true) h

pub add_change-requires-clause-count : goal.add_change-requires-clause-count
add_change-requires-clause-count c =
    let t : is_touched c.args.sums (bag_at c.args.pending.now.columns) c.args.group.now ≡ true = touched_at c.args.sums (bag_at c.args.pending.now.columns) c.args.group.now c.args.column c.requires.column c.requires.stands in
    subst (FitsSigned w64) (sym (after_told c.args.sums c.args.table.now c.args.pending.now.columns c.requires.fit c.old_row-old.result c.args.group.now c.old_row-old.ensures 0)) (c.requires.counts c.args.group.now t)

pub add_change-requires-clause-none : goal.add_change-requires-clause-none
add_change-requires-clause-none c = c.requires.none (sym c.stands_within.ensures ∙ c.if-stands_within.false)

pub returns-clause-made : goal.returns-clause-made
returns-clause-made c = on_both c.add_change.result (λ change sums done is h.
    let t : is_touched c.args.sums (bag_at c.args.pending.now.columns) c.args.group.now ≡ true = touched_at c.args.sums (bag_at c.args.pending.now.columns) c.args.group.now c.args.column c.requires.column c.requires.stands in
    made_now c.args.sums c.args.table.now c.args.pending.now.columns c.requires.fit c.old_row-old.result c.args.group.now c.old_row-old.ensures t c.args.change.now c.add_change.new.change
    (c.requires.none (sym c.stands_within.ensures ∙ c.if-stands_within.false)) change sums done h) c.add_change.ensures.change c.add_change.ensures.sums

pub returns-clause-range : goal.returns-clause-range
returns-clause-range c = λ e v.
    let t : is_touched c.args.sums (bag_at c.args.pending.now.columns) c.args.group.now ≡ true = touched_at c.args.sums (bag_at c.args.pending.now.columns) c.args.group.now c.args.column c.requires.column c.requires.stands in
    c.add_change.ensures.range e (value_asked c.args.sums c.args.table.now c.args.pending.now.columns c.requires.fit c.old_row-old.result c.args.group.now c.old_row-old.ensures (v c.args.group.now t))

pub returns-clause-memory : goal.returns-clause-memory
returns-clause-memory c = λ _. one_counts c.args.pending.now.columns c.args.column c.args.group.now c.requires.stands
