use Rattle.std.proofs.Common.{rules, ◌≡◌, ◌∙◌, sym, ap, subst, ℤ, ◌∷◌, length}
use Rattle.wh_row.specs.Row.{Row}
use Rattle.wh_row.specs.Weigh.{Counted}
use Rattle.wh_maint.proofs.FoundRow.{IsSought, sought_start, sought_found, sought_step, sought_over}
use Rattle.wh_maint.proofs.group_change.old_row.Goals as goal

pub loop-row-init : goal.loop-row-init
loop-row-init c = record {
  next = search rules;
  sought = sought_start c.args.sums c.args.table.now c.args.group.now _ (c.into_iter-row-iterator.ensures.into_iter_gives ∙ c.rows_starting_with-row-items.ensures);
}

pub group_in-requires : goal.group_in-requires
group_in-requires c =
    let e : Row × ℤ = (c.in-Some.row.now, c.in-Some.field-0-1) in
    let steps : c.loop-row.row-iterator ≡ e ∷ c.next.new.self = c.in-Some.ensures.steps in
    let h = subst (λ (es : Counted). IsSought c.args.sums c.args.table.now c.args.group.now es) steps c.loop-row.invariant.sought in
    c.requires.wide c.in-Some.row.now h.begun.0.0

pub returns-then-group_in-group : goal.returns-then-group_in-group
returns-then-group_in-group c =
    let e : Row × ℤ = (c.in-Some.row.now, c.in-Some.field-0-1) in
    let steps : c.loop-row.row-iterator ≡ e ∷ c.next.new.self = c.in-Some.ensures.steps in
    let h = subst (λ (es : Counted). IsSought c.args.sums c.args.table.now c.args.group.now es) steps c.loop-row.invariant.sought in
    (h.begun.0.0, sought_found c.args.sums c.args.group.now c.in-Some.row.now h.begun.0.1 (ap length (sym c.group_in.ensures) ∙ c.if-group_in-group.true))

pub returns : goal.returns
returns c =
    sought_over c.args.sums c.args.table.now c.args.group.now
    (subst (λ (es : Counted). IsSought c.args.sums c.args.table.now c.args.group.now es) c.in-None.ensures.steps.0 c.loop-row.invariant.sought)

pub loop-row-preserved : goal.loop-row-preserved
loop-row-preserved c =
    let e : Row × ℤ = (c.in-Some.row.now, c.in-Some.field-0-1) in
    let steps : c.loop-row.row-iterator ≡ e ∷ c.next.new.self = c.in-Some.ensures.steps in
    let h = subst (λ (es : Counted). IsSought c.args.sums c.args.table.now c.args.group.now es) steps c.loop-row.invariant.sought in
    record {
      next = search rules;
      sought = sought_step c.args.sums c.args.table.now c.args.group.now e c.next.new.self (λ x. c.if-group_in-group.false (ap length c.group_in.ensures ∙ x)) h;
    }
