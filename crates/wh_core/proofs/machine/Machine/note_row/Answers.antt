use Rattle.std.proofs.Common.{rules, ◌≡◌, ◌≢◌, ◌∙◌, sym, ap, subst, ℤ, pos, ◌||◌, arith}
use Rattle.std.specs.Prelude.{FitsSigned}
use Rattle.std.proofs.lemmas.Int.{to_z-of_z}
use mir.Syntax.{w64}
use Rattle.wh_row.specs.Bag.{Bag, count, plus}
use Rattle.wh_row.specs.Row.{Row, is_row}
use Rattle.wh_core.specs.Inner.Changes.{AreNoted, change_shown}
use Rattle.wh_core.proofs.Changes.{noted_before, noted_now}
use Rattle.wh_core.proofs.machine.Machine.note_row.Goals as goal

pub returns-then-count-ne0 : goal.returns-then-count-ne0
returns-then-count-ne0 c = λ noted h.
    let some : count c.args.change.now c.args.row.now ≢ pos 0 = search rules in
    noted_before (change_shown c.args.self.now.store c.args.view) c.args.change.now noted c.args.row.now some h

pub returns-in-Ok : goal.returns-in-Ok
returns-in-Ok c = λ noted h.
    let whole : Bag = change_shown c.args.self.now.store c.args.view in
    let row : Row = c.args.row.now in
    let none : count c.args.change.now row ≡ pos 0 = search rules in
    let fits : FitsSigned w64 c.row_change.result = search rules in
    let new : c.add.new.self ≡ plus c.args.change.now row c.row_change.result = c.in-Ok.ensures.ok ∙ ap (plus c.args.change.now row) (to_z-of_z w64 c.row_change.result fits) in
    subst (AreNoted whole (λ q. noted q || is_row q row)) (sym new)
    (noted_now whole c.args.change.now noted row c.row_change.result none c.row_change.ensures h)
