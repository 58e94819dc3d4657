use Rattle.std.proofs.Common.{◌≡◌, ◌∙◌, ap, subst}
use Rattle.wh_versions.specs.Laws.{GivesBack}
use Rattle.wh_versions.specs.Tables.{ViewRows, given_up, slots}
use Rattle.wh_versions.proofs.ShownLaws.{each_gives_up}
use Rattle.wh_store.proofs.SlotLaws.{back_exactly}
use Rattle.wh_store.proofs.tables.give_up_one.Goals as goal

pub returns-clause-rows : goal.returns-clause-rows
returns-clause-rows g c = back_exactly c.args.table.now c.give_up.new.self c.are_in_form.ensures.rising c.are_in_form-2.ensures.rising c.give_up.ensures.night c.give_up.ensures.rows

pub returns-clause-returns : goal.returns-clause-returns
returns-clause-returns g c s at =
    let exact = back_exactly c.args.table.now c.give_up.new.self c.are_in_form.ensures.rising c.are_in_form-2.ensures.rising c.give_up.ensures.night c.give_up.ensures.rows in
    subst (λ (t : ViewRows). GivesBack s c.args.table.now t) exact
    (each_gives_up g.row.N s c.args.table.now c.give_up.new.self c.are_in_form.ensures.pairs at (λ row. c.give_up.ensures.rows row ∙ ap (λ m. given_up m (slots c.args.table.now row)) at))
