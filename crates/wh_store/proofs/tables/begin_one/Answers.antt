use Rattle.std.proofs.Common.{◌≡◌, subst}
use Rattle.wh_versions.specs.Laws.{BeginKeeps}
use Rattle.wh_versions.specs.Tables.{ViewRows}
use Rattle.wh_versions.proofs.ShownLaws.{each_begin_keeps}
use Rattle.wh_store.specs.Inner.Kept.{begun_rows}
use Rattle.wh_store.proofs.SlotLaws.{begun_exactly}
use Rattle.wh_store.proofs.tables.begin_one.Goals as goal

pub returns-clause-rows : goal.returns-clause-rows
returns-clause-rows g c = begun_exactly g.row.N c.args.table.now c.begin.new.self c.are_in_form.ensures.rising c.are_in_form-2.ensures.rising c.begin.ensures.night c.begin.ensures.rows

pub returns-clause-keeps : goal.returns-clause-keeps
returns-clause-keeps g c =
    let exact = begun_exactly g.row.N c.args.table.now c.begin.new.self c.are_in_form.ensures.rising c.are_in_form-2.ensures.rising c.begin.ensures.night c.begin.ensures.rows in
    subst (λ (t : ViewRows). BeginKeeps g.row.N c.args.table.now t) exact (each_begin_keeps g.row.N c.args.table.now c.begin.new.self c.requires.enough c.are_in_form.ensures.pairs c.begin.ensures.rows)
