use Rattle.std.proofs.Common.{rules, ◌<◌, length, sym}
use Rattle.wh_text_tables.specs.Inner.Pieces.{AreWholeNumbers}
use Rattle.wh_text_tables.proofs.PieceLaws.{whole-one}
use Rattle.wh_text_tables.proofs.table.renumbered.have_texts.Goals as goal

pub loop-column-init : goal.loop-column-init
unfolding AreWholeNumbers
loop-column-init c = tt

pub loop-column-preserved : goal.loop-column-preserved
loop-column-preserved c =
    let below : c.loop-column.column-index < length c.args.columns.now = search rules in
    whole-one c.args.columns.now c.loop-column.column-index c.column-item.result c.column-item.is below c.loop-column.invariant (sym c.in-Int.ensures)
