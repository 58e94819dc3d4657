use Rattle.std.proofs.Common.{◌≡◌, ◌∙◌, ◌++◌, ap}
use Rattle.wh_text_tables.proofs.RowsText.{on-both, texts-each}
use Rattle.wh_text_tables.proofs.table.written.append_parts.Goals as goal

pub returns : goal.returns
returns g c =
    on-both c.append_each.result c.append_each.ensures.ok c.append_each.ensures.done (λ is done.
    is ∙ ap (λ t. c.args.out.now ++ t) (texts-each c.args.columns.now c.args.dict.now c.args.parts.now c.in_ok-texts.texts.items c.in_ok-texts.ensures done))
