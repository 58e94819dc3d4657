use Rattle.std.proofs.Common.{◌+◌, ◌*◌, [], ◌∷◌, ◌++◌, ap, ◌∙◌, append_assoc}
use Rattle.wh_row.specs.Inner.Flat.{even_ends}
use Rattle.wh_row.proofs.FlatLaws.{even_ends-next}
use Rattle.wh_row.proofs.records.note_more_ends.Goals as goal

pub loop-row-preserved : goal.loop-row-preserved
loop-row-preserved c =
    let stood = c.args.ends.now.items in
    let ends = even_ends c.args.start c.args.width c.loop-row.row in
    let end = c.args.start + c.args.width * c.loop-row.row + c.args.width in
    c.in-Ok.ensures.items ∙ ap (λ es. es ++ end ∷ []) c.loop-row.invariant ∙ append_assoc stood ends (end ∷ [])
    ∙ ap (λ es. stood ++ es) (even_ends-next c.args.start c.args.width c.loop-row.row)
