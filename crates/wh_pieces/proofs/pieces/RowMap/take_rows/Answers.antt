use Rattle.std.proofs.Common.{rules, ◌≡◌, ◌∷◌, ap, sym, ◌∙◌}
use Rattle.wh_pieces.specs.Row.{Row}
use Rattle.wh_pieces.specs.Pieces.{found}
use Rattle.wh_pieces.specs.Inner.Merged.{without}
use Rattle.wh_pieces.proofs.BringLaws.{found-without, taken_step}
use Rattle.wh_pieces.proofs.pieces.RowMap.take_rows.Goals as goal

pub loop-row-preserved : goal.loop-row-preserved
loop-row-preserved g c =
    let e : Row × g.row.T.Denot = (c.in-Some.row.now, c.in-Some.field-0-1) in
    let rest = c.next.new.self in
    let steps : c.loop-row.row-iterator ≡ e ∷ rest = c.in-Some.ensures.steps in
    record {
      next = search rules;
      so_far = λ q.
          ap (without (found q rest)) (found-without c.loop-row.self c.remove.new.self e.0 c.remove.ensures.entries c.remove.ensures.gone q)
          ∙ taken_step e rest q (found q c.loop-row.self)
          ∙ ap (λ es. without (found q es) (found q c.loop-row.self)) (sym steps)
          ∙ c.loop-row.invariant.so_far q;
    }
