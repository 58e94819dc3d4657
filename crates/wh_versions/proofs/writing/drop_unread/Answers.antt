use Rattle.std.proofs.Common.{rules, ◌≡◌, ◌∷◌, ap, sym, subst, ◌∙◌}
use Rattle.wh_pieces.specs.Row.{Row}
use Rattle.wh_pieces.specs.Place.{AreRisingRows}
use Rattle.wh_pieces.specs.Pieces.{found}
use Rattle.wh_versions.specs.Inner.Tables.{Touched, begun, for_touched}
use Rattle.wh_versions.proofs.TouchLaws.{rising_rest, touched_step}
use Rattle.wh_versions.proofs.writing.drop_unread.Goals as goal

pub loop-row-preserved : goal.loop-row-preserved
loop-row-preserved g c =
    let e : Row × Unit {0} = (c.in-Some.row.now, c.in-Some.field-0-1) in
    let rest = c.next.new.self in
    let steps : c.loop-row.row-iterator ≡ e ∷ rest = c.in-Some.ensures.steps in
    let rising = subst (λ (es : Touched). AreRisingRows es) steps c.loop-row.invariant.rising in
    record {
      next = search rules;
      rising = rising_rest e rest rising;
      so_far = λ q.
          touched_step (begun g.row.N c.args.version) e rest c.loop-row.rows c.drop_row.new.rows rising q (c.drop_row.ensures q)
          ∙ ap (λ (es : Touched). for_touched (begun g.row.N c.args.version) (found q es) (found q c.loop-row.rows)) (sym steps)
          ∙ c.loop-row.invariant.so_far q;
    }
