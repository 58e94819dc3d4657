use Rattle.std.proofs.Common.{length, sym, ap, subst, ◌∙◌, List, arith}
use Rattle.wh_pieces.specs.Row.{Row}
use Rattle.wh_pieces.specs.Place.{AreRisingRows}
use Rattle.wh_pieces.proofs.FlatLaws.{length-flat}
use Rattle.wh_pieces.proofs.pieces.RowMap.from_rising.Goals as goal

pub invariant_of-result : goal.invariant_of-result
invariant_of-result g c =
    let w = c.args.width in
    let all = c.in_ok-pieces.ensures.all in
    record {
      pieces = record { rising = subst (λ (es : List (Row × g.row.T.Denot)). AreRisingRows es) (sym all) c.requires.rising; some = c.in_ok-pieces.ensures.some };
      exact = sym (ap length all ∙ length-flat w c.args.cells.now c.args.values.now);
      small = omega (arith, c.if-len-gt-LARGEST.false);
    }
