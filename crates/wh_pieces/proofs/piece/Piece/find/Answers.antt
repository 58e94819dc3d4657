use Rattle.std.proofs.Common.{◌≡◌, ◌+◌, suc, take, subst, sym, ◌∙◌, arith, ℕ}
use Rattle.wh_pieces.specs.Place.{IsAbove}
use Rattle.wh_pieces.proofs.OrderLaws.{above_to, below_from, is_at}
use Rattle.wh_pieces.proofs.piece.Piece.find.Goals as goal

pub loop-low-preserved-in-Less : goal.loop-low-preserved-in-Less
loop-low-preserved-in-Less g c = record {
  low = omega arith;
  high = omega arith;
  above = c.loop-low.invariant.above;
  below = below_from c.args.row.now c.args.self.now _ c.row.result.now c.row.ensures (sym c.cmp.ensures ∙ c.in-Less.is);
}

pub returns-in-Equal : goal.returns-in-Equal
returns-in-Equal g c = is_at c.args.row.now c.args.self.now _ c.row.result.now (omega arith) c.requires c.row.ensures (sym c.cmp.ensures ∙ c.in-Equal.is)

pub loop-low-preserved : goal.loop-low-preserved
loop-low-preserved g c =
    let middle : ℕ = c.place_to_ask-asked.result in
    let next : suc middle ≡ middle + 1 = omega arith in
    record {
      low = omega arith;
      high = c.loop-low.invariant.high;
      above = subst (λ n. IsAbove c.args.row.now (take n c.args.self.now)) next (above_to c.args.row.now c.args.self.now middle c.row.result.now c.requires c.row.ensures (sym c.cmp.ensures ∙ c.in-Greater.is));
      below = c.loop-low.invariant.below;
    }
