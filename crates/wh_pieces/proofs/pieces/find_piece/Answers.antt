use Rattle.std.proofs.Common.{◌≡◌, ◌<◌, ℕ, suc, length, drop, List, ap, subst, sym, ◌∙◌, arith, slice_get, Some}
use Rattle.std.specs.Map.{keys_of}
use Rattle.wh_pieces.specs.Row.{Row}
use Rattle.wh_pieces.specs.Inner.Place.{IsBelowFirst}
use Rattle.wh_pieces.specs.Pieces.{all_of}
use Rattle.wh_pieces.specs.Inner.Pieces.{piece_at}
use Rattle.wh_pieces.proofs.PieceLaws.{below_piece, above_piece, piece_read}
use Rattle.wh_pieces.proofs.pieces.find_piece.Goals as goal

pub loop-high-preserved-in-Less : goal.loop-high-preserved-in-Less
loop-high-preserved-in-Less g c =
    let ls = c.args.pieces.now.items in
    let middle : ℕ = c.place_to_ask-asked.result in
    let within : middle < length ls = omega arith in
    let first : slice_get (keys_of (piece_at ls middle)) 0 ≡ Some c.row.result.now = ap (λ (x : List (Row × g.row.T.Denot)). slice_get (keys_of x) 0) (sym (piece_read ls middle c.index.result.now within c.index.ensures)) ∙ c.row.ensures in
    record {
      low = omega arith;
      high = omega arith;
      above = c.loop-high.invariant.above;
      below = below_piece c.args.row.now ls middle c.row.result.now within first (sym c.cmp.ensures ∙ c.in-Less.is);
    }

pub loop-high-preserved : goal.loop-high-preserved
loop-high-preserved g c =
    let ls = c.args.pieces.now.items in
    let middle : ℕ = c.place_to_ask-asked.result in
    let within : middle < length ls = omega arith in
    let first : slice_get (keys_of (piece_at ls middle)) 0 ≡ Some c.row.result.now = ap (λ (x : List (Row × g.row.T.Denot)). slice_get (keys_of x) 0) (sym (piece_read ls middle c.index.result.now within c.index.ensures)) ∙ c.row.ensures in
    record {
      low = omega arith;
      high = c.loop-high.invariant.high;
      above = above_piece c.args.row.now ls middle c.row.result.now within c.requires.pieces.rising first (λ less. c.in_default.not-Less (c.cmp.ensures ∙ less));
      below = c.loop-high.invariant.below;
    }

pub returns : goal.returns
returns g c =
    let ls = c.args.pieces.now.items in
    let next : c.loop-high.high ≡ suc c.loop-high.low = omega arith in
    record {
      within = omega arith;
      above = c.loop-high.invariant.above;
      below = subst (λ n. IsBelowFirst c.args.row.now (all_of (drop n ls))) next c.loop-high.invariant.below;
    }
