use Rattle.std.proofs.Common.{◌≡◌, ◌<◌, ◌+◌, suc, length, sym, subst, refl, arith, take}
use Rattle.wh_pieces.specs.Pieces.{AreWide, all_of}
use Rattle.wh_pieces.specs.Inner.Pieces.{piece_at}
use Rattle.wh_pieces.proofs.PieceLaws.{piece_read, take-suc_piece}
use Rattle.wh_pieces.proofs.WidthLaws.{wide-append, wide-piece}
use Rattle.wh_pieces.proofs.pieces.RowMap.has_width.Goals as goal

pub returns-then-not-has_width : goal.returns-then-not-has_width
returns-then-not-has_width g c = (
  λ t. cc,
  λ wide.
      let ls = c.self.inside.pieces.items in
      let nth = c.loop-place.place in
      let within : nth < length ls = omega arith in
      let is = piece_read ls nth c.index.result.now within c.index.ensures in
      c.if-not-has_width.ensures.1 (subst (AreWide c.args.width) (sym is) (wide-piece c.args.width ls nth within (subst (AreWide c.args.width) (sym c.self.view_is) wide))),
)

pub loop-place-preserved : goal.loop-place-preserved
loop-place-preserved g c =
    let ls = c.self.inside.pieces.items in
    let nth = c.loop-place.place in
    let within : nth < length ls = omega arith in
    let is = piece_read ls nth c.index.result.now within c.index.ensures in
    let next : suc nth ≡ nth + 1 = omega arith in
    subst (λ n. AreWide c.args.width (all_of (take n ls))) next (subst (AreWide c.args.width) (sym (take-suc_piece ls nth within)) (wide-append c.args.width (all_of (take nth ls)) (piece_at ls nth) c.loop-place.invariant (subst (AreWide c.args.width) is (c.if-not-has_width.ensures.0 refl))))
