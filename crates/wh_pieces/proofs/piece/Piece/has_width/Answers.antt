use Rattle.std.proofs.Common.{◌≡◌, length, sym, subst, ◌∙◌, arith}
use Rattle.std.proofs.lemmas.Bool.{eqb-true, eq-eqb}
use Rattle.wh_pieces.specs.Pieces.{AreWide}
use Rattle.wh_pieces.proofs.WidthLaws.{flat_wide, none_wide, none_or_width}
use Rattle.wh_pieces.proofs.piece.Piece.has_width.Goals as goal

pub returns-then-self-width : goal.returns-then-self-width
returns-then-self-width g c =
    let s = c.self.inside in (
      λ t. subst (λ w. AreWide w c.args.self.now) c.if-self-width.true (subst (AreWide s.width) c.self.view_is (flat_wide s.width s.cells.items s.values.items c.self.invariant)),
      λ wide. eq-eqb s.width c.args.width c.if-self-width.true,
    )

pub returns-else-self-width : goal.returns-else-self-width
returns-else-self-width g c =
    let s = c.self.inside in (
      λ t.
          let none : length s.values.items ≡ 0 = omega (arith, s.values.ok.0, eqb-true s.values.len 0 (sym c.is_empty.ensures ∙ t)) in
          subst (AreWide c.args.width) c.self.view_is (none_wide s.width c.args.width s.cells.items s.values.items none),
      λ wide.
          let none = none_or_width s.width c.args.width s.cells.items s.values.items c.self.invariant c.if-self-width.false (subst (AreWide c.args.width) (sym c.self.view_is) wide) in
          c.is_empty.ensures ∙ eq-eqb s.values.len 0 (omega (arith, s.values.ok.0, none)),
    )
