use Rattle.std.proofs.Common.{rules, ◌≡◌, ◌∷◌, List, ap, sym, subst, ◌∙◌}
use Rattle.wh_pieces.specs.Row.{Row}
use Rattle.wh_pieces.specs.Inner.Merged.{lacking}
use Rattle.wh_pieces.specs.Place.{AreRisingRows}
use Rattle.wh_pieces.specs.Inner.Place.{IsFirst}
use Rattle.wh_pieces.specs.Pieces.{found}
use Rattle.wh_pieces.proofs.BringLaws.{bringing_kept, bringing_there, bringing_changed, bringing_at, beside_here, beside_there, rising_dropped}
use Rattle.wh_pieces.proofs.pieces.RowMap.merge.Goals as goal

pub loop-row-preserved-then-begin_with : goal.loop-row-preserved-then-begin_with
loop-row-preserved-then-begin_with g c =
    let e : Row × g.row.T.Denot = (c.in-Some.row.now, c.in-Some.more) in
    let rest = c.next.new.self in
    let old = c.args.self.now in
    let left = c.loop-row.left in
    let steps : c.loop-row.row-iterator ≡ e ∷ rest = c.in-Some.ensures.steps in
    let is = bringing_at _ _ _ _ _ (e ∷ rest) c.loop-row.invariant.bringing steps in
    let beside : (q : Row) → found q left ≡ lacking (found q old) (found q (e ∷ rest)) = λ q. c.loop-row.invariant.beside q ∙ ap (λ es. lacking (found q old) (found q es)) steps in
    let first : IsFirst e.0 left = search rules in
    let here = beside_here old e rest is.rising left c.loop-row.invariant.rising beside first in
    record {
      next = search rules;
      bringing = bringing_kept _ old c.args.other.now c.loop-row.self e rest is here.0;
      rising = subst (λ (es : List (Row × g.row.T.Denot)). AreRisingRows es) (sym c.pass.ensures) (rising_dropped left c.loop-row.invariant.rising);
      beside = λ q. ap (found q) c.pass.ensures ∙ here.1 q;
    }

pub combine_at-requires : goal.combine_at-requires
combine_at-requires g c =
    let e : Row × g.row.T.Denot = (c.in-Some.row.now, c.in-Some.more) in
    let rest = c.next.new.self in
    let old = c.args.self.now in
    let left = c.loop-row.left in
    let steps : c.loop-row.row-iterator ≡ e ∷ rest = c.in-Some.ensures.steps in
    let is = bringing_at _ _ _ _ _ (e ∷ rest) c.loop-row.invariant.bringing steps in
    let beside : (q : Row) → found q left ≡ lacking (found q old) (found q (e ∷ rest)) = λ q. c.loop-row.invariant.beside q ∙ ap (λ es. lacking (found q old) (found q es)) steps in
    let other : ¬ (IsFirst e.0 left) = search rules in
    let there = beside_there old e rest is.rising left c.loop-row.invariant.rising beside other in
    record {
      callable = search rules;
      there = bringing_there _ old c.args.other.now c.loop-row.self e rest is there.0;
    }

pub loop-row-preserved : goal.loop-row-preserved
loop-row-preserved g c =
    let e : Row × g.row.T.Denot = (c.in-Some.row.now, c.in-Some.more) in
    let rest = c.next.new.self in
    let old = c.args.self.now in
    let left = c.loop-row.left in
    let steps : c.loop-row.row-iterator ≡ e ∷ rest = c.in-Some.ensures.steps in
    let is = bringing_at _ _ _ _ _ (e ∷ rest) c.loop-row.invariant.bringing steps in
    let beside : (q : Row) → found q left ≡ lacking (found q old) (found q (e ∷ rest)) = λ q. c.loop-row.invariant.beside q ∙ ap (λ es. lacking (found q old) (found q es)) steps in
    let other : ¬ (IsFirst e.0 left) = search rules in
    let there = beside_there old e rest is.rising left c.loop-row.invariant.rising beside other in
    record {
      next = search rules;
      bringing = bringing_changed _ old c.args.other.now c.loop-row.self e rest is c.combine_at.new.self there.0 c.combine_at.ensures;
      rising = c.loop-row.invariant.rising;
      beside = there.1;
    }
