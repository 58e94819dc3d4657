use Rattle.std.proofs.Common.{rules, List, ◌∷◌, ◌++◌, ap, subst, ◌∙◌}
use Rattle.wh_pieces.specs.Row.{Row}
use Rattle.wh_pieces.specs.Inner.Merged.{without}
use Rattle.wh_pieces.specs.Place.{AreRisingRows}
use Rattle.wh_pieces.specs.Pieces.{found}
use Rattle.wh_pieces.proofs.MergeLaws.{above_front}
use Rattle.wh_pieces.proofs.BringLaws.{same_found}
use Rattle.wh_pieces.proofs.NotedLaws.{noting_at, noting_back, noting_brings, noting_more}
use Rattle.wh_pieces.proofs.pieces.RowMap.bring.Goals as goal

pub bring_row-requires : goal.bring_row-requires
bring_row-requires g c = above_front c.loop-row.brought (c.in-Some.row.now, c.in-Some.value) c.next.new.self
    (subst (λ (es : List (Row × g.row.T.Denot)). AreRisingRows (c.loop-row.brought ++ es)) c.in-Some.ensures.steps c.loop-row.invariant.noting.rising)

pub loop-row-preserved : goal.loop-row-preserved
loop-row-preserved g c =
    let e : Row × g.row.T.Denot = (c.in-Some.row.now, c.in-Some.value) in
    let rest = c.next.new.self in
    let is = noting_at _ _ _ _ _ (e ∷ rest) c.loop-row.invariant.noting c.in-Some.ensures.steps in
    record {
      next = search rules;
      noting = noting_more c.args.self.now c.args.other.now c.loop-row.self c.loop-row.brought e rest is c.bring_row.new.self c.bring_row.new.noted c.in-Ok.ensures.here c.in-Ok.ensures.noted;
    }

pub returns-in_default-clause-err : goal.returns-in_default-clause-err
returns-in_default-clause-err g c =
    let old = c.args.self.now in
    let new = c.take_rows.new.self in
    same_found new old c.take_rows.ensures.rising c.len.ensures.rising (λ q.
    noting_back old c.args.other.now c.loop-row.self c.loop-row.brought c.loop-row.row-iterator c.loop-row.invariant.noting new q
    (c.take_rows.ensures.found q
    ∙ ap (λ es. without (found q es) (found q c.bring_row.new.self)) c.in_default.ensures.noted_err
    ∙ ap (without (found q c.loop-row.brought)) (c.in_default.ensures.err q)))

pub returns-in_default-clause-memory : goal.returns-in_default-clause-memory
returns-in_default-clause-memory g c =
    let e : Row × g.row.T.Denot = (c.in-Some.row.now, c.in-Some.value) in
    let rest = c.next.new.self in
    let is = noting_at _ _ _ _ _ (e ∷ rest) c.loop-row.invariant.noting c.in-Some.ensures.steps in
    noting_brings c.args.self.now c.args.other.now c.loop-row.self c.loop-row.brought e rest is c.in_default.ensures.memory
