use Rattle.std.proofs.Common.{◌<◌, ◌++◌, List, drop, subst, sym, ◌∙◌, arith}
use Rattle.wh_pieces.specs.Row.{Row}
use Rattle.wh_pieces.specs.Pieces.{all_of}
use Rattle.wh_pieces.specs.Inner.Pieces.{BeginsAt}
use Rattle.wh_pieces.proofs.EntryLaws.{front_begins, back_begins, both_parts}
use Rattle.wh_pieces.proofs.entries.Entries.split.Goals as goal

pub invariant_of-sooner : goal.invariant_of-sooner
invariant_of-sooner g c =
    let some : 0 < c.min-border.result = omega (arith, c.if-border-eq0.false) in
    subst (λ (ls : List (List (Row × g.row.T.Denot))). BeginsAt ls c.self.inside.place) (sym c.split_at.ensures.front) (front_begins c.self.inside.pieces.now c.self.inside.place c.min-border.result c.self.invariant some)

pub invariant_of-later : goal.invariant_of-later
invariant_of-later g c =
    let some : 0 < c.min-border.result = omega (arith, c.if-border-eq0.false) in
    subst (λ (ls : List (List (Row × g.row.T.Denot))). BeginsAt ls 0) (sym c.split_at.ensures.back) (back_begins c.self.inside.pieces.now c.self.inside.place c.min-border.result c.self.invariant some)

pub returns : goal.returns
returns g c =
    let some : 0 < c.min-border.result = omega (arith, c.if-border-eq0.false) in
    sym c.self.view_is
    ∙ both_parts c.self.inside.pieces.now c.self.inside.place c.min-border.result c.self.invariant some
    ∙ (λ i. drop c.self.inside.place (all_of (sym c.split_at.ensures.front i)) ++ all_of (sym c.split_at.ensures.back i))
