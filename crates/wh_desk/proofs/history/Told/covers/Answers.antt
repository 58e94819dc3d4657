use Rattle.std.proofs.Common.{MatchBool, ap, subst, refl, length, List, ◌∙◌, sym}
use mathlib.Core.List.{IsPrefix}
use lib.Dec.{leb}
use Rattle.wh_desk.specs.declared.history.Chapter.{Chapter}
use Rattle.wh_desk.specs.Known.{Begins, Known}
use Rattle.wh_desk.proofs.Stories.{decides}
use Rattle.wh_desk.proofs.history.Told.covers.Goals as goal

pub returns-clause-begins : goal.returns-clause-begins
returns-clause-begins c =
    let both = c.learn.new.self.log in
    let this : IsPrefix c.self.inside.seen.log both = subst (λ (l : List Chapter). IsPrefix l both) (ap (λ s. s.log) c.again-both.ensures) c.learn.ensures.2 in
    let books = ap (λ (k : Known). k.book) c.other.view_is ∙ (c.requires ∙ sym (ap (λ (k : Known). k.book) c.self.view_is)) in
    subst (λ (t : Known × Known). MatchBool (leb c.other.inside.count c.self.inside.count) (Begins t.1 t.0) (Begins t.0 t.1)) (λ i. (c.self.view_is i, c.other.view_is i))
    (decides c.self.inside.seen.book c.other.inside.seen.book c.self.inside.seen.log c.other.inside.seen.log both c.self.inside.count c.other.inside.count books c.self.invariant.0 c.other.invariant.0 this c.learn.ensures.3 _ refl)

pub returns-clause-counts : goal.returns-clause-counts
returns-clause-counts c =
    let mine = sym c.self.invariant.2 ∙ ap (λ (k : Known). length k.list) c.self.view_is in
    let others = sym c.other.invariant.2 ∙ ap (λ (k : Known). length k.list) c.other.view_is in
    (λ i. leb (others i) (mine i))
