use Rattle.std.proofs.Common.{ℕ, ◌≡◌, length, ◌++◌, ◌+◌, ◌<◌, ◌^◌, List, sym, ap, subst, ◌∙◌, arith}
use Rattle.wh_pieces.specs.Row.{Row}
use Rattle.wh_pieces.specs.Place.{AreRisingRows}
use Rattle.wh_pieces.specs.Pieces.{all_of}
use Rattle.wh_pieces.specs.Inner.Pieces.{AreCounted}
use Rattle.wh_pieces.proofs.PieceLaws.{all-append, counted_joined}
use Rattle.wh_pieces.proofs.pieces.RowMap.put_above.Goals as goal

pub invariant_of-self-2 : goal.invariant_of-self-2
invariant_of-self-2 g c =
    let Entries : Type 0 = List (Row × g.row.T.Denot) in
    let s = c.self.inside in
    let o = c.other.inside in
    let both : all_of s.pieces.items ++ all_of o.pieces.items ≡ c.args.self.now ++ c.args.other = ap (λ (es : Entries). es ++ all_of o.pieces.items) c.self.view_is ∙ ap (λ (es : Entries). c.args.self.now ++ es) c.other.view_is in
    let exact = c.len-more.ensures.len in
    let small = c.if-self-more.false in
    let mine = c.self.invariant.small in
    let other = c.other.invariant.exact in
    let len = ap (λ (es : Entries). length es) c.other.view_is in
    let is : c.len-more.result ≡ o.len = omega (arith, exact, other, len) in
    let few : s.len + o.len < 2 ^ 63 = omega (arith, small, mine, is) in
    let Counted : ℕ → Type 0 = λ n. AreCounted c.append.new.self.items (s.len + n) in
    subst Counted (sym is)
    (counted_joined s.pieces.items o.pieces.items c.append.new.self.items s.len o.len c.self.invariant c.other.invariant c.in_ok-append.ensures.items
    (subst (λ (es : Entries). AreRisingRows es) (sym both) c.requires) few)

pub returns-clause-ok : goal.returns-clause-ok
returns-clause-ok g c =
    let Entries : Type 0 = List (Row × g.row.T.Denot) in
    let s = c.self.inside in
    let o = c.other.inside in
    ap all_of c.in_ok-append.ensures.items
    ∙ all-append s.pieces.items o.pieces.items
    ∙ ap (λ (es : Entries). es ++ all_of o.pieces.items) c.self.view_is
    ∙ ap (λ (es : Entries). c.args.self.now ++ es) c.other.view_is
