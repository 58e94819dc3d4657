use Rattle.std.proofs.Common.{◌≡◌, ◌<◌, List, length, drop, ap, subst, sym, ◌∙◌, arith}
use Rattle.wh_pieces.specs.Row.{Row}
use Rattle.wh_pieces.specs.Pieces.{all_of}
use Rattle.wh_pieces.specs.Inner.Pieces.{AreNotEmpty, BeginsAt}
use Rattle.wh_pieces.proofs.EntryLaws.{passed_within, passed_whole}
use Rattle.wh_pieces.proofs.entries.Entries.pass.Goals as goal

pub overflow_add-self-inside : goal.overflow_add-self-inside
overflow_add-self-inside g c =
    let place = c.self.inside.place in
    let begins : (place < length c.in-Some.piece.now) × AreNotEmpty c.in-Some.rest.now = subst (λ (ls : List (List (Row × g.row.T.Denot))). BeginsAt ls place) c.in-Some.ensures.cases.0 c.self.invariant in
    let len : c.len-len.result ≡ length c.in-Some.piece.now = c.len-len.ensures in
    omega (arith, begins.0, len, c.len-len.type_inv)

pub returns-then-self-len : goal.returns-then-self-len
returns-then-self-len g c = passed_within c.self.inside.pieces.now c.self.inside.place ∙ ap (drop 1) c.self.view_is

pub returns : goal.returns
returns g c =
    let place = c.self.inside.place in
    let cut = c.in-Some.ensures.cases.0 in
    let begins : (place < length c.in-Some.piece.now) × AreNotEmpty c.in-Some.rest.now = subst (λ (ls : List (List (Row × g.row.T.Denot))). BeginsAt ls place) cut c.self.invariant in
    let len : c.len-len.result ≡ length c.in-Some.piece.now = c.len-len.ensures in
    passed_whole c.in-Some.piece.now c.in-Some.rest.now place (omega (arith, begins.0, len, c.if-self-len.false))
    ∙ ap (λ (ls : List (List (Row × g.row.T.Denot))). drop 1 (drop place (all_of ls))) (sym cut)
    ∙ ap (drop 1) c.self.view_is
