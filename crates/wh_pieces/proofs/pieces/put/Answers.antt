use Rattle.std.proofs.Common.{◌≡◌, ◌/◌, List, length, ap, subst, sym, ◌∙◌, arith, length-drop, OnOk, OnErr}
use Rattle.wh_pieces.specs.Row.{Row}
use Rattle.wh_pieces.specs.Pieces.{all_of}
use Rattle.wh_pieces.specs.Inner.Pieces.{AreNotEmpty, piece_at}
use Rattle.wh_pieces.proofs.PieceLaws.{piece_read, some-cut, all-cut, low_place, high_place, high_half}
use Rattle.wh_pieces.proofs.pieces.put.Goals as goal

pub put_at-requires-then-place-half-clause-some : goal.put_at-requires-then-place-half-clause-some
put_at-requires-then-place-half-clause-some g c =
    let ls = c.args.pieces.now.items in
    let nth = c.args.spot.nth in
    let half : _ = c.len-len.result / 2 in
    let len : c.len-len.result ≡ length (piece_at ls nth) = c.len-len.ensures ∙ ap length (piece_read ls nth c.index.result.now c.requires.nth c.index.ensures) in
    subst (λ (xs : List (List (Row × g.row.T.Denot))). AreNotEmpty xs) (sym c.in_ok-split.ensures.ok) (some-cut ls nth half (omega arith) (omega (arith, len)) c.requires.some)

pub returns-then-place-half-clause-ok : goal.returns-then-place-half-clause-ok
returns-then-place-half-clause-ok g c =
    let ls = c.args.pieces.now.items in
    let nth = c.args.spot.nth in
    let half : _ = c.len-len.result / 2 in
    let len : c.len-len.result ≡ length (piece_at ls nth) = c.len-len.ensures ∙ ap length (piece_read ls nth c.index.result.now c.requires.nth c.index.ensures) in
    let e : Row × g.row.T.Denot = (c.args.row.now, c.args.value) in
    subst (λ (es : List (Row × g.row.T.Denot)). OnOk c.put_at-then-place-half.result (all_of c.put_at-then-place-half.new.pieces.items ≡ es))
    (low_place ls c.split.new.pieces.items nth half c.requires.nth (omega (arith, len)) c.in_ok-split.ensures.ok c.args.spot.place e c.if-place-half.true)
    c.put_at-then-place-half.ensures.ok

pub returns-then-place-half-clause-err : goal.returns-then-place-half-clause-err
returns-then-place-half-clause-err g c =
    let ls = c.args.pieces.now.items in
    let nth = c.args.spot.nth in
    subst (λ (es : List (Row × g.row.T.Denot)). OnErr c.put_at-then-place-half.result (all_of c.put_at-then-place-half.new.pieces.items ≡ es))
    (ap all_of c.in_ok-split.ensures.ok ∙ all-cut ls nth (c.len-len.result / 2) c.requires.nth)
    c.put_at-then-place-half.ensures.err

pub put_at-requires-2-clause-place : goal.put_at-requires-2-clause-place
put_at-requires-2-clause-place g c =
    let ls = c.args.pieces.now.items in
    let nth = c.args.spot.nth in
    let half : _ = c.len-len.result / 2 in
    let len : c.len-len.result ≡ length (piece_at ls nth) = c.len-len.ensures ∙ ap length (piece_read ls nth c.index.result.now c.requires.nth c.index.ensures) in
    let high = high_half ls c.split.new.pieces.items nth half c.requires.nth (omega (arith, len)) c.in_ok-split.ensures.ok in
    omega (arith, ap length high, length-drop half (piece_at ls nth), c.requires.place)

pub returns-clause-ok : goal.returns-clause-ok
returns-clause-ok g c =
    let ls = c.args.pieces.now.items in
    let nth = c.args.spot.nth in
    let half : _ = c.len-len.result / 2 in
    let len : c.len-len.result ≡ length (piece_at ls nth) = c.len-len.ensures ∙ ap length (piece_read ls nth c.index.result.now c.requires.nth c.index.ensures) in
    let e : Row × g.row.T.Denot = (c.args.row.now, c.args.value) in
    subst (λ (es : List (Row × g.row.T.Denot)). OnOk c.put_at-2.result (all_of c.put_at-2.new.pieces.items ≡ es))
    (high_place ls c.split.new.pieces.items nth half c.requires.nth (omega (arith, len)) c.in_ok-split.ensures.ok c.args.spot.place e (omega (arith, c.if-place-half.false)) c.requires.place)
    c.put_at-2.ensures.ok

pub returns-clause-err : goal.returns-clause-err
returns-clause-err g c =
    let ls = c.args.pieces.now.items in
    let nth = c.args.spot.nth in
    subst (λ (es : List (Row × g.row.T.Denot)). OnErr c.put_at-2.result (all_of c.put_at-2.new.pieces.items ≡ es))
    (ap all_of c.in_ok-split.ensures.ok ∙ all-cut ls nth (c.len-len.result / 2) c.requires.nth)
    c.put_at-2.ensures.err
