use Rattle.std.proofs.Common.{◌≡◌, suc, List, ◌∷◌, ◌++◌, length, take, drop, cond, set, get_or, ap, subst, sym, ◌∙◌}
use Rattle.std.specs.Prelude.{OnOk, OnErr}
use Rattle.std.specs.List.{insert}
use Rattle.wh_pieces.specs.Row.{Row}
use Rattle.wh_pieces.specs.Pieces.{all_of}
use Rattle.wh_pieces.specs.Inner.Pieces.{piece_at, before, after}
use Rattle.wh_pieces.proofs.PieceLaws.{piece_read, piece_unchanged, put_in_piece, put_at_end, put_at_cut, all-cut}
use Rattle.wh_pieces.proofs.pieces.put_at.Goals as goal

pub returns-then-branch-clause-ok : goal.returns-then-branch-clause-ok
returns-then-branch-clause-ok g c =
    let ls = c.args.pieces.now.items in
    let nth = c.args.spot.nth in
    let place = c.args.spot.place in
    let e : Row × g.row.T.Denot = (c.args.row.now, c.args.value) in
    let x = piece_at ls nth in
    let y = c.index_mut.result.now in
    let is : y ≡ x = piece_read ls nth y c.requires.nth c.index_mut.ensures.value in
    let made : c.insert.new.self ≡ insert x place e =
    c.in_ok-insert.ensures
    ∙ (λ i. cond (c.if-branch.true i) (insert y place e) y)
    ∙ ap (λ (z : List (Row × g.row.T.Denot)). insert z place e) is in
    ap (λ (z : List (Row × g.row.T.Denot)). all_of (set ls nth z)) made
    ∙ put_in_piece ls nth place e c.requires.nth

pub returns-then-place-len-clause-ok : goal.returns-then-place-len-clause-ok
returns-then-place-len-clause-ok g c =
    let ls = c.args.pieces.now.items in
    let nth = c.args.spot.nth in
    let e : Row × g.row.T.Denot = (c.args.row.now, c.args.value) in
    let x = piece_at ls nth in
    let y = c.index_mut.result.now in
    let is : y ≡ x = piece_read ls nth y c.requires.nth c.index_mut.ensures.value in
    let same : set ls nth c.insert.new.self ≡ ls = piece_unchanged ls nth y (insert y c.args.spot.place e) c.insert.new.self c.in_ok-insert.field-0 is c.in_ok-insert.ensures c.if-branch.false in
    let read = c.index.ensures ∙ ap (λ (ms : List (List (Row × g.row.T.Denot))). get_or ms nth c.index.result.now) same in
    let end : c.args.spot.place ≡ length x = c.if-place-len.true ∙ c.len.ensures ∙ ap length (piece_read ls nth c.index.result.now c.requires.nth read) in
    let step = subst (λ (ms : List (List (Row × g.row.T.Denot))). OnOk c.put_behind.result (all_of c.put_behind.new.pieces.items ≡ all_of (take (suc nth) ms) ++ e ∷ all_of (drop (suc nth) ms))) same c.put_behind.ensures.ok in
    subst (λ (es : List (Row × g.row.T.Denot)). OnOk c.put_behind.result (all_of c.put_behind.new.pieces.items ≡ es))
    (sym (put_at_end ls nth e c.requires.nth) ∙ ap (λ n. before ls nth n ++ e ∷ after ls nth n) (sym end)) step

pub returns-clause-ok : goal.returns-clause-ok
returns-clause-ok g c =
    let ls = c.args.pieces.now.items in
    let nth = c.args.spot.nth in
    let place = c.args.spot.place in
    let e : Row × g.row.T.Denot = (c.args.row.now, c.args.value) in
    let ms = c.split.new.pieces.items in
    let y = c.index_mut.result.now in
    let is : y ≡ piece_at ls nth = piece_read ls nth y c.requires.nth c.index_mut.ensures.value in
    let same : set ls nth c.insert.new.self ≡ ls = piece_unchanged ls nth y (insert y place e) c.insert.new.self c.in_ok-insert.field-0 is c.in_ok-insert.ensures c.if-branch.false in
    let cut : ms ≡ take nth ls ++ take place (piece_at ls nth) ∷ drop place (piece_at ls nth) ∷ drop (suc nth) ls =
    c.in_ok-split.ensures.ok ∙ ap (λ (xs : List (List (Row × g.row.T.Denot))). take nth xs ++ take place (piece_at xs nth) ∷ drop place (piece_at xs nth) ∷ drop (suc nth) xs) same in
    subst (λ (es : List (Row × g.row.T.Denot)). OnOk c.put_behind-2.result (all_of c.put_behind-2.new.pieces.items ≡ es))
    (put_at_cut ls ms nth place e c.requires.nth cut) c.put_behind-2.ensures.ok

pub returns-clause-err : goal.returns-clause-err
returns-clause-err g c =
    let ls = c.args.pieces.now.items in
    let nth = c.args.spot.nth in
    let place = c.args.spot.place in
    let e : Row × g.row.T.Denot = (c.args.row.now, c.args.value) in
    let ms = c.split.new.pieces.items in
    let y = c.index_mut.result.now in
    let is : y ≡ piece_at ls nth = piece_read ls nth y c.requires.nth c.index_mut.ensures.value in
    let same : set ls nth c.insert.new.self ≡ ls = piece_unchanged ls nth y (insert y place e) c.insert.new.self c.in_ok-insert.field-0 is c.in_ok-insert.ensures c.if-branch.false in
    let cut : ms ≡ take nth ls ++ take place (piece_at ls nth) ∷ drop place (piece_at ls nth) ∷ drop (suc nth) ls =
    c.in_ok-split.ensures.ok ∙ ap (λ (xs : List (List (Row × g.row.T.Denot))). take nth xs ++ take place (piece_at xs nth) ∷ drop place (piece_at xs nth) ∷ drop (suc nth) xs) same in
    subst (λ (es : List (Row × g.row.T.Denot)). OnErr c.put_behind-2.result (all_of c.put_behind-2.new.pieces.items ≡ es))
    (ap all_of cut ∙ all-cut ls nth place c.requires.nth) c.put_behind-2.ensures.err
