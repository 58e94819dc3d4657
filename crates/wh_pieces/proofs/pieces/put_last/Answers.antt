use Rattle.std.proofs.Common.{rules, ◌≡◌, ◌-◌, ◌<◌, ◌≤◌, List, [], ◌∷◌, ◌++◌, length, cond, set, suc, sym, ap, ◌∙◌, arith}
use Rattle.std.proofs.lemmas.List.{take_all, drop_all}
use Rattle.std.specs.List.{insert}
use Rattle.wh_pieces.specs.Row.{Row}
use Rattle.wh_pieces.specs.Pieces.{all_of}
use Rattle.wh_pieces.specs.Inner.Pieces.{piece_at}
use Rattle.wh_pieces.proofs.PieceLaws.{piece_read, put_in_piece, put_at_end}
use Rattle.wh_pieces.proofs.pieces.put_last.Goals as goal

pub returns-then-branch-clause-ok : goal.returns-then-branch-clause-ok
returns-then-branch-clause-ok g c =
    let ls = c.args.pieces.now.items in
    let nth = c.len-count.result - 1 in
    let within : nth < length ls = search rules in
    let past : length ls ≤ suc nth = search rules in
    let e : Row × g.row.T.Denot = (c.args.row.now, c.args.value) in
    let x = piece_at ls nth in
    let y = c.index_mut.result.now in
    let is : y ≡ x = piece_read ls nth y within c.index_mut.ensures.value in
    let end : insert x (length x) e ≡ x ++ e ∷ [] = λ i. take_all (length x) x (omega arith) i ++ e ∷ drop_all (length x) x (omega arith) i in
    let made : c.push.new.self ≡ insert x (length x) e =
    c.in_ok-push.ensures
    ∙ (λ i. cond (c.if-branch.true i) (y ++ e ∷ []) y)
    ∙ ap (λ (z : List (Row × g.row.T.Denot)). z ++ e ∷ []) is
    ∙ sym end in
    ap (λ (z : List (Row × g.row.T.Denot)). all_of (set ls nth z)) made
    ∙ put_in_piece ls nth (length x) e within
    ∙ put_at_end ls nth e within
    ∙ (λ i. all_of (take_all (suc nth) ls past i) ++ e ∷ all_of (drop_all (suc nth) ls past i))
