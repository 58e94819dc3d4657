use Rattle.std.proofs.Common.{◌≡◌, List, ◌∷◌, ◌++◌, suc, take, drop, set, get_or, ap, ◌∙◌, add-one}
use Rattle.std.specs.List.{insert}
use Rattle.wh_pieces.specs.Row.{Row}
use Rattle.wh_pieces.specs.Inner.Pieces.{piece_at}
use Rattle.wh_pieces.proofs.PieceLaws.{piece_read, piece_kept, cut_made}
use Rattle.wh_pieces.proofs.pieces.split.Goals as goal

pub returns-clause-ok : goal.returns-clause-ok
returns-clause-ok g c =
    let ls = c.args.pieces.now.items in
    let nth = c.args.nth in
    let place = c.args.place in
    let tail = c.in_ok-tail.tail in
    let y = c.index_mut.result.now in
    let behind : tail ≡ drop place (piece_at ls nth) = c.in_ok-tail.ensures ∙ ap (drop place) (piece_read ls nth c.index.result.now c.requires.within c.index.ensures) in
    let items : c.insert.new.self.items ≡ insert ls (suc nth) tail = c.in-Ok.ensures.items ∙ ap (λ n. insert ls n tail) (add-one nth) in
    let there : y ≡ get_or (insert ls (suc nth) tail) nth y = c.index_mut.ensures.value ∙ ap (λ (xs : List (List (Row × g.row.T.Denot))). get_or xs nth y) items in
    let kept : y ≡ piece_at ls nth = piece_kept ls nth tail y c.requires.within there in
    ap (λ (xs : List (List (Row × g.row.T.Denot))). set xs nth c.truncate.new.self) items
    ∙ ap (set (insert ls (suc nth) tail) nth) (c.truncate.ensures ∙ ap (take place) kept)
    ∙ cut_made ls nth (take place (piece_at ls nth)) tail c.requires.within
    ∙ ap (λ (x : List (Row × g.row.T.Denot)). take nth ls ++ take place (piece_at ls nth) ∷ x ∷ drop (suc nth) ls) behind
