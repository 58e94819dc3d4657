use Rattle.std.proofs.Common.{◌≡◌, List, length, set, ap, sym, ◌∙◌}
use Rattle.std.specs.List.{remove}
use Rattle.wh_pieces.specs.Row.{Row}
use Rattle.wh_pieces.specs.Pieces.{all_of}
use Rattle.wh_pieces.specs.Inner.Pieces.{piece_at}
use Rattle.wh_pieces.proofs.PieceLaws.{piece_read, set_read, set_removed, all-gone}
use Rattle.wh_pieces.proofs.pieces.take_from.Goals as goal

pub returns-then-len-eq0-clause-all : goal.returns-then-len-eq0-clause-all
returns-then-len-eq0-clause-all g c =
    let ls = c.args.pieces.now.items in
    let nth = c.args.nth in
    let y = c.remove.new.self in
    let z = c.index.result.now in
    let made : y ≡ remove (piece_at ls nth) c.args.place =
    c.remove.ensures ∙ ap (λ (x : List (Row × g.row.T.Denot)). remove x c.args.place) (piece_read ls nth c.index_mut.result.now c.requires.nth c.index_mut.ensures.value) in
    let none : length y ≡ 0 = sym (ap length (set_read ls nth y z c.requires.nth c.index.ensures)) ∙ sym c.len.ensures ∙ c.if-len-eq0.true in
    ap all_of (c.remove-then-len-eq0.ensures.items ∙ set_removed ls nth y)
    ∙ all-gone ls nth y c.requires.nth none
    ∙ ap (λ (x : List (Row × g.row.T.Denot)). all_of (set ls nth x)) made
