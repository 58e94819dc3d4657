use Rattle.std.proofs.Common.{rules, ◌≡◌, ◌≤◌, ◌<◌, ◌*◌, [], ◌∷◌, ◌++◌, sym, ap, subst, ◌∙◌, List, length, take, drop, arith, length-drop}
use Rattle.std.proofs.lemmas.List.{length-take-le}
use Rattle.wh_pieces.specs.Row.{Row}
use Rattle.wh_pieces.specs.Flat.{flat}
use Rattle.wh_pieces.specs.Pieces.{all_of}
use Rattle.wh_pieces.specs.Inner.Pieces.{AreNotEmpty}
use Rattle.wh_pieces.proofs.FlatLaws.{length-flat}
use Rattle.wh_pieces.proofs.CutLaws.{back_even, cut-flat, one_more, some_more}
use Rattle.wh_pieces.proofs.bulk.cut.Goals as goal

pub loop-cells-preserved : goal.loop-cells-preserved
loop-cells-preserved g c =
    let T = g.row.T.Denot in
    let w = c.args.width in
    let k = c.min-many.result in
    let cells = c.loop-cells.cells.now in
    let values = c.loop-cells.values.now in
    let ls = c.loop-cells.pieces.items in
    let front = c.split_at.ensures.front in
    let back = c.split_at.ensures.back in
    let first = c.split_at-in-loop-cells.ensures.front in
    let others = c.split_at-in-loop-cells.ensures.back in
    let within : k ≤ length values = search (rules, arith) in
    let some : 0 < k = search (rules, arith) in
    let even : length cells ≡ w * length values = c.loop-cells.invariant.even in
    let made : c.in_ok-piece.piece ≡ flat w (take (w * k) cells) (take k values) = c.in_ok-piece.ensures ∙ (λ i. flat w (front i) (first i)) in
    let longer = c.in-Ok.ensures.items ∙ ap (λ (x : List (Row × T)). ls ++ x ∷ []) made in
    let many : length (flat w (take (w * k) cells) (take k values)) ≡ k = length-flat w (take (w * k) cells) (take k values) ∙ length-take-le k values within in
    record {
      even = ap length back ∙ back_even w k cells values even within ∙ ap (λ (vs : List T). w * length vs) (sym others);
      all =
          (λ i. all_of (longer i) ++ flat w (back i) (others i))
          ∙ one_more ls (flat w (take (w * k) cells) (take k values)) (flat w (drop (w * k) cells) (drop k values))
          ∙ ap (λ (es : List (Row × T)). all_of ls ++ es) (cut-flat w k cells values even within)
          ∙ c.loop-cells.invariant.all;
      some = subst (λ (ms : List (List (Row × T))). AreNotEmpty ms) (sym longer) (some_more ls (flat w (take (w * k) cells) (take k values)) c.loop-cells.invariant.some (omega (arith, many, some)));
      within = omega (arith, ap length others, length-drop k values, c.loop-cells.invariant.within);
    }
