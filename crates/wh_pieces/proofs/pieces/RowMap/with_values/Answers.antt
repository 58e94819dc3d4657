use Rattle.std.proofs.Common.{◌≡◌, ◌<◌, ◌+◌, ◌++◌, ◌∷◌, [], List, length, take, get_or, subst, sym, ap, ◌∙◌, arith}
use Rattle.std.proofs.lemmas.List.{take_all, take_more}
use Rattle.wh_pieces.specs.Pieces.{AreRevalued, all_of}
use Rattle.wh_pieces.specs.Inner.Pieces.{AreMade}
use Rattle.wh_pieces.proofs.ValueLaws.{made_more, all_revalued, counted_revalued}
use Rattle.wh_pieces.proofs.pieces.RowMap.with_values.Goals as goal

pub loop-piece-preserved : goal.loop-piece-preserved
loop-piece-preserved g c =
    let P : g.row.T.Denot → g.row.U.Denot → Type 0 = λ old new. g.F.Fn.post c.args.value_of.now (old, tt) new in
    let ls = c.self.inside.pieces.items in
    let ms = c.loop-piece.pieces.items in
    let i = c.loop-piece.piece-index in
    let l = c.piece-item.result in
    let within : i < length ls = omega (arith, c.loop-piece-test.true, ap (λ (xs : List _). length xs) c.deref-piece-items.ensures.value) in
    let here : get_or ls i l ≡ l = ap (λ (xs : List _). get_or xs i l) (sym c.deref-piece-items.ensures.value) ∙ sym c.piece-item.is in
    let next : take (i + 1) ls ≡ take i ls ++ l ∷ [] = take_more ls i l within ∙ ap (λ x. take i ls ++ x ∷ []) here in
    subst (λ (xs : List _). AreMade (AreRevalued P) (take (i + 1) ls) xs) (sym c.in-Ok.ensures.items) (made_more (AreRevalued P) ls ms i l c.in_ok-with_values.field-0 next c.loop-piece.invariant c.in_ok-with_values.ensures)

pub invariant_of-result : goal.invariant_of-result
invariant_of-result g c =
    let P : g.row.T.Denot → g.row.U.Denot → Type 0 = λ old new. g.F.Fn.post c.args.value_of.now (old, tt) new in
    let ls = c.self.inside.pieces.items in
    let ms = c.loop-piece.pieces.items in
    let all : take c.loop-piece.piece-index ls ≡ ls = take_all c.loop-piece.piece-index ls (omega (arith, c.loop-piece-test.false, ap (λ (xs : List _). length xs) c.deref-piece-items.ensures.value)) in
    let made = subst (λ (xs : List _). AreMade (AreRevalued P) xs ms) all c.loop-piece.invariant in
    counted_revalued P ls ms c.self.inside.len made c.self.invariant

pub returns-clause-ok : goal.returns-clause-ok
returns-clause-ok g c =
    let P : g.row.T.Denot → g.row.U.Denot → Type 0 = λ old new. g.F.Fn.post c.args.value_of.now (old, tt) new in
    let ls = c.self.inside.pieces.items in
    let ms = c.loop-piece.pieces.items in
    let all : take c.loop-piece.piece-index ls ≡ ls = take_all c.loop-piece.piece-index ls (omega (arith, c.loop-piece-test.false, ap (λ (xs : List _). length xs) c.deref-piece-items.ensures.value)) in
    let made = subst (λ (xs : List _). AreMade (AreRevalued P) xs ms) all c.loop-piece.invariant in
    subst (λ es. AreRevalued P es (all_of ms)) c.self.view_is (all_revalued P ls ms made)
