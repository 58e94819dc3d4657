use Rattle.std.proofs.Common.{◌≡◌, ◌<◌, ◌+◌, ◌*◌, ◌++◌, ◌∷◌, [], List, length, take, get_or, subst, sym, ap, ◌∙◌, arith}
use Rattle.std.proofs.lemmas.List.{take_all, take_more}
use Rattle.wh_pieces.specs.Flat.{flat}
use Rattle.wh_pieces.specs.Pieces.{AreRevalued}
use Rattle.wh_pieces.specs.Inner.Pieces.{AreMade}
use Rattle.wh_pieces.proofs.ValueLaws.{made_more, made_length, flat_made}
use Rattle.wh_pieces.proofs.piece.Piece.with_values.Goals as goal

pub loop-value-preserved : goal.loop-value-preserved
loop-value-preserved g c =
    let P : g.row.T.Denot → g.row.U.Denot → Type 0 = λ old new. g.F.Fn.post c.args.value_of.now (old, tt) new in
    let ts = c.self.inside.values.items in
    let us = c.loop-value.values.items in
    let i = c.loop-value.value-index in
    let t = c.value-item.result in
    let within : i < length ts = omega (arith, c.loop-value-test.true, ap (λ (xs : List _). length xs) c.deref-value-items.ensures.value) in
    let here : get_or ts i t ≡ t = ap (λ (xs : List _). get_or xs i t) (sym c.deref-value-items.ensures.value) ∙ sym c.value-item.is in
    let next : take (i + 1) ts ≡ take i ts ++ t ∷ [] = take_more ts i t within ∙ ap (λ x. take i ts ++ x ∷ []) here in
    subst (λ (xs : List _). AreMade P (take (i + 1) ts) xs) (sym c.in_ok-push.ensures.items) (made_more P ts us i t c.value_of.result next c.loop-value.invariant c.value_of.ensures)

pub invariant_of-result : goal.invariant_of-result
invariant_of-result g c =
    let P : g.row.T.Denot → g.row.U.Denot → Type 0 = λ old new. g.F.Fn.post c.args.value_of.now (old, tt) new in
    let ts = c.self.inside.values.items in
    let all : take c.loop-value.value-index ts ≡ ts = take_all c.loop-value.value-index ts (omega (arith, c.loop-value-test.false, ap (λ (xs : List _). length xs) c.deref-value-items.ensures.value)) in
    let made = made_length P ts c.loop-value.values.items (subst (λ (xs : List _). AreMade P xs c.loop-value.values.items) all c.loop-value.invariant) in
    ap (λ (xs : List _). length xs) c.in_ok-cells.ensures.items ∙ ap (λ (xs : List _). length xs) c.deref.ensures.value ∙ c.self.invariant ∙ ap (λ n. c.self.inside.width * n) (sym made)

pub returns : goal.returns
returns g c =
    let P : g.row.T.Denot → g.row.U.Denot → Type 0 = λ old new. g.F.Fn.post c.args.value_of.now (old, tt) new in
    let ts = c.self.inside.values.items in
    let us = c.loop-value.values.items in
    let w = c.self.inside.width in
    let all : take c.loop-value.value-index ts ≡ ts = take_all c.loop-value.value-index ts (omega (arith, c.loop-value-test.false, ap (λ (xs : List _). length xs) c.deref-value-items.ensures.value)) in
    let made : AreMade P ts us = subst (λ (xs : List _). AreMade P xs us) all c.loop-value.invariant in
    let cells = c.in_ok-cells.ensures.items ∙ c.deref.ensures.value in
    subst (λ es. AreRevalued P es (flat w c.in_ok-cells.cells.items us)) c.self.view_is
    (subst (λ (xs : List _). AreRevalued P (flat w c.self.inside.cells.items ts) (flat w xs us)) (sym cells) (flat_made P w c.self.inside.cells.items ts us made))
