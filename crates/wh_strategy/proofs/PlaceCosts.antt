-- What a correct list tells of the expression at a place.
use Rattle.std.proofs.Common.{◌≡◌, ℕ, zero, suc, ◌+◌, ◌*◌, ◌<◌, ◌≤◌, List, [], ◌∷◌, Some, true, cond, refl, sym, ap, ◌∙◌, length, get_or, arith}
use Rattle.std.specs.Prelude.{slice_get}
use Rattle.std.specs.List.{sum_by}
use Rattle.std.proofs.lemmas.Option.{none-some, same_Some, slice_get_read}
use Rattle.wh_dag.specs.Shape.{has, IsShape, children_of}
use Rattle.wh_strategy.specs.declared.expression.Expression.{Expression}
use Rattle.wh_strategy.specs.declared.expression.Expression.TheVariants.{Comp, Inst}
use Rattle.wh_strategy.specs.Expression.{At}
use Rattle.wh_strategy.specs.Prices.{Prices}
use Rattle.wh_strategy.specs.Rules.{IsCorrect}
use Rattle.wh_strategy.specs.declared.sizes.Size.{Size}
use Rattle.wh_strategy.specs.Sums.{parts}
use Rattle.wh_strategy.specs.Work.{state, term, comp_rows, inst_rows, cost_at}
use Rattle.wh_strategy.specs.Inner.Work.{read_of}
use Rattle.wh_dag.proofs.Members.{has-head, has-tail, length-le_members}
use Rattle.wh_dag.proofs.Sums.{sum_by-swap}

has_at : (xs : List ℕ) (k u : ℕ) → slice_get xs k ≡ Some u → has xs u ≡ true
has_at [] k u at = absurd (none-some u at)
has_at (x ∷ xs) zero u at = has-first x u xs (same_Some x u at)
  where
    has-first : (x u : ℕ) (xs : List ℕ) → x ≡ u → has (x ∷ xs) u ≡ true
    has-first x u xs e = ap (λ z. has (x ∷ xs) z) (sym e) ∙ has-head x xs
has_at (x ∷ xs) (suc k) u at = has-tail x u xs (has_at xs k u at)

-- a child of a view is a view
pub child_within : (shape : List (List ℕ)) (v k u : ℕ) → IsShape shape → v < length shape → slice_get (children_of shape v) k ≡ Some u → u < length shape
child_within shape v k u sh l at = let h = sh.lower v u (has_at (children_of shape v) k u at) in omega arith

-- a Comp of a correct list is from at most 6 views
pub few_sources : (shape : List (List ℕ)) (list : List Expression) (p v : ℕ) (ys : List ℕ) → IsShape shape → IsCorrect shape list → At list p (Comp v ys) → length ys ≤ 6
few_sources shape list p v ys sh co at =
    let ok = co.allowed p v ys at in
    let a = length-le_members ys (children_of shape v) ok.2 ok.3 in
    let b = sh.few_children v in
    omega arith

-- the terms of a Comp, child by child
pub terms_by_child : (sizes : ℕ → Size) (list : List Expression) (place : ℕ) (children ys : List ℕ) → sum_by (term sizes list place children) (parts ys) ≡ sum_by (λ u. read_of (sizes u).change (state sizes list place u) u ys) children
terms_by_child sizes list place children ys =
    sum_by-swap (λ part u. cond (has part u) (sizes u).change (state sizes list place u)) (parts ys) children

pub cost_of_comp : (shape : List (List ℕ)) (sizes : ℕ → Size) (prices : Prices) (list : List Expression) (p v : ℕ) (ys : List ℕ) → At list p (Comp v ys) → cost_at shape sizes prices list p ≡ prices.comp * sum_by (term sizes list p (children_of shape v)) (parts ys)
cost_of_comp shape sizes prices list p v ys at =
    ap (λ o. prices.comp * comp_rows shape sizes list p o + prices.inst * inst_rows sizes o) at ∙ omega arith

pub cost_of_inst : (shape : List (List ℕ)) (sizes : ℕ → Size) (prices : Prices) (list : List Expression) (p v : ℕ) → At list p (Inst v) → cost_at shape sizes prices list p ≡ prices.inst * (sizes v).change
cost_of_inst shape sizes prices list p v at =
    ap (λ o. prices.comp * comp_rows shape sizes list p o + prices.inst * inst_rows sizes o) at ∙ omega arith

-- the expression that the code reads
pub stands : (list : List Expression) (p : ℕ) (x e : Expression) → p < length list → x ≡ get_or list p x → x ≡ e → At list p e
stands list p x e l r s = slice_get_read list (length list) p x refl l r ∙ ap Some s
