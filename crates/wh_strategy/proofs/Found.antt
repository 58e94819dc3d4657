-- What stands where: expressions before a place, members of a list.
use Rattle.std.proofs.Common.{◌≡◌, ℕ, zero, suc, ◌<◌, ◌≤◌, List, [], ◌∷◌, Bool, true, false, refl, sym, ap, ◌∙◌, length, take, Some, ⊎_elim, arith}
use Rattle.std.specs.Prelude.{slice_get}
use Rattle.std.specs.List.{list_any}
use Rattle.std.proofs.lemmas.Option.{none-some, same_Some}
use Rattle.std.proofs.lemmas.List.{get_or_past}
use Rattle.std.proofs.lemmas.Bool.{cases_lt, eqb-true, eq-eqb, false≢true, or_left, or_right, or_cases, false_from_ne_true}
use Rattle.wh_dag.specs.Shape.{has, children_of}
use Rattle.wh_strategy.specs.declared.expression.Expression.{Expression}
use Rattle.wh_strategy.specs.declared.expression.Expression.TheVariants.{Comp, Inst}
use Rattle.wh_strategy.specs.Expression.{At, is_inst, is_new}
pub use Rattle.wh_dag.proofs.Members.{has-head, has-tail}

-- only a view has children
pub has_within : (shape : List (List ℕ)) (v u : ℕ) → has (children_of shape v) u ≡ true → v < length shape
unfolding children_of has
has_within shape v u m =
    ⊎_elim
    (λ l. l)
    (λ l. absurd (false≢true (sym (ap (λ z. has z u) (get_or_past shape v [] l)) ∙ m)))
    (cases_lt v (length shape))

-- an Inst that stands earlier, and none
pub any_before : (t : Expression → Bool) (list : List Expression) (p q : ℕ) (e : Expression) → slice_get list q ≡ Some e → q < p → t e ≡ true → list_any t (take p list) ≡ true
any_before t [] p q e at l y = absurd (none-some e at)
any_before t (x ∷ xs) zero q e at l y = absurd (omega arith)
any_before t (x ∷ xs) (suc p) zero e at l y = or_left _ _ (ap t (same_Some x e at) ∙ y)
any_before t (x ∷ xs) (suc p) (suc q) e at l y = or_right _ _ (any_before t xs p q e at (omega arith) y)

pub found_before : (t : Expression → Bool) (list : List Expression) (p : ℕ) → list_any t (take p list) ≡ true → (q : ℕ) × (e : Expression) × (slice_get list q ≡ Some e) × (q < p) × (t e ≡ true)
found_before t [] zero y = absurd (false≢true y)
found_before t [] (suc p) y = absurd (false≢true y)
found_before t (x ∷ xs) zero y = absurd (false≢true y)
found_before t (x ∷ xs) (suc p) y =
    ⊎_elim
    (λ e. (0, x, refl, omega arith, e))
    (λ e. let r = found_before t xs p e in (suc r.0, r.1, r.2, omega arith, r.4))
    (or_cases _ _ y)

pub is_that_inst : (u : ℕ) (e : Expression) → is_inst u e ≡ true → e ≡ Inst u
is_that_inst u (Comp v ys) y = absurd (false≢true y)
is_that_inst u (Inst v) y = ap Inst (eqb-true v u y)

pub new_after : (list : List Expression) (p q u : ℕ) → At list q (Inst u) → q < p → is_new list p u ≡ true
unfolding is_new
new_after list p q u at l = any_before (is_inst u) list p q (Inst u) at l (eq-eqb u u refl)

pub inst_of_new : (list : List Expression) (p u : ℕ) → is_new list p u ≡ true → (q : ℕ) × At list q (Inst u) × (q < p)
unfolding is_new
inst_of_new list p u y = let r = found_before (is_inst u) list p y in (r.0, r.2 ∙ ap Some (is_that_inst u r.1 r.4), r.3)

pub old_before : (list : List Expression) (p u : ℕ) → ((q : ℕ) → At list q (Inst u) → p ≤ q) → is_new list p u ≡ false
old_before list p u h = false_from_ne_true _ (λ y. let r = inst_of_new list p u y in let l = h r.0 r.1 in omega arith)
