-- The expressions before a place and the next one.
use Rattle.std.proofs.Common.{◌≡◌, ℕ, zero, suc, ◌<◌, ◌≤◌, refl, sym, ap, ◌∙◌, Bool, true, false, eqb, ◌||◌, List, [], ◌∷◌, ◌++◌, length, take, Some, arith}
use Rattle.std.specs.List.{list_any}
use Rattle.std.proofs.lemmas.Option.{none-some, same_Some}
use Rattle.std.proofs.lemmas.Bool.{eq-eqb, and_from}
use Rattle.wh_dag.specs.Shape.{has, children_of}
use Rattle.wh_strategy.specs.declared.expression.Expression.{Expression}
use Rattle.wh_strategy.specs.declared.expression.Expression.TheVariants.{Comp, Inst}
use Rattle.wh_strategy.specs.Expression.{At, is_inst, is_new}
use Rattle.wh_strategy.specs.Rules.{IsCorrect}
use Rattle.wh_strategy.specs.Tests.{takes, is_taken}
use Rattle.wh_strategy.proofs.Found.{any_before, found_before, new_after, inst_of_new, old_before}
use Rattle.wh_strategy.proofs.CorrectLists.{comp_of}
use Rattle.wh_row.specs.Bag.{Bag}
use Rattle.wh_maint.specs.View.{ViewGraph}
use Rattle.wh_carry.specs.Carry.{State, at_first, step, carried, before}

pub take_next : (list : List Expression) (p : ℕ) (e : Expression) → At list p e → take (suc p) list ≡ take p list ++ e ∷ []
take_next [] p e at = absurd (none-some e at)
take_next (x ∷ xs) zero e at = ap (λ z. z ∷ []) (same_Some x e at)
take_next (x ∷ xs) (suc p) e at = ap (λ z. x ∷ z) (take_next xs p e at)

pub take_whole : (list : List Expression) → take (length list) list ≡ list
take_whole [] = refl
take_whole (x ∷ xs) = ap (λ z. x ∷ z) (take_whole xs)

pub take_past : (list : List Expression) (p : ℕ) → length list ≤ p → take p list ≡ list
take_past [] zero l = refl
take_past [] (suc p) l = refl
take_past (x ∷ xs) zero l = absurd (omega arith)
take_past (x ∷ xs) (suc p) l = ap (λ z. x ∷ z) (take_past xs p (omega arith))

-- there is an expression at each place, and at none past the end
pub there : (list : List Expression) (p : ℕ) → p < length list → (e : Expression) × At list p e
there [] p l = absurd (omega arith)
there (x ∷ xs) zero l = (x, refl)
there (x ∷ xs) (suc p) l = there xs p (omega arith)

pub place_within : (list : List Expression) (p : ℕ) (e : Expression) → At list p e → p < length list
place_within [] p e at = absurd (none-some e at)
place_within (x ∷ xs) zero e at = omega arith
place_within (x ∷ xs) (suc p) e at = let l = place_within xs p e at in omega arith

pub carried-append : (g : ViewGraph) (changes : ℕ → Bag) (xs ys : List Expression) (s : State) → carried g changes (xs ++ ys) s ≡ carried g changes ys (carried g changes xs s)
unfolding carried
carried-append g changes [] ys s = refl
carried-append g changes (x ∷ xs) ys s = carried-append g changes xs ys (step g changes x s)

-- the expression at a place makes the next state
pub before_next : (g : ViewGraph) (changes : ℕ → Bag) (list : List Expression) (tables : ℕ → Bag) (p : ℕ) (e : Expression) → At list p e
    → before g changes list tables (suc p) ≡ step g changes e (before g changes list tables p)
unfolding carried
before_next g changes list tables p e at =
    ap (λ l. carried g changes l (at_first tables)) (take_next list p e at)
    ∙ carried-append g changes (take p list) (e ∷ []) (at_first tables)

swap_or : (a b c : Bool) → (a || (b || c)) ≡ (b || (a || c))
swap_or true true c = refl
swap_or true false c = refl
swap_or false b c = refl

any_next : (t : Expression → Bool) (xs : List Expression) (e : Expression) → list_any t (xs ++ e ∷ []) ≡ (t e || list_any t xs)
any_next t [] e = refl
any_next t (x ∷ xs) e = ap (λ z. t x || z) (any_next t xs e) ∙ swap_or (t x) (t e) (list_any t xs)

pub new_next : (list : List Expression) (p : ℕ) (e : Expression) (u : ℕ) → At list p e → is_new list (suc p) u ≡ (is_inst u e || is_new list p u)
unfolding is_new
new_next list p e u at = ap (list_any (is_inst u)) (take_next list p e at) ∙ any_next (is_inst u) (take p list) e

pub taken_next : (list : List Expression) (p : ℕ) (e : Expression) (v u : ℕ) → At list p e → is_taken (take (suc p) list) v u ≡ (takes v u e || is_taken (take p list) v u)
taken_next list p e v u at = ap (list_any (takes v u)) (take_next list p e at) ∙ any_next (takes v u) (take p list) e

pub taken_before : (list : List Expression) (p q v u : ℕ) (ys : List ℕ) → At list q (Comp v ys) → has ys u ≡ true → q < p → is_taken (take p list) v u ≡ true
taken_before list p q v u ys at m l = any_before (takes v u) list p q (Comp v ys) at l (and_from (eqb v v) (has ys u) (eq-eqb v v refl) m)

pub comp_taken : (list : List Expression) (p v u : ℕ) → is_taken (take p list) v u ≡ true → (q : ℕ) × (ys : List ℕ) × At list q (Comp v ys) × (has ys u ≡ true) × (q < p)
comp_taken list p v u t =
    let r = found_before (takes v u) list p t in
    let c = comp_of v u r.1 r.4 in
    (r.0, c.0, r.2 ∙ ap Some c.1, c.2, r.3)

same_tests : (a b : Bool) → (a ≡ true → b ≡ true) → (b ≡ true → a ≡ true) → a ≡ b
same_tests true b f g = sym (f refl)
same_tests false true f g = g refl
same_tests false false f g = refl

-- what the rules tell at a place of a correct list
module _ (shape : List (List ℕ)) (list : List Expression) (ok : IsCorrect shape list) where
  -- the view of an Inst is old before it, and all its Comps stand before
  pub inst_is_first : (p v : ℕ) → At list p (Inst v) → is_new list p v ≡ false
  inst_is_first p v at = old_before list p v (λ q a. let e : q ≡ p = ok.one_inst q p v a at in omega arith)

  pub inst_after_comps : (p v : ℕ) → At list p (Inst v) → (u : ℕ) → has (children_of shape v) u ≡ true → is_taken (take p list) v u ≡ true
  inst_after_comps p v at u m = let c = ok.each v u m in taken_before list p c.0 v u c.1 c.2 c.3 (ok.own_inst c.0 p v c.1 c.2 at)

  -- the sources of a Comp are old there, and all their Comps stand before
  pub source_is_old : (p v : ℕ) (ys : List ℕ) → At list p (Comp v ys) → (u : ℕ) → has ys u ≡ true → is_new list p u ≡ false
  source_is_old p v ys at u m = old_before list p u (λ q a. let l : p < q = ok.before_inst p q v u ys at m a in omega arith)

  pub source_after_comps : (p v : ℕ) (ys : List ℕ) → At list p (Comp v ys) → (u : ℕ) → has ys u ≡ true → (w : ℕ) → has (children_of shape u) w ≡ true → is_taken (take p list) u w ≡ true
  source_after_comps p v ys at u m w t = let c = ok.each u w t in taken_before list p c.0 u w c.1 c.2 c.3 (ok.changes_first c.0 p u v c.1 ys c.2 at m)

  -- at a Comp of a view, its new children are those that its earlier Comps are from
  pub taken_is_new : (p v : ℕ) (ys : List ℕ) → At list p (Comp v ys) → (u : ℕ) → has (children_of shape v) u ≡ true → is_taken (take p list) v u ≡ is_new list p u
  taken_is_new p v ys at u m = same_tests (is_taken (take p list) v u) (is_new list p u)
      (λ t. let r = comp_taken list p v u t in let q = ok.between r.0 p v u r.1 ys r.2 at r.4 r.3 in new_after list p q.0 u q.1 q.2)
      (λ t.
      let r = inst_of_new list p u t in
      let c = ok.each v u m in
      let l : r.0 < p = r.2 in
      let k : c.0 < r.0 = ok.before_inst c.0 r.0 v u c.1 c.2 c.3 r.1 in
      taken_before list p c.0 v u c.1 c.2 c.3 (omega arith))
