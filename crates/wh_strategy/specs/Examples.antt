-- Worked examples over the definitions alone.
use Rattle.std.specs.Prelude.{◌≡◌, ◌<◌, ◌≤◌, ℕ, zero, suc, List, [], ◌∷◌, Option, Some, refl}
use Rattle.std.proofs.Common.{arith}
use Rattle.wh_dag.specs.Shape.{has, children_of}
use Rattle.wh_strategy.specs.declared.expression.Expression.{Expression}
use Rattle.wh_strategy.specs.declared.expression.Expression.TheVariants.{Comp, Inst}
use Rattle.wh_strategy.specs.declared.rule.Rule.{Rule}
use Rattle.wh_strategy.specs.declared.rule.Rule.TheVariants.{S1, S2, S3, S4, S5, S6}
use Rattle.wh_strategy.specs.declared.sizes.SizeRow.{SizeRow}
use Rattle.wh_strategy.specs.Expression.{At, is_new}
use Rattle.wh_strategy.specs.Prices.{Prices}
use Rattle.wh_strategy.specs.Rules.{BreaksS4, IsFirstPlace}
use Rattle.wh_strategy.specs.Sizes.{sizes_of}
use Rattle.wh_strategy.specs.Sums.{sum_below, parts}
use Rattle.wh_strategy.specs.Tests.{is_doubled, lacks_comp, lacks_inst, place_from, Passes}
use Rattle.wh_strategy.specs.Work.{work_of}

-- V, which is 2, over A and B, which are 0 and 1
abbrev v_over_a_b : List (List ℕ)
v_over_a_b = [] ∷ [] ∷ (0 ∷ 1 ∷ []) ∷ []

-- a view's sizes, each of its rows weighing so much
abbrev weighing : ℕ → ℕ → ℕ → ℕ → SizeRow
weighing weight pre post change = record { pre = pre; post = post; change = change; weight = weight }

abbrev row : ℕ → ℕ → ℕ → SizeRow
row = weighing 1

-- each row costs 1
abbrev pub ones : Prices
ones = record { comp = 1; inst = 1 }

abbrev three_sizes : List SizeRow
three_sizes = row 10 12 4 ∷ row 100 70 30 ∷ row 50 44 6 ∷ []

abbrev one_way_check : List Expression
one_way_check = Comp 2 (1 ∷ []) ∷ Inst 1 ∷ Comp 2 (0 ∷ []) ∷ Inst 0 ∷ Inst 2 ∷ []

abbrev two_comps_before_inst : List Expression
two_comps_before_inst = Comp 2 (1 ∷ []) ∷ Comp 2 (0 ∷ []) ∷ Inst 1 ∷ Inst 0 ∷ Inst 2 ∷ []

abbrev both_children_at_once : List Expression
both_children_at_once = Comp 2 (0 ∷ 1 ∷ []) ∷ Inst 0 ∷ Inst 1 ∷ Inst 2 ∷ []

-- 40 + 30 + 74 + 4 + 6
pub one_way_check_costs : work_of v_over_a_b (sizes_of three_sizes) ones one_way_check ≡ 154
unfolding sum_below has parts children_of is_new sizes_of
one_way_check_costs = refl

-- where each row of A weighs 10, A counts as 100 rows, then 120, of which 40 change: 130 + 30 + 110 + 40 + 6
pub weighted_work : work_of v_over_a_b (sizes_of (weighing 10 10 12 4 ∷ row 100 70 30 ∷ row 50 44 6 ∷ [])) ones one_way_check ≡ 316
unfolding sum_below has parts children_of is_new sizes_of
weighted_work = refl

-- 104 + 40 + 34 + 40
pub both_children_at_once_costs : work_of v_over_a_b (sizes_of three_sizes) ones both_children_at_once ≡ 218
unfolding sum_below has parts children_of is_new sizes_of
both_children_at_once_costs = refl

pub one_way_check_passes : (rule : Rule) → Passes v_over_a_b one_way_check rule
unfolding place_from has children_of is_doubled lacks_comp lacks_inst
one_way_check_passes S1 = refl
one_way_check_passes S2 = refl
one_way_check_passes S3 = refl
one_way_check_passes S4 = refl
one_way_check_passes S5 = refl
one_way_check_passes S6 = refl

-- the second expression is a Comp of V, and the view of the first is still old there
pub two_comps_before_inst_breaks : place_from S4 v_over_a_b [] two_comps_before_inst ≡ Some 2
unfolding place_from has children_of is_doubled lacks_comp lacks_inst
two_comps_before_inst_breaks = refl

-- so it is refused, by places: S4 is the first rule that it breaks, at its second place
pub two_comps_before_inst_is_refused : IsFirstPlace S4 v_over_a_b two_comps_before_inst 2
unfolding has
two_comps_before_inst_is_refused =
    record {
      index = 1;
      counted = refl;
      broken = record { target = 2; sources = 0 ∷ []; comp = refl; earlier = 0; before = omega arith; from = 1 ∷ []; first = refl; source = 1; among = refl; still_old = later };
      first = none;
    }
  where
    later : (q : ℕ) → At two_comps_before_inst q (Inst 1) → 1 ≤ q
    later zero at = absurd (differ at)
      where
        differ : ◌≡◌ {A = Option Expression} (Some (Comp 2 (1 ∷ []))) (Some (Inst 1)) → ⊥
        differ e = cc
    later (suc q) at = omega arith

    none : (p : ℕ) → p < 1 → BreaksS4 two_comps_before_inst p → ⊥
    none p l b = let k : b.earlier < p = b.before in omega arith

-- V over six views of 10 rows of which one changes: 63 terms
pub six_children_costs : work_of ([] ∷ [] ∷ [] ∷ [] ∷ [] ∷ [] ∷ (0 ∷ 1 ∷ 2 ∷ 3 ∷ 4 ∷ 5 ∷ []) ∷ []) (sizes_of (row 10 10 1 ∷ row 10 10 1 ∷ row 10 10 1 ∷ row 10 10 1 ∷ row 10 10 1 ∷ row 10 10 1 ∷ row 5 5 1 ∷ [])) ones (Comp 6 (0 ∷ 1 ∷ 2 ∷ 3 ∷ 4 ∷ 5 ∷ []) ∷ Inst 0 ∷ Inst 1 ∷ Inst 2 ∷ Inst 3 ∷ Inst 4 ∷ Inst 5 ∷ Inst 6 ∷ []) ≡ 2059
unfolding sum_below has parts children_of is_new sizes_of
six_children_costs = refl
