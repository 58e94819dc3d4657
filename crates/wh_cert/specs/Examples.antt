-- Worked examples over the definitions alone.
use Rattle.std.specs.Prelude.{◌≡◌, ℕ, List, [], ◌∷◌, refl}
use Rattle.wh_dag.specs.Shape.{has, children_of}
use Rattle.wh_dag.specs.Siblings.{each_below, sibling_pairs_of, have_parent, couples_of}
use Rattle.wh_strategy.specs.declared.sizes.SizeRow.{SizeRow}
use Rattle.wh_strategy.specs.Examples.{ones}
use Rattle.wh_strategy.specs.Sizes.{sizes_of}
use Rattle.wh_strategy.specs.Sums.{sum_below}
use Rattle.wh_cert.specs.declared.certificate.PairMin.{PairMin}
use Rattle.wh_cert.specs.Bound.{sum_pairs, pair_bound_of}
use Rattle.wh_cert.specs.Certificate.{lines_of}
use Rattle.wh_cert.specs.Order.{comes_first}

-- a view's sizes, each of its rows weighing so much
abbrev weighing : ℕ → ℕ → ℕ → ℕ → SizeRow
weighing weight pre post change = record { pre = pre; post = post; change = change; weight = weight }

abbrev row : ℕ → ℕ → ℕ → SizeRow
row = weighing 1

abbrev line : ℕ → ℕ → ℕ → ℕ → PairMin
line parent first second least = record { parent = parent; first = first; second = second; least = least }

-- V, which is 2, over A and B, which are 0 and 1
abbrev v_over_a_b : List (List ℕ)
v_over_a_b = [] ∷ [] ∷ (0 ∷ 1 ∷ []) ∷ []

abbrev three_sizes : List SizeRow
three_sizes = row 10 12 4 ∷ row 100 70 30 ∷ row 50 44 6 ∷ []

-- min(10 + 70, 100 + 12) and changes of 4 and 30, and Insts of 4, 30 and 6
pub plan_all_bound : pair_bound_of v_over_a_b (sizes_of three_sizes) ones ≡ 154
unfolding sum_below sum_pairs has children_of sizes_of
plan_all_bound = refl

-- B shrinks and A grows, so B comes first
pub plan_all_lines : lines_of v_over_a_b (sizes_of three_sizes) ≡ line 2 1 0 80 ∷ []
unfolding has children_of sizes_of each_below sibling_pairs_of comes_first
plan_all_lines = refl

-- where each row of A weighs 10, A counts as 100 rows, then 120: min(100 + 70, 100 + 120) and changes of 40 and 30, and Insts of 40, 30 and
-- 6
pub weighted_bound : pair_bound_of v_over_a_b (sizes_of (weighing 10 10 12 4 ∷ row 100 70 30 ∷ row 50 44 6 ∷ [])) ones ≡ 316
unfolding sum_below sum_pairs has children_of sizes_of
weighted_bound = refl

-- A shrinks by 2 rows and B by 3, so B comes first: min(10 + 97, 100 + 8) and changes of 2 and 3, and Insts of 2 and 3
abbrev two_that_shrink : ℕ → List SizeRow
two_that_shrink weight = weighing weight 10 8 2 ∷ row 100 97 3 ∷ row 50 50 0 ∷ []

pub unweighted_lines : lines_of v_over_a_b (sizes_of (two_that_shrink 1)) ≡ line 2 1 0 107 ∷ []
unfolding has children_of sizes_of each_below sibling_pairs_of comes_first
unweighted_lines = refl

pub unweighted_bound : pair_bound_of v_over_a_b (sizes_of (two_that_shrink 1)) ones ≡ 117
unfolding sum_below sum_pairs has children_of sizes_of
unweighted_bound = refl

-- where each row of A weighs 2, A shrinks by 4 and comes first: min(20 + 97, 100 + 16) and changes of 4 and 3, and Insts of 4 and 3
pub weights_turn_the_line : lines_of v_over_a_b (sizes_of (two_that_shrink 2)) ≡ line 2 0 1 116 ∷ []
unfolding has children_of sizes_of each_below sibling_pairs_of comes_first
weights_turn_the_line = refl

pub turned_bound : pair_bound_of v_over_a_b (sizes_of (two_that_shrink 2)) ones ≡ 130
unfolding sum_below sum_pairs has children_of sizes_of
turned_bound = refl

-- B and C, which are 0 and 1; V1, which is 2, over both; V2, which is 3, over B and V1
abbrev v2_over_b_v1 : List (List ℕ)
v2_over_b_v1 = [] ∷ [] ∷ (0 ∷ 1 ∷ []) ∷ (0 ∷ 2 ∷ []) ∷ []

abbrev four_sizes : List SizeRow
four_sizes = row 100 90 20 ∷ row 50 55 5 ∷ row 80 60 40 ∷ row 200 190 30 ∷ []

-- minima of 140 and 160, changes of 85, and Insts of 95
pub plan_one_way_bound : pair_bound_of v2_over_b_v1 (sizes_of four_sizes) ones ≡ 480
unfolding sum_below sum_pairs has children_of sizes_of
plan_one_way_bound = refl

pub plan_one_way_lines : lines_of v2_over_b_v1 (sizes_of four_sizes) ≡ line 2 0 1 140 ∷ line 3 2 0 160 ∷ []
unfolding has children_of sizes_of each_below sibling_pairs_of comes_first
plan_one_way_lines = refl

pub plan_one_way_couples : couples_of v2_over_b_v1 ≡ record { lower = 0; higher = 1 } ∷ record { lower = 0; higher = 2 } ∷ []
unfolding has each_below have_parent couples_of
plan_one_way_couples = refl

-- V over six views of 10 rows of which one changes: 15 pairs of 20, six changes of 1, and seven Insts of 1
pub six_children_bound : pair_bound_of ([] ∷ [] ∷ [] ∷ [] ∷ [] ∷ [] ∷ (0 ∷ 1 ∷ 2 ∷ 3 ∷ 4 ∷ 5 ∷ []) ∷ []) (sizes_of (row 10 10 1 ∷ row 10 10 1 ∷ row 10 10 1 ∷ row 10 10 1 ∷ row 10 10 1 ∷ row 10 10 1 ∷ row 5 5 1 ∷ [])) ones ≡ 313
unfolding sum_below sum_pairs has children_of sizes_of
six_children_bound = refl
