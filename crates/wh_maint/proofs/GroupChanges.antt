-- A summary's change, group by group.
use Rattle.std.proofs.Common.{◌≡◌, ℕ, zero, suc, refl, sym, ap, ◌∙◌, ℤ, pos, negsuc, ◌+ℤ◌, ◌-ℤ◌, ◌*ℤ◌, true, false, cond, [], ◌∷◌, ◌++◌, ◌≢◌, length, take, arith}
use Rattle.std.specs.Prelude.{neg_ℤ}
use Rattle.std.specs.List.{flat_map}
use Rattle.std.proofs.lemmas.Int.{ints}
use Rattle.std.proofs.lemmas.Bool.{false_from_ne_true, both_ways}
use Rattle.std.specs.declared.cmp.Ordering.TheVariants.{Less, Equal, Greater}
use Rattle.std.specs.Ordering.{int_cmp, ordering_then, ordering_reverse}
use Rattle.std.specs.Cmp.{int_cmp_total}
use Rattle.std.specs.FinMap.{int_cmp-IsAntisymmetric}
use Rattle.wh_row.specs.Row.{Row, row_cmp, is_row}
use Rattle.wh_row.specs.Weigh.{Counted, weigh, negated}
use Rattle.wh_row.specs.Bag.{Bag, written, count}
use Rattle.wh_row.proofs.WeighLaws.{weigh-append}
use Rattle.wh_row.proofs.BagLaws.{same_bag, same_row, itself, count-bag_of, count_in-append, count_in-weigh, flat_one}
use Rattle.wh_maint.specs.Summary.{cells, if_positive, group_row, summary, group_of, read_back, new_accumulators, is_touched}
use Rattle.wh_maint.specs.SummaryLaws.{row_change, ChangesGoByGroups, GroupsStandTogether}
use Rattle.wh_maint.proofs.Summaries.{group_of-row, count-summary, weigh-if_positive, count_in-negated, row_stays, count-change}
use Rattle.wh_maint.proofs.FitTables.{told_whole}

weigh-negated_row : (h : Row → ℤ) (n : ℤ) (r : Row) → h r ≡ pos 0 → weigh h (negated (if_positive n r)) ≡ pos 0
weigh-negated_row h (pos zero) r e = refl
weigh-negated_row h (pos (suc n)) r e = ap (λ z. (negsuc 0 *ℤ z) +ℤ pos 0) e
weigh-negated_row h (negsuc n) r e = refl

less_itself : (a b : ℤ) → a ≡ b → b -ℤ a ≡ pos 0
less_itself a b e = omega (arith, ints)

pub changes_go_by_groups : ChangesGoByGroups
changes_go_by_groups = λ k table p groups fit all. same_bag _ _ (λ q.
    let whole = told_whole k table fit in
    let a : ℕ → Bag = new_accumulators k table p in
    let b : ℕ → Bag = read_back k table in
    let g : Row = group_of k q in
    let h : Row → ℤ = λ r. cond (is_row q r) (pos 1) (pos 0) in
    let rows : Counted = flat_map {X = Row × ℤ} (λ e. row_change k table p e.0) (written groups) in
    let far : (c : ℕ → Bag) (r : Row) → is_row g r ≡ false → h (r ++ cells k c r) ≡ pos 0 = λ c r f i.
    cond (false_from_ne_true (is_row q (r ++ cells k c r)) (λ t. both_ways (is_row g r) f (ap (is_row g) (sym (ap (group_of k) (same_row q (r ++ cells k c r) t) ∙ group_of-row k c r)) ∙ itself g)) i) (pos 1) (pos 0) in
    let here : weigh h (row_change k table p g) ≡ count (summary k a) q -ℤ count table q =
    sym (count_in-weigh (row_change k table p g) q)
    ∙ count_in-append (group_row k a g) (negated (group_row k b g)) q
    ∙ (λ i. sym (count-summary k a q) i +ℤ (count_in-negated (group_row k b g) q ∙ ap neg_ℤ (sym (count-summary k b q) ∙ ap (λ x. count x q) (sym whole))) i) in
    let nothing : is_touched k p g ≡ false → count (summary k a) q -ℤ count table q ≡ pos 0 = λ t. less_itself (count table q) (count (summary k a) q) (row_stays k table p q whole t) in
    count-change k table p q
    ∙ elim (is_touched k p g) as (λ t. is_touched k p g ≡ t → cond t (count (summary k a) q -ℤ count table q) (pos 0) ≡ count (summary k a) q -ℤ count table q) [
      | true ↦ λ t. refl
      | false ↦ λ t. sym (nothing t)
    ] refl
    ∙ sym (count-bag_of rows q ∙ count_in-weigh rows q
    ∙ flat_one groups (row_change k table p) h g
    (λ r f. weigh-append h (group_row k a r) (negated (group_row k b r))
    ∙ (λ i. weigh-if_positive h (count (a 0) r) (r ++ cells k a r) (far a r f) i +ℤ weigh-negated_row h (count (b 0) r) (r ++ cells k b r) (far b r f) i))
    (λ e. here ∙ nothing (all g e))
    ∙ here))

-- ---- where a group's row stands

together : (g c r : Row) → row_cmp g r ≢ Greater → row_cmp r (g ++ c) ≢ Greater → take (length g) r ≡ g
together [] c r above below = refl
together (x ∷ g) c [] above below = absurd (above refl)
together (x ∷ g) c (y ∷ r) above below =
    elim (int_cmp x y) as (λ o. int_cmp x y ≡ o → (ordering_then o (row_cmp g r) ≡ Greater → ⊥) → y ∷ take (length g) r ≡ x ∷ g) [
      | Less ↦ λ e _.
          let back : int_cmp y x ≡ Greater = int_cmp_total.antisymm y x ∙ ap ordering_reverse e in
          absurd (below (λ i. ordering_then (back i) (row_cmp r (g ++ c))))
      | Equal ↦ λ e above'.
          let back : int_cmp y x ≡ Equal = int_cmp_total.antisymm y x ∙ ap ordering_reverse e in
          let same : x ≡ y = int_cmp-IsAntisymmetric x y e in
          λ i. sym same i ∷ together g c r above' (λ f. below ((λ j. ordering_then (back j) (row_cmp r (g ++ c))) ∙ f)) i
      | Greater ↦ λ e above'. absurd (above' refl)
    ] refl above

pub groups_stand_together : GroupsStandTogether
groups_stand_together = together
