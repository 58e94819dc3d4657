-- Base changes are allowed, or the first that is not is known: so a Begin that lacks memory may say so.
use Rattle.std.proofs.Common.{◌≡◌, refl, sym, subst, ◌∙◌, ℕ, zero, suc, ◌+◌, ◌<◌, ◌≤◌, ◌^◌, ℤ, pos, negsuc, ◌+ℤ◌, [], ◌∷◌, length, Bool, true, false, ◌||◌, ◌⊎◌, inl, inr, ⊎_elim, arith}
use Rattle.std.specs.Prelude.{◌≤ℤ◌, FitsSigned}
use Rattle.std.specs.Int.{w64}
use Rattle.std.proofs.lemmas.Bool.{cases_lt, false≢true}
use Rattle.std.proofs.lemmas.Int.{ints}
use Rattle.wh_dag.specs.Catalog.{CatalogOf, is_base}
use Rattle.wh_row.specs.Row.{Row, is_row}
use Rattle.wh_row.specs.Weigh.{Counted}
use Rattle.wh_row.specs.Bag.{Bag, count, written, sum_of, SumFits}
use Rattle.wh_row.proofs.BagLaws.{same_row, count-sum_of, count_in-written}
use Rattle.wh_maint.specs.declared.fault.MaintFault.{MaintFault}
use Rattle.wh_maint.specs.declared.fault.MaintFault.TheVariants.{Large, Memory}
use Rattle.wh_maint.specs.Refused.{NoneAbsent}
use Rattle.wh_carry.specs.Refused.{AreAllowedBelow, IsBaseFault}
use Rattle.wh_carry.proofs.Reasons.{allowed_next, base_reason, none_allowed}
use Rattle.wh_core.specs.Replies.{IsLarge}
use Rattle.wh_core.proofs.Writes.{is_among, none_counts}

-- ---- what is asked of the counts of all rows

module _ (P : ℤ → Type 0) (each : (z : ℤ) → P z ⊎ ¬ (P z)) (b : Bag) where
  among : (rows : Counted) → ((q : Row) → is_among rows q ≡ true → P (count b q)) ⊎ ((q : Row) × ¬ (P (count b q)))
  among [] = inl (λ q e. absurd (false≢true e))
  among (e ∷ rows) = ⊎_elim (λ here. ⊎_elim (λ later. inl (λ q. first_or q here (later q) (is_row q e.0) refl)) (λ bad. inr bad) (among rows)) (λ no. inr (e.0, no)) (each (count b e.0))
    where
      first_or : (q : Row) → P (count b e.0) → (is_among rows q ≡ true → P (count b q)) → (t : Bool) → is_row q e.0 ≡ t → (t || is_among rows q) ≡ true → P (count b q)
      first_or q here later true is a = subst (λ r. P (count b r)) (sym (same_row q e.0 is)) here
      first_or q here later false is a = later a

  all_or_one : P (pos 0) → ((q : Row) → P (count b q)) ⊎ ((q : Row) × ¬ (P (count b q)))
  all_or_one none = ⊎_elim (λ all. inl (λ q. by q (all q) (is_among (written b) q) refl)) (λ bad. inr bad) (among (written b))
    where
      by : (q : Row) → (is_among (written b) q ≡ true → P (count b q)) → (t : Bool) → is_among (written b) q ≡ t → P (count b q)
      by q all true e = all e
      by q all false e = subst P (sym (sym (count_in-written b q) ∙ none_counts (written b) q e)) none

-- ---- one base change

fits_or_not : (z : ℤ) → FitsSigned w64 z ⊎ ¬ (FitsSigned w64 z)
fits_or_not (pos n) = ⊎_elim (λ l. inl (omega (arith, ints, l))) (λ l. inr (λ f. omega (arith, ints, l, f))) (cases_lt n (2 ^ 63))
fits_or_not (negsuc n) = ⊎_elim (λ l. inl (omega (arith, ints, l))) (λ l. inr (λ f. omega (arith, ints, l, f))) (cases_lt n (2 ^ 63))

below_or_not : (z : ℤ) → (¬ (z ≤ℤ negsuc 0)) ⊎ ¬ (¬ (z ≤ℤ negsuc 0))
below_or_not (pos n) = inl (λ l. omega (arith, ints, l))
below_or_not (negsuc n) = inr (λ no. no (omega (arith, ints)))

none_absent : (table change : Bag) → NoneAbsent table change ⊎ ¬ (NoneAbsent table change)
none_absent table change =
    let same : (q : Row) → count (sum_of table change) q ≡ count table q +ℤ count change q = count-sum_of table change in
    ⊎_elim
    (λ all. inl (λ q. subst (λ z. ¬ (z ≤ℤ negsuc 0)) (same q) (all q)))
    (λ bad. inr (λ none. bad.1 (subst (λ z. ¬ (z ≤ℤ negsuc 0)) (sym (same bad.0)) (none bad.0))))
    (all_or_one (λ z. ¬ (z ≤ℤ negsuc 0)) below_or_not (sum_of table change) (let no : ¬ (pos 0 ≤ℤ negsuc 0) = omega (arith, ints) in no))

sum_fits : (table change : Bag) → SumFits table change ⊎ ¬ (SumFits table change)
sum_fits table change =
    let same : (q : Row) → count (sum_of table change) q ≡ count table q +ℤ count change q = count-sum_of table change in
    ⊎_elim
    (λ all. inl (λ q. subst (FitsSigned w64) (same q) (all q)))
    (λ bad. inr (λ fit. bad.1 (subst (FitsSigned w64) (sym (same bad.0)) (fit bad.0))))
    (all_or_one (FitsSigned w64) fits_or_not (sum_of table change) (let none : FitsSigned w64 (pos 0) = omega (arith, ints) in none))

-- ---- all of them

-- a base change is refused, and for this Memory may be answered too
pub record IsOrMemory (catalog : CatalogOf) (tables changes : ℕ → Bag) : Type 0 where
  pub fault : MaintFault
  pub first : IsBaseFault catalog tables changes fault
  pub or_memory : (fault ≡ Memory) ⊎ IsLarge fault

module _ (catalog : CatalogOf) (tables changes : ℕ → Bag) where
  of_one : (v : ℕ) → v < length catalog.views.children → is_base catalog v ≡ true → AreAllowedBelow catalog tables changes v
      → AreAllowedBelow catalog tables changes (v + 1) ⊎ IsOrMemory catalog tables changes
  of_one v inside base below = ⊎_elim
      (λ none. ⊎_elim
      (λ fit. inl (allowed_next catalog tables changes v (λ _. (none, fit)) below))
      (λ large. inr (record { fault = Large v; first = base_reason catalog tables changes v inside base below (Large v) (refl, none, large); or_memory = inr (v, refl) }))
      (sum_fits (tables v) (changes v)))
      (λ some. inr (record { fault = Memory; first = base_reason catalog tables changes v inside base below Memory some; or_memory = inl refl }))
      (none_absent (tables v) (changes v))

  next : (v : ℕ) → v < length catalog.views.children → AreAllowedBelow catalog tables changes v → AreAllowedBelow catalog tables changes (v + 1) ⊎ IsOrMemory catalog tables changes
  next v inside below = elim (is_base catalog v) as (λ b. is_base catalog v ≡ b → AreAllowedBelow catalog tables changes (v + 1) ⊎ IsOrMemory catalog tables changes) [
    | true ↦ λ base. of_one v inside base below
    | false ↦ λ derived. inl (allowed_next catalog tables changes v (λ base. absurd (false≢true (sym derived ∙ base))) below)
  ] refl

  up_to : (k : ℕ) → k ≤ length catalog.views.children → AreAllowedBelow catalog tables changes k ⊎ IsOrMemory catalog tables changes
  up_to zero l = inl (none_allowed catalog tables changes)
  up_to (suc k) l =
      let e : k + 1 ≡ suc k = omega arith in
      ⊎_elim (λ below. subst (λ n. AreAllowedBelow catalog tables changes n ⊎ IsOrMemory catalog tables changes) e (next k (omega (arith, l)) below)) (λ bad. inr bad) (up_to k (omega (arith, l)))

  pub allowed_or_memory : AreAllowedBelow catalog tables changes (length catalog.views.children) ⊎ IsOrMemory catalog tables changes
  allowed_or_memory = up_to (length catalog.views.children) (omega arith)
