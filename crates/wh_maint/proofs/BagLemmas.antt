-- Rows of bags that are made of records.
use Rattle.std.proofs.Common.{◌≡◌, ◌≢◌, zero, suc, refl, sym, subst, ◌∙◌, ℤ, pos, negsuc, ◌+ℤ◌, true, false, cond, [], ◌∷◌, ◌⊎◌, inl, inr}
use Rattle.std.specs.List.{AllByRecursion}
use Rattle.wh_row.specs.Row.{Row, is_row}
use Rattle.wh_row.specs.Weigh.{Counted, count_in}
use Rattle.wh_row.specs.Bag.{bag_of, count}
use Rattle.wh_row.proofs.BagLaws.{count-bag_of, same_row}
use lib.IntN.{+ℤ_idl}

pub zero_or_not : (n : ℤ) → (n ≡ pos 0) ⊎ (n ≢ pos 0)
zero_or_not (pos zero) = inl refl
zero_or_not (pos (suc n)) = inr (λ e. cc)
zero_or_not (negsuc n) = inr (λ e. cc)

-- what holds of each record's row holds of each row that counts in their bag
pub of_records : (P : Row → Type 0) (es : Counted) → AllByRecursion (λ (e : Row × ℤ). P e.0) es → (q : Row) → count (bag_of es) q ≢ pos 0 → P q
of_records P es all q n = from es all (λ e. n (count-bag_of es q ∙ e))
  where
    from : (es : Counted) → AllByRecursion (λ (e : Row × ℤ). P e.0) es → count_in es q ≢ pos 0 → P q
    from [] all n = absurd (n refl)
    from (e ∷ es) all n =
        elim (is_row q e.0) as (λ t. is_row q e.0 ≡ t → cond t e.1 (pos 0) +ℤ count_in es q ≢ pos 0 → P q) [
          | true ↦ λ t _. subst P (sym (same_row q e.0 t)) all.0
          | false ↦ λ t m. from es all.1 (λ e. m (+ℤ_idl _ ∙ e))
        ] refl n
