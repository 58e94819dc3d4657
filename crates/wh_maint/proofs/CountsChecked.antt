-- The walks over the columns of pending accumulators that test new counts.
use Rattle.std.proofs.Common.{◌≡◌, ◌≢◌, ℕ, zero, suc, ◌<◌, refl, sym, ap, subst, ◌∙◌, ℤ, pos, true, false, ◌||◌, [], ◌∷◌, inl, inr, arith}
use Rattle.std.proofs.lemmas.Bool.{false≢true, cases_order}
use Rattle.std.specs.Prelude.{FitsSigned}
use Rattle.std.specs.Int.{w64}
use Rattle.wh_row.specs.Row.{Row, is_row}
use Rattle.wh_row.specs.Weigh.{Counted}
use Rattle.wh_row.specs.Bag.{Bag, count, empty, written}
use Rattle.wh_row.specs.Inner.Room.{has_row}
use Rattle.wh_row.proofs.BagLaws.{same_row}
use Rattle.wh_maint.specs.View.{Summed}
use Rattle.wh_maint.specs.Summary.{is_nonzero}
use Rattle.wh_maint.specs.Value.{NewCountsFit}
use Rattle.wh_maint.specs.Inner.Finishing.{HasNoRow, GroupCountFits, CountsFitIn, stands_within}
use Rattle.wh_maint.proofs.BothSums.{none_in}
use Rattle.wh_maint.proofs.OldRows.{new_alone}
use Rattle.wh_maint.proofs.NewRows.{touched_at}
use Rattle.wh_maint.proofs.DoneGroups.{AreRest, rest_start, rest_next, or_false, absent_from, touched_stands}

-- the groups of a column that are not among the rest have new counts that are i64s
pub record AreChecked (sums : ℕ) (table : Bag) (p : ℕ → Bag) (b : Bag) (rest : Counted) : Type 0 where
  pub left : AreRest b rest
  pub fit : (g : Row) → count b g ≢ pos 0 → has_row g rest ≡ false → GroupCountFits sums table p g

pub checked_start : (sums : ℕ) (table : Bag) (p : ℕ → Bag) (b : Bag) (rest : Counted) → rest ≡ written b → AreChecked sums table p b rest
checked_start sums table p b rest e = record {
  left = rest_start b rest e;
  fit = λ g n f. absurd (n (absent_from b g (subst (λ (es : Counted). has_row g es ≡ false) e f)));
}

pub checked_step : (sums : ℕ) (table : Bag) (p : ℕ → Bag) (b : Bag) (e : Row × ℤ) (rest : Counted) → GroupCountFits sums table p e.0 → AreChecked sums table p b (e ∷ rest) → AreChecked sums table p b rest
checked_step sums table p b e rest here h = record {
  left = rest_next b e rest h.left;
  fit = λ g n f. elim (is_row g e.0) as (λ t. is_row g e.0 ≡ t → ((t || has_row g rest) ≡ false → GroupCountFits sums table p g) → GroupCountFits sums table p g) [
    | true ↦ λ t _. subst (GroupCountFits sums table p) (sym (same_row g e.0 t)) here
    | false ↦ λ _ x. x f
  ] refl (h.fit g n);
}

pub checked_over : (sums : ℕ) (table : Bag) (p : ℕ → Bag) (j : ℕ) → AreChecked sums table p (p j) [] → CountsFitIn sums table p j
checked_over sums table p j h = λ g n. h.fit g n refl

-- one column more
pub next_column : (sums : ℕ) (table : Bag) (p : ℕ → Bag) (n : ℕ) → ((j : ℕ) → j < suc n → CountsFitIn sums table p j) → CountsFitIn sums table p (suc n)
    → (j : ℕ) → j < suc (suc n) → CountsFitIn sums table p j
next_column sums table p n before here j l =
    elim (cases_order (suc n) j) as (λ _. CountsFitIn sums table p j) [
      | inl s ↦ subst (CountsFitIn sums table p) s here
      | inr s ↦ before j (omega arith)
    ]

-- the columns together have all touched groups
pub columns_fit : (sums : ℕ) (table : Bag) (p : ℕ → Bag) → ((j : ℕ) → j < suc sums → CountsFitIn sums table p j) → NewCountsFit (Summed sums) table p
columns_fit sums table p h = λ g t. fits_within (suc sums) g h (touched_stands sums p g t)
  where
    fits_within : (n : ℕ) (g : Row) → ((j : ℕ) → j < n → CountsFitIn sums table p j) → stands_within n p g ≡ true → GroupCountFits sums table p g
    fits_within zero g each t = absurd (false≢true t)
    fits_within (suc n) g each t =
        elim (is_nonzero (count (p n) g)) as (λ b. is_nonzero (count (p n) g) ≡ b → (stands_within n p g || b) ≡ true → GroupCountFits sums table p g) [
          | true ↦ λ b _. each n (omega arith) g (λ z. false≢true (sym (ap is_nonzero z) ∙ b))
          | false ↦ λ _ x. fits_within n g (λ j l. each j (omega arith)) (sym (or_false (stands_within n p g)) ∙ x)
        ] refl t

pub each_column : (sums : ℕ) (table : Bag) (p : ℕ → Bag) → NewCountsFit (Summed sums) table p → (j : ℕ) → j < suc sums → CountsFitIn sums table p j
each_column sums table p h j l = λ g n. h g (touched_at sums p g j l n)

-- where the table has no rows, the new counts are those that are pending
pub pending_fit : (sums : ℕ) (table : Bag) (p : ℕ → Bag) → table ≡ empty → ((g : Row) → FitsSigned w64 (count (p 0) g)) → NewCountsFit (Summed sums) table p
pending_fit sums table p e fits g _ =
    let none : HasNoRow sums table g = λ row n. absurd (n (ap (λ b. count b row) e ∙ none_in row)) in
    subst (FitsSigned w64) (sym (new_alone sums table p g none 0)) (fits g)
