-- The search for a group's row among the rows that start with its cells.
use Rattle.std.proofs.Common.{◌≡◌, ◌≢◌, ℕ, suc, ◌-◌, refl, sym, ap, subst, ◌∙◌, ℤ, pos, Bool, true, false, ◌||◌, cond, [], ◌∷◌, length, take, arith}
use Rattle.std.specs.List.{AllByRecursion, filter}
use Rattle.std.proofs.lemmas.Bool.{false≢true, false_from_ne_true}
use Rattle.std.proofs.lemmas.List.{length-take-le}
use Rattle.wh_row.specs.Row.{Row, is_row}
use Rattle.wh_row.specs.Weigh.{Counted, starts_with, starting}
use Rattle.wh_row.specs.Bag.{Bag, count, written}
use Rattle.wh_row.specs.Inner.Room.{has_row}
use Rattle.wh_row.proofs.BagLaws.{same_row, itself, each_entry}
use Rattle.wh_maint.specs.Summary.{group_of}
use Rattle.wh_maint.specs.Inner.Finishing.{HasNoRow}
use Rattle.wh_maint.proofs.DoneGroups.{absent_from}

-- the rows that are still to come count in the table and start with the group, and each row of the group is among them
pub record IsSought (sums : ℕ) (table : Bag) (group : Row) (rest : Counted) : Type 0 where
  pub begun : AllByRecursion (λ (e : Row × ℤ). (count table e.0 ≢ pos 0) × (starts_with group e.0 ≡ true)) rest
  pub there : (row : Row) → count table row ≢ pos 0 → is_row group (group_of sums row) ≡ true → has_row row rest ≡ true

all_kept : (table : Bag) (t : Row → Bool) (es : Counted) → AllByRecursion (λ (e : Row × ℤ). count table e.0 ≢ pos 0) es
    → AllByRecursion (λ (e : Row × ℤ). (count table e.0 ≢ pos 0) × (t e.0 ≡ true)) (filter (λ (e : Row × ℤ). t e.0) es)
all_kept table t [] h = tt
all_kept table t (e ∷ es) h =
    elim (t e.0) as (λ b. t e.0 ≡ b → AllByRecursion (λ (x : Row × ℤ). (count table x.0 ≢ pos 0) × (t x.0 ≡ true)) (cond b (e ∷ filter (λ (x : Row × ℤ). t x.0) es) (filter (λ (x : Row × ℤ). t x.0) es))) [
      | true ↦ λ b. ((h.0, b), all_kept table t es h.1)
      | false ↦ λ b. all_kept table t es h.1
    ] refl

kept_row : (t : Row → Bool) (row : Row) (es : Counted) → t row ≡ true → has_row row es ≡ true → has_row row (filter (λ (e : Row × ℤ). t e.0) es) ≡ true
kept_row t row [] k h = h
kept_row t row (e ∷ es) k h =
    elim (is_row row e.0) as (λ b. is_row row e.0 ≡ b → (b || has_row row es) ≡ true → has_row row (cond (t e.0) (e ∷ filter (λ (x : Row × ℤ). t x.0) es) (filter (λ (x : Row × ℤ). t x.0) es)) ≡ true) [
      | true ↦ λ b _.
          ap (λ c. has_row row (cond c (e ∷ filter (λ (x : Row × ℤ). t x.0) es) (filter (λ (x : Row × ℤ). t x.0) es))) (ap t (sym (same_row row e.0 b)) ∙ k)
          ∙ ap (λ c. c || has_row row (filter (λ (x : Row × ℤ). t x.0) es)) b
      | false ↦ λ b x.
          let rest : has_row row (filter (λ (x : Row × ℤ). t x.0) es) ≡ true = kept_row t row es k x in
          elim (t e.0) as (λ c. has_row row (cond c (e ∷ filter (λ (x : Row × ℤ). t x.0) es) (filter (λ (x : Row × ℤ). t x.0) es)) ≡ true) [
            | true ↦ ap (λ c. c || has_row row (filter (λ (x : Row × ℤ). t x.0) es)) b ∙ rest
            | false ↦ rest
          ]
    ] refl h

group_length : (sums : ℕ) (row : Row) → length (group_of sums row) ≡ length row - suc sums
group_length sums row = length-take-le (length row - suc sums) row (omega arith)

-- a row starts with its group
starts_own : (sums : ℕ) (group row : Row) → is_row group (group_of sums row) ≡ true → starts_with group row ≡ true
starts_own sums group row t =
    let same : group ≡ group_of sums row = same_row group (group_of sums row) t in
    ap (is_row group) (ap (λ n. take n row) (ap length same ∙ group_length sums row) ∙ sym same) ∙ itself group

counts_there : (b : Bag) (row : Row) → count b row ≢ pos 0 → has_row row (written b) ≡ true
counts_there b row n =
    elim (has_row row (written b)) as (λ t. has_row row (written b) ≡ t → t ≡ true) [
      | true ↦ λ _. refl
      | false ↦ λ f. absurd (n (absent_from b row f))
    ] refl

pub sought_start : (sums : ℕ) (table : Bag) (group : Row) (rest : Counted) → rest ≡ starting group (written table) → IsSought sums table group rest
sought_start sums table group rest is = subst (IsSought sums table group) (sym is) (record {
  begun = all_kept table (starts_with group) (written table) (each_entry (λ q _. count table q ≢ pos 0) table (λ q n. n));
  there = λ row n t. kept_row (starts_with group) row (written table) (starts_own sums group row t) (counts_there table row n);
})

-- a row whose group is as long
pub sought_found : (sums : ℕ) (group row : Row) → starts_with group row ≡ true → length (group_of sums row) ≡ length group → group_of sums row ≡ group
sought_found sums group row t e =
    ap (λ n. take n row) (sym (group_length sums row) ∙ e) ∙ sym (same_row group (take (length group) row) t)

-- one whose group is not
pub sought_step : (sums : ℕ) (table : Bag) (group : Row) (e : Row × ℤ) (rest : Counted) → length (group_of sums e.0) ≢ length group → IsSought sums table group (e ∷ rest) → IsSought sums table group rest
sought_step sums table group e rest other h = record {
  begun = h.begun.1;
  there = λ row n t. elim (is_row row e.0) as (λ b. is_row row e.0 ≡ b → (b || has_row row rest) ≡ true → has_row row rest ≡ true) [
    | true ↦ λ b _. absurd (other (ap (λ r. length (group_of sums r)) (sym (same_row row e.0 b)) ∙ ap length (sym (same_row group (group_of sums row) t))))
    | false ↦ λ _ x. x
  ] refl (h.there row n t);
}

pub sought_over : (sums : ℕ) (table : Bag) (group : Row) → IsSought sums table group [] → HasNoRow sums table group
sought_over sums table group h = λ row n. false_from_ne_true (is_row group (group_of sums row)) (λ t. false≢true (h.there row n t))
