-- A bag to which the rows of a version are added one after another.
use Rattle.std.proofs.Common.{◌≡◌, ◌≢◌, refl, sym, ap, subst, ◌∙◌, ℕ, ℤ, pos, ◌+ℤ◌, List, [], ◌∷◌, true, false, cond, Option, Some, None}
use lib.IntN.{+ℤ_idl, +ℤ_idr, +ℤ_comm}
use Rattle.std.specs.Prelude.{is_some}
use Rattle.std.specs.FinMap as fin
use Rattle.wh_pieces.specs.Place.{AreRisingRows}
use Rattle.wh_pieces.specs.Pieces.{found}
use Rattle.wh_pieces.proofs.BringLaws.{none_after}
use Rattle.wh_pieces.proofs.RowLaws.{same_row, itself}
use Rattle.wh_row.specs.Bag.{Bag, number, count, plus, empty}
use Rattle.wh_row.specs.Row.{Row, row_cmp, is_row}
use Rattle.wh_row.proofs.CountLaws.{count-plus, same_bag}
use Rattle.wh_versions.specs.Rows.{Pairs, read}
use Rattle.wh_versions.specs.Tables.{pairs_in, shown}
use Rattle.wh_versions.proofs.ShownLaws.{count_shown}

abbrev reads : ℕ → List (Row × Pairs) → Row → ℤ
reads s es q = read s (pairs_in (found q es))

-- of the rows these are left, and the others stand in the bag
pub record IsPart (s : ℕ) (all left : List (Row × Pairs)) (b : Bag) : Type 0 where
  pub new : (q : Row) → is_some (found q left) ≡ true → count b q ≡ pos 0
  pub counts : (q : Row) → count b q +ℤ reads s left q ≡ reads s all q

none_counts : (q : Row) → count empty q ≡ pos 0
none_counts q = ap number (fin.get-empty row_cmp q)

pub part_first : (s : ℕ) (all : List (Row × Pairs)) (b : Bag) → b ≡ empty → IsPart s all all b
part_first s all b e = subst (λ (x : Bag). IsPart s all all x) (sym e) (record {
  new = λ q h. none_counts q;
  counts = λ q. ap (λ z. z +ℤ reads s all q) (none_counts q) ∙ +ℤ_idl (reads s all q);
})

pub part_last : (s : ℕ) (all left : List (Row × Pairs)) (b : Bag) → left ≡ [] → IsPart s all left b → b ≡ shown s all
part_last s all left b e p = same_bag b (shown s all) (λ q.
    sym (+ℤ_idr (count b q))
    ∙ ap (λ (es : List (Row × Pairs)). count b q +ℤ reads s es q) (sym e)
    ∙ p.counts q
    ∙ sym (count_shown s all q))

module _ (s : ℕ) (all left : List (Row × Pairs)) (e : Row × Pairs) (b : Bag) (p : IsPart s all (e ∷ left) b) where
  first_found : found e.0 (e ∷ left) ≡ Some e.1
  first_found = ap (λ t. cond t (Some e.1) (found e.0 left)) (itself e.0)

  -- the first of them is not there yet
  pub first_new : count b e.0 ≡ pos 0
  first_new = p.new e.0 (ap is_some first_found)

  pub first_reads : read s e.1 ≡ reads s all e.0
  first_reads =
      sym (+ℤ_idl (read s e.1))
      ∙ ap (λ z. z +ℤ read s e.1) (sym first_new)
      ∙ ap (λ (o : Option Pairs). count b e.0 +ℤ read s (pairs_in o)) (sym first_found)
      ∙ p.counts e.0

  pub some_shown : read s e.1 ≢ pos 0 → shown s all ≢ empty
  some_shown some none = some (first_reads ∙ sym (count_shown s all e.0) ∙ ap (λ x. count x e.0) none ∙ none_counts e.0)

  pub part_more : AreRisingRows (e ∷ left) → IsPart s all left (plus b e.0 (read s e.1))
  part_more rising = record {
    new = λ q h. count-plus b e.0 (read s e.1) q ∙ elim (is_row q e.0) as (λ t. is_row q e.0 ≡ t → cond t (read s e.1) (pos 0) +ℤ count b q ≡ pos 0) [
      | true ↦ λ t.
          let gone : found q left ≡ None = ap (λ r. found r left) (same_row q e.0 t) ∙ none_after e left rising in
          let bad : false ≡ true = sym (ap is_some gone) ∙ h in
          cc
      | false ↦ λ t. +ℤ_idl (count b q) ∙ p.new q (ap (λ t. is_some (cond t (Some e.1) (found q left))) t ∙ h)
    ] refl;
    counts = λ q. ap (λ z. z +ℤ reads s left q) (count-plus b e.0 (read s e.1) q) ∙ elim (is_row q e.0) as (λ t. is_row q e.0 ≡ t → (cond t (read s e.1) (pos 0) +ℤ count b q) +ℤ reads s left q ≡ reads s all q) [
      | true ↦ λ t.
          let gone : found q left ≡ None = ap (λ r. found r left) (same_row q e.0 t) ∙ none_after e left rising in
          ap (λ (o : Option Pairs). (read s e.1 +ℤ count b q) +ℤ read s (pairs_in o)) gone
          ∙ +ℤ_idr (read s e.1 +ℤ count b q)
          ∙ +ℤ_comm (read s e.1) (count b q)
          ∙ ap (λ t. count b q +ℤ read s (pairs_in (cond t (Some e.1) (found q left)))) (sym t)
          ∙ p.counts q
      | false ↦ λ t.
          ap (λ z. z +ℤ reads s left q) (+ℤ_idl (count b q))
          ∙ ap (λ t. count b q +ℤ read s (pairs_in (cond t (Some e.1) (found q left)))) (sym t)
          ∙ p.counts q
    ] refl;
  }
