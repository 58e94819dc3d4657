-- What a night does to the rows of a view, and to those that have pairs.
use Rattle.std.proofs.Common.{◌≡◌, refl, sym, ap, subst, ◌∙◌, ℕ, zero, suc, ◌+◌, ◌-◌, ◌≤◌, ℤ, List, [], ◌∷◌, length, take, map, Bool, true, false, cond, Option, Some, None, ◌⊎◌, ⊎_elim, arith, add-one}
use Rattle.std.specs.Prelude.{filter, option_map, not, nat_lt, ◌==◌}
use Rattle.wh_pieces.specs.Place.{AreRisingRows}
use Rattle.wh_pieces.specs.Pieces.{found, with_entry}
use Rattle.wh_pieces.proofs.BringLaws.{found-with, same_found}
use Rattle.wh_pieces.proofs.PieceLaws.{rising-with}
use Rattle.wh_row.specs.Row.{Row, is_row}
use Rattle.wh_row.specs.Weigh.{Counted}
use Rattle.wh_row.proofs.BagLaws.{same_row}
use Rattle.wh_versions.specs.Inner.Tables.{begun}
use Rattle.wh_versions.specs.Rows.{Pairs, with_pair, without_pair, is_unread}
use Rattle.wh_versions.specs.Tables.{ViewRows, AreInForm, IsBegun, IsNewToNight, MayBeAdded, added, begins_with, given_up, is_given, pairs_in, slots, written}
use Rattle.wh_versions.proofs.ShownLaws.{each_added_is_unseen, each_put_is_shown}
use Rattle.wh_versions.proofs.TableLaws.{begun_of}
use Rattle.wh_store.specs.Slots.{Paired, are_some, with_pairs, still_read, put_in, taken_back}
use Rattle.wh_store.specs.Inner.Kept.{IsPut, IsUnseen, back_rows, begun_rows, paired}
use Rattle.wh_store.proofs.RowLaws.{those, left_of, rising_those, found_those, those_turned, changed, rising_changed, found_changed}

-- ---- a night that begins

abbrev is_read : ℕ → ℕ → Pairs → Bool
is_read n m ps = not (is_unread (n - 1) m ps)

left_begun : (n m : ℕ) (o : Option Pairs) → begun n m o ≡ left_of (is_read n m) o
left_begun n m None = refl
left_begun n m (Some ps) = elim (is_unread (n - 1) m ps) as (λ t. cond t None (Some ps) ≡ cond (not t) (Some ps) None) [
  | true ↦ refl
  | false ↦ refl
]

same_slots : (s t : ViewRows) → s.night ≡ t.night → s.rows ≡ t.rows → s ≡ t
same_slots s t e f = λ i. record { night = e i; rows = f i }

pub begun_exactly : (n : ℕ) (old new : ViewRows) → AreRisingRows old.rows → AreRisingRows new.rows → new.night ≡ old.night + 1 → ((row : Row) → IsBegun n (old.night + 1) (slots old row) (slots new row)) → new ≡ begun_rows n old
begun_exactly n old new rises rising night is = same_slots new (begun_rows n old) night
    (same_found new.rows (still_read n (old.night + 1) old.rows) rising (rising_those (is_read n (old.night + 1)) old.rows rises) (λ q.
    let at : slots new q ≡ begun n (old.night + 1) (slots old q) =
    begun_of n old.night (slots old q) (slots new q) (subst (λ (m : ℕ). IsBegun n m (slots old q) (slots new q)) (add-one old.night) (is q)) ∙ ap (λ m. begun n m (slots old q)) (sym (add-one old.night)) in
    at ∙ left_begun n (old.night + 1) (slots old q) ∙ sym (found_those (is_read n (old.night + 1)) old.rows q rises)))

-- whether rows have pairs does not change which go
pub begun_pairs : (n m : ℕ) (rows : Paired) → with_pairs (still_read n m rows) ≡ still_read n m (with_pairs rows)
begun_pairs n m rows = those_turned are_some (is_read n m) rows

-- ---- a night that is given up

pub back_exactly : (old new : ViewRows) → AreRisingRows old.rows → AreRisingRows new.rows → new.night ≡ old.night → ((row : Row) → slots new row ≡ given_up old.night (slots old row)) → new ≡ back_rows old
back_exactly old new rises rising night is = same_slots new (back_rows old) night
    (same_found new.rows (changed (without_pair old.night) old.rows) rising (rising_changed (without_pair old.night) old.rows rises) (λ q.
    is q ∙ sym (found_changed (without_pair old.night) old.rows q)))

pub back_pairs : (m : ℕ) (rows : Paired) → with_pairs (changed (without_pair m) rows) ≡ taken_back m (with_pairs rows)
back_pairs m [] = refl
back_pairs m (e ∷ rows) = one e.1 (back_pairs m rows)
  where
    one : (ps : Pairs) → with_pairs (changed (without_pair m) rows) ≡ taken_back m (with_pairs rows) → those are_some ((e.0, without_pair m ps) ∷ changed (without_pair m) rows) ≡ those are_some (changed (without_pair m) (cond (are_some ps) ((e.0, ps) ∷ with_pairs rows) (with_pairs rows)))
    one [] h = h
    one (p ∷ ps) h = ap (λ xs. cond (are_some (without_pair m (p ∷ ps))) ((e.0, without_pair m (p ∷ ps)) ∷ xs) xs) h

-- ---- counts that are written

-- a row with no pairs is as one that is not there
abbrev cut : Option Pairs → Option Pairs
cut o = left_of are_some o

cut_pairs : (o : Option Pairs) → pairs_in (cut o) ≡ pairs_in o
cut_pairs None = refl
cut_pairs (Some []) = refl
cut_pairs (Some (p ∷ ps)) = refl

cut_put : (n m : ℕ) (c : ℤ) (ps : Pairs) → 1 ≤ n → cut (Some (with_pair n m c ps)) ≡ Some (with_pair n m c ps)
cut_put zero m c ps one = absurd (omega arith)
cut_put (suc n) m c [] one = refl
cut_put (suc n) m c (p ∷ ps) one = elim (p.0 == m) as (λ t. cut (Some (cond t ((m, c) ∷ ps) (take (suc n) ((m, c) ∷ p ∷ ps)))) ≡ Some (cond t ((m, c) ∷ ps) (take (suc n) ((m, c) ∷ p ∷ ps)))) [
  | true ↦ refl
  | false ↦ refl
]

cut_written : (n m : ℕ) (es : Counted) (q : Row) (o : Option Pairs) → 1 ≤ n → cut (written n m es q o) ≡ written n m es q (cut o)
cut_written n m [] q o one = refl
cut_written n m (e ∷ es) q o one = cut_written n m es q (cond (is_row q e.0) (Some (with_pair n m e.1 (pairs_in o))) o) one
    ∙ ap (written n m es q) (elim (is_row q e.0) as (λ t. cut (cond t (Some (with_pair n m e.1 (pairs_in o))) o) ≡ cond t (Some (with_pair n m e.1 (pairs_in (cut o)))) (cut o)) [
      | true ↦ cut_put n m e.1 (pairs_in o) one ∙ ap (λ ps. Some (with_pair n m e.1 ps)) (sym (cut_pairs o))
      | false ↦ refl
    ])

found_put : (n m : ℕ) (es : Counted) (rows : Paired) (q : Row) → found q (put_in n m es rows) ≡ written n m es q (found q rows)
found_put n m [] rows q = refl
found_put n m (e ∷ es) rows q = found_put n m es (with_entry rows e.0 (with_pair n m e.1 (pairs_in (found e.0 rows)))) q
    ∙ ap (written n m es q) (found-with rows e.0 (with_pair n m e.1 (pairs_in (found e.0 rows))) q ∙ elim (is_row q e.0) as (λ t. is_row q e.0 ≡ t → cond t (Some (with_pair n m e.1 (pairs_in (found e.0 rows)))) (found q rows) ≡ cond t (Some (with_pair n m e.1 (pairs_in (found q rows)))) (found q rows)) [
      | true ↦ λ t. ap (λ r. Some (with_pair n m e.1 (pairs_in (found r rows)))) (sym (same_row q e.0 t))
      | false ↦ λ t. refl
    ] refl)

rising_put : (n m : ℕ) (es : Counted) (rows : Paired) → AreRisingRows rows → AreRisingRows (put_in n m es rows)
rising_put n m [] rows h = h
rising_put n m (e ∷ es) rows h = rising_put n m es _ (rising-with e.0 (with_pair n m e.1 (pairs_in (found e.0 rows))) rows h)

pub put_exactly : (n : ℕ) (given : Counted) (old new : ViewRows) → 2 ≤ n → AreInForm n old → AreRisingRows old.rows → AreRisingRows new.rows → new.night ≡ old.night
    → ((row : Row) → slots new row ≡ written n old.night given row (slots old row)) → IsPut n given old new
put_exactly n given old new two form rises rising night is = record {
  night = night;
  shown = each_put_is_shown n given old new two form is;
  rows = same_found (with_pairs new.rows) (put_in n old.night given (with_pairs old.rows)) (rising_those are_some new.rows rising) (rising_put n old.night given (with_pairs old.rows) (rising_those are_some old.rows rises)) (λ q.
      found_those are_some new.rows q rising
      ∙ ap cut (is q)
      ∙ cut_written n old.night given q (slots old q) (omega arith)
      ∙ ap (written n old.night given q) (sym (found_those are_some old.rows q rises))
      ∙ sym (found_put n old.night given (with_pairs old.rows) q));
}

cut_added : (b : Bool) (o : Option Pairs) → cut (added b o) ≡ cut o
cut_added true None = refl
cut_added true (Some ps) = refl
cut_added false o = refl

pub refused_exactly : (given : Counted) (old new : ViewRows) → AreRisingRows old.rows → AreRisingRows new.rows → new.night ≡ old.night
    → ((row : Row) → MayBeAdded given row (slots old row) (slots new row)) → IsUnseen old new
refused_exactly given old new rises rising night may = record {
  night = night;
  shown = λ s. each_added_is_unseen given s old new may;
  rows = same_found (with_pairs new.rows) (with_pairs old.rows) (rising_those are_some new.rows rising) (rising_those are_some old.rows rises) (λ q.
      found_those are_some new.rows q rising
      ∙ ⊎_elim (λ e. ap cut e) (λ e. ap cut e ∙ cut_added (is_given q given) (slots old q)) (may q)
      ∙ sym (found_those are_some old.rows q rises));
}

-- ---- rows that have pairs

pub pairs_kept : (rows : Paired) (q : Row) → AreRisingRows rows → pairs_in (found q (with_pairs rows)) ≡ pairs_in (found q rows)
pairs_kept rows q rises = ap pairs_in (found_those are_some rows q rises) ∙ cut_pairs (found q rows)

pub new_paired : (given : Counted) (t : ViewRows) → AreRisingRows t.rows → IsNewToNight given t → IsNewToNight given (paired t)
new_paired given t rises new = record { row = new.row; is_one = new.is_one; lacks = ap (begins_with t.night) (pairs_kept t.rows new.row rises) ∙ new.lacks }
