-- What versions show once a night writes, is given up or begins.
use Rattle.std.proofs.Common.{◌≡◌, refl, sym, ap, subst, ◌∙◌, ℕ, suc, ◌+◌, ◌-◌, ◌<◌, ◌≤◌, List, [], ◌∷◌, Bool, true, false, cond, Option, Some, None, ⊎_elim, add-one, arith}
use Rattle.std.specs.FinMap as fin
use Rattle.wh_pieces.specs.Pieces.{found}
use Rattle.wh_row.specs.Bag.{Bag, count, number, set_count}
use Rattle.wh_row.specs.Row.{Row, row_cmp, is_row}
use Rattle.wh_row.specs.Weigh.{Counted}
use Rattle.wh_row.proofs.CountLaws.{count-set_count, same_bag}
use Rattle.wh_versions.specs.Inner.Tables.{begun}
use Rattle.wh_versions.specs.Laws.{TablesCount, EachPutIsShown, EachGivesUp, EachBeginKeeps, EachAddedIsUnseen}
use Rattle.wh_versions.specs.Rows.{Pairs, read, with_pair, without_pair, AreFalling, ArePairs, is_unread}
use Rattle.wh_versions.specs.Tables.{pairs_in, shown, table_at, is_given, added, written, given_up, IsBegun, with_counts}
use Rattle.wh_versions.proofs.ReadLaws.{read_put, read_put_new, put_pairs, read_back, read_older, read_same}
use Rattle.wh_versions.proofs.TableLaws.{unread_reads, begun_of}

pub count_shown : (s : ℕ) (rows : List (Row × Pairs)) (q : Row) → count (shown s rows) q ≡ read s (pairs_in (found q rows))
count_shown s [] q = ap number (fin.get-empty row_cmp q)
count_shown s (e ∷ es) q = count-set_count (shown s es) e.0 (read s e.1) q ∙ elim (is_row q e.0) as (λ t. cond t (read s e.1) (count (shown s es) q) ≡ read s (pairs_in (cond t (Some e.1) (found q es)))) [
  | true ↦ refl
  | false ↦ count_shown s es q
]

pub tables_count : TablesCount
tables_count t s row = count_shown s t.rows row

-- where each row reads the same, the tables are the same
same_shown : (s r : ℕ) (old new : List (Row × Pairs)) → ((q : Row) → read s (pairs_in (found q new)) ≡ read r (pairs_in (found q old))) → shown s new ≡ shown r old
same_shown s r old new h = same_bag (shown s new) (shown r old) (λ q. count_shown s new q ∙ h q ∙ sym (count_shown r old q))

-- ---- a put

read_written : (n m s : ℕ) (es : Counted) (q : Row) (o : Option Pairs) → 2 ≤ n → ArePairs n m (pairs_in o) → s < m → m ≤ s + (n - 1) → read s (pairs_in (written n m es q o)) ≡ read s (pairs_in o)
read_written n m s [] q o two are low high = refl
read_written n m s (e ∷ es) q o two are low high = elim (is_row q e.0) as (λ t. read s (pairs_in (written n m es q (cond t (Some (with_pair n m e.1 (pairs_in o))) o))) ≡ read s (pairs_in o)) [
  | true ↦ read_written n m s es q (Some (with_pair n m e.1 (pairs_in o))) two (put_pairs n m e.1 (pairs_in o) are) low high ∙ read_put n m s e.1 (pairs_in o) two are low high
  | false ↦ read_written n m s es q o two are low high
]

count_written : (n m : ℕ) (es : Counted) (q : Row) (o : Option Pairs) (b : Bag) → 1 ≤ n → read m (pairs_in o) ≡ count b q → read m (pairs_in (written n m es q o)) ≡ count (with_counts b es) q
count_written n m [] q o b one h = h
count_written n m (e ∷ es) q o b one h = count_written n m es q (cond (is_row q e.0) (Some (with_pair n m e.1 (pairs_in o))) o) (set_count b e.0 e.1) one
    (elim (is_row q e.0) as (λ t. read m (pairs_in (cond t (Some (with_pair n m e.1 (pairs_in o))) o)) ≡ cond t e.1 (count b q)) [
      | true ↦ read_put_new n m e.1 (pairs_in o) one
      | false ↦ h
    ] ∙ sym (count-set_count b e.0 e.1 q))

pub each_put_is_shown : EachPutIsShown
each_put_is_shown n given old after two form is = record {
  before = λ s low high. same_shown s s old.rows after.rows (λ q. ap (λ o. read s (pairs_in o)) (is q) ∙ read_written n old.night s given q (found q old.rows) two (form q) low high);
  new = same_bag _ _ (λ q.
      count_shown old.night after.rows q
      ∙ ap (λ o. read old.night (pairs_in o)) (is q)
      ∙ count_written n old.night given q (found q old.rows) (shown old.night old.rows) (omega arith) (sym (count_shown old.night old.rows q)));
}

-- ---- a night that is given up

back_in : (m : ℕ) (o : Option Pairs) → pairs_in (given_up m o) ≡ without_pair m (pairs_in o)
back_in m None = refl
back_in m (Some ps) = refl

pub each_gives_up : EachGivesUp
each_gives_up n s old after form night is = record {
  new = same_shown (suc s) s old.rows after.rows (λ q.
      ap (λ o. read (suc s) (pairs_in o)) (is q)
      ∙ ap (read (suc s)) (back_in (suc s) (found q old.rows))
      ∙ read_back s (pairs_in (found q old.rows)) (let are : ArePairs n (suc s) (pairs_in (found q old.rows)) = subst (λ (m : ℕ). ArePairs n m (pairs_in (found q old.rows))) night (form q) in are.falling));
  before = λ r low. same_shown r r old.rows after.rows (λ q.
      ap (λ o. read r (pairs_in o)) (is q)
      ∙ ap (read r) (back_in (suc s) (found q old.rows))
      ∙ read_older (suc s) r (pairs_in (found q old.rows)) (omega arith));
}

-- ---- a night that begins

read_begun : (n m s : ℕ) (o : Option Pairs) → s < m → m ≤ s + (n - 1) → read s (pairs_in (begun n m o)) ≡ read s (pairs_in o)
read_begun n m s None low high = refl
read_begun n m s (Some ps) low high = elim (is_unread (n - 1) m ps) as (λ t. is_unread (n - 1) m ps ≡ t → read s (pairs_in (cond t None (Some ps))) ≡ read s ps) [
  | true ↦ λ t. sym (unread_reads (n - 1) m s ps t low high)
  | false ↦ λ t. refl
] refl

-- the night's own version reads what the one before it does
read_next : (n m : ℕ) (o : Option Pairs) → 2 ≤ n → AreFalling (suc m) (pairs_in o) → read (suc m) (pairs_in (begun n (suc m) o)) ≡ read m (pairs_in o)
read_next n m None two f = refl
read_next n m (Some ps) two f = elim (is_unread (n - 1) (suc m) ps) as (λ t. is_unread (n - 1) (suc m) ps ≡ t → read (suc m) (pairs_in (cond t None (Some ps))) ≡ read m ps) [
  | true ↦ λ t. sym (unread_reads (n - 1) (suc m) m ps t (omega arith) (omega arith))
  | false ↦ λ t. read_same m ps f
] refl

pub each_begin_keeps : EachBeginKeeps
each_begin_keeps n old after two form is =
    let at : (q : Row) → found q after.rows ≡ begun n (suc old.night) (found q old.rows) = λ q. begun_of n old.night (found q old.rows) (found q after.rows) (subst (λ (m : ℕ). IsBegun n m (found q old.rows) (found q after.rows)) (add-one old.night) (is q)) in
    record {
      before = λ s low high. same_shown s s old.rows after.rows (λ q. ap (λ o. read s (pairs_in o)) (at q) ∙ read_begun n (suc old.night) s (found q old.rows) (omega arith) (omega arith));
      new = ap (table_at after) (add-one old.night) ∙ same_shown (suc old.night) old.night old.rows after.rows (λ q. ap (λ o. read (suc old.night) (pairs_in o)) (at q) ∙ read_next n old.night (found q old.rows) two (form q).falling);
    }

-- ---- rows that are added

in_added : (b : Bool) (o : Option Pairs) → pairs_in (added b o) ≡ pairs_in o
in_added true o = refl
in_added false o = refl

pub each_added_is_unseen : EachAddedIsUnseen
each_added_is_unseen given s old after may = same_shown s s old.rows after.rows (λ q. ⊎_elim
    (λ e. ap (λ o. read s (pairs_in o)) e)
    (λ e. ap (λ o. read s (pairs_in o)) e ∙ ap (read s) (in_added (is_given q given) (found q old.rows)))
    (may q))
