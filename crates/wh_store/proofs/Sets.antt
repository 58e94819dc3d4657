-- Counts that are written over those of a table.
use Rattle.std.specs.Prelude.{IsTrue, int_le, nat_le, length, None, ◌&&◌}
use Rattle.std.proofs.Common.{rules, ◌≡◌, sym, subst, ◌∙◌, ℤ, pos, ◌≤ℤ◌, Bool, true, false, cond, [], ◌∷◌}
use Rattle.wh_row.specs.Bag.{Bag, IsTable, count, empty, set_count}
use Rattle.wh_row.specs.Row.{Row, is_row}
use Rattle.wh_row.specs.Weigh.{Counted}
use Rattle.wh_row.proofs.BagLaws.{count-bag_of}
use Rattle.wh_row.proofs.CountLaws.{count-set_count}
use Rattle.wh_store.specs.Pages.{count_no_less, is_page, rises_after, with_counts}

pub none_there : (q : Row) → count empty q ≡ pos 0
none_there q = count-bag_of [] q

set_table : (b : Bag) (row : Row) (n : ℤ) → IsTable b → pos 0 ≤ℤ n → IsTable (set_count b row n)
set_table b row n is least q =
    let P : ℤ → Type 0 = λ z. pos 0 ≤ℤ z in
    subst P (sym (count-set_count b row n q)) (elim (is_row q row) as (λ t. P (cond t n (count b q))) [
      | true ↦ least
      | false ↦ is q
    ])

least_of : (n : ℤ) (b : Bool) → IsTrue (int_le (pos 0) n && b) → (pos 0 ≤ℤ n) × IsTrue b
least_of n b h = search rules

-- counts of a page leave a table a table
pub with_counts_table : (b : Bag) (rows : Counted) → IsTable b → IsTrue (count_no_less rows) → IsTable (with_counts b rows)
with_counts_table b [] is h = is
with_counts_table b (e ∷ es) is h =
    let first = least_of e.1 (count_no_less es) h in
    with_counts_table (set_count b e.0 e.1) es (set_table b e.0 e.1 is first.0) first.1

last_of : (a b c d : Bool) → IsTrue (a && b && c && d) → IsTrue d
last_of a b c d h = search rules

pub page_counts : (rows : Counted) → IsTrue (is_page rows) → IsTrue (count_no_less rows)
page_counts rows h = last_of (nat_le 1 (length rows)) (nat_le (length rows) 256) (rises_after None rows) (count_no_less rows) h
