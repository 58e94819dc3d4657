-- What holds of all versions, windows and pages.
use Rattle.std.specs.Prelude.{◌≡◌, ◌≤◌, ◌↔◌, ◌⊎◌, ℕ, ℤ, List, [], ◌∷◌, ◌++◌, length, Contains, Option, Some, None, IsTrue, true, false}
use Rattle.std.specs.List.{flat_map}
use Rattle.wh_row.specs.Bag.{Bag, count, written}
use Rattle.wh_row.specs.Row.{Row}
use Rattle.wh_row.specs.Weigh.{Counted}
use Rattle.wh_store.specs.Kept.{AreTables}
use Rattle.wh_store.specs.Operations.{Operation}
use Rattle.wh_store.specs.Pages.{Contents, Shown, page_of, rises_after, with_counts}
use Rattle.wh_store.specs.Refusals.{refusal}
use Rattle.wh_store.specs.Versions.{Versions, is_active, is_unexpired, is_well_formed, number, version, versions_of}
use Rattle.wh_store.specs.Windows.{Window, Shows, applied, current, kept_version, unexpired}
use Rattle.wh_store.specs.declared.fault.StoreFault.TheVariants.{LastVersion}

-- what shows a list of operations shows, after an operation that is not refused, the list with it
abbrev pub WindowsFollow : Type 0
WindowsFollow =
    (w : Window) (opening : Contents) (ops : List Operation) (op : Operation) → 2 ≤ w.limit → Shows w opening ops → refusal w op ≡ None → Shows (applied w op) opening (ops ++ op ∷ [])

-- what is shown of versions tells their number, what is being written, of which versions sessions can be read, and the contents of each of these and of the current one
pub record Tells (w : Window) (v : Versions) : Type 0 where
  pub numbered : w.number ≡ number v
  pub written : w.draft ≡ v.draft
  pub readable : (s : ℕ) → unexpired w s ≡ is_unexpired w.limit (number v) (is_active v) s
  pub contents : (s : ℕ) → IsTrue (unexpired w s) → kept_version w s ≡ version v s
  pub newest : 2 ≤ w.limit → current w ≡ v.newest

abbrev pub WindowsTell : Type 0
WindowsTell = (w : Window) (opening : Contents) (ops : List Operation) → Shows w opening ops → Tells w (versions_of opening ops)

-- a version has one content in every longer list
abbrev pub VersionsStay : Type 0
VersionsStay =
    (opening : Contents) (ops more : List Operation) (s : ℕ) → s ≤ number (versions_of opening ops)
    → (s ≤ number (versions_of opening (ops ++ more))) × (version (versions_of opening (ops ++ more)) s ≡ version (versions_of opening ops) s)

-- pages of a table, each begun after the last row of the one before it, up to a last one
pub data ReadsOn (table : Bag) : Option Row → List Shown → Type 0 where
  ends : (after : Option Row) (limit : ℕ) → (page_of table after limit).last ≡ true → ReadsOn table after (page_of table after limit ∷ [])
  goes_on : (after : Option Row) (limit : ℕ) (before : Counted) (row : Row) (count : ℤ) (pages : List Shown) → (page_of table after limit).last ≡ false
      → (page_of table after limit).rows ≡ before ++ (row, count) ∷ [] → ReadsOn table (Some row) pages → ReadsOn table after (page_of table after limit ∷ pages)

-- pages of a table from its beginning on, joined, are the whole table
abbrev pub PagesJoin : Type 0
PagesJoin = (table : Bag) (pages : List Shown) → ReadsOn table None pages → flat_map (λ page. page.rows) pages ≡ written table

-- one bag is the other with these rows written over it: each of them counts what stands beside it, and every other row what it counted
pub record IsWrittenOver (rows : Counted) (before after : Bag) : Type 0 where
  pub given : (row : Row) (n : ℤ) → Contains rows (row, n) → count after row ≡ n
  pub others : (row : Row) → ((n : ℤ) → Contains rows (row, n) → ⊥) → count after row ≡ count before row

-- where rows rise, the table with these counts is the table with these rows written over it
abbrev pub CountsAreGiven : Type 0
CountsAreGiven = (table : Bag) (rows : Counted) → IsTrue (rises_after None rows) → IsWrittenOver rows table (with_counts table rows)

-- each operation of the list is refused by nothing that shows those before it, unless the numbers of versions are used up
abbrev pub NoneIsRefused : Contents → List Operation → Type 0
NoneIsRefused opening ops =
    (before rest : List Operation) (op : Operation) (w : Window) → ops ≡ before ++ op ∷ rest → Shows w opening before
    → (refusal w op ≡ None) ⊎ (refusal w op ≡ Some LastVersion)

-- the lists that are well formed are those of which no operation is refused in its place
abbrev pub WellFormedAreAccepted : Type 0
WellFormedAreAccepted = (opening : Contents) (ops : List Operation) → IsTrue (is_well_formed (length opening) ops) ↔ NoneIsRefused opening ops

-- where a well-formed list of operations is shown and one more is not refused, the list with it is well formed
abbrev pub WellFormedGoesOn : Type 0
WellFormedGoesOn =
    (w : Window) (opening : Contents) (ops : List Operation) (op : Operation) → IsTrue (is_well_formed (length opening) ops) → Shows w opening ops → refusal w op ≡ None
    → IsTrue (is_well_formed (length opening) (ops ++ op ∷ []))

-- no count of a table is below zero, in no version and in nothing that is being written
pub record AllAreTables (v : Versions) : Type 0 where
  pub in_versions : (s : ℕ) → AreTables (version v s)
  pub in_night : (contents : Contents) → v.draft ≡ Some contents → AreTables contents

-- well-formed operations on opening tables leave tables
abbrev pub TablesStay : Type 0
TablesStay = (opening : Contents) (ops : List Operation) → AreTables opening → IsTrue (is_well_formed (length opening) ops) → AllAreTables (versions_of opening ops)
