-- A night that runs while readers go through the tables of before: what only proofs and private contracts use.
use Rattle.std.specs.Prelude.{◌≡◌, ◌≤◌, ℕ, List, [], Some, sum_by}
use Rattle.std.specs.List.{All}
use Rattle.wh_row.specs.Bag.{Bag}
use Rattle.wh_dag.specs.Catalog.{CatalogOf}
use Rattle.wh_strategy.specs.Rules.{Judged}
use Rattle.wh_strategy.specs.declared.expression.Expression.{Expression}
use Rattle.wh_maint.specs.Asked.{AreBags}
use Rattle.wh_maint.specs.Comp.{bag_at}
use Rattle.wh_store.specs.Pages.{Contents}
use Rattle.wh_store.specs.Ledgers.{Ledger}
use Rattle.wh_store.specs.Slots.{opening_rows}
use Rattle.wh_store.specs.Versions.{versions_of}
use Rattle.wh_store.specs.Windows.{Window, window}
use Rattle.wh_carry.specs.Fit.{AreFitFor}
use Rattle.wh_desk.specs.Known.{Known}
use Rattle.wh_desk.specs.declared.askers.Answered.{Answered}
use Rattle.wh_night.specs.Tonight.{newest_in}
use Rattle.wh_night.specs.Published.{IsPublished}
use Rattle.wh_night.specs.Serving.{AreRows, all_out, rows_told}
use Rattle.wh_night.specs.declared.serving.Served.{Served}

-- what a store shows that was filled with these tables
abbrev pub opened : Contents → Window
opened tables = window 2 (opening_rows tables) (versions_of tables [])

-- where each of its answers is a view that was read to its end, the reader was given so many rows
abbrev pub GivesRows : ℕ → Answered → Type 0
GivesRows n a = All AreRows a.answers.items → sum_by rows_told a.answers.items ≡ n

-- all that a night asks for holds, that is run by so many workers and pages of so many rows
pub record CanRun (catalog : CatalogOf) (correct : Judged) (l : Ledger) (changes : List Bag) (workers keys : ℕ) : Type 0 where
  pub judged : correct.children ≡ catalog.views.children
  pub wide : AreBags catalog (newest_in l)
  pub wide_changes : AreBags catalog changes
  pub fit : AreFitFor catalog (bag_at changes) correct.list (bag_at (newest_in l))
  pub some : 1 ≤ workers
  pub few : workers ≤ 16
  pub least : 1 ≤ keys
  pub most : keys ≤ 256

-- what is answered of a night that was done over this published list, without what readers were given
pub record IsServed (catalog : CatalogOf) (list : List Expression) (l : Ledger) (changes : List Bag) (keys : ℕ) (s : Served) : Type 0 where
  pub told : Known
  pub is_told : s.published ≡ Some told
  pub published : IsPublished catalog list l changes keys s.report (all_out told)
  pub tables : s.tables.items ≡ newest_in (all_out told)
