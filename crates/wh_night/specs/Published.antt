-- What a night publishes that is done, and tells: one statement of `night` and of `night_from`.
use Rattle.std.specs.Prelude.{◌≡◌, ℕ, List, length}
use Rattle.wh_row.specs.Bag.{Bag}
use Rattle.wh_dag.specs.Catalog.{CatalogOf}
use Rattle.wh_strategy.specs.declared.expression.Expression.{Expression}
use Rattle.wh_maint.specs.Asked.{AreBags}
use Rattle.wh_maint.specs.Comp.{bag_at}
use Rattle.wh_maint.specs.Contents.{AreContents, AreContentsOf}
use Rattle.wh_maint.specs.Definition.{graph_of}
use Rattle.wh_maint.specs.Laws.{changed}
use Rattle.wh_store.specs.Versions.{number}
use Rattle.wh_store.specs.Ledgers.{Ledger, versions_in}
use Rattle.wh_carry.specs.Night.{AreAllowed}
use Rattle.wh_carry.specs.NightLaws.{HaveTables}
use Rattle.wh_carry.specs.Refused.{ArePassedBelow}
use Rattle.wh_carry.specs.Steps.{AreSteps}
use Rattle.wh_carry.specs.declared.report.Report.{Report}
use Rattle.wh_night.specs.Tonight.{IsDone, made_by, newest_in, tonight}

-- Behind what was published before it, the night is published, by pages of so many rows, and this is told of it:
--   done      its whole list has gone out, and nothing is held;
--   bags      the current version has a table for each view, of the view's width;
--   tables    it is what carrying the list out makes of those before;
--   contents  from the contents of a base they are the contents of the changed base;
--   version   the report has the number of the current version;
--   steps     the report has each expression with its rows;
--   allowed   no base change is refused;
--   passed    each expression is passed.
pub record IsPublished (catalog : CatalogOf) (list : List Expression) (l : Ledger) (changes : List Bag) (keys : ℕ) (report : Report) (m : Ledger) : Type 0 where
  pub done : IsDone (tonight catalog list l changes keys) l m
  pub bags : AreBags catalog (newest_in m)
  pub tables : HaveTables (newest_in m) (length catalog.views.children) (made_by (tonight catalog list l changes keys))
  pub contents : AreContents (graph_of catalog) (bag_at (newest_in l)) → AreContentsOf (graph_of catalog) (changed (bag_at (newest_in l)) (bag_at changes)) (bag_at (newest_in m))
  pub version : report.version ≡ number (versions_in m.of m.list)
  pub steps : AreSteps catalog.views.children list (bag_at (newest_in l)) (made_by (tonight catalog list l changes keys)) report.steps.items
  pub allowed : AreAllowed (tonight catalog list l changes keys)
  pub passed : ArePassedBelow catalog list (bag_at (newest_in l)) (bag_at changes) (length list)
