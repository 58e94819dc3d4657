-- What a night that is carried out makes of tables, and tells: one statement of `carry`, and of the calls that carry a night out for others.
use Rattle.std.specs.Prelude.{◌≡◌, ℕ, ◌<◌, List, length}
use Rattle.wh_row.specs.Bag.{Bag}
use Rattle.wh_dag.specs.Catalog.{CatalogOf}
use Rattle.wh_strategy.specs.declared.expression.Expression.{Expression}
use Rattle.wh_maint.specs.Asked.{AreBags}
use Rattle.wh_maint.specs.Comp.{bag_at}
use Rattle.wh_maint.specs.Contents.{AreContents, AreContentsOf}
use Rattle.wh_maint.specs.Definition.{graph_of}
use Rattle.wh_maint.specs.Laws.{changed}
use Rattle.wh_carry.specs.Carry.{tables_after}
use Rattle.wh_carry.specs.Refused.{AreAllowedBelow, ArePassedBelow}
use Rattle.wh_carry.specs.Steps.{AreSteps}
use Rattle.wh_carry.specs.declared.report.Report.{Report}

-- From the old tables and these changes of the base views the strategy has made the new tables, and this is told of it:
--   bags      there is a new table for each view, of the view's width;
--   tables    it is what carrying the list out makes of the old ones;
--   contents  from the contents of a base they are the contents of the changed base;
--   version   the report has version 1;
--   steps     the report has each expression with its rows;
--   allowed   no base change is refused;
--   passed    each expression is passed.
pub record IsNightCarried (catalog : CatalogOf) (list : List Expression) (old changes new : List Bag) (report : Report) : Type 0 where
  pub bags : AreBags catalog new
  pub tables : (v : ℕ) → v < length catalog.views.children → bag_at new v ≡ tables_after (graph_of catalog) (bag_at changes) list (bag_at old) v
  pub contents : AreContents (graph_of catalog) (bag_at old) → AreContentsOf (graph_of catalog) (changed (bag_at old) (bag_at changes)) (bag_at new)
  pub version : report.version ≡ 1
  pub steps : AreSteps catalog.views.children list (bag_at old) (tables_after (graph_of catalog) (bag_at changes) list (bag_at old)) report.steps.items
  pub allowed : AreAllowedBelow catalog (bag_at old) (bag_at changes) (length catalog.views.children)
  pub passed : ArePassedBelow catalog list (bag_at old) (bag_at changes) (length list)
