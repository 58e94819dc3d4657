use Rattle.std.proofs.Common.{rules, ◌≡◌, subst, sym, true}
use Rattle.wh_maint.specs.Asked.{AreBags}
use Rattle.wh_store.specs.Kept.{AreTables}
use Rattle.wh_carry.specs.Fit.{AreFitTables}
use Rattle.wh_carry.proofs.Fitted.{fit_tables}
use Rattle.test_workers.proofs.nights.refused.assert_of.Goals as goal

pub new-requires-clause-tables : goal.new-requires-clause-tables
new-requires-clause-tables g c =
    let bags : c.are_bags.result ≡ true = search rules in
    let fit : c.in_ok-are_fit.field-0 ≡ true = search rules in
    subst AreTables (sym c.deref-2.ensures.value) (fit_tables c.args.catalog c.in_ok-tables.tables.items (subst (AreBags c.args.catalog) c.deref.ensures.value (c.are_bags.ensures.0 bags))
    (subst (AreFitTables c.args.catalog) c.deref-else-not-are_bags.ensures.value (c.in_ok-are_fit.ensures.fit.0 fit)))
