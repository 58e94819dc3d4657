use Rattle.std.proofs.Common.{rules, ◌≡◌, subst, sym, true}
use Rattle.wh_maint.specs.Asked.{AreBags}
use Rattle.wh_store.specs.Kept.{AreTables}
use Rattle.wh_carry.specs.Fit.{AreFitTables}
use Rattle.wh_carry.proofs.Fitted.{fit_tables}
use Rattle.test_night.proofs.nights.warehouse.store_of.Goals as goal

pub new-requires-clause-tables : goal.new-requires-clause-tables
new-requires-clause-tables c =
    let bags : c.are_bags.result ≡ true = search rules in
    subst AreTables (sym c.deref-3.ensures.value) (fit_tables c.args.catalog.now c.args.tables.items (subst (AreBags c.args.catalog.now) c.deref.ensures.value (c.are_bags.ensures.0 bags))
    (subst (AreFitTables c.args.catalog.now) c.deref-2.ensures.value (λ v l. (c.in-Ok-true.ensures.fit c.in-Ok-true.field-0-test).now v)))
