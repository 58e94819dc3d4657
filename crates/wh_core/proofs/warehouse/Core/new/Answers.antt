use Rattle.std.proofs.Common.{refl, sym, ap, subst}
use Rattle.wh_core.specs.Nights.{Setup, setup_of}
use Rattle.wh_core.specs.Standing.{AreJudged, nights_of}
use Rattle.wh_core.proofs.Wholes.{opening_tables}
use Rattle.wh_core.proofs.warehouse.Core.new.Goals as goal

pub new-requires : goal.new-requires
new-requires g c = record {
  tables = opening_tables c.args.catalog c.args.tables.items c.requires.setup.catalogue c.requires.setup.opening;
  least = c.requires.setup.versions;
  most = c.requires.setup.few_versions;
}

pub returns-clause-stands : goal.returns-clause-stands
returns-clause-stands g c =
    let s : Setup = setup_of c.args.catalog c.args.options c.args.tables.items (nights_of c.args.nights.items) in
    record {
      catalog = refl;
      nights = ap nights_of c.from_vec.ensures.items;
      judged = subst (AreJudged c.args.catalog) (sym c.from_vec.ensures.items) c.requires.judged;
      keys = refl;
      stands = c.in_ok-machine.ensures s refl refl refl refl;
    }

pub returns-clause-fresh : goal.returns-clause-fresh
returns-clause-fresh g c =
    let s : Setup = setup_of c.args.catalog c.args.options c.args.tables.items (nights_of c.args.nights.items) in
    record {
      setup = s;
      is_setup = c.requires.setup;
      stands = record {
        catalog = refl;
        nights = ap nights_of c.from_vec.ensures.items;
        judged = subst (AreJudged c.args.catalog) (sym c.from_vec.ensures.items) c.requires.judged;
        keys = refl;
        stands = c.in_ok-machine.ensures s refl refl refl refl;
      };
    }
