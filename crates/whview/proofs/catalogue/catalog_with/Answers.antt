use Rattle.whview.proofs.IfOks.{if_ok}
use Rattle.std.proofs.Common.{◌∙◌}
use Rattle.whview.proofs.StoredCatalog.{all_sound, fit, same}
use Rattle.whview.proofs.catalogue.catalog_with.Goals as goal

pub definitions-requires-clause-sound : goal.definitions-requires-clause-sound
definitions-requires-clause-sound g c κs within = all_sound c.args.shape c.args.views.now c.requires.definitions.catalog

pub new-requires-after_bounds : goal.new-requires-after_bounds
new-requires-after_bounds g c κs within =
    fit c.args.shape c.args.views.now c.in_ok-widths.widths.items c.in_ok-definitions.definitions.items c.requires.definitions.catalog c.in_ok-widths.ensures c.in_ok-definitions.ensures

pub returns : goal.returns
returns g c =
    if_ok c.new.result _ _ c.new.ensures.made
    (λ catalog made. made ∙ same c.args.shape c.args.views.now c.in_ok-widths.widths.items c.in_ok-definitions.definitions.items c.requires.definitions.catalog c.in_ok-widths.ensures c.in_ok-definitions.ensures)
