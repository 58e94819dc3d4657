use Rattle.std.proofs.Common.{map, ap, ◌∙◌}
use Rattle.toml.specs.View.{view}
use Rattle.toml.proofs.Views.{view-Array}
use Rattle.wh_text_catalogue.specs.PredForm.{compound_of}
use Rattle.wh_text_catalogue.proofs.Document.{elements-items_of}
use Rattle.wh_text_catalogue.proofs.definitions.pred_form.pred_form.Goals as goal

pub returns-in-Array : goal.returns-in-Array
returns-in-Array c =
    rw (c.in-Array.is, view-Array c.in-Array.parts, elements-items_of (map view c.in-Array.parts.items))
    (c.compound_of.ensures ∙ ap (λ values. compound_of (map view values)) c.as_slice.ensures.value)
