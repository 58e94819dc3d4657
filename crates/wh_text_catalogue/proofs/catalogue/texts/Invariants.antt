use Rattle.std.proofs.Common.{◌≡◌, map, drop}
use Rattle.toml.specs.View.{view}
use Rattle.wh_dag.specs.Written.{texts}
use Rattle.wh_text_catalogue.specs.Catalogue.{texts_of}
use Rattle.wh_text_catalogue.proofs.CatalogueTexts.{after_texts}
use Rattle.wh_text_catalogue.proofs.catalogue.texts.Given as goal

abbrev pub invariant-loop-value : goal.invariant-loop-value
invariant-loop-value l = texts_of (map view l.values) ≡ after_texts (texts l.found.items) (texts_of (map view (drop l.value-index l.values)))
