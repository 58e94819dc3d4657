use Rattle.std.proofs.Common.{◌≡◌, map, drop, vec_len}
use Rattle.toml.specs.View.{view}
use Rattle.wh_text_catalogue.specs.Catalogue.{written_views}
use Rattle.wh_text_catalogue.specs.Inner.Catalogue.{seen}
use Rattle.wh_text_catalogue.proofs.CatalogueViews.{after_views}
use Rattle.wh_text_catalogue.proofs.catalogue.written_views.Given as goal

abbrev pub invariant-loop-value : goal.invariant-loop-value
invariant-loop-value l = record {
  paired : vec_len l.names ≡ vec_len l.over;
  read : written_views (map view l.views) ≡ after_views (seen l.names.items l.over.items) (written_views (map view (drop l.value-index l.views)));
}
