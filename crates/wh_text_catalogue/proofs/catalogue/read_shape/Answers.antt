use Rattle.std.proofs.Common.{◌≡◌, Ok, rules}
use Rattle.std.proofs.lemmas.Result.{IfOk-weaker}
use Rattle.std.specs.List.{AllPass}
use Rattle.wh_text.specs.NameForm.{is_name}
use Rattle.wh_text_catalogue.proofs.CatalogueNames.{shape_of-names}
use Rattle.wh_text_catalogue.specs.Catalogue.{shape_of}
use Rattle.wh_text_catalogue.proofs.catalogue.read_shape.Goals as goal

pub returns-clause-named : goal.returns-clause-named
returns-clause-named c =
    IfOk-weaker c.shape_written.result (λ shape. shape_of c.args.text.now ≡ Ok shape) (λ shape. AllPass is_name shape.names) (shape_of-names c.args.text.now) (search rules)
