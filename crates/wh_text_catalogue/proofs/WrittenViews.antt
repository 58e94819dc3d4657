-- Derived views that are written are read as what they are, and those that are read are what was written.
use Rattle.std.proofs.Common.{◌≡◌, List, length, Option, Some, None, Ok, refl, ap, sym, ◌∙◌}
use Rattle.std.specs.Prelude.{codes}
use Rattle.toml.specs.Data.{Data, get}
use Rattle.wh_dag.specs.Catalog.{DefinitionOf}
use Rattle.wh_formula.specs.Pred.{PredTree}
use Rattle.wh_text.specs.Columns.{NamedKind}
use Rattle.wh_text.specs.Dict.{with_texts}
use Rattle.wh_text.specs.Inner.Dict.{BeginsWith}
use Rattle.wh_text.proofs.DictGrowth.{begins-same, begins-texts, begins-trans}
use Rattle.wh_text_catalogue.specs.Definitions.{ViewOf}
use Rattle.wh_text_catalogue.specs.Filter.{filter_of}
use Rattle.wh_text_catalogue.specs.FormulaKinds.{Texts}
use Rattle.wh_text_catalogue.specs.Header.{HeaderOf}
use Rattle.wh_text_catalogue.specs.Join.{join_of}
use Rattle.wh_text_catalogue.specs.Output.{output_of}
use Rattle.wh_text_catalogue.specs.WrittenOutput.{literals_at}
use Rattle.wh_text_catalogue.specs.WrittenView.{IsFilterWritten, IsWholeView, ReadViewsAreWritten, ViewsReadBack}
use Rattle.wh_text_catalogue.proofs.CatalogueNames.{gone_on}
use Rattle.wh_text_catalogue.proofs.WrittenExprs.{both-same}
use Rattle.wh_text_catalogue.proofs.WrittenFilters.{filter-read, filter-written}
use Rattle.wh_text_catalogue.proofs.WrittenJoins.{joins-read-back, read-joins-are-written}
use Rattle.wh_text_catalogue.proofs.WrittenOutputs.{output-read, read-outputs-are-written}
use Rattle.wh_text_catalogue.proofs.WrittenPreds.{pred-kept}

-- a view of this definition
abbrev defined_as : List NamedKind → DefinitionOf → ViewOf
defined_as columns definition = record { columns = columns; definition = Some definition }

pub views-read-back : ViewsReadBack
views-read-back header entry texts own after are distinct is =
    let middle = with_texts texts (literals_at (get (codes "where") entry)) in
    let last : BeginsWith (with_texts middle (literals_at (get (codes "keep") entry))) after = rw (← is.numbered) (begins-same after) in
    let first = begins-trans middle (with_texts middle (literals_at (get (codes "keep") entry))) after (begins-texts middle (literals_at (get (codes "keep") entry))) last in
    let w = is.written in
    let join = joins-read-back header entry is.definition.join are w.join in
    let filter : filter_of header entry texts ≡ Ok (is.definition.filter, middle) = filter-read header after is.definition.filter (get (codes "where") entry) texts are distinct is.filter_levels w.filter first in
    let output = output-read header after entry own.columns is.definition.output middle are distinct is.output_levels is.some is.few is.named w.output last in
    rw (join, filter, output, ← w.width) (ap (λ t. Ok (defined_as own.columns is.definition, t)) (sym is.numbered) ∙ ap (λ d. Ok (record { columns = own.columns; definition = d }, after)) (sym is.defined))

filter-kept : (columns : List NamedKind) (texts all : Texts) (own : PredTree) (found : Option Data) → BeginsWith texts all → IsFilterWritten columns texts own found → IsFilterWritten columns all own found
filter-kept columns texts all own None begins w = w
filter-kept columns texts all own (Some value) begins w = pred-kept columns texts all own value begins w

view-of-same : (header : HeaderOf) (entry : Data) (texts : Texts) (made own : ViewOf) (so_far after : Texts) → (made ≡ own) × (so_far ≡ after) → IsWholeView header entry texts made so_far → IsWholeView header entry texts own after
view-of-same header entry texts made own so_far after same is = rw (← same.0, ← same.1) is

pub read-views-are-written : ReadViewsAreWritten
read-views-are-written header entry texts own after e =
    let join = gone_on (join_of header entry) _ (own, after) e in
    let filter = gone_on (filter_of header entry texts) _ (own, after) join.2 in
    let output = gone_on (output_of header entry filter.0.1) _ (own, after) filter.2 in
    let definition : DefinitionOf = record { width = length header.columns; join = join.0; filter = filter.0.0; output = output.0.0.output } in
    let same = both-same {A = ViewOf} (defined_as output.0.0.columns definition, output.0.1) own after _ refl output.2 in
    let test = filter-written header (get (codes "where") entry) texts filter.0.0 filter.0.1 filter.1 in
    let is = read-outputs-are-written header entry filter.0.1 output.0.0 output.0.1 output.1 in
    let begins : BeginsWith filter.0.1 output.0.1 = rw is.numbered (begins-texts filter.0.1 (literals_at (get (codes "keep") entry))) in
    view-of-same header entry texts (defined_as output.0.0.columns definition) own output.0.1 after same (record {
      definition = definition;
      defined = refl;
      written = record {
        width = refl;
        join = read-joins-are-written header entry join.0 join.1;
        filter = filter-kept header.columns filter.0.1 output.0.1 filter.0.0 (get (codes "where") entry) begins test.written;
        output = is.written;
      };
      filter_levels = test.levels;
      output_levels = is.levels;
      some = is.some;
      few = is.few;
      named = is.named;
      numbered = is.numbered ∙ ap (λ t. with_texts t (literals_at (get (codes "keep") entry))) test.numbered;
    })
