-- Predicates at the key `where` are read as what they are, and so is the key where it is missing.
use Rattle.std.proofs.Common.{◌≡◌, ◌≤◌, Option, Some, None, Ok, refl, ap, sym, ◌∙◌, arith}
use Rattle.std.specs.Prelude.{codes}
use Rattle.std.specs.List.{IsDistinct}
use Rattle.std.specs.Str.{bytes_eq}
use Rattle.toml.specs.Data.{Data, get}
use Rattle.wh_formula.specs.Pred.{PredTree, True, depth}
use Rattle.wh_text.specs.Dict.{with_texts}
use Rattle.wh_text.specs.Inner.Dict.{BeginsWith}
use Rattle.wh_text.proofs.DictGrowth.{begins-same}
use Rattle.wh_text_catalogue.specs.Filter.{filter_at}
use Rattle.wh_text_catalogue.specs.FormulaKinds.{Texts}
use Rattle.wh_text_catalogue.specs.Header.{HeaderOf}
use Rattle.wh_text_catalogue.specs.WrittenLaws.{AreReferences}
use Rattle.wh_text_catalogue.specs.WrittenOutput.{literals_at}
use Rattle.wh_text_catalogue.specs.WrittenView.{FiltersReadBack, IsFilterWritten, IsWholeFilter, ReadFiltersAreWritten}
use Rattle.wh_text_catalogue.proofs.WrittenExprs.{both-same, no-texts}
use Rattle.wh_text_catalogue.proofs.WrittenPreds.{read-preds-are-written, test-read}

-- a filter that was written, where all texts begin with those that it numbers
pub filter-read : (header : HeaderOf) (all : Texts) (own : PredTree) (found : Option Data) (before : Texts) → AreReferences header.columns → IsDistinct bytes_eq all
    → depth own ≤ 64 → IsFilterWritten header.columns all own found → BeginsWith (with_texts before (literals_at found)) all
    → filter_at header found before ≡ Ok (own, with_texts before (literals_at found))
filter-read header all own None before are distinct deep w begins = rw w (ap (λ t. Ok (True, t)) (no-texts before))
filter-read header all own (Some value) before are distinct deep w begins = test-read header all own value before are distinct deep w begins

pub filters-read-back : FiltersReadBack
filters-read-back header entry texts own after are distinct is =
    let begins : BeginsWith (with_texts texts (literals_at (get (codes "where") entry))) after = rw (← is.numbered) (begins-same after) in
    filter-read header after own (get (codes "where") entry) texts are distinct is.levels is.written begins ∙ ap (λ t. Ok (own, t)) (sym is.numbered)

pub filter-written : (header : HeaderOf) (found : Option Data) (texts : Texts) (own : PredTree) (after : Texts) → filter_at header found texts ≡ Ok (own, after) → IsWholeFilter header found texts own after
filter-written header None texts own after e =
    let same = both-same {A = PredTree} (True, texts) own after _ refl e in
    rw (← same.0, ← same.1) (record { written = refl; levels = omega arith; numbered = no-texts texts })
filter-written header (Some value) texts own after e =
    let is = read-preds-are-written header value texts own after e in
    record { written = is.written; levels = is.levels; numbered = is.numbered }

pub read-filters-are-written : ReadFiltersAreWritten
read-filters-are-written header entry texts own after e = filter-written header (get (codes "where") entry) texts own after e
