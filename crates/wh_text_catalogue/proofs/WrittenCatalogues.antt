-- All views of a catalogue that are written are read as what they are, and those that are read are what was written.
use Rattle.std.proofs.Common.{◌≡◌, List, [], ◌∷◌, ◌++◌, length, Option, Some, None, ok_or, Ok, refl, ap, sym, ◌∙◌, append_assoc, All}
use Rattle.std.specs.Prelude.{codes}
use Rattle.std.specs.List.{IsDistinct}
use Rattle.std.specs.Str.{bytes_eq}
use Rattle.std.proofs.lemmas.List.{append-nil}
use Rattle.std.proofs.lemmas.List.Elements.{All-append, All-cons, All-nil}
use Rattle.std.proofs.lemmas.Map.Made.{AllPairs-from_IsDistinct, IsDistinct-from_AllPairs}
use Rattle.std.proofs.lemmas.Slice.Eq.{bytes_eq-Decides}
use Rattle.toml.specs.Data.{Data, get}
use Rattle.wh_dag.specs.Shape.{Views}
use Rattle.wh_text.specs.Columns.{AreNamed}
use Rattle.wh_text.specs.Dict.{with_texts}
use Rattle.wh_text.specs.Inner.Dict.{BeginsWith}
use Rattle.wh_text.specs.declared.fault.Key.TheVariants as key
use Rattle.wh_text.specs.declared.fault.LoadFault.TheVariants as fault
use Rattle.wh_text.proofs.DictGrowth.{begins-same, begins-texts, begins-trans}
use Rattle.wh_text_catalogue.specs.Catalogue.{document_of, views_of}
use Rattle.wh_text_catalogue.specs.Definitions.{ViewOf, header_of, next_view, view_at, views_after}
use Rattle.wh_text_catalogue.specs.FormulaKinds.{Texts}
use Rattle.wh_text_catalogue.specs.Header.{HeaderOf}
use Rattle.wh_text_catalogue.specs.WrittenCatalogue.{AreViewsWritten, CataloguesReadBack, IsNextWritten, ReadCataloguesAreWritten}
use Rattle.wh_text_catalogue.specs.WrittenHeader.{IsNamedShape}
use Rattle.wh_text_catalogue.specs.WrittenOutput.{literals_at}
use Rattle.wh_text_catalogue.specs.WrittenView.{IsWholeView}
use Rattle.wh_text_catalogue.proofs.CatalogueNames.{gone_on, some_from_ok}
use Rattle.wh_text_catalogue.proofs.WrittenBases.{bases-read-back, read-bases-are-written}
use Rattle.wh_text_catalogue.proofs.WrittenExprs.{both-same}
use Rattle.wh_text_catalogue.proofs.WrittenHeaders.{read-shapes-are-named, rows-are-references}
use Rattle.wh_text_catalogue.proofs.WrittenOutputs.{pairs-front}
use Rattle.wh_text_catalogue.proofs.WrittenViews.{read-views-are-written, views-read-back}

-- Texts.

distinct-front : (texts after : Texts) → BeginsWith texts after → IsDistinct bytes_eq after → IsDistinct bytes_eq texts
distinct-front texts after begins distinct =
    let whole : IsDistinct bytes_eq (texts ++ begins.more) = rw begins.parts at distinct in
    IsDistinct-from_AllPairs bytes_eq-Decides texts (pairs-front texts begins.more (AllPairs-from_IsDistinct bytes_eq-Decides (texts ++ begins.more) whole))

view-begins : (header : HeaderOf) (entry : Data) (texts : Texts) (own : ViewOf) (after : Texts) → IsWholeView header entry texts own after → BeginsWith texts after
view-begins header entry texts own after is =
    let first = literals_at (get (codes "where") entry) in
    let last = literals_at (get (codes "keep") entry) in
    rw is.numbered (begins-trans texts (with_texts texts first) (with_texts (with_texts texts first) last) (begins-texts texts first) (begins-texts (with_texts texts first) last))

next-begins : (shape : Views) (found : List ViewOf) (over : Option Data) (entry : Data) (texts : Texts) (own : ViewOf) (after : Texts) → IsNextWritten shape found over entry texts own after → BeginsWith texts after
next-begins shape found None entry texts own after is = rw is.numbered (begins-same texts)
next-begins shape found (Some over) entry texts own after is = view-begins (header_of shape found (length found)) entry texts own after is

views-begin : (shape : Views) (found : List ViewOf) (entries : List Data) (texts : Texts) (views : List ViewOf) (after : Texts) → AreViewsWritten shape found entries texts views after → BeginsWith texts after
views-begin shape found [] texts [] after w = rw w (begins-same texts)
views-begin shape found [] texts (own ∷ views) after w = absurd w
views-begin shape found (entry ∷ entries) texts [] after w = absurd w
views-begin shape found (entry ∷ entries) texts (own ∷ views) after w =
    begins-trans texts w.0 after (next-begins shape found (get (codes "over") entry) entry texts own w.0 w.1) (views-begin shape (found ++ own ∷ []) entries w.0 views after w.2)

-- Writing, then reading.

-- the columns of a view are named
abbrev IsNamedView : ViewOf → Type 0
IsNamedView own = AreNamed own.columns

next-named : (shape : Views) (found : List ViewOf) (over : Option Data) (entry : Data) (texts : Texts) (own : ViewOf) (after : Texts) → IsNextWritten shape found over entry texts own after → IsNamedView own
next-named shape found None entry texts own after is = is.named
next-named shape found (Some over) entry texts own after is = is.named

next-read : (shape : Views) (found : List ViewOf) (over : Option Data) (entry : Data) (texts : Texts) (own : ViewOf) (after : Texts) → IsNamedShape shape → All IsNamedView found → IsDistinct bytes_eq after
    → IsNextWritten shape found over entry texts own after → view_at shape found over entry texts ≡ Ok (own, after)
next-read shape found None entry texts own after is named distinct w = bases-read-back entry texts own after w
next-read shape found (Some over) entry texts own after is named distinct w =
    views-read-back (header_of shape found (length found)) entry texts own after (rows-are-references shape found (length found) is named) distinct w

views-read : (shape : Views) (found : List ViewOf) (entries : List Data) (texts : Texts) (views : List ViewOf) (after : Texts) → IsNamedShape shape → All IsNamedView found → IsDistinct bytes_eq after
    → AreViewsWritten shape found entries texts views after → views_after shape found entries texts ≡ Ok (found ++ views, after)
views-read shape found [] texts [] after is named distinct w = ap (λ t. Ok (found, t)) (sym w) ∙ ap (λ f. Ok (f, after)) (sym (append-nil found))
views-read shape found [] texts (own ∷ views) after is named distinct w = absurd w
views-read shape found (entry ∷ entries) texts [] after is named distinct w = absurd w
views-read shape found (entry ∷ entries) texts (own ∷ views) after is named distinct w =
    let later = views-begin shape (found ++ own ∷ []) entries w.0 views after w.2 in
    let own-is = next-read shape found (get (codes "over") entry) entry texts own w.0 is named (distinct-front w.0 after later distinct) w.1 in
    let more = All-append IsNamedView found (own ∷ []) named (All-cons IsNamedView own [] (next-named shape found (get (codes "over") entry) entry texts own w.0 w.1) (All-nil IsNamedView)) in
    rw own-is (views-read shape (found ++ own ∷ []) entries w.0 views after is more distinct w.2 ∙ ap (λ f. Ok (f, after)) (append_assoc found (own ∷ []) views))

pub catalogues-read-back : CataloguesReadBack
catalogues-read-back text shape entries texts views after is has distinct w =
    rw (has.1, has.2) (views-read shape [] entries texts views after (read-shapes-are-named text shape is) (All-nil IsNamedView) distinct w)

-- Reading, then what was written.

next-written : (shape : Views) (found : List ViewOf) (over : Option Data) (entry : Data) (texts : Texts) (own : ViewOf) (after : Texts) → view_at shape found over entry texts ≡ Ok (own, after)
    → IsNextWritten shape found over entry texts own after
next-written shape found None entry texts own after e = read-bases-are-written entry texts own after e
next-written shape found (Some over) entry texts own after e = read-views-are-written (header_of shape found (length found)) entry texts own after e

views-written : (shape : Views) (found : List ViewOf) (entries : List Data) (texts : Texts) (views : List ViewOf) (after : Texts) → views_after shape found entries texts ≡ Ok (views, after)
    → (more : List ViewOf) × (views ≡ found ++ more) × AreViewsWritten shape found entries texts more after
views-written shape found [] texts views after e =
    let same = both-same {A = List ViewOf} (found, texts) views after _ refl e in
    ([], sym same.0 ∙ sym (append-nil found), sym same.1)
views-written shape found (entry ∷ entries) texts views after e =
    let own = gone_on (next_view shape found entry texts) _ (views, after) e in
    let rest = views-written shape (found ++ own.0.0 ∷ []) entries own.0.1 views after own.2 in
    (own.0.0 ∷ rest.0, rest.1 ∙ append_assoc found (own.0.0 ∷ []) rest.0, (own.0.1, next-written shape found (get (codes "over") entry) entry texts own.0.0 own.0.1 own.1, rest.2))

moved : (shape : Views) (entries : List Data) (texts : Texts) (views more : List ViewOf) (after : Texts) → views ≡ [] ++ more → AreViewsWritten shape [] entries texts more after → AreViewsWritten shape [] entries texts views after
moved shape entries texts views more after same w = rw same w

pub read-catalogues-are-written : ReadCataloguesAreWritten
read-catalogues-are-written text shape texts views after e =
    let document = gone_on (document_of text) _ (views, after) e in
    let entries = gone_on (ok_or (views_of document.0) (fault.Key key.View)) _ (views, after) document.2 in
    let found = some_from_ok (views_of document.0) (fault.Key key.View) entries.0 entries.1 in
    let are = views-written shape [] entries.0 texts views after entries.2 in
    (entries.0, (document.0, document.1, found), moved shape entries.0 texts views are.0 after are.1 are.2)
