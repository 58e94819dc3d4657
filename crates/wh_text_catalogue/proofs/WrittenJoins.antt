-- Joins that are written are read as what they are, and those that are read are what was written.
use Rattle.std.proofs.Common.{◌≡◌, ℕ, Bool, true, false, List, [], ◌∷◌, ◌++◌, Option, Some, None, Ok, refl, ap, sym, ◌∙◌, append_assoc}
use Rattle.std.specs.Prelude.{codes, option_and_then, slice_get, if◌then◌else◌}
use Rattle.std.proofs.lemmas.List.{append-nil}
use Rattle.toml.specs.View.{items_of}
use Rattle.toml.specs.Data.{Data, string, array, get}
use Rattle.wh_text.specs.Columns.{NamedKind}
use Rattle.wh_text.specs.declared.columns.Kind.{Kind}
use Rattle.wh_text.specs.declared.columns.Kind.TheVariants.{Int, Text}
use Rattle.wh_text.specs.declared.fault.Key.TheVariants as key
use Rattle.wh_text.specs.declared.fault.LoadFault.TheVariants as fault
use Rattle.wh_text.specs.ValueOrFault.{◌>>=◌}
use Rattle.wh_text_catalogue.specs.Catalogue.{array_of, elements}
use Rattle.wh_text_catalogue.specs.ColumnNames.{unless_unknown}
use Rattle.wh_text_catalogue.specs.Header.{HeaderOf, cell_of}
use Rattle.wh_text_catalogue.specs.Join.{WrittenLink, joined, joined_link, link_of, linked, linked_cell, links_in, links_written, same_kind, unknown_in_link, unknown_in_links}
use Rattle.wh_text_catalogue.specs.FormulaKinds.{unfit}
use Rattle.wh_text_catalogue.specs.Pairs.{reference_in}
use Rattle.wh_text_catalogue.specs.Reference.{is_reference}
use Rattle.wh_text_catalogue.specs.WrittenLaws.{AreReferences}
use Rattle.wh_text_catalogue.specs.WrittenView.{AreLinksWritten, IsJoinWritten, IsLinkWritten, JoinsReadBack, ReadJoinsAreWritten}
use Rattle.wh_text_catalogue.specs.declared.definitions.header.Cell.{Cell}
use Rattle.wh_text_catalogue.proofs.CatalogueNames.{gone_on, some_from_ok}
use Rattle.wh_text_catalogue.proofs.ColumnsNamed.{then-some}
use Rattle.wh_text_catalogue.proofs.FormulasFit.{checked-ok, unless-ok}
use Rattle.wh_text_catalogue.proofs.WrittenForms.{cell-found, cell-stands, column-form, elements-items, items-elements}

-- Writing, then reading.

kind-same : (kind : Kind) → same_kind kind kind ≡ true
kind-same Int = refl
kind-same Text = refl

-- the link that a value writes
record IsLinkRead (header : HeaderOf) (places : ℕ × ℕ) (value : Data) : Type 0 where
  pub link : WrittenLink
  pub form : option_and_then link_of (array_of value) ≡ Some link
  pub known : unknown_in_link header.columns link.left link.right ≡ None
  pub joins : joined_link header link.left link.right ≡ Ok places

link-read : (header : HeaderOf) (places : ℕ × ℕ) (value : Data) → AreReferences header.columns → IsLinkWritten header.columns places value → IsLinkRead header places value
link-read header places value are w =
    let l-form = column-form header.columns places.0 w.4.0 w.0 are w.4.1 in
    let r-form = column-form header.columns places.1 w.5.0 w.0 are w.5.1 in
    let l-found = cell-found header.columns places.0 w.4.0 w.0 are.distinct w.4.1 in
    let r-found = cell-found header.columns places.1 w.5.0 w.0 are.distinct w.5.1 in
    record {
      link = record { left = w.4.0; right = w.5.0 };
      form = rw (w.3, w.4.2, w.5.2, l-form, r-form) refl;
      known = rw (l-found, r-found) refl;
      joins = rw (l-found, r-found, kind-same w.0) refl;
    }

record AreLinksRead (header : HeaderOf) (join : List (ℕ × ℕ)) (values : List Data) : Type 0 where
  pub links : List WrittenLink
  pub form : (found : List WrittenLink) → links_in found values ≡ Some (found ++ links)
  pub known : unknown_in_links header.columns links ≡ None
  pub joins : (found : List (ℕ × ℕ)) → joined header found links ≡ Ok (found ++ join)

links-read : (header : HeaderOf) (join : List (ℕ × ℕ)) (values : List Data) → AreReferences header.columns → AreLinksWritten header.columns join values → AreLinksRead header join values
links-read header [] [] are w = record { links = []; form = λ found. ap Some (sym (append-nil found)); known = refl; joins = λ found. ap Ok (sym (append-nil found)) }
links-read header [] (value ∷ values) are w = absurd w
links-read header (places ∷ join) [] are w = absurd w
links-read header (places ∷ join) (value ∷ values) are w =
    let own = link-read header places value are w.0 in
    let rest = links-read header join values are w.1 in
    record {
      links = own.link ∷ rest.links;
      form = λ found. rw own.form (rest.form (found ++ own.link ∷ []) ∙ ap Some (append_assoc found (own.link ∷ []) rest.links));
      known = rw (own.known, rest.known) refl;
      joins = λ found. rw own.joins (rest.joins (found ++ places ∷ []) ∙ ap Ok (append_assoc found (places ∷ []) join));
    }

pub joins-read-back : JoinsReadBack
joins-read-back header entry join are = by (get (codes "join") entry)
  where
    by : (o : Option Data) → IsJoinWritten header.columns join o
        → (links_written o >>= (λ links. unless_unknown (unknown_in_links header.columns links) links >>= (λ known. joined header [] known))) ≡ Ok join
    by None w = ap Ok (sym w)
    by (Some value) w =
        let links = links-read header join w.0 are w.2 in
        rw (w.1, elements-items w.0, links.form [], links.known) (links.joins [])

-- Reading, then what was written.

-- the value is an array of the two texts of a link
abbrev IsOfLink : WrittenLink → Data → Type 0
IsOfLink link value = value ≡ array (items_of (string link.left ∷ string link.right ∷ []))

pub text-only : (value : Data) (text : List ℕ) → reference_in value ≡ Some text → value ≡ string text
text-only (string own) text e = by (is_reference own) e
  where
    by : (b : Bool) → (if b then Some own else None) ≡ Some text → string own ≡ string text
    by true e = let same : own ≡ text = cc in ap string same
    by false e = cc e
text-only _ text e = cc e

link-only : (parts : List Data) (link : WrittenLink) → link_of parts ≡ Some link → IsOfLink link (array (items_of parts))
link-only (left ∷ right ∷ []) link e = by (reference_in left) (reference_in right) refl refl e
  where
    by : (l r : Option (List ℕ)) → reference_in left ≡ l → reference_in right ≡ r → linked l r ≡ Some link → IsOfLink link (array (items_of (left ∷ right ∷ [])))
    by (Some l) (Some r) l-is r-is e =
        let same : record { left = l; right = r } ≡ link = cc in
        rw (← same, text-only left l l-is, text-only right r r-is) refl
    by _ _ l-is r-is e = cc e
link-only _ link e = cc e

pub array-only : (value : Data) (parts : List Data) → array_of value ≡ Some parts → value ≡ array (items_of parts)
array-only (array items) parts e = let same : elements items ≡ parts = cc in ap array (sym (items-elements items) ∙ ap items_of same)
array-only _ parts e = cc e

-- the links of some values, one each
abbrev AreOfLinks : List WrittenLink → List Data → Type 0
AreOfLinks [] [] = Unit {0}
AreOfLinks [] (value ∷ values) = ⊥
AreOfLinks (link ∷ links) [] = ⊥
AreOfLinks (link ∷ links) (value ∷ values) = IsOfLink link value × AreOfLinks links values

links-only : (found : List WrittenLink) (values : List Data) (links : List WrittenLink) → links_in found values ≡ Some links → (more : List WrittenLink) × (links ≡ found ++ more) × AreOfLinks more values
links-only found [] links e = let same : found ≡ links = cc in ([], sym same ∙ sym (append-nil found), tt)
links-only found (value ∷ values) links e =
    let link = then-some (λ link. links_in (found ++ link ∷ []) values) (option_and_then link_of (array_of value)) links e in
    let parts = then-some link_of (array_of value) link.0 link.1 in
    let rest = links-only (found ++ link.0 ∷ []) values links link.2 in
    (link.0 ∷ rest.0, rest.1 ∙ append_assoc found (link.0 ∷ []) rest.0, (array-only value parts.0 parts.1 ∙ link-only parts.0 link.0 parts.2, rest.2))

kinds-one : (left right : Kind) → same_kind left right ≡ true → right ≡ left
kinds-one Int Int e = refl
kinds-one Text Text e = refl
kinds-one left right e = cc e

link-written : (header : HeaderOf) (link : WrittenLink) (places : ℕ × ℕ) (value : Data) → joined_link header link.left link.right ≡ Ok places → IsOfLink link value → IsLinkWritten header.columns places value
link-written header link places value e form =
    let first = gone_on (linked_cell header link.left) _ places e in
    let second = gone_on (linked_cell header link.right) _ places first.2 in
    let test = checked-ok (same_kind first.0.kind second.0.kind) (unfit header) (first.0.place, second.0.place) places second.2 in
    let l = cell-stands header.columns link.left first.0 (some_from_ok (cell_of header.columns link.left) (unfit header) first.0 first.1) in
    let r = cell-stands header.columns link.right second.0 (some_from_ok (cell_of header.columns link.right) (unfit header) second.0 second.1) in
    moved header.columns (first.0.place, second.0.place) places value test.1
    (made header.columns link first.0 second.0 value form l r (kinds-one first.0.kind second.0.kind test.0))
  where
    moved : (columns : List NamedKind) (own other : ℕ × ℕ) (value : Data) → own ≡ other → IsLinkWritten columns own value → IsLinkWritten columns other value
    moved columns own other value same is = rw (← same) is

    made : (columns : List NamedKind) (link : WrittenLink) (first second : Cell) (value : Data) → IsOfLink link value
        → slice_get columns first.place ≡ Some (record { name = link.left; kind = first.kind })
        → slice_get columns second.place ≡ Some (record { name = link.right; kind = second.kind })
        → second.kind ≡ first.kind → IsLinkWritten columns (first.place, second.place) value
    made columns link first second value form l r same = (first.kind, string link.left, string link.right, form, (link.left, l, refl), (link.right, rw same at r, refl))

joined-written : (header : HeaderOf) (found : List (ℕ × ℕ)) (links : List WrittenLink) (values : List Data) (join : List (ℕ × ℕ)) → joined header found links ≡ Ok join → AreOfLinks links values
    → (more : List (ℕ × ℕ)) × (join ≡ found ++ more) × AreLinksWritten header.columns more values
joined-written header found [] [] join e are = let same : found ≡ join = cc in ([], sym same ∙ sym (append-nil found), tt)
joined-written header found [] (value ∷ values) join e are = absurd are
joined-written header found (link ∷ links) [] join e are = absurd are
joined-written header found (link ∷ links) (value ∷ values) join e are =
    let own = gone_on (joined_link header link.left link.right) _ join e in
    let rest = joined-written header (found ++ own.0 ∷ []) links values join own.2 are.1 in
    (own.0 ∷ rest.0, rest.1 ∙ append_assoc found (own.0 ∷ []) rest.0, (link-written header link own.0 value own.1 are.0, rest.2))

along : (links known more : List WrittenLink) (values : List Data) → links ≡ [] ++ more → links ≡ known → AreOfLinks more values → AreOfLinks known values
along links known more values e f is = rw (← f, e) is

back : (columns : List NamedKind) (join more : List (ℕ × ℕ)) (values : List Data) → join ≡ [] ++ more → AreLinksWritten columns more values → AreLinksWritten columns join values
back columns join more values e is = rw e is

pub read-joins-are-written : ReadJoinsAreWritten
read-joins-are-written header entry join = by (get (codes "join") entry)
  where
    by : (o : Option Data) → (links_written o >>= (λ links. unless_unknown (unknown_in_links header.columns links) links >>= (λ known. joined header [] known))) ≡ Ok join
        → IsJoinWritten header.columns join o
    by None e = let same : [] ≡ join = cc in sym same
    by (Some value) e =
        let links = gone_on (links_written (Some value)) _ join e in
        let known = gone_on (unless_unknown (unknown_in_links header.columns links.0) links.0) _ join links.2 in
        let values = then-some (links_in []) (array_of value) links.0 (some_from_ok (option_and_then (links_in []) (array_of value)) (fault.Key key.Join) links.0 links.1) in
        let are = links-only [] values.0 links.0 values.2 in
        let same = unless-ok (unknown_in_links header.columns links.0) links.0 known.0 known.1 in
        let written = joined-written header [] known.0 values.0 join known.2 (along links.0 known.0 are.0 values.0 are.1 same are.2) in
        (values.0, array-only value values.0 values.1, back header.columns join written.0 values.0 written.1 written.2)
