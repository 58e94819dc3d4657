-- What is read of a catalogue's text are the definitions of a catalogue over its shape.
use Rattle.std.proofs.Common.{◌≡◌, ℕ, zero, suc, ◌<◌, ◌≤◌, ◌+◌, ◌==◌, ◌||◌, Bool, true, false, not, List, [], ◌∷◌, ◌++◌, length, map, get_or, take, Option, Some, None, ok_or, option_map, Result, Ok, Err, ◌⊎◌, inl, inr, refl, ap, sym, subst, ◌∙◌, arith, add-zero, append_assoc, length-append, All}
use Rattle.std.specs.Prelude.{codes, is_some}
use Rattle.std.specs.Option.{option_transpose}
use Rattle.std.specs.Prelude.{slice_get}
use Rattle.std.specs.List.{flat_map}
use Rattle.std.proofs.Math.ListN.{get_or-map}
use Rattle.std.proofs.lemmas.Bool.{eq-eqb}
use Rattle.std.proofs.lemmas.List.{append-nil, get_or-take, get_or_past, length-map, take-map}
use Rattle.std.proofs.lemmas.List.Elements.{All-append, All-cons, All-nil}
use Rattle.toml.specs.Data.{Data, Members, get}
use Rattle.wh_dag.specs.Catalog.{DefinitionOf, IsDefinition, columns, definition_of, is_empty, total_width, width_of}
use Rattle.wh_dag.specs.Fault.{first_fault}
use Rattle.wh_dag.specs.Shape.{IsShape, Views, children_of, has}
use Rattle.wh_dag.specs.Written.{children_written, name_of}
use Rattle.wh_dag.specs.declared.fault.ShapeFault.{ShapeFault}
use Rattle.wh_dag.proofs.Faultless.{well_formed}
use Rattle.wh_text.specs.Columns.{NamedKind}
use Rattle.wh_text.specs.declared.fault.Key.TheVariants as key
use Rattle.wh_text.specs.declared.fault.LoadFault.{LoadFault}
use Rattle.wh_text.specs.declared.fault.LoadFault.TheVariants as fault
use Rattle.wh_text.specs.ValueOrFault.{◌>>=◌}
use Rattle.wh_text_catalogue.specs.Catalogue.{WrittenViews, document_of, judged, named, over_in, shape_of, shape_written, view_over, views_of, written_views}
use Rattle.wh_text_catalogue.specs.ColumnNames.{unless_unknown}
use Rattle.wh_text_catalogue.specs.Definitions.{ViewOf, base_view, child_columns, columns_of, definitions_of, derived_view, header_of, next_view, qualified, view_at, views_after}
use Rattle.wh_text_catalogue.specs.BaseColumns.{base_columns}
use Rattle.wh_text_catalogue.specs.Filter.{filter_of}
use Rattle.wh_text_catalogue.specs.FormulaKinds.{Texts, unfit}
use Rattle.wh_text_catalogue.specs.Header.{HeaderOf, cell_of}
use Rattle.wh_text_catalogue.specs.Join.{WrittenLink, join_of, joined, joined_link, linked_cell, links_written, same_kind, unknown_in_links}
use Rattle.wh_text_catalogue.specs.Output.{output_of}
use Rattle.wh_text_catalogue.specs.ReadCatalog.{AreDefinitions, DefinitionsFit, catalog_of}
use Rattle.wh_text_catalogue.specs.declared.definitions.header.Cell.{Cell}
use Rattle.wh_text_catalogue.proofs.CatalogueLengths.{shape_of-length}
use Rattle.wh_text_catalogue.proofs.CatalogueNames.{gone_on, some_from_ok}
use Rattle.wh_text_catalogue.proofs.ColumnsNamed.{AreColumns, base-columns}
use Rattle.wh_text_catalogue.proofs.FormulasFit.{checked-ok, filter-fits, place-within}
use Rattle.wh_text_catalogue.proofs.OutputsFit.{first-of, output-within}
use Rattle.wh_text_catalogue.proofs.ShapesRead.{is_shape, same_Ok, same_length}

-- Joins.

-- both places lie in a row of this width
abbrev pub BothWithin : ℕ → ℕ × ℕ → Type 0
BothWithin width pair = (pair.0 < width) × (pair.1 < width)

linked-within : (header : HeaderOf) (reference : List ℕ) (cell : Cell) → linked_cell header reference ≡ Ok cell → cell.place < length header.columns
linked-within header reference cell e = place-within header.columns reference cell (some_from_ok (cell_of header.columns reference) (unfit header) cell e)

link-within : (header : HeaderOf) (left right : List ℕ) (places : ℕ × ℕ) → joined_link header left right ≡ Ok places → BothWithin (length header.columns) places
link-within header left right places e =
    let first = gone_on (linked_cell header left) _ places e in
    let second = gone_on (linked_cell header right) _ places first.2 in
    let test = checked-ok (same_kind first.0.kind second.0.kind) (unfit header) (first.0.place, second.0.place) places second.2 in
    subst (BothWithin (length header.columns)) test.1 (linked-within header left first.0 first.1, linked-within header right second.0 second.1)

joined-within : (header : HeaderOf) (found : List (ℕ × ℕ)) (links : List WrittenLink) (join : List (ℕ × ℕ)) → All (BothWithin (length header.columns)) found
    → joined header found links ≡ Ok join → All (BothWithin (length header.columns)) join
joined-within header found [] join within e = let same : found ≡ join = cc in rw (← same) within
joined-within header found (link ∷ rest) join within e =
    let places = gone_on (joined_link header link.left link.right) _ join e in
    let own = link-within header link.left link.right places.0 places.1 in
    joined-within header (found ++ places.0 ∷ []) rest join
    (All-append (BothWithin (length header.columns)) found (places.0 ∷ []) within (All-cons (BothWithin (length header.columns)) places.0 [] own (All-nil (BothWithin (length header.columns))))) places.2

join-within : (header : HeaderOf) (view : Data) (join : List (ℕ × ℕ)) → join_of header view ≡ Ok join → All (BothWithin (length header.columns)) join
join-within header view join e =
    let links = gone_on (links_written (get (codes "join") view)) _ join e in
    let known = gone_on (unless_unknown (unknown_in_links header.columns links.0) links.0) _ join links.2 in
    joined-within header [] known.0 join (All-nil (BothWithin (length header.columns))) known.2

-- One view.

-- a definition over rows of this width, of a view of these columns
pub record Defines (width : ℕ) (own : List NamedKind) (definition : DefinitionOf) : Type 0 where
  pub each : length own ≡ columns definition.output
  pub wide : definition.width ≡ width
  pub within : IsDefinition definition

-- the columns of a view, and its definition, if it is derived
pub record IsView (derived : Bool) (width : ℕ) (own : ViewOf) : Type 0 where
  pub columns : AreColumns own.columns
  pub is_derived : is_some own.definition ≡ derived
  pub defined : (definition : DefinitionOf) → own.definition ≡ Some definition → Defines width own.columns definition

base-is : (entry : Data) (texts : Texts) (width : ℕ) (own : ViewOf) (after : Texts) → base_view entry texts ≡ Ok (own, after) → IsView false width own
base-is entry texts width own after e =
    let found = gone_on (base_columns entry) _ (own, after) e in
    let same = first-of {A = ViewOf} {B = Texts} (record { columns = found.0; definition = None }, texts) own after _ refl found.2 in
    subst (IsView false width) same (record { columns = base-columns entry found.0 found.1; is_derived = refl; defined = λ d is. cc })

derived-is : (header : HeaderOf) (entry : Data) (texts : Texts) (own : ViewOf) (after : Texts) → derived_view header entry texts ≡ Ok (own, after) → IsView true (length header.columns) own
derived-is header entry texts own after e =
    let join = gone_on (join_of header entry) _ (own, after) e in
    let filter = gone_on (filter_of header entry texts) _ (own, after) join.2 in
    let output = gone_on (output_of header entry filter.0.1) _ (own, after) filter.2 in
    let is = output-within header entry filter.0.1 output.0.0 output.0.1 output.1 in
    let made : DefinitionOf = record { width = length header.columns; join = join.0; filter = filter.0.0; output = output.0.0.output } in
    let same = first-of {A = ViewOf} {B = Texts} (record { columns = output.0.0.columns; definition = Some made }, output.0.1) own after _ refl output.2 in
    let own-is : Defines (length header.columns) output.0.0.columns made = record {
      each = is.each;
      wide = refl;
      within = record { join = join-within header entry join.0 join.1; filter = filter-fits header entry texts filter.0.0 filter.0.1 filter.1; output = is.within };
    } in
    subst (IsView true (length header.columns)) same (record {
      columns = is.columns;
      is_derived = refl;
      defined = λ d e. let eq : made ≡ d = cc in subst (Defines (length header.columns) output.0.0.columns) eq own-is;
    })

-- how many columns each view has
abbrev pub widths_of : List ViewOf → List ℕ
widths_of views = map (λ (view : ViewOf). length view.columns) views

-- a combined row has the columns of the children
pub header-width : (names : List (List ℕ)) (views : List ViewOf) (children : List ℕ) → length (flat_map (child_columns names views) children) ≡ total_width (widths_of views) children
header-width names views [] = refl
header-width names views (child ∷ rest) =
    length-append (child_columns names views child) (flat_map (child_columns names views) rest)
    ∙ ap (λ n. n + length (flat_map (child_columns names views) rest)) (length-map (columns_of views child) (qualified (name_of names child)))
    ∙ ap (λ n. n + length (flat_map (child_columns names views) rest)) (sym (get_or-map (λ (view : ViewOf). length view.columns) views child (record { columns = []; definition = None })))
    ∙ ap (λ n. get_or (widths_of views) child 0 + n) (header-width names views rest)

-- the view after these, over these children
abbrev pub IsNext : List ViewOf → List ℕ → ViewOf → Type 0
IsNext found children own = IsView (not (is_empty children)) (total_width (widths_of found) children) own

next-is : (shape : Views) (found : List ViewOf) (entry : Data) (texts : Texts) (own : ViewOf) (after : Texts) → is_some (get (codes "over") entry) ≡ not (is_empty (children_of shape.children (length found)))
    → next_view shape found entry texts ≡ Ok (own, after) → IsNext found (children_of shape.children (length found)) own
next-is shape found entry texts own after tied = by (get (codes "over") entry) tied
  where
    by : (over : Option Data) → is_some over ≡ not (is_empty (children_of shape.children (length found))) → view_at shape found over entry texts ≡ Ok (own, after)
        → IsNext found (children_of shape.children (length found)) own
    by None base e = rw (← base) (base-is entry texts (total_width (widths_of found) (children_of shape.children (length found))) own after e)
    by (Some over) derived e =
        rw (← derived, ← header-width shape.names found (children_of shape.children (length found))) (derived-is (header_of shape found (length found)) entry texts own after e)

-- All views.

-- each table has `over` exactly where the view is over others
Tied : List Data → List (List ℕ) → Type 0
Tied [] [] = Unit {0}
Tied [] (children ∷ lists) = ⊥
Tied (entry ∷ rest) [] = ⊥
Tied (entry ∷ rest) (children ∷ lists) = (is_some (get (codes "over") entry) ≡ not (is_empty children)) × Tied rest lists

-- each view is the one after those before it
abbrev pub Steps : Views → List ViewOf → List ViewOf → Type 0
Steps shape found [] = Unit {0}
Steps shape found (own ∷ rest) = IsNext found (children_of shape.children (length found)) own × Steps shape (found ++ own ∷ []) rest

-- the views that were read after those found
record IsReadAfter (shape : Views) (found : List ViewOf) (tables : List Data) (views : List ViewOf) : Type 0 where
  pub more : List ViewOf
  pub parts : views ≡ found ++ more
  pub steps : Steps shape found more
  pub each : length more ≡ length tables

read-after : (shape : Views) (found : List ViewOf) (tables : List Data) (lists : List (List ℕ)) (texts : Texts) (views : List ViewOf) (after : Texts)
    → ((k : ℕ) → children_of shape.children (length found + k) ≡ children_of lists k) → Tied tables lists → views_after shape found tables texts ≡ Ok (views, after) → IsReadAfter shape found tables views
unfolding Tied children_of
read-after shape found [] lists texts views after here tied e =
    let same = first-of {A = List ViewOf} {B = Texts} (found, texts) views after _ refl e in
    record { more = []; parts = sym same ∙ sym (append-nil found); steps = tt; each = refl }
read-after shape found (entry ∷ rest) [] texts views after here tied e = absurd tied
read-after shape found (entry ∷ rest) (children ∷ lists) texts views after here tied e =
    let own = gone_on (next_view shape found entry texts) _ (views, after) e in
    let own-children : children_of shape.children (length found) ≡ children = ap (children_of shape.children) (sym (add-zero (length found))) ∙ here 0 in
    let one = length-append found (own.0.0 ∷ []) in
    let later : (k : ℕ) → children_of shape.children (length (found ++ own.0.0 ∷ []) + k) ≡ children_of lists k =
    λ k. (let moved : length (found ++ own.0.0 ∷ []) + k ≡ length found + suc k = omega arith in ap (children_of shape.children) moved) ∙ here (suc k) in
    let more = read-after shape (found ++ own.0.0 ∷ []) rest lists own.0.1 views after later tied.1 own.2 in
    let first = next-is shape found entry texts own.0.0 own.0.1 (tied.0 ∙ ap (λ (c : List ℕ). not (is_empty c)) (sym own-children)) own.1 in
    record {
      more = own.0.0 ∷ more.more;
      parts = more.parts ∙ append_assoc found (own.0.0 ∷ []) more.more;
      steps = (first, more.steps);
      each = ap suc more.each;
    }

-- the view of each number
step-at : (shape : Views) (found more : List ViewOf) → Steps shape found more → (k : ℕ) (d : ViewOf) → k < length more
    → IsNext (found ++ take k more) (children_of shape.children (length found + k)) (get_or more k d)
step-at shape found [] steps k d l = absurd (omega arith)
step-at shape found (own ∷ rest) steps zero d l = rw (append-nil found, add-zero (length found)) steps.0
step-at shape found (own ∷ rest) steps (suc k) d l =
    let one = length-append found (own ∷ []) in
    let moved : length (found ++ own ∷ []) + k ≡ length found + suc k = omega arith in
    subst (λ (n : ℕ). IsNext (found ++ own ∷ take k rest) (children_of shape.children n) (get_or rest k d)) moved
    (subst (λ (before : List ViewOf). IsNext before (children_of shape.children (length (found ++ own ∷ []) + k)) (get_or rest k d)) (append_assoc found (own ∷ []) (take k rest))
    (step-at shape (found ++ own ∷ []) rest steps.1 k d (omega arith)))

-- the widths of the views below are all that their total asks
total-below : (widths : List ℕ) (k : ℕ) (children : List ℕ) → ((u : ℕ) → has children u ≡ true → u < k) → total_width (take k widths) children ≡ total_width widths children
unfolding has
total-below widths k [] below = refl
total-below widths k (child ∷ rest) below =
    let own = below child (rw (eq-eqb child child refl) refl) in
    ap (λ n. n + total_width (take k widths) rest) (get_or-take k widths child 0 own)
    ∙ ap (λ n. get_or widths child 0 + n) (total-below widths k rest (λ u h. below u (either (child == u) (has rest u) h)))
  where
    either : (a b : Bool) → b ≡ true → (a || b) ≡ true
    either true b h = refl
    either false b h = h

-- Tables and shapes.

not-empty : (names children : List (List ℕ)) → 1 ≤ length children → true ≡ not (is_empty (children_written names (Some children)))
not-empty names [] l = absurd (omega arith)
not-empty names (c ∷ cs) l = refl

over-tied : (names : List (List ℕ)) (value : Option Data) (over : Option (List (List ℕ))) → option_transpose (option_map over_in value) ≡ Ok over
    → ((children : List (List ℕ)) → over ≡ Some children → 1 ≤ length children) → is_some value ≡ not (is_empty (children_written names over))
over-tied names None over e some = let same : None ≡ over = cc in rw (← same) refl
over-tied names (Some value) over e some = by (over_in value) e some
  where
    by : (r : Result (List (List ℕ)) LoadFault) → option_transpose (Some r) ≡ Ok over
        → ((children : List (List ℕ)) → over ≡ Some children → 1 ≤ length children) → true ≡ not (is_empty (children_written names over))
    by (Err f) e some = cc e
    by (Ok children) e some = let same : Some children ≡ over = cc in rw (← same) (not-empty names children (some children (sym same)))

views-tied : (names : List (List ℕ)) (values : List Data) (views : WrittenViews) → written_views values ≡ Ok views
    → ((view : ℕ) (children : List (List ℕ)) → slice_get views.over view ≡ Some (Some children) → 1 ≤ length children) → Tied values (map (children_written names) views.over)
unfolding Tied
views-tied names [] views e some = let none : record { names = []; over = [] } ≡ views = cc in rw (← none) tt
views-tied names (value ∷ rest) views e some =
    let name = gone_on (named value) _ views e in
    let over = gone_on (view_over value) _ views name.2 in
    let others = gone_on (written_views rest) _ views over.2 in
    let whole : record { names = name.0 ∷ others.0.names; over = over.0 ∷ others.0.over } ≡ views = same_Ok (Ok (record { names = name.0 ∷ others.0.names; over = over.0 ∷ others.0.over })) (record { names = name.0 ∷ others.0.names; over = over.0 ∷ others.0.over }) views refl others.2 in
    let some : (view : ℕ) (children : List (List ℕ)) → slice_get (over.0 ∷ others.0.over) view ≡ Some (Some children) → 1 ≤ length children =
    subst (λ (v : WrittenViews). (view : ℕ) (children : List (List ℕ)) → slice_get v.over view ≡ Some (Some children) → 1 ≤ length children) (sym whole) some in
    subst (λ (v : WrittenViews). Tied (value ∷ rest) (map (children_written names) v.over)) whole (
      over-tied names (get (codes "over") value) over.0 over.1 (λ children is. some 0 children (ap Some is)),
      views-tied names rest others.0 others.1 (λ view children is. some (suc view) children is),
    )

judged-tied : (values : List Data) (views : WrittenViews) (o : Option ShapeFault) (shape : Views) → o ≡ first_fault views.names views.over → written_views values ≡ Ok views
    → judged views o ≡ Ok shape → Tied values shape.children
judged-tied values views None shape is read e =
    let made : record { names = views.names; children = map (children_written views.names) views.over } ≡ shape = cc in
    let formed = well_formed views.names views.over (same_length values views read) (sym is) in
    subst (λ (s : Views). Tied values s.children) made (views-tied views.names values views read formed.some_children)
judged-tied values views (Some f) shape is read e = cc e

tables-tied : (text : List ℕ) (shape : Views) (document : Members) (tables : List Data) → shape_of text ≡ Ok shape → document_of text ≡ Ok document → views_of document ≡ Some tables → Tied tables shape.children
tables-tied text shape document tables same read found =
    let rest : (written_views tables >>= shape_written) ≡ Ok shape = rw (read, found) at same in
    let views = gone_on (written_views tables) shape_written shape rest in
    judged-tied tables views.0 (first_fault views.0.names views.0.over) shape refl views.1 views.2

-- The catalogue.

in-or-past : (k n : ℕ) → (k < n) ⊎ (n ≤ k)
in-or-past k zero = inr (omega arith)
in-or-past zero (suc n) = inl (omega arith)
in-or-past (suc k) (suc n) = elim (in-or-past k n) [ inl below ↦ inl (omega arith) | inr past ↦ inr (omega arith) ]

-- where no view stands
abbrev no_view : ViewOf
no_view = record { columns = []; definition = None }

-- the views of a shape, each after those before it
record AreViews (shape : Views) (views : List ViewOf) : Type 0 where
  pub formed : IsShape shape.children
  pub each : length views ≡ length shape.children
  pub steps : (k : ℕ) (d : ViewOf) → k < length views → IsNext (take k views) (children_of shape.children k) (get_or views k d)

are-views : (text : List ℕ) (shape : Views) (texts after : Texts) (views : List ViewOf) → shape_of text ≡ Ok shape → definitions_of shape text texts ≡ Ok (views, after) → AreViews shape views
are-views text shape texts after views is e =
    let document = gone_on (document_of text) _ (views, after) e in
    let tables = gone_on (ok_or (views_of document.0) (fault.Key key.View)) _ (views, after) document.2 in
    let found = some_from_ok (views_of document.0) (fault.Key key.View) tables.0 tables.1 in
    let tied = tables-tied text shape document.0 tables.0 is document.1 found in
    let read = read-after shape [] tables.0 shape.children texts views after (λ k. (let same : 0 + k ≡ k = omega arith in ap (children_of shape.children) same)) tied tables.2 in
    subst (AreViews shape) (sym read.parts) (record {
      formed = is_shape text shape is;
      each = read.each ∙ shape_of-length text shape document.0 tables.0 is document.1 found;
      steps = λ k d l. (let same : 0 + k ≡ k = omega arith in
          subst (λ (n : ℕ). IsNext (take k read.more) (children_of shape.children n) (get_or read.more k d)) same (step-at shape [] read.more read.steps k d l));
    })

definition-at : (shape : Views) (views : List ViewOf) (view : ℕ) → definition_of (catalog_of shape views) view ≡ (get_or views view no_view).definition
definition-at shape views view = get_or-map (λ (v : ViewOf). v.definition) views view no_view

width-at : (shape : Views) (views : List ViewOf) (view : ℕ) → width_of (catalog_of shape views) view ≡ length (get_or views view no_view).columns
width-at shape views view = get_or-map (λ (v : ViewOf). length v.columns) views view no_view

-- a definition is that of a view
defined-at : (shape : Views) (views : List ViewOf) → AreViews shape views → (view : ℕ) (definition : DefinitionOf) → definition_of (catalog_of shape views) view ≡ Some definition
    → Defines (total_width (widths_of views) (children_of shape.children view)) (get_or views view no_view).columns definition
defined-at shape views are view definition e = by (in-or-past view (length views))
  where
    by : (view < length views) ⊎ (length views ≤ view) → Defines (total_width (widths_of views) (children_of shape.children view)) (get_or views view no_view).columns definition
    by (inr past) =
        let none : None ≡ Some definition = sym (ap (λ (v : ViewOf). v.definition) (get_or_past views view no_view past)) ∙ sym (definition-at shape views view) ∙ e in
        cc
    by (inl below) =
        let total : total_width (widths_of (take view views)) (children_of shape.children view) ≡ total_width (widths_of views) (children_of shape.children view) =
        ap (λ (ws : List ℕ). total_width ws (children_of shape.children view)) (sym (take-map (λ (v : ViewOf). length v.columns) view views))
        ∙ total-below (widths_of views) view (children_of shape.children view) (are.formed.lower view) in
        subst (λ (n : ℕ). Defines n (get_or views view no_view).columns definition) total
        ((are.steps view no_view below).defined definition (sym (definition-at shape views view) ∙ e))

pub are-definitions : DefinitionsFit
are-definitions text shape texts after views is e =
    let are = are-views text shape texts after views is e in
    let below : (view : ℕ) → view < length shape.children → view < length views = λ view l. (let each = are.each in omega arith) in
    record {
      catalog = record {
        shape = are.formed;
        each_width = length-map views (λ (v : ViewOf). length v.columns) ∙ are.each;
        each_definition = length-map views (λ (v : ViewOf). v.definition) ∙ are.each;
        derived = λ view l. ap is_some (definition-at shape views view) ∙ (are.steps view no_view (below view l)).is_derived;
        some_columns = λ view l. rw (width-at shape views view) (are.steps view no_view (below view l)).columns.some;
        few_columns = λ view l. rw (width-at shape views view) (are.steps view no_view (below view l)).columns.few;
        defined_columns = λ view definition d. width-at shape views view ∙ (defined-at shape views are view definition d).each;
        combined = λ view definition d. (defined-at shape views are view definition d).wide;
        within = λ view definition d. (defined-at shape views are view definition d).within;
      };
      named = λ k d l. (are.steps k d l).columns.named;
    }

-- the same of what the steps of a reader answered
pub read-definitions : (text : List ℕ) (shape : Views) (texts after : Texts) (views : List ViewOf) (document : Members) (tables : List Data) → shape_of text ≡ Ok shape
    → document_of text ≡ Ok document → views_of document ≡ Some tables → views_after shape [] tables texts ≡ Ok (views, after) → AreDefinitions shape views
read-definitions text shape texts after views document tables is read found e =
    let given : definitions_of shape text texts ≡ Ok (views, after) = rw (read, found) e in
    are-definitions text shape texts after views is given
