-- The columns of a combined row stand each at its place under references, none of them twice.
use Rattle.std.proofs.Common.{◌≡◌, ◌≢◌, ℕ, zero, suc, ◌<◌, ◌≤◌, true, false, List, [], ◌∷◌, ◌++◌, length, map, get_or, take, Option, None, Some, Ok, ◌⊎◌, inl, inr, refl, ap, sym, subst, ◌∙◌, arith, All}
use Rattle.std.specs.Prelude.{◌+◌, ok_or, option_map, slice_get}
use Rattle.std.specs.List.{AllPairs, AllPass, flat_map, position_or_len}
use Rattle.std.proofs.lemmas.Bool.{both_ways}
use Rattle.std.proofs.lemmas.List.{append_cancel_left, get_or_past, length-map}
use Rattle.std.proofs.lemmas.List.Elements.{All-append, All-cons, All-nil}
use Rattle.std.proofs.lemmas.List.Concat.{flat_map-append}
use Rattle.std.proofs.lemmas.List.Kept.{AllPairs-cons}
use Rattle.std.proofs.lemmas.Option.{slice_get-map}
use Rattle.wh_dag.specs.Catalog.{total_width}
use Rattle.wh_dag.specs.Fault.{first_fault}
use Rattle.wh_dag.specs.Shape.{Distinct, Views, children_of, has}
use Rattle.wh_dag.specs.Written.{children_written, name_of}
use Rattle.wh_dag.specs.declared.fault.ShapeFault.{ShapeFault}
use Rattle.wh_dag.proofs.Faultless.{well_formed}
use Rattle.wh_dag.proofs.Members.{has-head, has-tail}
use Rattle.wh_text.specs.Columns.{AreNamed, NamedKind, names_of}
use Rattle.wh_text.specs.NameForm.{is_name}
use Rattle.wh_text.specs.declared.fault.Key.TheVariants as key
use Rattle.wh_text.specs.declared.fault.LoadFault.TheVariants as fault
use Rattle.wh_text_catalogue.specs.Catalogue.{WrittenViews, document_of, judged, views_of, written_views}
use Rattle.wh_text_catalogue.specs.Definitions.{ViewOf, child_columns, columns_of, qualified}
use Rattle.wh_text_catalogue.specs.Reference.{dot}
use Rattle.wh_text_catalogue.specs.WrittenHeader.{ColumnsStandInRows, ReadShapesAreNamed, RowsAreReferences}
use Rattle.wh_text_catalogue.specs.WrittenLaws.{IsReference}
use Rattle.wh_text_catalogue.proofs.CatalogueNames.{gone_on, shape_of-names}
use Rattle.wh_text_catalogue.proofs.DefinitionsFit.{header-width, widths_of}
use Rattle.wh_text_catalogue.proofs.OutputsFit.{names-more}
use Rattle.wh_text_catalogue.proofs.ShapesRead.{is_shape, same_length}
use Rattle.wh_text_catalogue.proofs.WrittenForms.{before-mark, is_mark, no-dot, slice_get-append}

-- the two texts differ
abbrev Differ : List ℕ → List ℕ → Type 0
Differ first second = first ≢ second

pairs-append : (xs ys : List (List ℕ)) → AllPairs Differ xs → AllPairs Differ ys → All (λ x. All (λ y. x ≢ y) ys) xs → AllPairs Differ (xs ++ ys)
pairs-append [] ys own other cross = other
pairs-append (x ∷ xs) ys own other cross =
    AllPairs-cons Differ x (xs ++ ys)
    (All-append (λ y. x ≢ y) xs ys (λ k d l. own 0 (suc k) d (omega arith) (omega arith)) (cross 0 [] (omega arith)))
    (pairs-append xs ys (λ i j d l m. own (suc i) (suc j) d (omega arith) (omega arith)) other (λ k d l. cross (suc k) d (omega arith)))

-- One child's columns.

-- the text is this child's reference to some column
record IsOfChild (child text : List ℕ) : Type 0 where
  pub column : List ℕ
  pub formed : is_name column ≡ true
  pub parts : text ≡ child ++ dot ∷ column

-- the names of a child's columns as its parents see them
abbrev seen_names : List ℕ → List NamedKind → List (List ℕ)
seen_names child own = names_of (map (qualified child) own)

child-parts : (child : List ℕ) (own : List NamedKind) → AllPass is_name (names_of own) → All (IsOfChild child) (seen_names child own)
child-parts child [] named = All-nil (IsOfChild child)
child-parts child (column ∷ own) named =
    All-cons (IsOfChild child) (child ++ dot ∷ column.name) (seen_names child own) (record { column = column.name; formed = named 0 [] (omega arith); parts = refl })
    (child-parts child own (λ k d l. named (suc k) d (omega arith)))

same-column : (child first second : List ℕ) → child ++ dot ∷ first ≡ child ++ dot ∷ second → first ≡ second
same-column child first second same = let rest : dot ∷ first ≡ dot ∷ second = append_cancel_left child (dot ∷ first) (dot ∷ second) same in cc

others-differ : (child name : List ℕ) (own : List NamedKind) → All (λ n. name ≢ n) (names_of own) → All (λ n. (child ++ dot ∷ name) ≢ n) (seen_names child own)
others-differ child name [] apart = All-nil (λ n. (child ++ dot ∷ name) ≢ n)
others-differ child name (column ∷ own) apart =
    All-cons (λ n. (child ++ dot ∷ name) ≢ n) (child ++ dot ∷ column.name) (seen_names child own) (λ same. apart 0 [] (omega arith) (same-column child name column.name same))
    (others-differ child name own (λ k d l. apart (suc k) d (omega arith)))

child-apart : (child : List ℕ) (own : List NamedKind) → AllPairs Differ (names_of own) → AllPairs Differ (seen_names child own)
child-apart child [] apart = λ i j d l m. absurd (omega arith)
child-apart child (column ∷ own) apart =
    AllPairs-cons Differ (child ++ dot ∷ column.name) (seen_names child own)
    (others-differ child column.name own (λ k d l. apart 0 (suc k) d (omega arith) (omega arith)))
    (child-apart child own (λ i j d l m. apart (suc i) (suc j) d (omega arith) (omega arith)))

-- Some children.

-- a name has no dot, so what stands before the first one is the child's name
same-child : (first second left right : List ℕ) → is_name first ≡ true → is_name second ≡ true → first ++ dot ∷ left ≡ second ++ dot ∷ right → first ≡ second
same-child first second left right first-formed second-formed same =
    sym (before-mark 46 no-dot first left first-formed) ∙ ap (λ text. take (position_or_len (is_mark 46) text) text) same ∙ before-mark 46 no-dot second right second-formed

-- of distinct names each stands at one place
one-place : (names : List (List ℕ)) (i j : ℕ) → AllPairs Differ names → i < length names → j < length names → get_or names i [] ≡ get_or names j [] → i ≡ j
one-place names i j apart l m same = by (order i j)
  where
    order : (a b : ℕ) → (a < b) ⊎ ((b < a) ⊎ (a ≡ b))
    order zero zero = inr (inr refl)
    order zero (suc b) = inl (omega arith)
    order (suc a) zero = inr (inl (omega arith))
    order (suc a) (suc b) = elim (order a b) [
      | inl below ↦ inl (omega arith)
      | inr other ↦ elim other [ inl above ↦ inr (inl (omega arith)) | inr equal ↦ inr (inr (ap suc equal)) ]
    ]

    by : (i < j) ⊎ ((j < i) ⊎ (i ≡ j)) → i ≡ j
    by (inl below) = absurd (apart i j [] below m same)
    by (inr (inl above)) = absurd (apart j i [] above l (sym same))
    by (inr (inr equal)) = equal

-- the children are views of these names
abbrev AreViewsOf : List (List ℕ) → List ℕ → Type 0
AreViewsOf names children = (u : ℕ) → has children u ≡ true → u < length names

-- the text is a reference to one of the children
record IsOfSome (names : List (List ℕ)) (children : List ℕ) (text : List ℕ) : Type 0 where
  pub child : ℕ
  pub is : has children child ≡ true
  pub of : IsOfChild (name_of names child) text

columns-named : (views : List ViewOf) (u : ℕ) → All (λ own. AreNamed own.columns) views → AreNamed (columns_of views u)
columns-named views u named = by (in-or-past u (length views))
  where
    in-or-past : (k n : ℕ) → (k < n) ⊎ (n ≤ k)
    in-or-past k zero = inr (omega arith)
    in-or-past zero (suc n) = inl (omega arith)
    in-or-past (suc k) (suc n) = elim (in-or-past k n) [ inl below ↦ inl (omega arith) | inr past ↦ inr (omega arith) ]

    none : AreNamed []
    none = record { formed = λ k d l. absurd (omega arith); distinct = λ i j d l m. absurd (omega arith) }

    by : (u < length views) ⊎ (length views ≤ u) → AreNamed (columns_of views u)
    by (inl below) = named u (record { columns = []; definition = None }) below
    by (inr past) = subst (λ (own : ViewOf). AreNamed own.columns) (sym (get_or_past views u (record { columns = []; definition = None }) past)) none

-- the names of the combined row of these children
abbrev row_names : List (List ℕ) → List ViewOf → List ℕ → List (List ℕ)
row_names names views children = names_of (flat_map (child_columns names views) children)

row-cons : (names : List (List ℕ)) (views : List ViewOf) (child : ℕ) (children : List ℕ)
    → row_names names views (child ∷ children) ≡ seen_names (name_of names child) (columns_of views child) ++ row_names names views children
row-cons names views child children = names-more (child_columns names views child) (flat_map (child_columns names views) children)

of-some : (names : List (List ℕ)) (child : ℕ) (children : List ℕ) (texts : List (List ℕ)) → All (IsOfChild (name_of names child)) texts → All (IsOfSome names (child ∷ children)) texts
of-some names child children texts are = λ k d l. record { child = child; is = has-head child children; of = are k d l }

of-more : (names : List (List ℕ)) (child : ℕ) (children : List ℕ) (text : List ℕ) → IsOfSome names children text → IsOfSome names (child ∷ children) text
of-more names child children text is = record { child = is.child; is = has-tail child is.child children is.is; of = is.of }

row-parts : (names : List (List ℕ)) (views : List ViewOf) (children : List ℕ) → All (λ own. AreNamed own.columns) views → All (IsOfSome names children) (row_names names views children)
row-parts names views [] named = All-nil (IsOfSome names [])
row-parts names views (child ∷ children) named =
    rw (row-cons names views child children)
    (All-append (IsOfSome names (child ∷ children)) (seen_names (name_of names child) (columns_of views child)) (row_names names views children)
    (of-some names child children (seen_names (name_of names child) (columns_of views child)) (child-parts (name_of names child) (columns_of views child) (columns-named views child named).formed))
    (λ k d l. of-more names child children (get_or (row_names names views children) k d) (row-parts names views children named k d l)))

-- references of two children differ
children-differ : (names : List (List ℕ)) (child : ℕ) (children : List ℕ) (first second : List ℕ) → AllPass is_name names → AllPairs Differ names → AreViewsOf names (child ∷ children)
    → has children child ≡ false → IsOfChild (name_of names child) first → IsOfSome names children second → first ≢ second
children-differ names child children first second formed apart within new is other same =
    let own-in = within child (has-head child children) in
    let other-in = within other.child (has-tail child other.child children other.is) in
    let names-same = same-child (name_of names child) (name_of names other.child) is.column other.of.column (formed child [] own-in) (formed other.child [] other-in) (sym is.parts ∙ same ∙ other.of.parts) in
    let views-same = one-place names child other.child apart own-in other-in names-same in
    both_ways (has children child) new (rw views-same other.is)

row-apart : (names : List (List ℕ)) (views : List ViewOf) (children : List ℕ) → AllPass is_name names → AllPairs Differ names → AreViewsOf names children → Distinct children
    → All (λ own. AreNamed own.columns) views → AllPairs Differ (row_names names views children)
unfolding Distinct
row-apart names views [] formed apart within distinct named = λ i j d l m. absurd (omega arith)
row-apart names views (child ∷ children) formed apart within distinct named =
    let own = seen_names (name_of names child) (columns_of views child) in
    let rest = row_names names views children in
    let are-named = columns-named views child named in
    let parts = child-parts (name_of names child) (columns_of views child) are-named.formed in
    let later = row-parts names views children named in
    rw (row-cons names views child children)
    (pairs-append own rest (child-apart (name_of names child) (columns_of views child) are-named.distinct)
    (row-apart names views children formed apart (λ u is. within u (has-tail child u children is)) distinct.1 named)
    (λ i d l j e m. children-differ names child children (get_or own i d) (get_or rest j e) formed apart within distinct.0 (parts i d l) (later j e m)))

-- The laws.

reference-of : (names : List (List ℕ)) (children : List ℕ) (text : List ℕ) → AllPass is_name names → AreViewsOf names children → IsOfSome names children text → IsReference text
reference-of names children text formed within is = record {
  child = name_of names is.child;
  column = is.of.column;
  child_formed = formed is.child [] (within is.child is.is);
  column_formed = is.of.formed;
  parts = is.of.parts;
}

-- only a view of the shape has children
none-past : (lists : List (List ℕ)) (view u : ℕ) → has (children_of lists view) u ≡ true → view < length lists
unfolding has children_of
none-past [] view u is = cc is
none-past (children ∷ lists) zero u is = omega arith
none-past (children ∷ lists) (suc view) u is = let below = none-past lists view u is in omega arith

pub rows-are-references : RowsAreReferences
rows-are-references shape views view is named =
    let children = children_of shape.children view in
    let within : AreViewsOf shape.names children =
    λ u has-it. (let below = is.formed.lower view u has-it in let own = none-past shape.children view u has-it in let each = is.each in omega arith) in
    let parts = row-parts shape.names views children named in
    record {
      formed = λ k d l. reference-of shape.names children (get_or (row_names shape.names views children) k d) is.names within (parts k d l);
      distinct = row-apart shape.names views children is.names is.distinct within (is.formed.distinct view) named;
    }

-- the names of a shape that is read are distinct, and as many as its lists
record AreNames (shape : Views) : Type 0 where
  pub each : length shape.names ≡ length shape.children
  pub distinct : AllPairs Differ shape.names

judged-names : (views : WrittenViews) (o : Option ShapeFault) (shape : Views) → o ≡ first_fault views.names views.over → length views.names ≡ length views.over → judged views o ≡ Ok shape → AreNames shape
judged-names views None shape is each e =
    let made : record { names = views.names; children = map (children_written views.names) views.over } ≡ shape = cc in
    rw (← made) (record { each = each ∙ sym (length-map views.over (children_written views.names)); distinct = (well_formed views.names views.over each (sym is)).names_distinct })
judged-names views (Some f) shape is each e = cc e

pub read-shapes-are-named : ReadShapesAreNamed
read-shapes-are-named text shape e =
    let document = gone_on (document_of text) _ shape e in
    let tables = gone_on (ok_or (views_of document.0) (fault.Key key.View)) _ shape document.2 in
    let views = gone_on (written_views tables.0) _ shape tables.2 in
    let are = judged-names views.0 (first_fault views.0.names views.0.over) shape refl (same_length tables.0 views.0 views.1) views.2 in
    record { formed = is_shape text shape e; each = are.each; names = shape_of-names text shape e; distinct = are.distinct }

slice-behind : (front more : List NamedKind) (n : ℕ) → slice_get (front ++ more) (length front + n) ≡ slice_get more n
slice-behind [] more n = let none : 0 + n ≡ n = omega arith in ap (slice_get more) none
slice-behind (x ∷ front) more n =
    let one : length (x ∷ front) + n ≡ suc (length front + n) = omega arith in
    ap (slice_get (x ∷ front ++ more)) one ∙ slice-behind front more n

pub columns-stand-in-rows : ColumnsStandInRows
columns-stand-in-rows shape views view before child later place column are at =
    let row = child_columns shape.names views in
    let own : slice_get (row child) place ≡ Some (qualified (name_of shape.names child) column) =
    slice_get-map (qualified (name_of shape.names child)) (columns_of views child) place ∙ ap (option_map (qualified (name_of shape.names child))) at in
    ap (λ children. slice_get (flat_map row children) (total_width (widths_of views) before + place)) are
    ∙ ap (λ columns. slice_get columns (total_width (widths_of views) before + place)) (flat_map-append row before (child ∷ later))
    ∙ ap (λ n. slice_get (flat_map row before ++ (row child ++ flat_map row later)) (n + place)) (sym (header-width shape.names views before))
    ∙ slice-behind (flat_map row before) (row child ++ flat_map row later) place
    ∙ slice_get-append (row child) (flat_map row later) place (qualified (name_of shape.names child) column) own
