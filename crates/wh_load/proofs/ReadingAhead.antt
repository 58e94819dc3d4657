-- Rows that were read ahead of the dictionary.
use Rattle.std.proofs.Common.{◌≡◌, ◌<◌, ◌+◌, ◌∙◌, ℕ, suc, List, [], ◌∷◌, ◌++◌, ◌⊎◌, inl, inr, length, map, drop, get_or, ◌-◌, length-append, Option, Some, None, IfSome, All, refl, sym, ap, subst, arith, slice_get}
use Rattle.std.specs.Prelude.{Result, Ok, Err, option_map, option_to_list}
use Rattle.std.specs.List.{AllZip}
use Rattle.std.proofs.Math.Seq.{drop-cons}
use Rattle.std.proofs.lemmas.List.Elements.{All-nil, All-cons, All-head, All-pop, All-tail}
use Rattle.std.proofs.lemmas.Option.{slice_get-map, slice_get_read}
use Rattle.wh_dag.specs.Catalog.{DefinitionOf}
use Rattle.wh_dag.specs.Written.{name_of}
use Rattle.wh_row.specs.Bag.{Bag}
use Rattle.wh_text.specs.declared.fault.LoadFault.{LoadFault}
use Rattle.wh_text.specs.declared.fault.LoadFault.TheVariants.{Memory}
use Rattle.wh_text.specs.Columns.{NamedKind}
use Rattle.wh_text_bundle.specs.Text.{text_of}
use Rattle.wh_text_bundle.specs.declared.bundle.part.Part.{Part}
use Rattle.wh_text_catalogue.specs.Catalogue.{◌>>=◌}
use Rattle.wh_text_catalogue.specs.Definitions.{ViewOf, shown_view}
use Rattle.wh_text_catalogue.specs.FormulaKinds.{Texts}
use Rattle.wh_text_catalogue.specs.declared.definitions.views.WrittenView.{WrittenView}
use Rattle.wh_text_tables.specs.TableRead.{IsAhead}
use Rattle.wh_text_tables.specs.TableText.{text_gives}
use Rattle.wh_text_tables.specs.declared.table.rows.RowsRead.{RowsRead}
use Rattle.wh_load.specs.ReadingNight.{ChangeRows, Rows, TableRows, rows_after, rows_given, rows_of, rows_written}
use Rattle.wh_load.specs.Inner.ReadingRows.{IsAheadOf, IsAheadOfPart, content_of, part_found}
use Rattle.wh_load.specs.declared.reading.ahead.ViewAhead.{ViewAhead}

-- ---- one view after another

-- the rows of a view are what its part writes
rows-found : (kind : Rows) (parts : List Part) (name : List ℕ) (view : ViewOf) (texts : Texts) → rows_of kind parts name view texts ≡ rows_written kind view.columns (part_found kind parts name view) texts
rows-found kind parts name view texts = by view.definition
  where
    by : (d : Option DefinitionOf) → rows_of kind parts name (record { columns = view.columns; definition = d }) texts
        ≡ rows_written kind view.columns (part_found kind parts name (record { columns = view.columns; definition = d })) texts
    by None = refl
    by (Some d) = refl

rows-step : (kind : Rows) (parts : List Part) (names : List (List ℕ)) (before : List Bag) (views rest : List ViewOf) (view : ViewOf) (texts : Texts) (own : Result (Bag × Texts) LoadFault) → views ≡ view ∷ rest
    → rows_written kind view.columns (part_found kind parts (name_of names (length before)) view) texts ≡ own
    → rows_after kind parts names before views texts ≡ (own >>= (λ own. rows_after kind parts names (before ++ own.0 ∷ []) rest own.1))
rows-step kind parts names before views rest view texts own first is =
    ap (λ vs. rows_after kind parts names before vs texts) first
    ∙ ap (λ (r : Result (Bag × Texts) LoadFault). r >>= (λ own. rows_after kind parts names (before ++ own.0 ∷ []) rest own.1)) (rows-found kind parts (name_of names (length before)) view texts ∙ is)

pub next-rows : (kind : Rows) (parts : List Part) (names : List (List ℕ)) (before : List Bag) (views rest : List ViewOf) (view : ViewOf) (texts after : Texts) (bag : Bag) → views ≡ view ∷ rest
    → rows_written kind view.columns (part_found kind parts (name_of names (length before)) view) texts ≡ Ok (bag, after)
    → rows_after kind parts names before views texts ≡ rows_after kind parts names (before ++ bag ∷ []) rest after
next-rows kind parts names before views rest view texts after bag first is = rows-step kind parts names before views rest view texts (Ok (bag, after)) first is

pub no-rows : (kind : Rows) (parts : List Part) (names : List (List ℕ)) (before : List Bag) (views rest : List ViewOf) (view : ViewOf) (texts : Texts) (f : LoadFault) (all : Result (List Bag × Texts) LoadFault) → views ≡ view ∷ rest
    → all ≡ rows_after kind parts names before views texts → (f ≡ Memory) ⊎ (rows_written kind view.columns (part_found kind parts (name_of names (length before)) view) texts ≡ Err f) → (f ≡ Memory) ⊎ (all ≡ Err f)
no-rows kind parts names before views rest view texts f all first so_far (inl memory) = inl memory
no-rows kind parts names before views rest view texts f all first so_far (inr is) = inr (so_far ∙ rows-step kind parts names before views rest view texts (Err f) first is)

-- the views that are left
pub view-left : (views : List WrittenView) (i : ℕ) (view : WrittenView) → i < length views → view ≡ get_or views i view → map shown_view (drop i views) ≡ shown_view view ∷ map shown_view (drop (i + 1) views)
view-left views i view below is =
    let next : suc i ≡ i + 1 = omega arith in
    ap (map shown_view) (drop-cons views i view below) ∙ ap (λ (v : WrittenView). shown_view v ∷ map shown_view (drop (suc i) views)) (sym is) ∙ ap (λ n. shown_view view ∷ map shown_view (drop n views)) next

-- ---- what is said of rows read ahead

-- what a part gives, table or changes
pub given-by : (kind : Rows) (columns : List NamedKind) (texts : Texts) (text : List ℕ) → text_gives (content_of kind) columns texts text ≡ rows_given kind columns texts text
given-by TableRows columns texts text = refl
given-by (ChangeRows night) columns texts text = refl

-- it is ahead of its view
pub ahead-of : (kind : Rows) (parts : List Part) (names : List (List ℕ)) (views : List WrittenView) (i : ℕ) (view : WrittenView) (part : Part) (rows : List RowsRead) → slice_get views i ≡ Some view
    → Some part ≡ part_found kind parts (name_of names i) (shown_view view) → IsAhead (content_of kind) (shown_view view).columns (text_of part) rows
    → IsAheadOf kind parts names (map shown_view views) (record { view = i; rows = rows })
ahead-of kind parts names views i view part rows got found is =
    let at : slice_get (map shown_view views) i ≡ Some (shown_view view) = slice_get-map shown_view views i ∙ ap (option_map shown_view) got in
    subst (λ v. IfSome v (λ view. IsAheadOfPart kind view (part_found kind parts (name_of names i) view) rows)) (sym at) (subst (λ p. IsAheadOfPart kind (shown_view view) p rows) found is)

fits : (kind : Rows) (parts : List Part) (names : List (List ℕ)) (views : List WrittenView) (i : ℕ) (view : WrittenView) (part : Option Part) (rows : List RowsRead) → i < length views → view ≡ get_or views i view
    → part ≡ part_found kind parts (name_of names i) (shown_view view) → IsAheadOf kind parts names (map shown_view views) (record { view = i; rows = rows }) → IsAheadOfPart kind (shown_view view) part rows
fits kind parts names views i view part rows below is found ahead =
    let at : slice_get (map shown_view views) i ≡ Some (shown_view view) = slice_get-map shown_view views i ∙ ap (option_map shown_view) (slice_get_read views (length views) i view refl below is) in
    subst (λ p. IsAheadOfPart kind (shown_view view) p rows) (sym found) (subst (λ v. IfSome v (λ view. IsAheadOfPart kind view (part_found kind parts (name_of names i) view) rows)) at ahead)

-- what is taken of the list for a view is ahead of its part, and the others are still what they are
pub next-ahead : (kind : Rows) (parts : List Part) (names : List (List ℕ)) (views : List WrittenView) (i : ℕ) (view : WrittenView) (part : Option Part) (old new : List ViewAhead) (own : Option (List RowsRead))
    → i < length views → view ≡ get_or views i view → part ≡ part_found kind parts (name_of names i) (shown_view view)
    → old ≡ new ++ option_to_list (option_map (λ rows. record { view = i; rows = rows }) own) → All (IsAheadOf kind parts names (map shown_view views)) old
    → All (IsAheadOf kind parts names (map shown_view views)) new × IfSome own (IsAheadOfPart kind (shown_view view) part)
next-ahead kind parts names views i view part old new None below is found whole all = ((All-pop (IsAheadOf kind parts names (map shown_view views)) old new None whole all).0, tt)
next-ahead kind parts names views i view part old new (Some rows) below is found whole all =
    let both = All-pop (IsAheadOf kind parts names (map shown_view views)) old new (Some (record { view = i; rows = rows })) whole all in (both.0, fits kind parts names views i view part rows below is found both.1)

-- ---- lists

-- one element of a list
pub all-middle : {X : Type 0} (P : X → Type 0) (xs ys : List X) (x : X) → All P (xs ++ x ∷ ys) → P x
all-middle P [] ys x all = All-head P x ys all
all-middle P (z ∷ xs) ys x all = all-middle P xs ys x (All-tail P z (xs ++ x ∷ ys) all)

-- what is said of each answer holds of all
pub all-answers : {A B : Type 0} (Q : B → Type 0) (parts : List A) (answers : List B) → AllZip (λ part answer. Q answer) parts answers → All Q answers
all-answers Q [] [] are = All-nil Q
all-answers Q [] (y ∷ ys) are = absurd are
all-answers Q (x ∷ xs) [] are = absurd are
all-answers Q (x ∷ xs) (y ∷ ys) are = All-cons Q y ys are.0 (all-answers Q xs ys are.1)

get-seam : {X : Type 0} (xs : List X) (x : X) → slice_get (xs ++ x ∷ []) (length xs) ≡ Some x
get-seam [] x = refl
get-seam (y ∷ xs) x = get-seam xs x

-- the last of a list, which is that of this view
pub taken : (old new : List ViewAhead) (own last : ViewAhead) (view : ℕ) → old ≡ new ++ own ∷ [] → Some last ≡ slice_get old (length old - 1) → last.view ≡ view → old ≡ new ++ record { view = view; rows = own.rows } ∷ []
taken old new own last view whole at same =
    let long = ap length whole ∙ length-append new (own ∷ []) in
    let place : length old - 1 ≡ length new = omega (arith, long) in
    let found : slice_get old (length old - 1) ≡ Some own = ap (slice_get old) place ∙ ap (λ xs. slice_get xs (length new)) whole ∙ get-seam new own in
    let both : ◌≡◌ {A = Option ViewAhead} (Some last) (Some own) = at ∙ found in
    let is : last ≡ own = cc in
    let number : own.view ≡ view = ap (λ (v : ViewAhead). v.view) (sym is) ∙ same in
    whole ∙ ap (λ v. new ++ record { view = v; rows = own.rows } ∷ []) number
