-- The rows that were read are of their views' columns.
use Rattle.std.proofs.Common.{◌≡◌, ℕ, ◌≤ℤ◌, pos, List, [], ◌∷◌, ◌++◌, length, refl, sym, ap, subst, ◌∙◌, arith, append_assoc, append-nil, Option, Some, None}
use Rattle.std.specs.Prelude.{Result, Ok, Err, find, option_map}
use Rattle.std.specs.FinMap as fin
use Rattle.std.proofs.lemmas.Int.{ints}
use Rattle.wh_row.specs.Bag.{Bag, HasWidth, IsTable, count, empty, number}
use Rattle.wh_row.specs.Row.{Row, row_cmp}
use Rattle.wh_dag.specs.Catalog.{DefinitionOf}
use Rattle.wh_dag.specs.Shape.{Views}
use Rattle.wh_dag.specs.Written.{name_of}
use Rattle.wh_text.specs.Columns.{NamedKind}
use Rattle.wh_text.specs.declared.fault.LoadFault.{LoadFault}
use Rattle.wh_text.specs.declared.fault.LoadFault.TheVariants as fault
use Rattle.wh_text_bundle.specs.Heading.{word_of}
use Rattle.wh_text_bundle.specs.Text.{text_of}
use Rattle.wh_text_bundle.specs.declared.bundle.heading.Heading.TheVariants as heading
use Rattle.wh_text_bundle.specs.declared.bundle.part.Part.{Part}
use Rattle.wh_text_catalogue.specs.Catalogue.{◌>>=◌, shape_of}
use Rattle.wh_text_catalogue.specs.Definitions.{ViewOf, definitions_of}
use Rattle.wh_text_catalogue.specs.FormulaKinds.{Texts}
use Rattle.wh_text_tables.proofs.TablesRead.{answer-table, answer-width}
use Rattle.wh_load.specs.ReadingNight.{AreReadRows, ChangeRows, IsTableIfTable, Night, Rows, TableRows, first_stray, is_stray, night_in, night_over, rows_after, rows_found, rows_of, rows_written}
use Rattle.wh_load.specs.ReadingParts.{text_in}

count-empty : (q : Row) → count empty q ≡ pos 0
count-empty q = ap number (fin.get-empty row_cmp q)

none_wide : (n : ℕ) → HasWidth empty n
none_wide n row some = absurd (some (count-empty row))

none_negative : IsTable empty
none_negative row = subst (λ n. pos 0 ≤ℤ n) (sym (count-empty row)) (omega (arith, ints))

none_kept : (kind : Rows) → IsTableIfTable kind empty
none_kept TableRows = none_negative
none_kept (ChangeRows night) = tt

value_or : Bag × Texts → Result (Bag × Texts) LoadFault → Bag × Texts
value_or d (Ok x) = x
value_or d (Err f) = d

pairs_same : (a b : Bag × Texts) → (let r : Result (Bag × Texts) LoadFault = Ok a in r) ≡ Ok b → a ≡ b
unfolding value_or
pairs_same a b e = ap (value_or a) e

bags_same : (a b : Bag × Texts) → (let r : Result (Bag × Texts) LoadFault = Ok a in r) ≡ Ok b → a.0 ≡ b.0
bags_same a b e = ap (λ (p : Bag × Texts). p.0) (pairs_same a b e)

written_wide : (kind : Rows) (columns : List NamedKind) (part : Option Part) (texts after : Texts) (bag : Bag) → rows_written kind columns part texts ≡ Ok (bag, after)
    → HasWidth bag (length columns) × IsTableIfTable kind bag
written_wide kind columns None texts after bag e =
    let same : empty ≡ bag = bags_same (empty, texts) (bag, after) e in
    (subst (λ b. HasWidth b (length columns)) same (none_wide (length columns)), subst (IsTableIfTable kind) same (none_kept kind))
written_wide TableRows columns (Some part) texts after bag e = (answer-width _ columns texts (text_of part) after (Ok bag) e, answer-table columns texts (text_of part) after (Ok bag) e)
written_wide (ChangeRows night) columns (Some part) texts after bag e = (answer-width _ columns texts (text_of part) after (Ok bag) e, tt)

view_wide : (kind : Rows) (parts : List Part) (name : List ℕ) (columns : List NamedKind) (definition : Option DefinitionOf) (texts after : Texts) (bag : Bag)
    → rows_of kind parts name (record { columns = columns; definition = definition }) texts ≡ Ok (bag, after) → HasWidth bag (length columns) × IsTableIfTable kind bag
view_wide kind parts name columns None texts after bag e = written_wide kind columns (rows_found kind name parts) texts after bag e
view_wide kind parts name columns (Some d) texts after bag e =
    let same : empty ≡ bag = bags_same (empty, texts) (bag, after) e in
    (subst (λ b. HasWidth b (length columns)) same (none_wide (length columns)), subst (IsTableIfTable kind) same (none_kept kind))

record AreRowsAfter (kind : Rows) (before : List Bag) (views : List ViewOf) (rows : List Bag) : Type 0 where
  more : List Bag
  parts : rows ≡ before ++ more
  each : AreReadRows kind views more

value_of : List Bag × Texts → Result (List Bag × Texts) LoadFault → List Bag × Texts
value_of d (Ok x) = x
value_of d (Err f) = d

lists_same : (a b : List Bag × Texts) → (let r : Result (List Bag × Texts) LoadFault = Ok a in r) ≡ Ok b → a.0 ≡ b.0
unfolding value_of
lists_same a b e = ap (λ (r : Result (List Bag × Texts) LoadFault). (value_of a r).0) e

after_rows : (kind : Rows) (parts : List Part) (names : List (List ℕ)) (before : List Bag) (views : List ViewOf) (texts after : Texts) (rows : List Bag)
    → rows_after kind parts names before views texts ≡ Ok (rows, after) → AreRowsAfter kind before views rows
after_rows kind parts names before [] texts after rows e =
    let same : before ≡ rows = lists_same (before, texts) (rows, after) e in
    record { more = []; parts = sym same ∙ sym (append-nil before); each = tt }
after_rows kind parts names before (view ∷ rest) texts after rows e =
    go (rows_of kind parts (name_of names (length before)) view texts) refl e (λ own f. after_rows kind parts names (before ++ own.0 ∷ []) rest own.1 after rows f)
  where
    go : (r : Result (Bag × Texts) LoadFault) → rows_of kind parts (name_of names (length before)) view texts ≡ r
        → (r >>= (λ own. rows_after kind parts names (before ++ own.0 ∷ []) rest own.1)) ≡ Ok (rows, after)
        → ((own : Bag × Texts) → rows_after kind parts names (before ++ own.0 ∷ []) rest own.1 ≡ Ok (rows, after) → AreRowsAfter kind (before ++ own.0 ∷ []) rest rows)
        → AreRowsAfter kind before (view ∷ rest) rows
    go (Err f) is e later = cc
    go (Ok own) is e later =
        let next = later own e in
        record {
          more = own.0 ∷ next.more;
          parts = next.parts ∙ append_assoc before (own.0 ∷ []) next.more;
          each = (view_wide kind parts (name_of names (length before)) view.columns view.definition texts own.1 own.0 is, next.each);
        }

pub read_rows : (kind : Rows) (parts : List Part) (names : List (List ℕ)) (views : List ViewOf) (texts after : Texts) (rows : List Bag)
    → rows_after kind parts names [] views texts ≡ Ok (rows, after) → AreReadRows kind views rows
read_rows kind parts names views texts after rows e =
    let all = after_rows kind parts names [] views texts after rows e in
    subst (AreReadRows kind views) (sym all.parts) all.each

-- the first part of rows of no base view is named
pub stray_named : (names : List (List ℕ)) (views : List ViewOf) (parts : List Part) (part : Part) (word : List ℕ) → Some part ≡ find (λ part. is_stray names views part.heading) parts → word ≡ word_of part.heading
    → first_stray names views parts ≡ Some (fault.Part word)
stray_named names views parts part word found named = ap (option_map (λ part. fault.Part (word_of part.heading))) (sym found) ∙ ap (λ word. Some (fault.Part word)) (sym named)

-- the rows of changes are alike in all nights
pub same_changes : (night : ℕ) (views : List ViewOf) (rows : List Bag) → AreReadRows (ChangeRows night) views rows → AreReadRows (ChangeRows 0) views rows
same_changes night [] [] each = tt
same_changes night [] (bag ∷ bags) each = absurd each
same_changes night (view ∷ views) [] each = absurd each
same_changes night (view ∷ views) (bag ∷ bags) each = (each.0, same_changes night views bags each.1)

pub night_from : (parts : List Part) (catalogue strategy : List ℕ) (shape : Views) (views : List ViewOf) (texts : Texts) (night : Night)
    → text_in parts heading.Catalogue 0 ≡ Ok catalogue → text_in parts heading.Strategy 0 ≡ Ok strategy
    → shape_of catalogue ≡ Ok shape → definitions_of shape catalogue [] ≡ Ok (views, texts) → night_over parts shape views texts strategy ≡ Ok night
    → night_in parts ≡ Ok night
night_from parts catalogue strategy shape views texts night a b c d e = rw a (rw b (rw c (rw d (rw e refl))))
