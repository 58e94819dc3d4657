-- What one record of a table adds to what was read.
use Rattle.std.proofs.Common.{◌≡◌, ◌∙◌, ℕ, ◌+◌, ℤ, true, List, [], ◌∷◌, ◌++◌, length, take, Some, None, Ok, Err, Option, ◌⊎◌, inl, inr, refl, sym, ap, subst, arith}
use Rattle.std.specs.Cmp.Lexicographic.{pointwise, pointwise_decides}
use Rattle.std.specs.Prelude.{ok_or, false, OnErr, Result}
use Rattle.std.specs.Str.{bytes_eq}
use Rattle.std.proofs.lemmas.Bool.{cases_Bool}
use Rattle.std.proofs.Math.Seq.{take-append_seam}
use Rattle.std.proofs.lemmas.List.{length-map}
use Rattle.std.proofs.lemmas.Slice.Eq.{bytes_eq-Decides}
use Rattle.wh_row.specs.Row.{Row}
use Rattle.wh_row.specs.Weigh.{Counted}
use Rattle.wh_text.specs.Columns.{NamedKind, kinds_of, names_of}
use Rattle.wh_text.specs.Dict.{with_texts}
use Rattle.wh_text.specs.Inner.Dict.{BeginsWith}
use Rattle.wh_text.specs.declared.columns.Kind.{Kind}
use Rattle.wh_text.specs.declared.fault.LoadFault.{LoadFault}
use Rattle.wh_text.specs.declared.fault.LoadFault.TheVariants.{Memory, Number}
use Rattle.wh_text.proofs.DictGrowth.{begins-same, begins-texts, begins-trans}
use Rattle.wh_text_tables.specs.Part.{record_gives, records_give}
use Rattle.wh_text_tables.specs.Inner.Part.{IsReadTo, IsWidthOf}
use Rattle.wh_text_tables.specs.Records.{form_fault}
use Rattle.wh_text_tables.specs.TableText.{EntriesRead, count_cells, counted_header, counting_of, entry_of, row_cells, texts_after, texts_in_row, with_entry}
use Rattle.wh_text_tables.specs.Inner.TableText.{entered, entry_scheme}
use Rattle.wh_text_tables.specs.declared.table.header.Content.{Content}
use Rattle.wh_text_tables.specs.declared.table.header.Content.TheVariants.{Changes, Table}
use Rattle.wh_text_tables.specs.declared.table.header.Counting.{Counting}
use Rattle.wh_text_tables.specs.declared.table.header.Counting.TheVariants.{NonZero, Once, Positive}
use Rattle.wh_text_tables.proofs.PartReads.{from_step, or_fault-ok, same_Ok}

-- a record that has an entry puts it last
pub entered-ok : (kinds : List Kind) (count : Counting) (texts after : List (List ℕ)) (entries more : Counted) (number : ℕ) (cells : List (List ℕ)) (entry : Row × ℤ)
    → after ≡ with_texts texts (texts_in_row kinds (row_cells count cells)) → ((later : List (List ℕ)) → entry_of count (with_texts after later) kinds cells ≡ Some entry) → more ≡ entries ++ entry ∷ []
    → entered kinds count (record { texts = texts; entries = entries }) number cells ≡ Ok (record { texts = after; entries = more })
unfolding with_texts
entered-ok kinds count texts after entries more number cells entry grown is pushed =
    let own : entry_of count after kinds cells ≡ Some entry = is [] in
    let there : entry_of count (texts_after count kinds texts cells) kinds cells ≡ Some entry = ap (λ t. entry_of count t kinds cells) (sym grown) ∙ own in
    rw (there, grown, pushed) refl

-- one that has none has a fault
pub entered-err : (kinds : List Kind) (count : Counting) (read : EntriesRead) (number : ℕ) (cells : List (List ℕ)) (f : LoadFault)
    → (f ≡ Memory) ⊎ ((f ≡ Number number) × ((texts : List (List ℕ)) → entry_of count texts kinds cells ≡ None))
    → (f ≡ Memory) ⊎ (entered kinds count read number cells ≡ Err f)
entered-err kinds count read number cells f (inl e) = inl e
entered-err kinds count read number cells f (inr bad) = inr (rw (bad.1 (texts_after count kinds read.texts cells), bad.0) refl)

-- texts that were taken back are those before
pub taken-back : (texts after kept : List (List ℕ)) (n : ℕ) → BeginsWith texts after → n ≡ length texts → kept ≡ take n after → kept ≡ texts
taken-back texts after kept n begins long is = is ∙ ap (λ k. take k after) long ∙ ap (λ all. take (length texts) all) begins.parts ∙ take-append_seam texts begins.more

-- what holds after any error
pub back-on-err : {A : Type 0} (answer : Result A LoadFault) (texts kept : List (List ℕ)) → kept ≡ texts → OnErr answer (kept ≡ texts)
back-on-err (Ok x) texts kept same = tt
back-on-err (Err f) texts kept same = same

same-length : (header names : List (List ℕ)) → pointwise bytes_eq header names ≡ true → length header ≡ length names
same-length header names e = ap length ((pointwise_decides bytes_eq-Decides header names).0 e)

-- a header of a table or of changes is as long as each record
header-length : (content : Content) (names header : List (List ℕ)) (count : Counting) → counting_of content names header ≡ Some count → length header ≡ count_cells count + length names
header-length Table names header count e = by (cases_Bool (pointwise bytes_eq header names)) (cases_Bool (pointwise bytes_eq header (counted_header names)))
  where
    by : (pointwise bytes_eq header names ≡ true) ⊎ (pointwise bytes_eq header names ≡ false) → (pointwise bytes_eq header (counted_header names) ≡ true) ⊎ (pointwise bytes_eq header (counted_header names) ≡ false)
        → length header ≡ count_cells count + length names
    by (inl bare) either =
        let same : Once ≡ count = (let h = rw bare at e in cc) in
        let long = same-length header names bare in
        rw (← same) (omega arith)
    by (inr other) (inl counted) =
        let same : Positive ≡ count = (let h = rw (other, counted) at e in cc) in
        let long = same-length header (counted_header names) counted in
        rw (← same) (omega arith)
    by (inr other) (inr neither) = let h = rw (other, neither) at e in cc
header-length Changes names header count e = by (cases_Bool (pointwise bytes_eq header (counted_header names)))
  where
    by : (pointwise bytes_eq header (counted_header names) ≡ true) ⊎ (pointwise bytes_eq header (counted_header names) ≡ false) → length header ≡ count_cells count + length names
    by (inl counted) =
        let same : NonZero ≡ count = (let h = rw counted at e in cc) in
        let long = same-length header (counted_header names) counted in
        rw (← same) (omega arith)
    by (inr other) = let h = rw other at e in cc

pub cells-wide : (content : Content) (columns : List NamedKind) (count : Counting) (width : ℕ) → IsWidthOf (entry_scheme content columns) count width → width ≡ count_cells count + length columns
cells-wide content columns count width is =
    sym is.2 ∙ header-length content (names_of columns) is.0 count is.1 ∙ ap (λ n. count_cells count + n) (length-map columns (λ (column : NamedKind). column.name))

-- The dictionary grows.

entered-begins : (kinds : List Kind) (count : Counting) (read after : EntriesRead) (number : ℕ) (cells : List (List ℕ)) → entered kinds count read number cells ≡ Ok after → BeginsWith read.texts after.texts
entered-begins kinds count read after number cells e =
    let texts = texts_after count kinds read.texts cells in
    let own = from_step (ok_or (entry_of count texts kinds cells) (Number number)) (λ entry. Ok (with_entry read texts entry)) after e in
    subst (λ (a : EntriesRead). BeginsWith read.texts a.texts) (same_Ok _ _ _ refl own.2) (begins-texts read.texts (texts_in_row kinds (row_cells count cells)))

rows-begin : (content : Content) (columns : List NamedKind) (width : ℕ) (count : Counting) (number : ℕ) (old new : EntriesRead) (rows : List (List (List ℕ)))
    → records_give (entry_scheme content columns) width count number old rows ≡ Ok new → BeginsWith old.texts new.texts
unfolding records_give
rows-begin content columns width count number old new [] e = subst (λ (a : EntriesRead). BeginsWith old.texts a.texts) (same_Ok _ _ _ refl e) (begins-same old.texts)
rows-begin content columns width count number old new (cells ∷ rest) e =
    let next = from_step (record_gives (entry_scheme content columns) width count old number cells) _ new e in
    let own = or_fault-ok (form_fault width number cells) (entered (kinds_of columns) count old number cells) next.0 next.1 in
    begins-trans old.texts next.0.texts new.texts (entered-begins (kinds_of columns) count old next.0 number cells own)
    (rows-begin content columns width count (number + 1) next.0 new rest next.2)

pub part-begins : (content : Content) (columns : List NamedKind) (records : List (List (List ℕ))) (old new : EntriesRead) (fault : Option LoadFault) → IsReadTo (entry_scheme content columns) records old new fault
    → BeginsWith old.texts new.texts
part-begins content columns records old new fault (inl at) = subst (λ (a : EntriesRead). BeginsWith old.texts a.texts) (sym at.same) (begins-same old.texts)
part-begins content columns records old new fault (inr below) = rows-begin content columns below.below.width below.below.kind 2 old new below.taken.before below.taken.made
