-- What is read keeps the numbers of the texts before.
use Rattle.std.proofs.Common.{◌≡◌, ℕ, ◌+◌, ℤ, Bool, true, false, List, [], ◌∷◌, refl, ap, sym, subst, ◌∙◌, take, length}
use Rattle.std.specs.Prelude.{Result, Ok, Err, IfOk, OnErr, ok_or, if◌then◌else◌}
use Rattle.std.proofs.Math.Seq.{take-append_seam}
use Rattle.wh_row.specs.Bag.{Bag, bag_of}
use Rattle.wh_row.specs.Records.{running_sum}
use Rattle.wh_row.specs.Row.{Row}
use Rattle.wh_text.specs.Columns.{NamedKind, kinds_of}
use Rattle.wh_text.specs.Inner.Dict.{BeginsWith}
use Rattle.wh_text.specs.WholeNumber.{is_i64}
use Rattle.wh_text.specs.declared.columns.Kind.{Kind}
use Rattle.wh_text.specs.declared.fault.LoadFault.{LoadFault}
use Rattle.wh_text.specs.declared.fault.LoadFault.TheVariants as fault
use Rattle.wh_text.specs.declared.fault.LoadFault.TheVariants.{Number}
use Rattle.wh_text.proofs.DictGrowth.{begins-same, begins-texts, begins-trans}
use Rattle.wh_text_tables.specs.Part.{below_header, part_of, record_gives, records_give}
use Rattle.wh_text_tables.specs.Records.{form_fault, records_of}
use Rattle.wh_text_tables.specs.TableText.{EntriesRead, added, entry_of, row_cells, table_scheme, text_gives, texts_after, texts_in_row, with_entry}
use Rattle.wh_text_tables.specs.declared.table.header.Content.{Content}
use Rattle.wh_text_tables.proofs.PartReads.{from_step, or_fault-ok, same_Ok}

added-begins : (kinds : List Kind) (counting : _) (read after : EntriesRead) (number : ℕ) (cells : List (List ℕ)) → added kinds counting read number cells ≡ Ok after → BeginsWith read.texts after.texts
added-begins kinds counting read after number cells e =
    let texts = texts_after counting kinds read.texts cells in
    let own = from_step (ok_or (entry_of counting texts kinds cells) (Number number)) (λ entry. if is_i64 (running_sum read.entries entry) then Ok (with_entry read texts entry) else Err (Number number)) after e in
    by (is_i64 (running_sum read.entries own.0)) own.0 own.2
  where
    by : (fits : Bool) (entry : Row × ℤ) → (if fits then Ok (with_entry read (texts_after counting kinds read.texts cells) entry) else Err (Number number)) ≡ Ok after → BeginsWith read.texts after.texts
    by true entry h = subst (λ (a : EntriesRead). BeginsWith read.texts a.texts) (same_Ok _ _ _ refl h) (begins-texts read.texts (texts_in_row kinds (row_cells counting cells)))
    by false entry h = cc

rows-begin : (content : Content) (columns : List NamedKind) (width : ℕ) (counting : _) (number : ℕ) (read after : EntriesRead) (rows : List (List (List ℕ)))
    → records_give (table_scheme content columns) width counting number read rows ≡ Ok after → BeginsWith read.texts after.texts
unfolding records_give
rows-begin content columns width counting number read after [] e = subst (λ (a : EntriesRead). BeginsWith read.texts a.texts) (same_Ok _ _ _ refl e) (begins-same read.texts)
rows-begin content columns width counting number read after (cells ∷ rows) e =
    let next = from_step (record_gives (table_scheme content columns) width counting read number cells) _ after e in
    let own = or_fault-ok (form_fault width number cells) (added (kinds_of columns) counting read number cells) next.0 next.1 in
    begins-trans read.texts next.0.texts after.texts (added-begins (kinds_of columns) counting read next.0 number cells own) (rows-begin content columns width counting (number + 1) next.0 after rows next.2)

pub text-begins : (content : Content) (columns : List NamedKind) (texts after : List (List ℕ)) (text : List ℕ) (bag : Bag) → text_gives content columns texts text ≡ Ok (bag, after) → BeginsWith texts after
unfolding text_gives
text-begins content columns texts after text bag e =
    let read = from_step (part_of (table_scheme content columns) (record { texts = texts; entries = [] }) text) (λ (all : EntriesRead). Ok (bag_of all.entries, all.texts)) (bag, after) e in
    let below = from_step (below_header (table_scheme content columns) (records_of text)) _ read.0 read.1 in
    let same : (bag_of read.0.entries, read.0.texts) ≡ (bag, after) = same_Ok _ _ _ refl read.2 in
    subst (BeginsWith texts) (ap (λ (pair : Bag × List (List ℕ)). pair.1) same) (rows-begin content columns below.0.width below.0.kind 2 (record { texts = texts; entries = [] }) read.0 below.0.rows below.2)

-- what a reader leaves begins with the texts before, whatever it answers
pub answer-begins : (content : Content) (columns : List NamedKind) (texts after : List (List ℕ)) (text : List ℕ) (answer : Result Bag LoadFault) → IfOk answer (λ bag. text_gives content columns texts text ≡ Ok (bag, after))
    → OnErr answer (after ≡ texts) → BeginsWith texts after
answer-begins content columns texts after text (Ok bag) given kept = text-begins content columns texts after text bag given
answer-begins content columns texts after text (Err f) given kept = subst (BeginsWith texts) (sym kept) (begins-same texts)

-- texts that were taken back are those before
pub taken_back : (texts after kept : List (List ℕ)) (n : ℕ) → BeginsWith texts after → n ≡ length texts → kept ≡ take n after → kept ≡ texts
taken_back texts after kept n begins long is = is ∙ ap (λ k. take k after) long ∙ ap (λ all. take (length texts) all) begins.parts ∙ take-append_seam texts begins.more

pub begins_self : (texts : List (List ℕ)) → BeginsWith texts texts
begins_self texts = begins-same texts

pub begins_more : (texts middle after : List (List ℕ)) → BeginsWith texts middle → BeginsWith middle after → BeginsWith texts after
begins_more texts middle after first second = begins-trans texts middle after first second
