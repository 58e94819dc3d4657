-- Where the sums of equal rows stay within i64, and where the first leaves it.
use Rattle.std.proofs.Common.{◌≡◌, ◌<◌, ◌≤◌, ℕ, zero, suc, ◌+◌, ℤ, true, false, List, [], ◌∷◌, ◌++◌, length, take, Option, Some, None, Result, Ok, Err, ◌⊎◌, inl, inr, ⊎_elim, refl, sym, ap, subst, ◌∙◌, arith, append_assoc, length-append, FitsSigned, slice_get}
use Rattle.std.specs.Prelude.{◌==◌, if◌then◌else◌, ok_or, IsSomeAnd, IfOk, IfErr, OnOk}
use Rattle.std.specs.Int.{w64}
use Rattle.std.specs.Result.{result_err}
use Rattle.std.proofs.Math.Seq.{take-append_seam}
use Rattle.std.proofs.lemmas.List.{append-nil}
use Rattle.std.proofs.lemmas.Bool.{cases_Bool, eqb-false, eqb-true}
use Rattle.std.proofs.lemmas.Option.{slice_get_past}
use Rattle.wh_row.specs.Bag.{Bag, bag_of}
use Rattle.wh_row.specs.Records.{EachSumFits, FitsAt, IsFirstTooLarge, running_sum}
use Rattle.wh_row.specs.Row.{Row}
use Rattle.wh_row.specs.Weigh.{Counted}
use Rattle.wh_text.specs.Columns.{NamedKind, kinds_of}
use Rattle.wh_text.specs.WholeNumber.{is_i64}
use Rattle.wh_text.specs.declared.fault.LoadFault.{LoadFault}
use Rattle.wh_text.specs.declared.fault.LoadFault.TheVariants.{Memory, Number}
use Rattle.wh_text.proofs.WholeNumbers.{is_i64-decides}
use Rattle.wh_text.specs.ValueOrFault.{◌>>=◌, or_fault}
use Rattle.wh_text_tables.specs.Part.{Below, below_header, part_gives, record_gives, records_give}
use Rattle.wh_text_tables.specs.Inner.Part.{EndsBy, IsReadTo, TakenTo}
use Rattle.wh_text_tables.specs.Records.{form_fault, records_of}
use Rattle.wh_text_tables.specs.TableText.{EntriesRead, bag_read, entry_of, table_scheme, text_gives, texts_after, with_entry}
use Rattle.wh_text_tables.specs.Inner.TableText.{EndsSum, entry_scheme}
use Rattle.wh_text_tables.specs.declared.table.header.Content.{Content}
use Rattle.wh_text_tables.specs.declared.table.header.Counting.{Counting}
use Rattle.wh_text_tables.proofs.PartReads.{from_step, records_give-after, records_give-append, records_give-first, same_Ok, taken-all}

seam : {X : Type 0} (xs : List X) (y : X) (ys : List X) → slice_get (xs ++ y ∷ ys) (length xs) ≡ Some y
seam [] y ys = refl
seam (x ∷ xs) y ys = seam xs y ys

-- what is said of the sum at the place of an entry, said of the entry
fits-here : (es before after : Counted) (n : ℕ) (e : Row × ℤ) → es ≡ before ++ e ∷ after → n ≡ length before → FitsAt es n → FitsSigned w64 (running_sum before e)
fits-here es before after n e parts here fits =
    let own : FitsAt (before ++ e ∷ after) (length before) = rw (← parts, ← here) fits in
    rw (seam before e after, take-append_seam before (e ∷ after)) at own

leaves-here : (es before after : Counted) (n : ℕ) (e : Row × ℤ) → es ≡ before ++ e ∷ after → n ≡ length before
    → IsSomeAnd (slice_get es n) (λ x. ¬ (FitsSigned w64 (running_sum (take n es) x))) → ¬ (FitsSigned w64 (running_sum before e))
leaves-here es before after n e parts here leaves =
    let own : IsSomeAnd (slice_get (before ++ e ∷ after) (length before)) (λ x. ¬ (FitsSigned w64 (running_sum (take (length before) (before ++ e ∷ after)) x))) = rw (← parts, ← here) leaves in
    rw (seam before e after, take-append_seam before (e ∷ after)) at own

-- what a record that was entered by itself adds, and what it is with the sums
record IsEntered (read next : EntriesRead) (number : ℕ) (summed : Result EntriesRead LoadFault) : Type 0 where
  pub entry : Row × ℤ
  pub adds : next.entries ≡ read.entries ++ entry ∷ []
  pub fits : FitsSigned w64 (running_sum read.entries entry) → summed ≡ Ok next
  pub leaves : ¬ (FitsSigned w64 (running_sum read.entries entry)) → summed ≡ Err (Number number)

-- an entry that is added or has a fault
abbrev entry_added : EntriesRead → List (List ℕ) → ℕ → Row × ℤ → Result EntriesRead LoadFault
entry_added read texts number entry = if is_i64 (running_sum read.entries entry) then Ok (with_entry read texts entry) else Err (Number number)

within : (read : EntriesRead) (texts : List (List ℕ)) (number : ℕ) (entry : Row × ℤ) → FitsSigned w64 (running_sum read.entries entry) → entry_added read texts number entry ≡ Ok (with_entry read texts entry)
within read texts number entry fits = rw ((is_i64-decides (running_sum read.entries entry)).1 fits) refl

past : (read : EntriesRead) (texts : List (List ℕ)) (number : ℕ) (entry : Row × ℤ) → ¬ (FitsSigned w64 (running_sum read.entries entry)) → entry_added read texts number entry ≡ Err (Number number)
past read texts number entry leaves = by (cases_Bool (is_i64 (running_sum read.entries entry)))
  where
    by : (is_i64 (running_sum read.entries entry) ≡ true) ⊎ (is_i64 (running_sum read.entries entry) ≡ false) → entry_added read texts number entry ≡ Err (Number number)
    by (inl fits) = absurd (leaves ((is_i64-decides (running_sum read.entries entry)).0 fits))
    by (inr out) = rw out refl

is-entered : (content : Content) (columns : List NamedKind) (width : ℕ) (count : Counting) (read next : EntriesRead) (number : ℕ) (cells : List (List ℕ))
    → record_gives (entry_scheme content columns) width count read number cells ≡ Ok next → IsEntered read next number (record_gives (table_scheme content columns) width count read number cells)
is-entered content columns width count read next number cells = by (form_fault width number cells) (entry_of count (texts_after count (kinds_of columns) read.texts cells) (kinds_of columns) cells)
  where
    by : (form : Option LoadFault) (o : Option (Row × ℤ)) → or_fault form (ok_or o (Number number) >>= (λ entry. Ok (with_entry read (texts_after count (kinds_of columns) read.texts cells) entry))) ≡ Ok next
        → IsEntered read next number (or_fault form (ok_or o (Number number) >>= (λ entry. entry_added read (texts_after count (kinds_of columns) read.texts cells) number entry)))
    by (Some f) o e = cc
    by None None e = cc
    by None (Some entry) e =
        let same : with_entry read (texts_after count (kinds_of columns) read.texts cells) entry ≡ next = same_Ok _ _ _ refl e in
        record {
          entry = entry;
          adds = ap (λ (r : EntriesRead). r.entries) (sym same);
          fits = λ fits. within read (texts_after count (kinds_of columns) read.texts cells) number entry fits ∙ ap Ok same;
          leaves = λ leaves. past read (texts_after count (kinds_of columns) read.texts cells) number entry leaves;
        }

-- a fault of a record by itself is its fault with the sums too
same-fault : (content : Content) (columns : List NamedKind) (width : ℕ) (count : Counting) (read : EntriesRead) (number : ℕ) (cells : List (List ℕ)) (f : LoadFault)
    → record_gives (entry_scheme content columns) width count read number cells ≡ Err f → record_gives (table_scheme content columns) width count read number cells ≡ Err f
same-fault content columns width count read number cells f = by (form_fault width number cells) (entry_of count (texts_after count (kinds_of columns) read.texts cells) (kinds_of columns) cells)
  where
    by : (form : Option LoadFault) (o : Option (Row × ℤ)) → or_fault form (ok_or o (Number number) >>= (λ entry. Ok (with_entry read (texts_after count (kinds_of columns) read.texts cells) entry))) ≡ Err f
        → or_fault form (ok_or o (Number number) >>= (λ entry. entry_added read (texts_after count (kinds_of columns) read.texts cells) number entry)) ≡ Err f
    by (Some g) o e = e
    by None None e = e
    by None (Some entry) e = cc

-- what the records add
grown : (content : Content) (columns : List NamedKind) (width : ℕ) (count : Counting) (number : ℕ) (old new : EntriesRead) (rows : List (List (List ℕ)))
    → records_give (entry_scheme content columns) width count number old rows ≡ Ok new → (more : Counted) × (new.entries ≡ old.entries ++ more)
unfolding records_give
grown content columns width count number old new [] e = ([], ap (λ (r : EntriesRead). r.entries) (same_Ok _ new old e refl) ∙ sym (append-nil old.entries))
grown content columns width count number old new (cells ∷ rest) e =
    let next = from_step (record_gives (entry_scheme content columns) width count old number cells) _ new e in
    let own = is-entered content columns width count old next.0 number cells next.1 in
    let more = grown content columns width count (number + 1) next.0 new rest next.2 in
    (own.entry ∷ more.0, more.1 ∙ ap (λ t. t ++ more.0) own.adds ∙ append_assoc old.entries (own.entry ∷ []) more.0)

-- records whose sums all fit are added as they are entered
pub pass : (content : Content) (columns : List NamedKind) (width : ℕ) (count : Counting) (number : ℕ) (old new : EntriesRead) (rows : List (List (List ℕ)))
    → records_give (entry_scheme content columns) width count number old rows ≡ Ok new → EachSumFits new.entries
    → records_give (table_scheme content columns) width count number old rows ≡ Ok new
unfolding records_give
pass content columns width count number old new [] e fits = e
pass content columns width count number old new (cells ∷ rest) e fits =
    let next = from_step (record_gives (entry_scheme content columns) width count old number cells) _ new e in
    let own = is-entered content columns width count old next.0 number cells next.1 in
    let more = grown content columns width count (number + 1) next.0 new rest next.2 in
    let parts : new.entries ≡ old.entries ++ own.entry ∷ more.0 = more.1 ∙ ap (λ t. t ++ more.0) own.adds ∙ append_assoc old.entries (own.entry ∷ []) more.0 in
    let here = fits-here new.entries old.entries more.0 (length old.entries) own.entry parts refl (fits (length old.entries)) in
    ap (λ r. r >>= (λ after. records_give (table_scheme content columns) width count (number + 1) after rest)) (own.fits here)
    ∙ pass content columns width count (number + 1) next.0 new rest next.2 fits

at-or-past : (n place : ℕ) → n ≤ place → (n ≡ place) ⊎ (n + 1 ≤ place)
at-or-past n place le = elim (cases_Bool (n == place)) [
  | inl same ↦ inl (eqb-true n place same)
  | inr other ↦ inr (let ne = eqb-false n place other in omega arith)
]

-- the first of them whose sum leaves i64 is the first fault
large : (content : Content) (columns : List NamedKind) (width : ℕ) (count : Counting) (number place : ℕ) (old new : EntriesRead) (rows : List (List (List ℕ)))
    → records_give (entry_scheme content columns) width count number old rows ≡ Ok new → number ≡ length old.entries + 2 → length old.entries ≤ place → IsFirstTooLarge new.entries place
    → records_give (table_scheme content columns) width count number old rows ≡ Err (Number (place + 2))
unfolding records_give
large content columns width count number place old new [] e same le first =
    let whole : old ≡ new = same_Ok _ old new refl e in
    let many : length old.entries ≡ length new.entries = ap (λ (r : EntriesRead). length r.entries) whole in
    let past : length new.entries ≤ place = omega arith in
    absurd (rw (slice_get_past new.entries place past) at first.large)
large content columns width count number place old new (cells ∷ rest) e same le first =
    let next = from_step (record_gives (entry_scheme content columns) width count old number cells) _ new e in
    let own = is-entered content columns width count old next.0 number cells next.1 in
    let more = grown content columns width count (number + 1) next.0 new rest next.2 in
    let parts : new.entries ≡ old.entries ++ own.entry ∷ more.0 = more.1 ∙ ap (λ t. t ++ more.0) own.adds ∙ append_assoc old.entries (own.entry ∷ []) more.0 in
    let one : length next.0.entries ≡ length old.entries + 1 = ap length own.adds ∙ length-append old.entries (own.entry ∷ []) in
    elim (at-or-past (length old.entries) place le) [
      | inl now ↦ ap (λ r. r >>= (λ after. records_give (table_scheme content columns) width count (number + 1) after rest))
          (own.leaves (leaves-here new.entries old.entries more.0 (length old.entries) own.entry parts refl (rw (← now) at first.large)))
          ∙ (let here : number ≡ place + 2 = omega arith in ap (λ k. Err (Number k)) here)
      | inr later ↦ ap (λ r. r >>= (λ after. records_give (table_scheme content columns) width count (number + 1) after rest))
          (own.fits (fits-here new.entries old.entries more.0 (length old.entries) own.entry parts refl (first.before (length old.entries) (omega arith))))
          ∙ large content columns width count (number + 1) place next.0 new rest next.2 (omega arith) (omega arith) first
    ]

in-or-past : (k n : ℕ) → (k < n) ⊎ (n ≤ k)
in-or-past k zero = inr (omega arith)
in-or-past zero (suc n) = inl (omega arith)
in-or-past (suc k) (suc n) = ⊎_elim (λ below. inl (omega arith)) (λ past. inr (omega arith)) (in-or-past k n)

-- such a place is one of an entry
pub large-within : (es : Counted) (place : ℕ) → IsFirstTooLarge es place → place < length es
large-within es place first = by (in-or-past place (length es))
  where
    by : (place < length es) ⊎ (length es ≤ place) → place < length es
    by (inl below) = below
    by (inr past) = absurd (rw (slice_get_past es place past) at first.large)

-- all records were taken and all sums fit
sums-ok : (content : Content) (columns : List NamedKind) (below : Below Counting) (old new : EntriesRead) → TakenTo (entry_scheme content columns) below old new None → EachSumFits new.entries
    → records_give (table_scheme content columns) below.width below.kind 2 old below.rows ≡ Ok new
sums-ok content columns below old new t fits = pass content columns below.width below.kind 2 old new below.rows (taken-all (entry_scheme content columns) below old new t) fits

-- a record has a fault by itself, and the sums before it fit
sums-err : (content : Content) (columns : List NamedKind) (below : Below Counting) (old new : EntriesRead) (f : LoadFault) → TakenTo (entry_scheme content columns) below old new (Some f) → EachSumFits new.entries
    → (f ≡ Memory) ⊎ (records_give (table_scheme content columns) below.width below.kind 2 old below.rows ≡ Err f)
sums-err content columns below old new f t fits = by t.rest t.parts t.ends
  where
    number : 2 + length t.before ≡ length t.before + 2
    number = omega arith

    by : (rest : List (List (List ℕ))) → below.rows ≡ t.before ++ rest → EndsBy (entry_scheme content columns) below.width below.kind new (length t.before + 2) rest (Some f)
        → (f ≡ Memory) ⊎ (records_give (table_scheme content columns) below.width below.kind 2 old below.rows ≡ Err f)
    by [] parts ends = inl ends
    by (cells ∷ rest) parts (inl e) = inl e
    by (cells ∷ rest) parts (inr bad) = inr (
        ap (λ rows. records_give (table_scheme content columns) below.width below.kind 2 old rows) parts
        ∙ records_give-after (table_scheme content columns) below.width below.kind 2 old new t.before (cells ∷ rest) (pass content columns below.width below.kind 2 old new t.before t.made fits)
        ∙ ap (λ n. records_give (table_scheme content columns) below.width below.kind n new (cells ∷ rest)) number
        ∙ records_give-first (table_scheme content columns) below.width below.kind (length t.before + 2) new cells rest
        ∙ ap (λ r. r >>= (λ after. records_give (table_scheme content columns) below.width below.kind ((length t.before + 2) + 1) after rest))
        (same-fault content columns below.width below.kind new (length t.before + 2) cells f bad)
        )

-- a sum leaves i64 before any such record
sums-large : (content : Content) (columns : List NamedKind) (below : Below Counting) (old new : EntriesRead) (fault : Option LoadFault) (place : ℕ) → TakenTo (entry_scheme content columns) below old new fault
    → old.entries ≡ [] → IsFirstTooLarge new.entries place → records_give (table_scheme content columns) below.width below.kind 2 old below.rows ≡ Err (Number (place + 2))
sums-large content columns below old new fault place t none first =
    let empty : length old.entries ≡ 0 = ap length none in
    ap (λ rows. records_give (table_scheme content columns) below.width below.kind 2 old rows) t.parts
    ∙ records_give-append (table_scheme content columns) below.width below.kind 2 old t.before t.rest
    ∙ ap (λ r. r >>= (λ after. records_give (table_scheme content columns) below.width below.kind (2 + length t.before) after t.rest))
    (large content columns below.width below.kind 2 place old new t.before t.made (omega arith) (omega arith) first)

-- The whole text.

-- a header says the same with sums and without
same-header : (content : Content) (columns : List NamedKind) (records : List (List (List ℕ))) → below_header (table_scheme content columns) records ≡ below_header (entry_scheme content columns) records
same-header content columns [] = refl
same-header content columns (header ∷ rows) = refl

-- what a part gives below a header
part-below : (content : Content) (columns : List NamedKind) (records : List (List (List ℕ))) (old : EntriesRead) (below : Below Counting) → below_header (entry_scheme content columns) records ≡ Ok below
    → part_gives (table_scheme content columns) old records ≡ records_give (table_scheme content columns) below.width below.kind 2 old below.rows
part-below content columns records old below tells = rw (same-header content columns records, tells) refl

-- what a part gives whose records are entered, and whose sums fit
pub part-added : (content : Content) (columns : List NamedKind) (records : List (List (List ℕ))) (old new : EntriesRead) (below : Below Counting) → below_header (entry_scheme content columns) records ≡ Ok below
    → records_give (entry_scheme content columns) below.width below.kind 2 old below.rows ≡ Ok new → EachSumFits new.entries → part_gives (table_scheme content columns) old records ≡ Ok new
part-added content columns records old new below tells read fits =
    part-below content columns records old below tells ∙ pass content columns below.width below.kind 2 old new below.rows read fits

-- no sum is too large where there is no entry
none-large : (place : ℕ) → IsFirstTooLarge [] place → ⊥
none-large place first = let some = large-within [] place first in omega arith

-- the records add up
text-ok : (content : Content) (columns : List NamedKind) (text : List ℕ) (old new : EntriesRead) (read : Option LoadFault) (bag : Bag)
    → old.entries ≡ [] → IsReadTo (entry_scheme content columns) (records_of text) old new read → EachSumFits new.entries × (read ≡ None) → bag ≡ bag_of new.entries
    → text_gives content columns old.texts text ≡ Ok (bag, new.texts)
unfolding text_gives
text-ok content columns text old new read bag none (inl at) fits sum = let some : Some at.first ≡ None = sym at.is ∙ fits.1 in cc
text-ok content columns text old new read bag none (inr below) fits sum =
    let from : record { texts = old.texts; entries = [] } ≡ old = (λ i. record { texts = old.texts; entries = sym none i }) in
    ap (λ state. bag_read (part_gives (table_scheme content columns) state (records_of text))) from
    ∙ ap bag_read (part-below content columns (records_of text) old below.below below.tells ∙ sums-ok content columns below.below old new (rw fits.1 at below.taken) fits.0)
    ∙ (λ i. Ok (sym sum i, new.texts))

-- they do not
text-err : (content : Content) (columns : List NamedKind) (text : List ℕ) (old new : EntriesRead) (read : Option LoadFault) (f : LoadFault)
    → old.entries ≡ [] → IsReadTo (entry_scheme content columns) (records_of text) old new read → EndsSum new.entries read f
    → (f ≡ Memory) ⊎ (bag_read (part_gives (table_scheme content columns) old (records_of text)) ≡ Err f)
text-err content columns text old new read f none (inl at) (inl sum) =
    let first : IsFirstTooLarge [] sum.0 = rw (at.same, none) at sum.1 in
    absurd (none-large sum.0 first)
text-err content columns text old new read f none (inl at) (inr ended) = by at.why
  where
    same : at.first ≡ f
    same = let e : Some at.first ≡ Some f = sym at.is ∙ ended.1 in cc

    by : (at.first ≡ Memory) ⊎ (below_header (entry_scheme content columns) (records_of text) ≡ Err at.first) → (f ≡ Memory) ⊎ (bag_read (part_gives (table_scheme content columns) old (records_of text)) ≡ Err f)
    by (inl e) = inl (sym same ∙ e)
    by (inr e) = inr (rw (same-header content columns (records_of text), e) (ap Err same))
text-err content columns text old new read f none (inr below) (inl sum) =
    inr (ap bag_read (part-below content columns (records_of text) old below.below below.tells ∙ sums-large content columns below.below old new read sum.0 below.taken none sum.1) ∙ ap Err (sym sum.2))
text-err content columns text old new read f none (inr below) (inr ended) =
    ⊎_elim (λ e. inl e) (λ e. inr (ap bag_read (part-below content columns (records_of text) old below.below below.tells ∙ e)))
    (sums-err content columns below.below old new f (rw ended.1 at below.taken) ended.0)

-- the same, of an answer
pub answer-ok : {T : Type 0} (content : Content) (columns : List NamedKind) (text : List ℕ) (old new : EntriesRead) (read : Result T LoadFault) (answer : Result Bag LoadFault)
    → old.entries ≡ [] → IsReadTo (entry_scheme content columns) (records_of text) old new (result_err read)
    → IfOk answer (λ bag. bag ≡ bag_of new.entries) → OnOk answer (EachSumFits new.entries × (result_err read ≡ None))
    → IfOk answer (λ bag. text_gives content columns old.texts text ≡ Ok (bag, new.texts))
answer-ok content columns text old new read (Err f) none to sum fits = tt
answer-ok content columns text old new read (Ok bag) none to sum fits = text-ok content columns text old new (result_err read) bag none to fits sum

pub answer-err : {T : Type 0} (content : Content) (columns : List NamedKind) (text : List ℕ) (old new : EntriesRead) (read : Result T LoadFault) (answer : Result Bag LoadFault)
    → old.entries ≡ [] → IsReadTo (entry_scheme content columns) (records_of text) old new (result_err read)
    → IfErr answer (λ f. (f ≡ Memory) ⊎ EndsSum new.entries (result_err read) f)
    → IfErr answer (λ f. (f ≡ Memory) ⊎ (text_gives content columns old.texts text ≡ Err f))
unfolding text_gives
answer-err content columns text old new read (Ok bag) none to bad = tt
answer-err content columns text old new read (Err f) none to (inl e) = inl e
answer-err content columns text old new read (Err f) none to (inr ends) =
    let from : old ≡ record { texts = old.texts; entries = [] } = (λ i. record { texts = old.texts; entries = none i }) in
    subst (λ (state : EntriesRead). (f ≡ Memory) ⊎ (bag_read (part_gives (table_scheme content columns) state (records_of text)) ≡ Err f)) from
    (text-err content columns text old new (result_err read) f none to ends)
