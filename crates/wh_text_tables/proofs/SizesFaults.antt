-- The first fault of a part of sizes.
use Rattle.std.proofs.Common.{◌≡◌, ◌<◌, ◌+◌, ℕ, ℤ, zero, suc, Bool, true, false, ◌||◌, List, [], ◌∷◌, length, map, set, replicate, get_or, Option, Some, None, Result, Ok, Err, ◌⊎◌, inl, inr, refl, sym, ap, subst, ◌∙◌, arith}
use Rattle.std.specs.Prelude.{◌&&◌, if◌then◌else◌, is_some, nat_le, not, ok_or, option_and_then, option_map, position, slice_get}
use Rattle.std.specs.List.{filter_map, list_any}
use Rattle.std.specs.Result.{result_err}
use Rattle.std.specs.Str.{bytes_eq}
use Rattle.std.proofs.lemmas.Bool.{cases_Bool}
use Rattle.std.proofs.lemmas.List.{get_or-replicate, length-replicate, length-set}
use Rattle.std.proofs.lemmas.List.Quantifiers.{position-Some}
use Rattle.std.proofs.lemmas.Option.{slice_get-get_or, slice_get_within}
use Rattle.std.proofs.lemmas.Slice.Eq.{bytes_eq-Decides}
use Rattle.wh_dag.specs.Written.{is_named, name_of, number_of}
use Rattle.wh_strategy.specs.declared.sizes.SizeRow.{SizeRow}
use Rattle.wh_text.specs.FirstFault.{EndsByFirst, IsBefore, IsFaultless, IsFirstFault, Place, fault_if}
use Rattle.wh_text.specs.WholeNumber.{whole_number}
use Rattle.wh_text.specs.declared.fault.LoadFault.{LoadFault}
use Rattle.wh_text.specs.declared.fault.LoadFault.TheVariants.{Number, Sizes}
use Rattle.wh_text.proofs.FirstFaults.{first_of}
use Rattle.wh_text_tables.specs.FaultPlaces.{Cells, PartWrong, in_header, in_record, no_header}
use Rattle.wh_text.specs.ValueOrFault.{◌>>=◌, or_fault}
use Rattle.wh_text_tables.specs.Part.{Below, below_header, part_gives, record_gives, records_give}
use Rattle.wh_text_tables.specs.Records.{cell, form_fault, records_of}
use Rattle.wh_text_tables.specs.RowSizes.{counts_of, rows_in, size_within, weight_in, weight_of}
use Rattle.wh_text_tables.specs.SizesFaults.{HasNoRow, SizesEndByFirst, SizesWrong, are_apart, in_part, no_row, size_judged, sizes_judging, view_in}
use Rattle.wh_text_tables.specs.SizesText.{all_sizes, fresh_view, placed, size_written, sizes_of_text, sizes_scheme, view_without}
use Rattle.wh_text_tables.specs.declared.sizes.Counts.{Counts}
use Rattle.wh_text_tables.specs.declared.sizes.header.Columns.{Columns}
use Rattle.wh_text_tables.proofs.PartFaults.{Judges, header-tells, part-ends}
use Rattle.wh_text_tables.proofs.PassingPlaces.{any-at, none-at, position-any}
use Rattle.wh_text_tables.proofs.SizeLimits.{weighing}
use Rattle.wh_text_tables.proofs.PartReads.{from_step, or_fault-ok, records_give-first, records_give-none, same_Ok}

-- The views that have sizes.

abbrev no_size : Option SizeRow
no_size = None

-- the same number
same : ℕ → ℕ → Bool
same zero zero = true
same zero (suc k) = false
same (suc n) zero = false
same (suc n) (suc k) = same n k

same-own : (n : ℕ) → same n n ≡ true
unfolding same
same-own zero = refl
same-own (suc n) = same-own n

same-is : (n k : ℕ) → same n k ≡ true → n ≡ k
unfolding same
same-is zero zero e = refl
same-is zero (suc k) e = cc
same-is (suc n) zero e = cc
same-is (suc n) (suc k) e = ap suc (same-is n k e)

-- it is the number of this view
is_view : ℕ → Option ℕ → Bool
is_view view None = false
is_view view (Some number) = same number view

-- the row writes sizes of this view
abbrev is_row : List (List ℕ) → ℕ → Cells → Bool
is_row names view cells = is_view view (number_of names (view_in cells))

row-is : (names : List (List ℕ)) (view : ℕ) (cells : Cells) → is_row names view cells ≡ true → number_of names (view_in cells) ≡ Some view
unfolding is_view
row-is names view cells e = by (number_of names (view_in cells)) e
  where
    by : (o : Option ℕ) → is_view view o ≡ true → o ≡ Some view
    by None e = cc
    by (Some number) e = ap Some (same-is number view e)

is-row : (names : List (List ℕ)) (view : ℕ) (cells : Cells) → number_of names (view_in cells) ≡ Some view → is_row names view cells ≡ true
unfolding is_view
is-row names view cells e = rw e (same-own view)

marked : (given : List (Option SizeRow)) (view v : ℕ) (size : SizeRow) → view < length given → is_some (get_or (set given view (Some size)) v None) ≡ (is_some (get_or given v None) || same view v)
unfolding same
marked [] view v size below = absurd (omega arith)
marked (o ∷ given) zero zero size below = by (is_some o)
  where
    by : (b : Bool) → true ≡ (b || true)
    by true = refl
    by false = refl
marked (o ∷ given) zero (suc v) size below = by (is_some (get_or given v None))
  where
    by : (b : Bool) → b ≡ (b || false)
    by true = refl
    by false = refl
marked (o ∷ given) (suc view) zero size below = by (is_some o)
  where
    by : (b : Bool) → b ≡ (b || false)
    by true = refl
    by false = refl
marked (o ∷ given) (suc view) (suc v) size below = marked given view v size (omega arith)

-- what a row that is taken says of its view
placed-marks : (names : List (List ℕ)) (columns : Columns) (given after : List (Option SizeRow)) (number : ℕ) (row : Cells) → placed names columns given number row ≡ Ok after
    → (view : ℕ) × (size : SizeRow) × (number_of names (view_in row) ≡ Some view) × (after ≡ set given view (Some size))
placed-marks names columns given after number row e =
    let view = from_step (fresh_view names given (cell row 0)) _ after e in
    let size = from_step (size_written columns number row) _ after view.2 in
    (view.0, size.0, found (number_of names (cell row 0)) view.0 view.1, same_Ok _ _ _ refl (sym size.2))
  where
    chosen : (b : Bool) (number view : ℕ) → (if b then Err (Sizes (cell row 0)) else Ok number) ≡ Ok view → Some number ≡ Some view
    chosen true number view e = cc
    chosen false number view e = ap Some (same_Ok _ _ _ refl e)

    found : (o : Option ℕ) (view : ℕ) → view_without given (cell row 0) o ≡ Ok view → o ≡ Some view
    found None view e = cc
    found (Some number) view e = chosen (is_some (get_or given number None)) number view e

number-below : (names : List (List ℕ)) (name : List ℕ) (view : ℕ) → number_of names name ≡ Some view → view < length names
number-below names name view e = (position-Some (λ n. bytes_eq n name) names view [] e).0

or-assoc : (a b c : Bool) → ((a || b) || c) ≡ (a || (b || c))
or-assoc true b c = refl
or-assoc false b c = refl

or-false : (a : Bool) → a ≡ (a || false)
or-false true = refl
or-false false = refl

of-view : (view number : ℕ) (o : Option ℕ) → o ≡ Some number → is_view view o ≡ same number view
unfolding is_view
of-view view number o e = rw e refl

-- a view has sizes after some rows where it had some before, or one of them writes it
marks : (names : List (List ℕ)) (columns : Columns) (width number : ℕ) (given after : List (Option SizeRow)) (rows : List Cells) (view : ℕ) → length given ≡ length names
    → records_give (sizes_scheme names) width columns number given rows ≡ Ok after
    → (length after ≡ length names) × (is_some (get_or after view None) ≡ (is_some (get_or given view None) || list_any (is_row names view) rows))
marks names columns width number given after [] view long e =
    let own : given ≡ after = same_Ok _ _ _ (records_give-none (sizes_scheme names) width columns number given) e in
    (sym (ap length own) ∙ long, ap (λ (g : List (Option SizeRow)). is_some (get_or g view None)) (sym own) ∙ or-false (is_some (get_or given view None)))
marks names columns width number given after (row ∷ rows) view long e =
    let next = from_step (record_gives (sizes_scheme names) width columns given number row) _ after (sym (records_give-first (sizes_scheme names) width columns number given row rows) ∙ e) in
    let taken = or_fault-ok (form_fault width number row) (placed names columns given number row) next.0 next.1 in
    let own = placed-marks names columns given next.0 number row taken in
    let length_next : length next.0 ≡ length names = ap length own.3 ∙ length-set given own.0 (Some own.1) ∙ long in
    let later = marks names columns width (number + 1) next.0 after rows view length_next next.2 in
    let within = number-below names (view_in row) own.0 own.2 in
    let mark = marked given own.0 view own.1 (omega arith) in
    let here : is_row names view row ≡ same own.0 view = of-view view own.0 (number_of names (view_in row)) own.2 in (
      later.0,
      later.1 ∙ ap (λ (g : List (Option SizeRow)). is_some (get_or g view None) || list_any (is_row names view) rows) own.3 ∙ ap (λ b. b || list_any (is_row names view) rows) (mark ∙ ap (λ b. is_some (get_or given view None) || b) (sym here))
          ∙ or-assoc (is_some (get_or given view None)) (is_row names view row) (list_any (is_row names view) rows),
    )

-- the same from the start
given-marks : (names : List (List ℕ)) (columns : Columns) (width : ℕ) (after : List (Option SizeRow)) (rows : List Cells) (view : ℕ) → view < length names
    → records_give (sizes_scheme names) width columns 2 (replicate (length names) None) rows ≡ Ok after
    → (length after ≡ length names) × (is_some (get_or after view None) ≡ list_any (is_row names view) rows)
given-marks names columns width after rows view below e =
    let all = marks names columns width 2 (replicate (length names) None) after rows view (length-replicate (length names) no_size) e in
    (all.0, all.1 ∙ ap (λ (o : Option SizeRow). is_some o || list_any (is_row names view) rows) (get_or-replicate (length names) view no_size no_size below))

-- One row.

-- a row of this view is one that has its name
row-name : (names : List (List ℕ)) (name : List ℕ) (view : ℕ) (cells : Cells) → number_of names name ≡ Some view → is_row names view cells ≡ bytes_eq (view_in cells) name
row-name names name view cells found = by (cases_Bool (bytes_eq (view_in cells) name)) (cases_Bool (is_row names view cells))
  where
    by : (bytes_eq (view_in cells) name ≡ true) ⊎ (bytes_eq (view_in cells) name ≡ false) → (is_row names view cells ≡ true) ⊎ (is_row names view cells ≡ false) → is_row names view cells ≡ bytes_eq (view_in cells) name
    by (inl equal) row = is-row names view cells (ap (number_of names) ((bytes_eq-Decides (view_in cells) name).0 equal) ∙ found) ∙ sym equal
    by (inr other) (inr none) = none ∙ sym other
    by (inr other) (inl row) =
        let one = (position-Some (λ n. bytes_eq n (view_in cells)) names view [] (row-is names view cells row)).1 in
        let two = (position-Some (λ n. bytes_eq n name) names view [] found).1 in
        let equal : view_in cells ≡ name = sym ((bytes_eq-Decides (get_or names view []) (view_in cells)).0 one) ∙ (bytes_eq-Decides (get_or names view []) name).0 two in
        let bad : true ≡ false = sym ((bytes_eq-Decides (view_in cells) name).1 equal) ∙ other in
        absurd (let no : true ≡ false = bad in cc)

rows-named : (names : List (List ℕ)) (name : List ℕ) (view : ℕ) (rows : List Cells) → number_of names name ≡ Some view → list_any (is_row names view) rows ≡ is_named (map view_in rows) name
rows-named names name view [] found = refl
rows-named names name view (row ∷ rows) found = rw (row-name names name view row found, rows-named names name view rows found) refl

-- what is judged of a row's numbers
abbrev numbers_judged : List ℕ → ℕ → Option ℤ → Option ℤ → Option ℤ → Option ℤ → List (Option LoadFault)
numbers_judged name number pre post change weight =
    fault_if (not (is_some pre)) (Number number) ∷ fault_if (not (is_some post)) (Number number) ∷ fault_if (not (is_some change)) (Number number)
    ∷ fault_if (not (is_some weight)) (Number number)
    ∷ fault_if (not (is_some (option_and_then rows_in pre))) (Sizes name) ∷ fault_if (not (is_some (option_and_then rows_in post))) (Sizes name) ∷ fault_if (not (is_some (option_and_then rows_in change))) (Sizes name)
    ∷ fault_if (are_apart (option_and_then rows_in pre) (option_and_then rows_in post) (option_and_then rows_in change)) (Sizes name)
    ∷ fault_if (not (is_some (option_and_then weight_in weight))) (Sizes name) ∷ []

abbrev ranges : Option ℕ → Option ℕ → Option ℕ → Option ℕ → Option SizeRow
ranges a b c w = option_and_then (λ pre. option_and_then (λ post. option_and_then (λ change.
    if nat_le post (pre + change) && nat_le pre (post + change) then weighing pre post change w else None) c) b) a

ranges-judged : (name : List ℕ) (a b c w : Option ℕ) (next : SizeRow → Result (List (Option SizeRow)) LoadFault) → ((size : SizeRow) → result_err (next size) ≡ None)
    → result_err (ok_or (ranges a b c w) (Sizes name) >>= next)
    ≡ first_of (fault_if (not (is_some a)) (Sizes name) ∷ fault_if (not (is_some b)) (Sizes name) ∷ fault_if (not (is_some c)) (Sizes name) ∷ fault_if (are_apart a b c) (Sizes name)
    ∷ fault_if (not (is_some w)) (Sizes name) ∷ [])
ranges-judged name None b c w next good = refl
ranges-judged name (Some pre) None c w next good = refl
ranges-judged name (Some pre) (Some post) None w next good = refl
ranges-judged name (Some pre) (Some post) (Some change) w next good = by (nat_le post (pre + change) && nat_le pre (post + change)) w
  where
    by : (near : Bool) (w : Option ℕ) → result_err (ok_or (if near then weighing pre post change w else None) (Sizes name) >>= next)
        ≡ first_of (fault_if (not near) (Sizes name) ∷ fault_if (not (is_some w)) (Sizes name) ∷ [])
    by true (Some weight) = good (record { pre = pre; post = post; change = change; weight = weight })
    by true None = refl
    by false w = refl

numbers-judged : (columns : Columns) (number : ℕ) (row : Cells) (next : SizeRow → Result (List (Option SizeRow)) LoadFault) → ((size : SizeRow) → result_err (next size) ≡ None)
    → result_err (size_written columns number row >>= next)
    ≡ first_of (numbers_judged (view_in row) number (whole_number (cell row 1)) (whole_number (cell row 2)) (whole_number (cell row 3)) (weight_of columns row))
unfolding counts_of size_within
numbers-judged columns number row next good = by (whole_number (cell row 1)) (whole_number (cell row 2)) (whole_number (cell row 3)) (weight_of columns row)
  where
    by : (pre post change weight : Option ℤ)
        → result_err ((ok_or (option_and_then (λ pre. option_and_then (λ post. option_and_then (λ change. option_and_then (λ weight.
        Some (record { pre = pre; post = post; change = change; weight = weight })) weight) change) post) pre) (Number number)
        >>= (λ (counts : Counts). ok_or (size_within counts) (Sizes (view_in row)))) >>= next)
        ≡ first_of (numbers_judged (view_in row) number pre post change weight)
    by None post change weight = refl
    by (Some a) None change weight = refl
    by (Some a) (Some b) None weight = refl
    by (Some a) (Some b) (Some c) None = refl
    by (Some a) (Some b) (Some c) (Some w) = ranges-judged (view_in row) (rows_in a) (rows_in b) (rows_in c) (weight_in w) next good

-- taking a row is what is judged of it
row-judged : (names : List (List ℕ)) (columns : Columns) (width : ℕ) (rows : List Cells) (given : List (Option SizeRow)) (number : ℕ) (cells : Cells)
    → records_give (sizes_scheme names) width columns 2 (replicate (length names) None) rows ≡ Ok given
    → result_err (placed names columns given number cells) ≡ first_of (size_judged names columns rows number cells)
row-judged names columns width rows given number cells e = by (number_of names (view_in cells)) refl
  where
    named : (o : Option ℕ) → number_of names (view_in cells) ≡ o → is_named names (view_in cells) ≡ is_some o
    named o found = sym (position-any (λ n. bytes_eq n (view_in cells)) names) ∙ ap is_some found

    chosen : (twice : Bool) (view : ℕ)
        → result_err ((if twice then Err (Sizes (view_in cells)) else Ok view) >>= (λ v. size_written columns number cells >>= (λ size. Ok (set given v (Some size)))))
        ≡ first_of (fault_if twice (Sizes (view_in cells))
        ∷ numbers_judged (view_in cells) number (whole_number (cell cells 1)) (whole_number (cell cells 2)) (whole_number (cell cells 3)) (weight_of columns cells))
    chosen true view = refl
    chosen false view = numbers-judged columns number cells (λ size. Ok (set given view (Some size))) (λ size. refl)

    by : (o : Option ℕ) → number_of names (view_in cells) ≡ o
        → result_err (view_without given (view_in cells) o >>= (λ v. size_written columns number cells >>= (λ size. Ok (set given v (Some size))))) ≡ first_of (size_judged names columns rows number cells)
    by None found = rw (named None found) refl
    by (Some view) found =
        let twice = (given-marks names columns width given rows view (number-below names (view_in cells) view found) e).1 ∙ rows-named names (view_in cells) view rows found in
        rw (named (Some view) found, ← twice) (chosen (is_some (get_or given view None)) view)

sizes-judged : (names : List (List ℕ)) → Judges (sizes_scheme names) (sizes_judging names) (replicate (length names) None)
sizes-judged names = record {
  kinds = λ header. refl;
  cells = λ columns width rows before number cells made. row-judged names columns width rows before number cells made;
}

-- All rows.

-- a fault of a part is above the views without a row
part-above : (names : List (List ℕ)) (header : Cells) (rows : List Cells) (view : ℕ) (place : Place) (fault : LoadFault) → PartWrong (sizes_judging names) (header ∷ rows) place fault
    → IsBefore ((length rows + 2) ∷ view ∷ []) place → ⊥
part-above names header rows view place fault (no_header none own at) before = (let bad = sym none in cc)
part-above names header rows view place fault (in_header own below judgement parts finds at) before = by (subst (IsBefore ((length rows + 2) ∷ view ∷ [])) at before)
  where
    by : IsBefore ((length rows + 2) ∷ view ∷ []) (1 ∷ judgement ∷ []) → ⊥
    by (inl less) = omega arith
    by (inr equal) = let e = equal.0 in omega arith
part-above names header rows view place fault (in_record own below kind above cells judgement parts tells there finds at) before = by (subst (IsBefore ((length rows + 2) ∷ view ∷ [])) at before)
  where
    same_rows : below ≡ rows
    same_rows = cc

    within : above < length rows
    within = slice_get_within rows above cells (subst (λ rs. slice_get rs above ≡ Some cells) same_rows there)

    by : IsBefore ((length rows + 2) ∷ view ∷ []) ((above + 2) ∷ judgement ∷ []) → ⊥
    by (inl less) = let w = within in omega arith
    by (inr equal) = let w = within in let e = equal.0 in omega arith

-- a fault of the part is the first of all
first-in-part : (names : List (List ℕ)) (records : List Cells) (fault : LoadFault) → IsFirstFault (PartWrong (sizes_judging names) records) fault → IsFirstFault (SizesWrong names records) fault
first-in-part names records fault is = record { place = is.place; wrong = in_part is.wrong; first = by }
  where
    by : (before : Place) (other : LoadFault) → IsBefore before is.place → SizesWrong names records before other → ⊥
    by before other earlier (in_part wrong) = is.first before other earlier wrong
    by before other earlier (no_row header rows view parts below none own at) =
        part-above names header rows view is.place fault (subst (λ rs. PartWrong (sizes_judging names) rs is.place fault) parts is.wrong)
        (subst (λ p. IsBefore p is.place) at earlier)

-- which views have no row, once all rows are taken
record AllTaken (names : List (List ℕ)) (records : List Cells) (header : Cells) (rows : List Cells) (given : List (Option SizeRow)) : Type 0 where
  pub parts : records ≡ header ∷ rows
  pub right : IsFaultless (PartWrong (sizes_judging names) records)
  pub long : length given ≡ length names
  pub marks : (view : ℕ) → view < length names → is_some (get_or given view None) ≡ list_any (is_row names view) rows

row-there : (names : List (List ℕ)) (rows : List Cells) (view : ℕ) → list_any (is_row names view) rows ≡ true → HasNoRow names rows view → ⊥
row-there names rows view some none =
    let at = any-at (is_row names view) rows some in
    none at.0 at.1 at.2 (row-is names view at.1 at.3)

no-row : (names : List (List ℕ)) (rows : List Cells) (view : ℕ) → list_any (is_row names view) rows ≡ false → HasNoRow names rows view
no-row names rows view none = λ place cells at found. (
    let fails = none-at (is_row names view) rows place cells none at in
    let bad : true ≡ false = sym (is-row names view cells found) ∙ fails in
    cc
    )

not-true : (b : Bool) → not b ≡ true → b ≡ false
not-true true e = cc
not-true false e = refl

not-false : (b : Bool) → not b ≡ false → b ≡ true
not-false true e = refl
not-false false e = cc

-- a view without a row is the first fault of all
first-missing : (names : List (List ℕ)) (records : List Cells) (header : Cells) (rows : List Cells) (given : List (Option SizeRow)) (view : ℕ) → AllTaken names records header rows given
    → position (λ size. not (is_some size)) given ≡ Some view → IsFirstFault (SizesWrong names records) (Sizes (name_of names view))
first-missing names records header rows given view all found = record {
  place = (length rows + 2) ∷ view ∷ [];
  wrong = no_row header rows view all.parts below (no-row names rows view (sym (all.marks view below) ∙ not-true _ at.1)) refl refl;
  first = by;
}
  where
    at : (view < length given) × (not (is_some (get_or given view None)) ≡ true) × ((k : ℕ) → k < view → not (is_some (get_or given k None)) ≡ false)
    at = position-Some (λ size. not (is_some size)) given view None found

    below : view < length names
    below = let long = all.long in let own = at.0 in omega arith

    earlier-view : (k n : ℕ) → IsBefore (n ∷ k ∷ []) (n ∷ view ∷ []) → k < view
    earlier-view k n (inl less) = absurd (omega arith)
    earlier-view k n (inr equal) = second equal.1
      where
        second : IsBefore (k ∷ []) (view ∷ []) → k < view
        second (inl less) = less
        second (inr none) = absurd none.1

    by : (before : Place) (other : LoadFault) → IsBefore before ((length rows + 2) ∷ view ∷ []) → SizesWrong names records before other → ⊥
    by before other earlier (in_part wrong) = all.right before other wrong
    by before other earlier (no_row own others k parts within none is place) =
        let same_rows : others ≡ rows = tail-same own others header rows (sym parts ∙ all.parts) in
        let place_here : before ≡ (length rows + 2) ∷ k ∷ [] = place ∙ ap (λ rs. (length rs + 2) ∷ k ∷ []) same_rows in
        let less = earlier-view k (length rows + 2) (subst (λ p. IsBefore p ((length rows + 2) ∷ view ∷ [])) place_here earlier) in
        row-there names rows k (sym (all.marks k within) ∙ not-false _ (at.2 k less)) (subst (λ rs. HasNoRow names rs k) same_rows none)
      where
        tail-same : (x : Cells) (xs : List Cells) (y : Cells) (ys : List Cells) → x ∷ xs ≡ y ∷ ys → xs ≡ ys
        tail-same x xs y ys e = cc

-- with a row for each view nothing is wrong
right-sizes : (names : List (List ℕ)) (records : List Cells) (header : Cells) (rows : List Cells) (given : List (Option SizeRow)) → AllTaken names records header rows given
    → position (λ size. not (is_some size)) given ≡ None → IsFaultless (SizesWrong names records)
right-sizes names records header rows given all found = by
  where
    some : (k : ℕ) → k < length names → is_some (get_or given k None) ≡ true
    some k within =
        let none = sym (position-any (λ size. not (is_some size)) given) ∙ ap is_some found in
        let there : k < length given = let long = all.long in omega arith in
        not-false _ (none-at (λ size. not (is_some size)) given k (get_or given k None) none (slice_get-get_or given k None there))

    tail-same : (x : Cells) (xs : List Cells) (y : Cells) (ys : List Cells) → x ∷ xs ≡ y ∷ ys → xs ≡ ys
    tail-same x xs y ys e = cc

    by : (place : Place) (fault : LoadFault) → SizesWrong names records place fault → ⊥
    by place fault (in_part wrong) = all.right place fault wrong
    by place fault (no_row own others k parts within none is at) =
        let same_rows : others ≡ rows = tail-same own others header rows (sym parts ∙ all.parts) in
        row-there names rows k (sym (all.marks k within) ∙ some k within) (subst (λ rs. HasNoRow names rs k) same_rows none)

-- what the header and the rows are, where all are taken
all-taken : (names : List (List ℕ)) (records : List Cells) (given : List (Option SizeRow)) → EndsByFirst (PartWrong (sizes_judging names) records) (part_gives (sizes_scheme names) (replicate (length names) None) records)
    → part_gives (sizes_scheme names) (replicate (length names) None) records ≡ Ok given → (header : Cells) × (rows : List Cells) × AllTaken names records header rows given
all-taken names [] given ends e = cc
all-taken names (header ∷ rows) given ends e =
    let below = from_step (below_header (sizes_scheme names) (header ∷ rows)) _ given e in
    let told = header-tells (sizes_scheme names) header rows below.0 below.1 in
    let read : records_give (sizes_scheme names) (length header) told.0 2 (replicate (length names) None) rows ≡ Ok given =
    subst (λ (b : Below Columns). records_give (sizes_scheme names) b.width b.kind 2 (replicate (length names) None) b.rows ≡ Ok given) told.2 below.2 in (
      header,
      rows,
      record {
        parts = refl;
        right = ends.value given e;
        long = (marks names told.0 (length header) 2 (replicate (length names) None) given rows 0 (length-replicate (length names) no_size) read).0;
        marks = λ view within. (given-marks names told.0 (length header) given rows view within read).1;
      },
    )

whole : (names : List (List ℕ)) (records : List Cells) → EndsByFirst (SizesWrong names records) (part_gives (sizes_scheme names) (replicate (length names) None) records >>= all_sizes names)
whole names records = by (part_gives (sizes_scheme names) (replicate (length names) None) records) refl (part-ends (sizes_scheme names) (sizes_judging names) (replicate (length names) None) records (sizes-judged names))
  where
    covered : (header : Cells) (rows : List Cells) (given : List (Option SizeRow)) (o : Option ℕ) → AllTaken names records header rows given → position (λ size. not (is_some size)) given ≡ o
        → EndsByFirst (SizesWrong names records) (or_fault (option_map (λ view. Sizes (name_of names view)) o) (Ok (filter_map (λ size. size) given)))
    covered header rows given None all found = record { fault = λ fault e. cc; value = λ value e. right-sizes names records header rows given all found }
    covered header rows given (Some view) all found = record {
      fault = λ fault e. (let is : Sizes (name_of names view) ≡ fault = cc in subst (IsFirstFault (SizesWrong names records)) is (first-missing names records header rows given view all found));
      value = λ value e. cc;
    }

    by : (read : Result (List (Option SizeRow)) LoadFault) → part_gives (sizes_scheme names) (replicate (length names) None) records ≡ read
        → EndsByFirst (PartWrong (sizes_judging names) records) (part_gives (sizes_scheme names) (replicate (length names) None) records)
        → EndsByFirst (SizesWrong names records) (read >>= all_sizes names)
    by (Err own) e ends = record {
      fault = λ fault same. (let is : own ≡ fault = cc in first-in-part names records fault (ends.fault fault (e ∙ ap Err is)));
      value = λ value same. cc;
    }
    by (Ok given) e ends =
        let all = all-taken names records given ends e in
        covered all.0 all.1 given (position (λ size. not (is_some size)) given) all.2 refl

-- sizes end by their first fault
pub sizes-end : SizesEndByFirst
unfolding sizes_of_text
sizes-end names text = whole names (records_of text)
