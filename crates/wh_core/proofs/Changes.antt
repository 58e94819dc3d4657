-- What the pages that are put make of the contents, and which rows they leave.
use Rattle.std.proofs.Common.{rules, ◌≡◌, ◌≢◌, refl, sym, ap, subst, ◌∙◌, ℕ, zero, suc, ◌+◌, ◌<◌, ◌≤◌, ℤ, pos, List, [], ◌∷◌, ◌++◌, length, map, Bool, true, false, ◌||◌, ◌&&◌, cond, Option, Some, None, arith, eqb}
use Rattle.std.specs.Prelude.{◌==◌, ◌-◌, ◌-ℤ◌, ◌+ℤ◌, ◌≤ℤ◌, FitsSigned, IsTrue, is_some, nat_le, nat_lt, option_map, slice_set, slice_index_or, take, unwrap_or}
use Rattle.std.proofs.lemmas.Int.{fits_signed_from_abs, ints, to_z-of_z}
use Rattle.std.proofs.lemmas.Option.{same_Some}
use mir.Syntax.{w64}
use mir.Val.{of_z, to_z}
use Rattle.wh_row.specs.Bag.{Bag, IsTable, count, difference_of, empty, plus, set_count}
use Rattle.wh_row.specs.Row.{Row, is_row}
use Rattle.wh_row.specs.Stored.{plain}
use Rattle.wh_row.specs.Weigh.{Counted}
use Rattle.wh_row.proofs.BagLaws.{count-bag_of, count-difference_of, count-plus, same_bag, same_row}
use Rattle.wh_row.proofs.CountLaws.{count-set_count}
use Rattle.wh_versions.specs.Rows.{read}
use Rattle.wh_versions.specs.Tables.{is_given, with_counts}
use Rattle.wh_store.specs.Kept.{AreTables}
use Rattle.wh_store.specs.Laws.{AllAreTables, TablesStay, Tells, WindowsTell}
use Rattle.wh_store.specs.Slots.{pairs_at}
use Rattle.wh_store.specs.Windows.{CountsAreRead, Window, current, kept_version, unexpired}
use Rattle.wh_store.specs.declared.operation.Op.{Op}
use Rattle.wh_store.specs.declared.operation.Op.TheVariants as op
use Rattle.wh_store.specs.Operations.{Operation, Opens, Writes}
use Rattle.wh_store.specs.Pages.{Contents}
use Rattle.wh_store.specs.Versions.{Versions, is_unexpired, number, opened, table_in, version, versions_from, versions_of, written_over}
use Rattle.wh_carry.specs.declared.course.Part.{Part}
use Rattle.wh_carry.specs.declared.course.Part.TheVariants as part
use Rattle.wh_core.specs.Changes.{change_written}
use Rattle.wh_core.specs.Inner.Changes.{AreNoted, change_shown, is_put, is_put_by}
use Rattle.wh_core.specs.Laws.{IsSetup, PublishedAreWellFormed}
use Rattle.wh_core.specs.Log.{Log, is_open}
use Rattle.wh_core.specs.Nights.{Setup, published, versions}
use Rattle.wh_core.specs.Standing.{HasPut, Stands, put_by}
use Rattle.wh_core.specs.declared.machine.Machine.{Machine}
use Rattle.wh_core.proofs.Moves.{open_here}
use Rattle.wh_core.proofs.Steps.{le_true, lt_true}
use Rattle.wh_core.proofs.Underway.{versions_from-append}
use Rattle.wh_core.proofs.Wholes.{newest_is, opening_tables}

-- ---- what is written

-- contents with the pages of these parts written over them
abbrev pub put_over : Contents → List Part → Contents
put_over d [] = d
put_over d (part.Wave outcomes ∷ parts) = put_over d parts
put_over d (part.Page (op.Put view rows) ∷ parts) = put_over (written_over view (plain rows.items) d) parts
put_over d (part.Page _ ∷ parts) = put_over d parts

-- a night in which nothing else is done writes them, and leaves the versions before it
drafts : (n d : Contents) (o : List Contents) (parts : List Part)
    → versions_from (record { newest = n; older = o; draft = Some d }) (put_by parts) ≡ record { newest = n; older = o; draft = Some (put_over d parts) }
drafts n d o [] = refl
drafts n d o (part.Wave outcomes ∷ parts) = drafts n d o parts
drafts n d o (part.Page (op.Put view rows) ∷ parts) = drafts n (written_over view (plain rows.items) d) o parts
drafts n d o (part.Page op.Begin ∷ parts) = drafts n d o parts
drafts n d o (part.Page op.Commit ∷ parts) = drafts n d o parts
drafts n d o (part.Page op.GiveUp ∷ parts) = drafts n d o parts

module _ (opening : Contents) (list : List Operation) (parts : List Part) (h : HasPut list parts) where
  abbrev start : Versions
  start = versions_of opening h.before

  all_put : versions_of opening list ≡ record { newest = start.newest; older = start.older; draft = Some (put_over start.newest parts) }
  all_put = ap (versions_of opening) h.list ∙ versions_from-append (opened opening) h.before (Opens ∷ put_by parts) ∙ drafts start.newest start.newest start.older parts

  -- what is being written are the newest contents with these pages written over them
  pub draft_is : (versions_of opening list).draft ≡ Some (put_over (versions_of opening list).newest parts)
  draft_is = ap (λ (v : Versions). v.draft) all_put ∙ ap (λ n. Some (put_over n parts)) (sym (ap (λ (v : Versions). v.newest) all_put))

-- ---- rows that are not put

-- neither of two
pub neither : (a b : Bool) → (a || b) ≡ false → (a ≡ false) × (b ≡ false)
neither true b e = cc
neither false b e = (refl, e)

not_given : (rows : Counted) (t : Bag) (row : Row) → is_given row rows ≡ false → count (with_counts t rows) row ≡ count t row
not_given [] t row e = refl
not_given (x ∷ rows) t row e =
    let no = neither (is_row row x.0) (is_given row rows) e in
    not_given rows (set_count t x.0 x.1) row no.1 ∙ count-set_count t x.0 x.1 row ∙ ap (λ b. cond b x.1 (count t row)) no.0

written_there : (d : Contents) (view : ℕ) (rows : Counted) (row : Row) → is_given row rows ≡ false → count (table_in (written_over view rows d) view) row ≡ count (table_in d view) row
written_there [] view rows row e = refl
written_there (t ∷ d) zero rows row e = not_given rows t row e
written_there (t ∷ d) (suc view) rows row e = written_there d view rows row e

written_elsewhere : (d : Contents) (v view : ℕ) (t : Bag) → v ≢ view → table_in (slice_set d v t) view ≡ table_in d view
written_elsewhere [] v view t other = refl
written_elsewhere (x ∷ d) zero zero t other = absurd (other refl)
written_elsewhere (x ∷ d) zero (suc view) t other = refl
written_elsewhere (x ∷ d) (suc v) zero t other = refl
written_elsewhere (x ∷ d) (suc v) (suc view) t other = written_elsewhere d v view t (λ e. other (ap suc e))

unwritten : (d : Contents) (v view : ℕ) (rows : Counted) (row : Row) (b : Bool) → (v == view) ≡ b → (b && is_given row rows) ≡ false → count (table_in (written_over v rows d) view) row ≡ count (table_in d view) row
unwritten d v view rows row true same e =
    let at : v ≡ view = grind (arith, same) in
    subst (λ w. count (table_in (written_over v rows d) w) row ≡ count (table_in d w) row) at (written_there d v rows row e)
unwritten d v view rows row false other e =
    let no : v ≢ view = grind (arith, other) in
    ap (λ t. count t row) (written_elsewhere d v view (with_counts (table_in d v) rows) no)

-- a row of the view that no part puts counts what it counted
pub unput : (view : ℕ) (row : Row) (parts : List Part) (d : Contents) → is_put view row parts ≡ false → count (table_in (put_over d parts) view) row ≡ count (table_in d view) row
unput view row [] d e = refl
unput view row (part.Wave outcomes ∷ parts) d e = unput view row parts d e
unput view row (part.Page (op.Put v rows) ∷ parts) d e =
    let no = neither (is_put_by view row (op.Put v rows)) (is_put view row parts) e in
    unput view row parts (written_over v (plain rows.items) d) no.1 ∙ unwritten d v view (plain rows.items) row (v == view) refl no.0
unput view row (part.Page op.Begin ∷ parts) d e = unput view row parts d e
unput view row (part.Page op.Commit ∷ parts) d e = unput view row parts d e
unput view row (part.Page op.GiveUp ∷ parts) d e = unput view row parts d e

-- ---- views that are not there

beyond : (d : Contents) (view : ℕ) → length d ≤ view → table_in d view ≡ empty
beyond [] view l = refl
beyond (t ∷ d) zero l = absurd (omega (arith, l))
beyond (t ∷ d) (suc view) l = beyond d view (omega (arith, l))

as_many : (d : Contents) (v : ℕ) (t : Bag) → length (slice_set d v t) ≡ length d
as_many [] v t = refl
as_many (x ∷ d) zero t = refl
as_many (x ∷ d) (suc v) t = ap suc (as_many d v t)

put_as_many : (d : Contents) (parts : List Part) → length (put_over d parts) ≡ length d
put_as_many d [] = refl
put_as_many d (part.Wave outcomes ∷ parts) = put_as_many d parts
put_as_many d (part.Page (op.Put view rows) ∷ parts) = put_as_many (written_over view (plain rows.items) d) parts ∙ as_many d view (with_counts (table_in d view) (plain rows.items))
put_as_many d (part.Page op.Begin ∷ parts) = put_as_many d parts
put_as_many d (part.Page op.Commit ∷ parts) = put_as_many d parts
put_as_many d (part.Page op.GiveUp ∷ parts) = put_as_many d parts

pub put_beyond : (d : Contents) (parts : List Part) (view : ℕ) → length d ≤ view → (table_in (put_over d parts) view ≡ empty) × (table_in d view ≡ empty)
put_beyond d parts view l = let m = put_as_many d parts in (beyond (put_over d parts) view (omega (arith, m, l)), beyond d view l)

-- ---- rows that are noted

-- the same rows are noted
pub noted_so : (whole bag : Bag) (f g : Row → Bool) → ((row : Row) → f row ≡ g row) → AreNoted whole f bag → AreNoted whole g bag
noted_so whole bag f g same h = λ row. h row ∙ ap (λ b. cond b (count whole row) (pos 0)) (same row)

pub or_false : (b : Bool) → b ≡ (b || false)
or_false true = refl
or_false false = refl

pub or_assoc : (a b c : Bool) → ((a || b) || c) ≡ (a || (b || c))
or_assoc true b c = refl
or_assoc false b c = refl

pub is_given-append : (row : Row) (xs ys : Counted) → is_given row (xs ++ ys) ≡ (is_given row xs || is_given row ys)
is_given-append row [] ys = refl
is_given-append row (x ∷ xs) ys = ap (λ b. is_row row x.0 || b) (is_given-append row xs ys) ∙ sym (or_assoc (is_row row x.0) (is_given row xs) (is_given row ys))

pub is_put-append : (view : ℕ) (row : Row) (xs ys : List Part) → is_put view row (xs ++ ys) ≡ (is_put view row xs || is_put view row ys)
is_put-append view row [] ys = refl
is_put-append view row (part.Wave outcomes ∷ xs) ys = is_put-append view row xs ys
is_put-append view row (part.Page o ∷ xs) ys =
    ap (λ b. is_put_by view row o || b) (is_put-append view row xs ys) ∙ sym (or_assoc (is_put_by view row o) (is_put view row xs) (is_put view row ys))

-- a row that counts something was noted already
pub noted_before : (whole bag : Bag) (noted : Row → Bool) (row : Row) → count bag row ≢ pos 0 → AreNoted whole noted bag → AreNoted whole (λ q. noted q || is_row q row) bag
noted_before whole bag noted row some h q = by (noted q) (is_row q row) refl refl
  where
    by : (n r : Bool) → noted q ≡ n → is_row q row ≡ r → count bag q ≡ cond (n || r) (count whole q) (pos 0)
    by true r e f = h q ∙ ap (λ b. cond b (count whole q) (pos 0)) e
    by false false e f = h q ∙ ap (λ b. cond b (count whole q) (pos 0)) e
    by false true e f =
        let none : count bag q ≡ pos 0 = h q ∙ ap (λ b. cond b (count whole q) (pos 0)) e in
        absurd (some (ap (count bag) (sym (same_row q row f)) ∙ none))

or_true : (b : Bool) → (b || true) ≡ true
or_true true = refl
or_true false = refl

plain_sum : (z : ℤ) → (pos 0 +ℤ z) ≡ z
plain_sum z = grind arith

-- another one is noted by what it counts
pub noted_now : (whole bag : Bag) (noted : Row → Bool) (row : Row) (n : ℤ) → count bag row ≡ pos 0 → n ≡ count whole row → AreNoted whole noted bag → AreNoted whole (λ q. noted q || is_row q row) (plus bag row n)
noted_now whole bag noted row n none is h q = count-plus bag row n q ∙ by (noted q) (is_row q row) refl refl
  where
    by : (k r : Bool) → noted q ≡ k → is_row q row ≡ r → (cond r n (pos 0) +ℤ count bag q) ≡ cond (k || r) (count whole q) (pos 0)
    by k true e f =
        let same : q ≡ row = same_row q row f in
        let zero_there : count bag q ≡ pos 0 = ap (count bag) same ∙ none in
        let all : n ≡ count whole q = is ∙ ap (count whole) (sym same) in
        (let z = zero_there in grind (arith, z)) ∙ all ∙ ap (λ b. cond b (count whole q) (pos 0)) (sym (or_true k))
    by true false e f = plain_sum (count bag q) ∙ h q ∙ ap (λ b. cond b (count whole q) (pos 0)) e
    by false false e f = plain_sum (count bag q) ∙ h q ∙ ap (λ b. cond b (count whole q) (pos 0)) e

-- where all that count are noted, that is the whole
pub all_noted : (whole bag : Bag) (noted : Row → Bool) → ((row : Row) → noted row ≡ false → count whole row ≡ pos 0) → AreNoted whole noted bag → bag ≡ whole
all_noted whole bag noted none h = same_bag bag whole (λ row. by row (noted row) refl)
  where
    by : (row : Row) (b : Bool) → noted row ≡ b → count bag row ≡ count whole row
    by row true e = h row ∙ ap (λ c. cond c (count whole row) (pos 0)) e
    by row false e = h row ∙ ap (λ c. cond c (count whole row) (pos 0)) e ∙ sym (none row e)

-- what counts the same in both does not count in the difference
pub same_leaves : (b c : Bag) (row : Row) → count b row ≡ count c row → count (difference_of b c) row ≡ pos 0
same_leaves b c row e = count-difference_of b c row ∙ (let k = e in grind (arith, k))

pub no_difference : (b : Bag) → empty ≡ difference_of b b
no_difference b = same_bag empty (difference_of b b) (λ row. count-bag_of [] row ∙ sym (same_leaves b b row refl))

-- ---- what a row counts in what a store shows

-- the contents that are being written, where their version's number is told
pub night_there : (w : Window) (night : Option ℕ) (n : ℕ) → night ≡ option_map (λ contents. w.number + 1) w.draft → night ≡ Some n → (contents : Contents) × (w.draft ≡ Some contents) × (n ≡ w.number + 1)
night_there w night n is some = by w.draft (sym some ∙ is)
  where
    by : (draft : Option Contents) → Some n ≡ option_map (λ contents. w.number + 1) draft → (contents : Contents) × (draft ≡ Some contents) × (n ≡ w.number + 1)
    by None e = cc
    by (Some contents) e = (contents, refl, same_Some n (w.number + 1) e)

pub no_night_there : (w : Window) (night : Option ℕ) → night ≡ option_map (λ contents. w.number + 1) w.draft → night ≡ None → w.draft ≡ None
no_night_there w night is none = by w.draft (sym none ∙ is)
  where
    by : (draft : Option Contents) → None ≡ option_map (λ contents. w.number + 1) draft → draft ≡ None
    by None e = refl
    by (Some contents) e = cc

-- the current version can be read while a night is open
current_read : (w : Window) (contents : Contents) → 2 ≤ w.limit → w.draft ≡ Some contents → unexpired w w.number ≡ true
current_read w contents enough draft =
    ap (λ d. is_unexpired w.limit w.number (is_some d) w.number) draft
    ∙ (λ i. le_true w.number w.number (omega arith) i && lt_true w.number (w.number + (w.limit - 1)) (omega (arith, enough)) i)

module _ (w : Window) (view : ℕ) (row : Row) (enough : 2 ≤ w.limit)
    (kept : (version : ℕ) → IsTrue (unexpired w version) → CountsAreRead w view version (kept_version w version)) where
  pub reads_now : (contents : Contents) → w.draft ≡ Some contents → count (table_in (current w) view) row ≡ read w.number (pairs_at w.rows view row)
  reads_now contents draft =
      let at : w.number - w.number ≡ 0 = omega arith in
      let readable : IsTrue (unexpired w w.number) = current_read w contents enough draft in
      ap (λ k. count (table_in (slice_index_or w.kept k []) view) row) (sym at) ∙ kept w.number readable row

  -- a row counts otherwise by what the night reads of it, less what the current version does
  pub reads_change : (contents : Contents) → w.draft ≡ Some contents → CountsAreRead w view (w.number + 1) contents
      → count (change_shown w view) row ≡ read (w.number + 1) (pairs_at w.rows view row) -ℤ read w.number (pairs_at w.rows view row)
  reads_change contents draft night =
      count-difference_of (table_in (unwrap_or w.draft (current w)) view) (table_in (current w) view) row
      ∙ (λ i. count (table_in (unwrap_or (draft i) (current w)) view) row -ℤ reads_now contents draft i)
      ∙ ap (λ n. n -ℤ read w.number (pairs_at w.rows view row)) (night row)

pub is_none_there : {A : Type 0} (o : Option A) → is_some o ≡ false → o ≡ None
is_none_there None e = refl
is_none_there (Some x) e = cc

-- where no night is open
pub no_change : (w : Window) (view : ℕ) (row : Row) → w.draft ≡ None → count (change_shown w view) row ≡ pos 0
no_change w view row none = same_leaves (table_in (unwrap_or w.draft (current w)) view) (table_in (current w) view) row (ap (λ d. count (table_in (unwrap_or d (current w)) view) row) none)

-- ---- no count is below zero

table_at : (contents : Contents) (view : ℕ) → AreTables contents → IsTable (table_in contents view)
table_at [] view is = λ row. subst (λ n. pos 0 ≤ℤ n) (sym (count-bag_of [] row)) (omega arith)
table_at (t ∷ contents) zero is = is.0
table_at (t ∷ contents) (suc view) is = table_at contents view is.1

module _ (s : Setup) (log : Log) (m : Machine) (is : IsSetup s) (h : Stands s log m) where
  pub enough_kept : 2 ≤ m.store.limit
  enough_kept = let k = h.versions in let l = is.versions in omega (arith, k, l)

  module _ (well : PublishedAreWellFormed) (stay : TablesStay) where
    all_tables : AllAreTables (versions s log)
    all_tables = stay s.opening (published s log) (opening_tables s.catalog s.opening is.catalogue is.opening) (well s log is h.legal)

    module _ (tell : WindowsTell) (view : ℕ) (row : Row) where
      told : Tells m.store (versions s log)
      told = tell m.store s.opening (published s log) h.shows

      pub counts_now : pos 0 ≤ℤ count (table_in (current m.store) view) row
      counts_now =
          subst (λ c. pos 0 ≤ℤ count (table_in c view) row) (sym (told.newest enough_kept ∙ sym (newest_is s log)))
          (table_at (version (versions s log) (number (versions s log))) view (all_tables.in_versions (number (versions s log))) row)

      pub counts_then : (contents : Contents) → m.store.draft ≡ Some contents → pos 0 ≤ℤ count (table_in contents view) row
      counts_then contents draft = table_at contents view (all_tables.in_night contents (sym told.written ∙ draft)) row

  -- what the store shows is what was done
  module _ (tell : WindowsTell) (view : ℕ) where
    pub shown_is : change_shown m.store view ≡ change_written (versions s log) view
    shown_is =
        let t = tell m.store s.opening (published s log) h.shows in
        (λ i. difference_of (table_in (unwrap_or (t.written i) (t.newest enough_kept i)) view) (table_in (t.newest enough_kept i) view))

    -- a row that no part put of the view does not count otherwise
    pub unput_stays : (row : Row) → is_some m.store.draft ≡ true → is_open log ≡ true → is_put view row (take m.place m.course.parts.items) ≡ false → count (change_shown m.store view) row ≡ pos 0
    unput_stays row active opened none =
        let put = h.put opened in
        let parts = take m.place m.course.parts.items in
        let draft = draft_is s.opening (published s log) parts put in
        ap (λ c. count c row) shown_is
        ∙ same_leaves (table_in (unwrap_or (versions s log).draft (versions s log).newest) view) (table_in (versions s log).newest view) row
        (ap (λ d. count (table_in (unwrap_or d (versions s log).newest) view) row) draft ∙ unput view row parts (versions s log).newest none)

    -- nothing changes where no night is open
    pub nothing_closed : is_some m.store.draft ≡ false → empty ≡ change_written (versions s log) view
    nothing_closed e =
        let none : (versions s log).draft ≡ None = sym (tell m.store s.opening (published s log) h.shows).written ∙ is_none_there m.store.draft e in
        no_difference (table_in (versions s log).newest view) ∙ sym (λ i. difference_of (table_in (unwrap_or (none i) (versions s log).newest) view) (table_in (versions s log).newest view))

    -- a view that is not there has no change
    pub nothing_beyond : length (current m.store) ≤ view → empty ≡ change_written (versions s log) view
    nothing_beyond beyond = by (is_some m.store.draft) refl
      where
        newest : Contents
        newest = (versions s log).newest

        by : (active : Bool) → is_some m.store.draft ≡ active → empty ≡ change_written (versions s log) view
        by false e = nothing_closed e
        by true e =
            let parts = take m.place m.course.parts.items in
            let draft = draft_is s.opening (published s log) parts (h.put (sym (open_here s log m h) ∙ e)) in
            let many = ap (λ (c : Contents). length c) ((tell m.store s.opening (published s log) h.shows).newest enough_kept) in
            let both = put_beyond newest parts view (omega (arith, many, beyond)) in
            no_difference empty ∙ sym ((λ i. difference_of (table_in (unwrap_or (draft i) newest) view) (table_in newest view)) ∙ (λ i. difference_of (both.0 i) (both.1 i)))

-- ---- numbers

-- a count less another, none of which is below zero, is a number of the machine, and what it makes of it
pub less_fits : (m n : ℤ) → FitsSigned w64 m → FitsSigned w64 n → pos 0 ≤ℤ m → pos 0 ≤ℤ n → FitsSigned w64 (m -ℤ n)
less_fits m n f g h k = let small = f.sfits in let other = g.sfits in fits_signed_from_abs w64 (m -ℤ n) (omega (arith, ints, small, other))

pub as_numbers : (m n : ℤ) → FitsSigned w64 m → FitsSigned w64 n → (to_z w64 (of_z w64 m) -ℤ to_z w64 (of_z w64 n)) ≡ m -ℤ n
as_numbers m n f g i = to_z-of_z w64 m f i -ℤ to_z-of_z w64 n g i
