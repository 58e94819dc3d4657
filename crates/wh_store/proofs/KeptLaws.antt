-- What the rows that a store holds show, and what they show after an operation.
use Rattle.std.proofs.Common.{◌≡◌, refl, sym, ap, subst, ◌∙◌, ℕ, zero, suc, ◌+◌, ◌-◌, ◌<◌, ◌≤◌, ◌^◌, ℤ, pos, ◌+ℤ◌, List, [], ◌∷◌, length, take, map, Bool, true, false, cond, Option, Some, None, arith, add-one}
use lib.IntN.{+ℤ_idl, +ℤ_idr}
use Rattle.std.specs.Prelude.{slice_index_or, slice_set, nat_le, nat_lt, IsTrue, ◌&&◌, is_some, if◌then◌else◌}
use Rattle.std.specs.List.{AllByRecursion}
use Rattle.std.proofs.lemmas.Bool.Decides.{nat_tests}
use Rattle.std.proofs.lemmas.List.{length-map}
use Rattle.std.proofs.Math.Seq.{take-nil}
use Rattle.wh_pieces.specs.Place.{AreRisingRows}
use Rattle.wh_pieces.specs.Pieces.{found}
use Rattle.wh_pieces.proofs.BringLaws.{none_after, rising_tail}
use Rattle.wh_row.specs.Bag.{Bag, count, empty, written as written_out}
use Rattle.wh_row.specs.Row.{Row, is_row}
use Rattle.wh_row.specs.Weigh.{Counted, count_in}
use Rattle.wh_row.proofs.BagLaws.{same_bag, same_row, written_lists}
use Rattle.wh_versions.specs.Laws.{GivesBack, PutsAreShown, BeginKeeps}
use Rattle.wh_versions.specs.Rows.{read}
use Rattle.wh_versions.specs.Tables.{ViewRows, opening, pairs_in, shown, table_at}
use Rattle.wh_versions.proofs.OpeningLaws.{opening_rises}
use Rattle.wh_versions.proofs.ShownLaws.{count_shown}
use Rattle.wh_store.specs.Operations.{Opens, Writes, Commits, Gives_up}
use Rattle.wh_store.specs.Pages.{Contents}
use Rattle.wh_store.specs.Slots.{Paired, opening_rows, put_in, rows_in, still_read, taken_back, with_pairs}
use Rattle.wh_store.specs.Versions.{kept_count, table_in, written_over}
use Rattle.wh_store.specs.Windows.{Window, Shows, applied, current, kept_version, unexpired}
use Rattle.wh_store.specs.Inner.Kept.{Begins, IsHeld, IsPut, IsUnseen, Returns, back_rows, begun_rows, contents_at, draft_at, kept_down, opened_rows, rows_of, window_held}
use Rattle.wh_store.proofs.SlotLaws.{back_pairs, begun_pairs}

-- ---- the kept versions

same_kept : (k s : ℕ) (new old : List ViewRows) → ((r : ℕ) → r ≤ s → s < r + k → contents_at new r ≡ contents_at old r) → kept_down k s new ≡ kept_down k s old
same_kept zero s new old h = refl
same_kept (suc k) zero new old h = ap (λ c. c ∷ []) (h 0 (omega arith) (omega arith))
same_kept (suc k) (suc s) new old h =
    λ i. h (suc s) (omega arith) (omega arith) i ∷ same_kept k s new old (λ r low near. h r (omega (arith, low)) (omega (arith, near))) i

first_of : (k s : ℕ) (ts : List ViewRows) → slice_index_or (kept_down (suc k) s ts) 0 [] ≡ contents_at ts s
first_of k zero ts = refl
first_of k (suc s) ts = refl

-- the first of them are the newest
first_kept : (k s : ℕ) (ts : List ViewRows) → 1 ≤ k → slice_index_or (kept_down k s ts) 0 [] ≡ contents_at ts s
first_kept zero s ts h = absurd (omega arith)
first_kept (suc k) s ts h = first_of k s ts

taken_kept : (k s : ℕ) (ts : List ViewRows) → take k (kept_down (suc k) s ts) ≡ kept_down k s ts
taken_kept zero s ts = refl
taken_kept (suc k) zero ts = ap (λ cs. contents_at ts 0 ∷ cs) (take-nil k)
taken_kept (suc k) (suc s) ts = ap (λ cs. contents_at ts (suc s) ∷ cs) (taken_kept k s ts)

-- one more version
next_kept : (n s : ℕ) (ts : List ViewRows) → 1 ≤ n → kept_down n (s + 1) ts ≡ contents_at ts (s + 1) ∷ kept_down (n - 1) s ts
next_kept n s ts h =
    let one : n ≡ suc (n - 1) = omega arith in
    ap (λ k. kept_down k (s + 1) ts) one ∙ ap (λ m. kept_down (suc (n - 1)) m ts) (add-one s) ∙ ap (λ m. contents_at ts m ∷ kept_down (n - 1) s ts) (sym (add-one s))

within : (a b : ℕ) → nat_le a b ≡ true → a ≤ b
within a b h = grind (arith, nat_tests)

beyond : (a b : ℕ) → nat_le a b ≡ false → b < a
beyond a b h = grind (arith, nat_tests)

kept_at : (k n s : ℕ) (ts : List ViewRows) → s ≤ n → n < s + k → slice_index_or (kept_down k n ts) (n - s) [] ≡ contents_at ts s
kept_at zero n s ts low near = absurd (omega arith)
kept_at (suc k) zero s ts low near =
    let none : s ≡ 0 = omega arith in
    let at : zero - s ≡ 0 = omega arith in
    ap (λ i. slice_index_or (contents_at ts 0 ∷ []) i []) at ∙ ap (contents_at ts) (sym none)
kept_at (suc k) (suc n) s ts low near = elim (nat_le s n) as (λ t. nat_le s n ≡ t → slice_index_or (contents_at ts (suc n) ∷ kept_down k n ts) (suc n - s) [] ≡ contents_at ts s) [
  | true ↦ λ t.
      let under = within s n t in
      let at : suc n - s ≡ suc (n - s) = omega arith in
      ap (λ i. slice_index_or (contents_at ts (suc n) ∷ kept_down k n ts) i []) at ∙ kept_at k n s ts under (omega arith)
  | false ↦ λ t.
      let over = beyond s n t in
      let same : s ≡ suc n = omega arith in
      let at : suc n - s ≡ 0 = omega arith in
      ap (λ i. slice_index_or (contents_at ts (suc n) ∷ kept_down k n ts) i []) at ∙ ap (contents_at ts) (sym same)
] refl

is_active : (active : Bool) (number : ℕ) (ts : List ViewRows) → is_some (draft_at active number ts) ≡ active
is_active true number ts = refl
is_active false number ts = refl

near : (n s k : ℕ) → IsTrue (nat_le s n && nat_lt n (s + k)) → (s ≤ n) × (n < s + k)
near n s k h = (grind (arith, nat_tests), grind (arith, nat_tests))

-- the contents of a version that can be read
pub kept_contents : (n number : ℕ) (active : Bool) (ts : List ViewRows) (s : ℕ) → IsTrue (unexpired (window_held n number active ts) s) → kept_version (window_held n number active ts) s ≡ contents_at ts s
kept_contents n number active ts s h =
    let P : Bool → Type 0 = λ b. IsTrue (nat_le s number && nat_lt number (s + kept_count n b)) in
    let by = near number s (kept_count n active) (subst P (is_active active number ts) h) in
    kept_at (kept_count n active) number s ts by.0 by.1

some_kept : (n : ℕ) (active : Bool) → 2 ≤ n → 1 ≤ kept_count n active
some_kept n true h = omega arith
some_kept n false h = omega arith

pub current_contents : (n number : ℕ) (active : Bool) (ts : List ViewRows) → 2 ≤ n → current (window_held n number active ts) ≡ contents_at ts number
current_contents n number active ts h = first_kept (kept_count n active) number ts (some_kept n active h)

pub contents_length : (ts : List ViewRows) (s : ℕ) → length (contents_at ts s) ≡ length ts
contents_length ts s = length-map ts (λ (t : ViewRows). table_at t s)

-- ---- one view of all

pub at_map : {B : Type 0} (h : ViewRows → B) (d : B) (ts : List ViewRows) (view : ℕ) (t : ViewRows) → view < length ts → t ≡ slice_index_or ts view t → slice_index_or (map h ts) view d ≡ h t
at_map h d [] view t l e = absurd (omega arith)
at_map h d (x ∷ ts) zero t l e = ap h (sym e)
at_map h d (x ∷ ts) (suc view) t l e = at_map h d ts view t (omega arith) e

set_map : {B : Type 0} (h : ViewRows → B) (ts : List ViewRows) (view : ℕ) (new : ViewRows) → map h (slice_set ts view new) ≡ slice_set (map h ts) view (h new)
set_map h [] view new = refl
set_map h (x ∷ ts) zero new = refl
set_map h (x ∷ ts) (suc view) new = ap (λ xs. h x ∷ xs) (set_map h ts view new)

same_map : {B : Type 0} (h : ViewRows → B) (ts : List ViewRows) (view : ℕ) (t new : ViewRows) → view < length ts → t ≡ slice_index_or ts view t → h new ≡ h t → map h (slice_set ts view new) ≡ map h ts
same_map h [] view t new l e s = absurd (omega arith)
same_map h (x ∷ ts) zero t new l e s = ap (λ y. y ∷ map h ts) (s ∙ ap h e)
same_map h (x ∷ ts) (suc view) t new l e s = ap (λ xs. h x ∷ xs) (same_map h ts view t new (omega arith) e s)

each_map : {B : Type 0} (P : ViewRows → Type 0) (f : ViewRows → ViewRows) (h r : ViewRows → B) (ts : List ViewRows) → ((t : ViewRows) → P t → h (f t) ≡ r t) → AllByRecursion P ts → map h (map f ts) ≡ map r ts
each_map P f h r [] e all = refl
each_map P f h r (t ∷ ts) e all = λ i. e t all.0 i ∷ each_map P f h r ts e all.1 i

map_map : (g : Paired → Paired) (ts : List ViewRows) → map g (rows_of ts) ≡ map (λ (t : ViewRows). g (with_pairs t.rows)) ts
map_map g [] = refl
map_map g (t ∷ ts) = ap (λ xs. g (with_pairs t.rows) ∷ xs) (map_map g ts)

-- ---- what holds of each

both : (P Q : ViewRows → Type 0) (ts : List ViewRows) → AllByRecursion P ts → AllByRecursion Q ts → AllByRecursion (λ t. P t × Q t) ts
both P Q [] p q = tt
both P Q (t ∷ ts) p q = ((p.0, q.0), both P Q ts p.1 q.1)

pub all_of : (P Q : ViewRows → Type 0) (ts : List ViewRows) → ((t : ViewRows) → P t → Q t) → AllByRecursion P ts → AllByRecursion Q ts
all_of P Q [] f p = tt
all_of P Q (t ∷ ts) f p = (f t p.0, all_of P Q ts f p.1)

all_map : (P Q : ViewRows → Type 0) (f : ViewRows → ViewRows) (ts : List ViewRows) → ((t : ViewRows) → P t → Q (f t)) → AllByRecursion P ts → AllByRecursion Q (map f ts)
all_map P Q f [] e p = tt
all_map P Q f (t ∷ ts) e p = (e t p.0, all_map P Q f ts e p.1)

pub all_at : (P : ViewRows → Type 0) (ts : List ViewRows) (view : ℕ) (t : ViewRows) → view < length ts → t ≡ slice_index_or ts view t → AllByRecursion P ts → P t
all_at P [] view t l e p = absurd (omega arith)
all_at P (x ∷ ts) zero t l e p = subst P (sym e) p.0
all_at P (x ∷ ts) (suc view) t l e p = all_at P ts view t (omega arith) e p.1

all_set : (P : ViewRows → Type 0) (ts : List ViewRows) (view : ℕ) (new : ViewRows) → P new → AllByRecursion P ts → AllByRecursion P (slice_set ts view new)
all_set P [] view new n p = tt
all_set P (x ∷ ts) zero new n p = (n, p.1)
all_set P (x ∷ ts) (suc view) new n p = (p.0, all_set P ts view new n p.1)

-- ---- a night begins

module _ (n number : ℕ) (ts : List ViewRows) (held : IsHeld n number false ts) (keeps : AllByRecursion (Begins n) ts) where
  abbrev Stands : ViewRows → Type 0
  Stands t = (t.night ≡ number + 0) × Begins n t

  stand : AllByRecursion Stands ts
  stand = both (λ t. t.night ≡ number + 0) (Begins n) ts held.nights keeps

  begun_before : (r : ℕ) → r ≤ number → number < r + (n - 1) → contents_at (map (begun_rows n) ts) r ≡ contents_at ts r
  begun_before r low high = each_map Stands (begun_rows n) (λ t. table_at t r) (λ t. table_at t r) ts (λ t s.
      let night : t.night ≡ number + 0 = s.0 in
      s.1.before r (omega (arith, low)) (omega (arith, high))) stand

  begun_draft : contents_at (map (begun_rows n) ts) (number + 1) ≡ contents_at ts number
  begun_draft = each_map Stands (begun_rows n) (λ t. table_at t (number + 1)) (λ t. table_at t number) ts (λ t s.
      let night : t.night ≡ number + 0 = s.0 in
      let same : t.night ≡ number = omega arith in
      ap (λ m. table_at (begun_rows n t) (m + 1)) (sym same) ∙ s.1.new ∙ ap (table_at t) same) stand

  begun_list : rows_of (map (begun_rows n) ts) ≡ map (still_read n (number + 1)) (rows_of ts)
  begun_list = each_map Stands (begun_rows n) (λ t. with_pairs t.rows) (λ t. still_read n (number + 1) (with_pairs t.rows)) ts (λ t s.
      let night : t.night ≡ number + 0 = s.0 in
      let same : t.night ≡ number = omega arith in
      begun_pairs n (t.night + 1) t.rows ∙ ap (λ m. still_read n (m + 1) (with_pairs t.rows)) same) stand ∙ sym (map_map (still_read n (number + 1)) ts)

  pub begun_window : window_held n number true (map (begun_rows n) ts) ≡ applied (window_held n number false ts) Opens
  begun_window =
      let enough : 2 ≤ n = held.enough in
      let one : n ≡ suc (n - 1) = omega arith in
      let kept : kept_down (n - 1) number (map (begun_rows n) ts) ≡ take (n - 1) (kept_down n number ts) =
      same_kept (n - 1) number (map (begun_rows n) ts) ts begun_before ∙ sym (taken_kept (n - 1) number ts) ∙ ap (λ k. take (n - 1) (kept_down k number ts)) (sym one) in
      let draft = begun_draft ∙ sym (first_kept n number ts (omega arith)) in
      λ i. record { limit = n; number = number; kept = kept i; draft = Some (draft i); rows = begun_list i }

  pub begun_held : number + 1 < 2 ^ 64 → IsHeld n number true (map (begun_rows n) ts)
  begun_held next = record {
    enough = held.enough;
    few = held.few;
    next = next;
    nights = all_map (λ t. t.night ≡ number + 0) (λ t. t.night ≡ number + 1) (begun_rows n) ts (λ t e. (let night : t.night ≡ number + 0 = e in omega arith)) held.nights;
  }

-- ---- a night is given up

module _ (n number : ℕ) (ts : List ViewRows) (held : IsHeld n number true ts) (returns : AllByRecursion Returns ts) where
  abbrev Stood : ViewRows → Type 0
  Stood t = (t.night ≡ number + 1) × Returns t

  stood : AllByRecursion Stood ts
  stood = both (λ t. t.night ≡ number + 1) Returns ts held.nights returns

  back : (t : ViewRows) → Stood t → GivesBack number t (back_rows t)
  back t s = s.1 number (s.0 ∙ add-one number)

  back_before : (r : ℕ) → r ≤ number → contents_at (map back_rows ts) r ≡ contents_at ts r
  back_before r low = each_map Stood back_rows (λ t. table_at t r) (λ t. table_at t r) ts (λ t s. (back t s).before r low) stood

  back_new : contents_at (map back_rows ts) (number + 1) ≡ contents_at ts number
  back_new = each_map Stood back_rows (λ t. table_at t (number + 1)) (λ t. table_at t number) ts (λ t s. ap (table_at (back_rows t)) (add-one number) ∙ (back t s).new) stood

  back_list : rows_of (map back_rows ts) ≡ map (taken_back (number + 1)) (rows_of ts)
  back_list = each_map Stood back_rows (λ t. with_pairs t.rows) (λ t. taken_back (number + 1) (with_pairs t.rows)) ts (λ t s.
      back_pairs t.night t.rows ∙ ap (λ m. taken_back m (with_pairs t.rows)) s.0) stood ∙ sym (map_map (taken_back (number + 1)) ts)

  pub back_window : window_held n (number + 1) false (map back_rows ts) ≡ applied (window_held n number true ts) Gives_up
  back_window =
      let enough : 2 ≤ n = held.enough in
      let kept : kept_down n (number + 1) (map back_rows ts) ≡ slice_index_or (kept_down (n - 1) number ts) 0 [] ∷ kept_down (n - 1) number ts =
      next_kept n number (map back_rows ts) (omega arith)
      ∙ (λ i. (back_new ∙ sym (first_kept (n - 1) number ts (omega arith))) i ∷ same_kept (n - 1) number (map back_rows ts) ts (λ r low near. back_before r low) i) in
      λ i. record { limit = n; number = number + 1; kept = kept i; draft = None; rows = back_list i }

  pub back_held : IsHeld n (number + 1) false (map back_rows ts)
  back_held = record {
    enough = held.enough;
    few = held.few;
    next = (let next = held.next in omega (arith, next));
    nights = all_map (λ t. t.night ≡ number + 1) (λ t. t.night ≡ (number + 1) + 0) back_rows ts (λ t e. (let night : t.night ≡ number + 1 = e in omega arith)) held.nights;
  }

-- ---- a commit

pub committed_window : (n number : ℕ) (ts : List ViewRows) → 2 ≤ n → window_held n (number + 1) false ts ≡ applied (window_held n number true ts) Commits
committed_window n number ts enough = ap (λ ks. record { limit = n; number = number + 1; kept = ks; draft = None; rows = rows_of ts }) (next_kept n number ts (omega arith))

pub committed_held : (n number : ℕ) (ts : List ViewRows) → IsHeld n number true ts → IsHeld n (number + 1) false ts
committed_held n number ts held = record {
  enough = held.enough;
  few = held.few;
  next = (let next = held.next in omega (arith, next));
  nights = all_of (λ t. t.night ≡ number + 1) (λ t. t.night ≡ (number + 1) + 0) ts (λ t e. (let night : t.night ≡ number + 1 = e in omega arith)) held.nights;
}

-- ---- counts are written

module _ (n number : ℕ) (ts : List ViewRows) (held : IsHeld n number true ts) (view : ℕ) (t new : ViewRows) (l : view < length ts) (is : t ≡ slice_index_or ts view t) where
  pub own_night : t.night ≡ number + 1
  own_night = all_at (λ x. x.night ≡ number + 1) ts view t l is held.nights

  pub set_held : new.night ≡ t.night → IsHeld n number true (slice_set ts view new)
  set_held night = record {
    enough = held.enough;
    few = held.few;
    next = held.next;
    nights = all_set (λ x. x.night ≡ number + 1) ts view new (night ∙ own_night) held.nights;
  }

  same_contents : (s : ℕ) → table_at new s ≡ table_at t s → contents_at (slice_set ts view new) s ≡ contents_at ts s
  same_contents s h = same_map (λ x. table_at x s) ts view t new l is h

  pub unseen_window : IsUnseen t new → window_held n number true (slice_set ts view new) ≡ window_held n number true ts
  unseen_window u = λ i. record {
    limit = n;
    number = number;
    kept = same_kept (n - 1) number (slice_set ts view new) ts (λ r low near. same_contents r (u.shown r)) i;
    draft = Some (same_contents (number + 1) (u.shown (number + 1)) i);
    rows = same_map (λ x. with_pairs x.rows) ts view t new l is u.rows i;
  }

  pub put_window : (given : Counted) → IsPut n given t new → window_held n number true (slice_set ts view new) ≡ applied (window_held n number true ts) (Writes view given)
  put_window given p =
      let night : t.night ≡ number + 1 = own_night in
      let contents : contents_at (slice_set ts view new) (number + 1) ≡ written_over view given (contents_at ts (number + 1)) =
      set_map (λ x. table_at x (number + 1)) ts view new
      ∙ ap (slice_set (contents_at ts (number + 1)) view) (
      ap (table_at new) (sym night) ∙ p.shown.new ∙ (λ i. Rattle.wh_store.specs.Pages.with_counts (table_at t (night i)) given)
      ∙ ap (λ b. Rattle.wh_store.specs.Pages.with_counts b given) (sym (at_map (λ x. table_at x (number + 1)) empty ts view t l is))) in
      let list : rows_of (slice_set ts view new) ≡ slice_set (rows_of ts) view (put_in n (number + 1) given (rows_in (rows_of ts) view)) =
      set_map (λ x. with_pairs x.rows) ts view new
      ∙ ap (slice_set (rows_of ts) view) (
      p.rows ∙ ap (λ m. put_in n m given (with_pairs t.rows)) night
      ∙ ap (put_in n (number + 1) given) (sym (at_map (λ x. with_pairs x.rows) [] ts view t l is))) in
      λ i. record {
        limit = n;
        number = number;
        kept = same_kept (n - 1) number (slice_set ts view new) ts (λ r low near. same_contents r (p.shown.before r (omega (arith, low)) (omega (arith, near)))) i;
        draft = Some (contents i);
        rows = list i;
      }

-- ---- the opening tables

counts_opened : (es : Counted) (q : Row) → AreRisingRows (opening es) → read 0 (pairs_in (found q (opening es))) ≡ count_in es q
counts_opened [] q h = refl
counts_opened (e ∷ es) q h = elim (is_row q e.0) as (λ t. is_row q e.0 ≡ t → read 0 (pairs_in (cond t (Some ((0, e.1) ∷ [])) (found q (opening es)))) ≡ cond t e.1 (pos 0) +ℤ count_in es q) [
  | true ↦ λ t.
      let none : count_in es q ≡ pos 0 = sym (counts_opened es q (rising_tail (e.0, (0, e.1) ∷ []) (opening es) h))
      ∙ ap (λ o. read 0 (pairs_in o)) (ap (λ r. found r (opening es)) (same_row q e.0 t) ∙ none_after (e.0, (0, e.1) ∷ []) (opening es) h) in
      sym (ap (λ z. e.1 +ℤ z) none ∙ +ℤ_idr e.1)
  | false ↦ λ t. counts_opened es q (rising_tail (e.0, (0, e.1) ∷ []) (opening es) h) ∙ sym (+ℤ_idl (count_in es q))
] refl

opened_table : (b : Bag) → table_at (opened_rows b) 0 ≡ b
opened_table b = same_bag _ _ (λ q.
    count_shown 0 (opening (written_out b)) q
    ∙ counts_opened (written_out b) q (opening_rises (written_out b) (written_lists b).rising)
    ∙ (written_lists b).whole q)

opened_contents : (tables : Contents) → contents_at (map opened_rows tables) 0 ≡ tables
opened_contents [] = refl
opened_contents (b ∷ tables) = λ i. opened_table b i ∷ opened_contents tables i

pub opened_current : (n : ℕ) (tables : Contents) → 2 ≤ n → current (window_held n 0 false (map opened_rows tables)) ≡ tables
opened_current n tables h = current_contents n 0 false (map opened_rows tables) h ∙ opened_contents tables

pub opened_shows : (n : ℕ) (tables : Contents) → 2 ≤ n → Shows (window_held n 0 false (map opened_rows tables)) tables []
opened_shows n tables h =
    let one : n ≡ suc (n - 1) = omega arith in
    let kept : kept_down n 0 (map opened_rows tables) ≡ take n (tables ∷ []) =
    ap (λ k. kept_down k 0 (map opened_rows tables)) one
    ∙ (λ i. opened_contents tables i ∷ sym (take-nil (n - 1)) i)
    ∙ ap (λ k. take k (tables ∷ [])) (sym one) in
    ap (λ ks. record { limit = n; number = 0; kept = ks; draft = None; rows = rows_of (map opened_rows tables) }) kept

pairs_opened : (es : Counted) → with_pairs (opening es) ≡ opening es
pairs_opened [] = refl
pairs_opened (e ∷ es) = ap (λ xs. (e.0, (0, e.1) ∷ []) ∷ xs) (pairs_opened es)

pub rows_opened : (tables : Contents) → rows_of (map opened_rows tables) ≡ opening_rows tables
rows_opened [] = refl
rows_opened (b ∷ tables) = λ i. pairs_opened (written_out b) i ∷ rows_opened tables i

pub opened_held : (n : ℕ) (tables : Contents) → 2 ≤ n → n ≤ 4 → IsHeld n 0 false (map opened_rows tables)
opened_held n tables two few = record { enough = two; few = few; next = omega arith; nights = zero_nights tables }
  where
    zero_nights : (bs : Contents) → AllByRecursion (λ (t : ViewRows). t.night ≡ 0 + 0) (map opened_rows bs)
    zero_nights [] = tt
    zero_nights (b ∷ bs) = (refl, zero_nights bs)
