-- What a read is answered, taken apart.
use Rattle.std.proofs.Common.{◌≡◌, ◌≢◌, ◌<◌, ◌≤◌, ◌∙◌, ℕ, zero, suc, Bool, true, false, [], ◌∷◌, Option, Result, Ok, Err, length, take, ap, arith, refl, ⊎_elim}
use Rattle.std.specs.Prelude.{filter, if◌then◌else◌, nat_le, nat_lt, not, ◌||◌, ◌==◌}
use Rattle.std.proofs.lemmas.Bool.{cases_lt, le-leb, lt-leb, ne_eqb}
use Rattle.wh_row.specs.Bag.{empty}
use Rattle.wh_row.specs.Row.{Row}
use Rattle.wh_row.specs.Weigh.{Counted}
use Rattle.wh_row.proofs.WrittenLaws.{written-empty}
use Rattle.wh_store.specs.Pages.{Contents, Shown, is_after, page_of}
use Rattle.wh_store.specs.Readers.{Is_expired, No_such_limit, No_such_view, Unread, read_by}
use Rattle.wh_store.specs.Versions.{is_unexpired, table_in}

-- by what three questions come to
abbrev chosen : {A : Type 0} → (Unread → A) → (Shown → A) → Bool → Bool → Bool → Unread → Shown → A
chosen refused tell expired lacks wrong why page = if expired then refused why else if lacks then refused No_such_view else if wrong then refused No_such_limit else tell page

-- what was answered, told by these
abbrev pub told_by : {A : Type 0} → (Unread → A) → (Shown → A) → Result Shown Unread → A
told_by refused tell (Ok page) = tell page
told_by refused tell (Err why) = refused why

chosen_told : {A : Type 0} (refused : Unread → A) (tell : Shown → A) (expired lacks wrong : Bool) (why : Unread) (page : Shown)
    → chosen refused tell expired lacks wrong why page ≡ told_by refused tell (chosen Err Ok expired lacks wrong why page)
chosen_told refused tell true lacks wrong why page = refl
chosen_told refused tell false true wrong why page = refl
chosen_told refused tell false false true why page = refl
chosen_told refused tell false false false why page = refl

within : (limit : ℕ) → 1 ≤ limit → limit ≤ 256 → ((limit == 0) || nat_lt 256 limit) ≡ false
within limit some few =
    ap (λ b. b || nat_lt 256 limit) (ne_eqb limit 0 (λ e. omega (arith, e, some))) ∙ lt-leb 257 limit (omega (arith, few))

limit_so : (limit : ℕ) → ((limit == 0) || nat_lt 256 limit) ≡ false → (1 ≤ limit) × (limit ≤ 256)
limit_so zero e = cc
limit_so (suc k) e = (omega arith, grind arith)

below : (a b : ℕ) → nat_le a b ≡ false → b < a
below a b e = grind arith

chosen_page : (readable lacks wrong : Bool) (why : Unread) (shown page : Shown) → chosen Err Ok (not readable) lacks wrong why shown ≡ Ok page
    → (readable ≡ true) × (lacks ≡ false) × (wrong ≡ false) × (page ≡ shown)
chosen_page false lacks wrong why shown page e = cc
chosen_page true true wrong why shown page e = cc
chosen_page true false true why shown page e = cc
chosen_page true false false why shown page e = (refl, refl, refl, cc)

-- ---- rows of a view that is not there

past_end : (contents : Contents) (view : ℕ) → length contents ≤ view → table_in contents view ≡ empty
past_end [] view l = refl
past_end (t ∷ contents) zero l = absurd (omega (arith, l))
past_end (t ∷ contents) (suc view) l = past_end contents view (omega (arith, l))

no_rows : (limit : ℕ) (row : Option Row) → (page_of empty row limit).rows ≡ []
no_rows limit row = ap (λ (es : Counted). take limit (filter (is_after row) es)) written-empty ∙ none limit
  where
    none : (k : ℕ) → ◌≡◌ {A = Counted} (take k []) []
    none zero = refl
    none (suc k) = refl

-- a view of which rows are shown is there
pub has_view : (contents : Contents) (view : ℕ) (row : Option Row) (limit : ℕ) → (page_of (table_in contents view) row limit).rows ≢ [] → view < length contents
has_view contents view row limit some =
    ⊎_elim
    (λ l. l)
    (λ l. absurd (some (ap (λ table. (page_of table row limit).rows) (past_end contents view l) ∙ no_rows limit row)))
    (cases_lt view (length contents))

-- ---- what is answered

module _ (kept current : ℕ) (active : Bool) (contents : Contents) (of view : ℕ) (after : Option Row) (limit : ℕ) where
  abbrev answer : Result Shown Unread
  answer = read_by Err Ok kept current active contents of view after limit

  abbrev next : Shown
  next = page_of (table_in contents view) after limit

  pub shows : is_unexpired kept current active of ≡ true → view < length contents → 1 ≤ limit → limit ≤ 256 → answer ≡ Ok next
  shows readable there some few = λ i. chosen Err Ok (not (readable i)) (lt-leb (length contents) view there i) (within limit some few i) (Is_expired of current active) next

  pub expires : is_unexpired kept current active of ≡ false → answer ≡ Err (Is_expired of current active)
  expires readable = λ i. chosen Err Ok (not (readable i)) (nat_le (length contents) view) ((limit == 0) || nat_lt 256 limit) (Is_expired of current active) next

  pub lacks : is_unexpired kept current active of ≡ true → length contents ≤ view → answer ≡ Err No_such_view
  lacks readable most = λ i. chosen Err Ok (not (readable i)) (le-leb (length contents) view most i) ((limit == 0) || nat_lt 256 limit) (Is_expired of current active) next

  pub record IsShown (page : Shown) : Type 0 where
    pub readable : is_unexpired kept current active of ≡ true
    pub there : view < length contents
    pub some : 1 ≤ limit
    pub few : limit ≤ 256
    pub is : page ≡ next

  -- a page is answered where nothing is against it
  pub shown : (page : Shown) → answer ≡ Ok page → IsShown page
  shown page e =
      let all = chosen_page (is_unexpired kept current active of) (nat_le (length contents) view) ((limit == 0) || nat_lt 256 limit) (Is_expired of current active) next page e in
      let right = limit_so limit all.2 in
      record { readable = all.0; there = below (length contents) view all.1; some = right.0; few = right.1; is = all.3 }

  -- the answer, told by others, is what they tell of it
  pub told : {A : Type 0} (refused : Unread → A) (tell : Shown → A) → read_by refused tell kept current active contents of view after limit ≡ told_by refused tell answer
  told refused tell = chosen_told refused tell (not (is_unexpired kept current active of)) (nat_le (length contents) view) ((limit == 0) || nat_lt 256 limit) (Is_expired of current active) next
