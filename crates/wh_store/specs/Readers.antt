-- What a reader of a view is answered, and where it then stands: one rule for desks and for the machine over events.
use Rattle.std.specs.Prelude.{ℕ, ◌-◌, ◌==◌, ◌||◌, Bool, not, nat_le, nat_lt, if◌then◌else◌, length, slice_get, Option, Some, None, option_map}
use Rattle.wh_row.specs.Row.{Row}
use Rattle.wh_store.specs.Pages.{Contents, Shown, page_of}
use Rattle.wh_store.specs.Versions.{is_unexpired, table_in}

-- where a reader's next page goes on: of which view it read last, and behind which row
pub record Bookmark : Type 0 where
  pub view : ℕ
  pub row : Row

-- the bookmark that a page leaves: at its last row, where more follow
abbrev pub bookmark_after : ℕ → Shown → Option Bookmark
bookmark_after view page = if page.last then None else option_map (λ e. record { view = view; row = e.0 }) (slice_get page.rows (length page.rows - 1))

-- the row behind which the next page of a view begins
abbrev pub goes_on : ℕ → Option Bookmark → Option Row
goes_on view None = None
goes_on view (Some mark) = if mark.view == view then Some mark.row else None

-- why a read is answered no page: sessions of its version can be read no more, beside this current one and while a night is open or not; or
-- there is no such view; or a page has no so many rows, but 1 to 256
pub data Unread : Type 0 where
  Is_expired : (of current : ℕ) (active : Bool) → Unread
  No_such_view : Unread
  No_such_limit : Unread

-- What a read of a view comes to, in a version with these contents, where so many versions are kept, this one is current, and a night is open
-- or not: the view's first rows after this one, at most so many, or the first reason against it. The one is told by the second function, and
-- the other by the first
abbrev pub read_by : {A : Type 0} → (Unread → A) → (Shown → A) → ℕ → ℕ → Bool → Contents → ℕ → ℕ → Option Row → ℕ → A
read_by refused shown kept current active contents of view after limit =
    if not (is_unexpired kept current active of) then refused (Is_expired of current active)
    else if nat_le (length contents) view then refused No_such_view
    else if (limit == 0) || nat_lt 256 limit then refused No_such_limit
    else shown (page_of (table_in contents view) after limit)
