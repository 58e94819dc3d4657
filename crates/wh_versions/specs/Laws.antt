-- Laws of all views' rows, whatever a night does to them. Numbers of pairs fall, and there are at most n.
use Rattle.std.specs.Prelude.{◌≡◌, ℕ, suc, ◌+◌, ◌-◌, ◌<◌, ◌≤◌, ℤ, ◌↔◌, Some, None, IsTrue}
use Rattle.wh_pieces.specs.Place.{AreRisingRows}
use Rattle.wh_row.specs.Bag.{count, written as written_out}
use Rattle.wh_row.specs.Row.{Row}
use Rattle.wh_row.specs.Weigh.{Counted}
use Rattle.wh_versions.specs.Tables.{ViewRows, AreInForm, slots, count_at, table_at, written, given_up, IsBegun, MayBeAdded, with_counts}
use Rattle.wh_versions.specs.Pages.{shown_at}
use Rattle.wh_versions.specs.Rows.{Pairs, ArePairs, read, with_pair, without_pair, IsUnread, is_unread}

-- A count that night m writes changes what no session reads of the n - 1 versions before it. Sessions of version m read it, and what is
-- kept stays in form
pub record PutsAreRead (n m : ℕ) (c : ℤ) (ps : Pairs) : Type 0 where
  pub before : (s : ℕ) → s < m → m ≤ s + (n - 1) → read s (with_pair n m c ps) ≡ read s ps
  pub new : read m (with_pair n m c ps) ≡ c
  pub kept : ArePairs n m (with_pair n m c ps)

abbrev pub EachPutIsRead : Type 0
EachPutIsRead = (n m : ℕ) (c : ℤ) (ps : Pairs) → 2 ≤ n → ArePairs n m ps → PutsAreRead n m c ps

-- a night that is given up leaves its version what the version before it shows, and changes none before it
pub record ReadsBack (n s : ℕ) (ps : Pairs) : Type 0 where
  pub new : read (suc s) (without_pair (suc s) ps) ≡ read s ps
  pub before : (r : ℕ) → r ≤ s → read r (without_pair (suc s) ps) ≡ read r ps
  pub kept : ArePairs n (suc s) (without_pair (suc s) ps)

abbrev pub EachReadsBack : Type 0
EachReadsBack = (n s : ℕ) (ps : Pairs) → ArePairs n (suc s) ps → ReadsBack n s ps

-- of a row that is dropped as night m begins no session of the n - 1 versions before it reads anything
abbrev pub DroppedAreUnread : Type 0
DroppedAreUnread = (n m : ℕ) (ps : Pairs) → IsBegun n (suc m) (Some ps) None → IsUnread (n - 1) (suc m) ps

-- asking version by version tells whether no session of these versions reads anything of the row
abbrev pub UnreadIsTested : Type 0
UnreadIsTested = (k m : ℕ) (ps : Pairs) → IsTrue (is_unread k (suc m) ps) ↔ IsUnread k (suc m) ps

-- each version shows the bag of what its sessions read
abbrev pub TablesCount : Type 0
TablesCount = (t : ViewRows) (s : ℕ) (row : Row) → count (table_at t s) row ≡ count_at t s row

-- where rows rise, a version's table written out has the rows that it shows
abbrev pub TablesAreWritten : Type 0
TablesAreWritten = (t : ViewRows) (s : ℕ) → AreRisingRows t.rows → written_out (table_at t s) ≡ shown_at t s

-- once counts are written in night m, version m shows them, and each of the n - 1 versions before it what it showed
pub record PutsAreShown (n : ℕ) (given : Counted) (old after : ViewRows) : Type 0 where
  pub before : (s : ℕ) → s < old.night → old.night ≤ s + (n - 1) → table_at after s ≡ table_at old s
  pub new : table_at after old.night ≡ with_counts (table_at old old.night) given

abbrev pub EachPutIsShown : Type 0
EachPutIsShown =
    (n : ℕ) (given : Counted) (old after : ViewRows) → 2 ≤ n → AreInForm n old → ((row : Row) → slots after row ≡ written n old.night given row (slots old row))
    → PutsAreShown n given old after

-- once night s + 1 is given up, its version shows what version s shows, and so does each version up to s
pub record GivesBack (s : ℕ) (old after : ViewRows) : Type 0 where
  pub new : table_at after (suc s) ≡ table_at old s
  pub before : (r : ℕ) → r ≤ s → table_at after r ≡ table_at old r

abbrev pub EachGivesUp : Type 0
EachGivesUp =
    (n s : ℕ) (old after : ViewRows) → AreInForm n old → old.night ≡ suc s → ((row : Row) → slots after row ≡ given_up (suc s) (slots old row)) → GivesBack s old after

-- as a night begins, each of the n - 1 versions before it shows what it showed, and its own what the version before it shows
pub record BeginKeeps (n : ℕ) (old after : ViewRows) : Type 0 where
  pub before : (s : ℕ) → s ≤ old.night → old.night < s + (n - 1) → table_at after s ≡ table_at old s
  pub new : table_at after (old.night + 1) ≡ table_at old old.night

abbrev pub EachBeginKeeps : Type 0
EachBeginKeeps =
    (n : ℕ) (old after : ViewRows) → 2 ≤ n → AreInForm n old → ((row : Row) → IsBegun n (old.night + 1) (slots old row) (slots after row)) → BeginKeeps n old after

-- rows that are added with no pairs are shown by no version
abbrev pub EachAddedIsUnseen : Type 0
EachAddedIsUnseen =
    (given : Counted) (s : ℕ) (old after : ViewRows) → ((row : Row) → MayBeAdded given row (slots old row) (slots after row)) → table_at after s ≡ table_at old s
