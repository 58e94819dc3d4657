-- What callers see of a desk, and how it is answered.
use Rattle.std.specs.Prelude.{◌≡◌, ◌≢◌, ◌≤◌, ℕ, IsTrue, List, [], length, Option, Some, None, Result, Ok, Err}
use mathlib.Core.List.{IsPrefix}
use Rattle.left_right.specs.Sides.{view}
use Rattle.logbook.specs.Pages.{Book}
use Rattle.wh_row.specs.Row.{Row}
use Rattle.wh_store.specs.Operations.{Operation}
use Rattle.wh_store.specs.Pages.{Shown}
use Rattle.wh_store.specs.Readers.{Is_expired, No_such_view, Unread, read_by}
use Rattle.wh_store.specs.Versions.{Versions, is_active, is_well_formed, number, version}
use Rattle.wh_store.specs.Ledgers.{Warehouse, versions_in}
use Rattle.wh_desk.specs.declared.chair.Chair.{Chair}
use Rattle.wh_desk.specs.declared.chair.DeskFault.{DeskFault}
use Rattle.wh_desk.specs.declared.chair.DeskFault.TheVariants.{NoSession, SessionOpen, Expired, NoView, Memory, Away}
use Rattle.wh_desk.specs.Known.{Known}

-- at which warehouse, what it began with, the longest beginning of its published list that was seen or told, and the version of the
-- session, if one is open
pub record Sitting : Type 0 where
  pub book : Book
  pub of : Warehouse
  pub list : List Operation
  pub session : Option ℕ

abbrev pub sitting : Known → Option ℕ → Sitting
sitting k session = record { book = k.book; of = k.of; list = k.list; session = session }

abbrev pub sitting_of : Chair → Sitting
sitting_of c = sitting c.front c.session

-- at the same warehouse, and all that was seen and told stays
abbrev pub Grows : Sitting → Sitting → Type 0
Grows s t = (t.book ≡ s.book) × (t.of ≡ s.of) × IsPrefix s.list t.list

-- a well-formed list is seen, which begins with all that was seen and told
abbrev pub GoesOn : Sitting → Sitting → Type 0
GoesOn s t = Grows s t × IsTrue (is_well_formed (length t.of.opening) t.list)

-- the versions that this list makes
abbrev pub versions_seen : Sitting → Versions
versions_seen s = versions_in s.of s.list

-- ---- open

-- a session begins, of the current version of the list that is seen
abbrev pub OpensAt : Sitting → Sitting → ℕ → Type 0
OpensAt s t v = GoesOn s t × (s.session ≡ None) × (t.session ≡ Some v) × (v ≡ number (versions_seen t))

abbrev pub NotOpened : Sitting → Sitting → DeskFault → Type 0
NotOpened s t SessionOpen = (t ≡ s) × (s.session ≢ None)
NotOpened s t Away = (t ≡ s) × (s.session ≡ None)
NotOpened s t NoSession = ⊥
NotOpened s t (Expired v number active) = ⊥
NotOpened s t NoView = ⊥
NotOpened s t Memory = ⊥

-- ---- page

-- the session stays, of this version
abbrev pub Stays : Sitting → Sitting → ℕ → Type 0
Stays s t v = GoesOn s t × (s.session ≡ Some v) × (t.session ≡ Some v)

-- what a read of a view in this version comes to, in the list that is seen
unfoldable pub answer_in : Sitting → ℕ → ℕ → Option Row → ℕ → Result Shown Unread
answer_in t v view after limit = read_by Err Ok t.of.limit (number (versions_seen t)) (is_active (versions_seen t)) (version (versions_seen t) v) v view after limit

-- the page of a view in the session's version, in the list that is seen
abbrev pub Reads : Sitting → Sitting → ℕ → Option Row → ℕ → Shown → Type 0
Reads s t view after limit page = (v : ℕ) × Stays s t v × (answer_in t v view after limit ≡ Ok page)

-- why there is no page; memory may be wanted for a page's rows alone
abbrev pub NotRead : Sitting → Sitting → ℕ → Option Row → ℕ → DeskFault → Type 0
NotRead s t view after limit NoSession = (t ≡ s) × (s.session ≡ None)
NotRead s t view after limit Away = (t ≡ s) × (s.session ≢ None)
NotRead s t view after limit SessionOpen = ⊥
NotRead s t view after limit (Expired of current active) = (v : ℕ) × Stays s t v × (answer_in t v view after limit ≡ Err (Is_expired of current active))
NotRead s t view after limit NoView = (v : ℕ) × Stays s t v × (answer_in t v view after limit ≡ Err No_such_view)
NotRead s t view after limit Memory = (v : ℕ) × Stays s t v × ((page : Shown) × (answer_in t v view after limit ≡ Ok page) × (page.rows ≢ []))

-- a version of a list that a desk saw has the same contents in each list that goes on from it
abbrev pub SeenVersionsStay : Type 0
SeenVersionsStay =
    (s t : Sitting) (v : ℕ) → Grows s t → v ≤ number (versions_seen s)
    → (v ≤ number (versions_seen t)) × (version (versions_seen t) v ≡ version (versions_seen s) v)
