-- What callers see of a desk, and how it is answered: what only proofs and private contracts use.
use Rattle.std.specs.Prelude.{◌≡◌, ◌≢◌, ◌<◌, ◌≤◌, ℕ, Bool, IsTrue, [], false, length, MatchResult, Option, Result, Some, Ok, Err, refl}
use Rattle.std.specs.Coded.{Coded, code_by, coded×, coded_ℕ, coded_option}
use Rattle.left_right.specs.Sides.{view}
use Rattle.wh_row.specs.Row.{Row}
use Rattle.wh_store.specs.Pages.{Shown, page_of}
use Rattle.wh_store.specs.Readers.{Is_expired, No_such_view, Unread}
use Rattle.wh_store.specs.Versions.{is_active, is_unexpired, number, table_of, version}
use Rattle.wh_desk.specs.declared.chair.Chair.{Chair}
use Rattle.wh_desk.specs.declared.chair.DeskFault.{DeskFault}
use Rattle.wh_desk.specs.declared.chair.DeskFault.TheVariants.{NoSession, SessionOpen, Expired, NoView, Memory, Away}
use Rattle.wh_desk.specs.Known.{Known, Begins, IsStory}
use Rattle.wh_desk.specs.Inner.Known.{coded_known}
use Rattle.wh_desk.specs.Desks.{Sitting, answer_in, sitting, versions_seen}

abbrev pub coded_sitting : Coded Sitting
coded_sitting =
    code_by (Known × Option ℕ) (coded× coded_known (coded_option coded_ℕ)) (λ s. (record { book = s.book; of = s.of; list = s.list }, s.session))
    (λ t. sitting t.0 t.1) (λ _. refl)

-- the reader saw a beginning of f
abbrev pub Knows : Option Known → Known → Type 0
Knows v f = (k : Known) × (v ≡ Some k) × Begins k f

abbrev pub IsDesk : Chair → Type 0
IsDesk c = Knows (view c.reader.place) c.front × IsStory c.front

-- ---- a page, by its parts

-- sessions of this version can be read of the list
abbrev pub is_readable : Sitting → ℕ → Bool
is_readable t v = is_unexpired t.of.limit (number (versions_seen t)) (is_active (versions_seen t)) v

-- the page of a view in this version, in the list that is seen
abbrev pub IsPage : Sitting → ℕ → ℕ → Option Row → ℕ → Shown → Type 0
IsPage t v view after limit page =
    IsTrue (is_readable t v) × (view < length (version (versions_seen t) v)) × (page ≡ page_of (table_of (versions_seen t) v view) after limit)

-- why there is none: the version can be read no more, or has no such view; memory may be refused at any point
abbrev pub NoPage : Sitting → ℕ → ℕ → DeskFault → Type 0
NoPage t v view (Expired of current active) =
    (of ≡ v) × (is_readable t v ≡ false) × (current ≡ number (versions_seen t)) × (active ≡ is_active (versions_seen t))
NoPage t v view NoView = IsTrue (is_readable t v) × (length (version (versions_seen t) v) ≤ view)
NoPage t v view Memory = Unit {0}
NoPage t v view NoSession = ⊥
NoPage t v view SessionOpen = ⊥
NoPage t v view Away = ⊥

-- the session's version can be read, and the page of a view in it has a row
abbrev pub ShowsRows : Sitting → ℕ → Option Row → ℕ → Type 0
ShowsRows t view after limit =
    (v : ℕ) × (t.session ≡ Some v) × IsTrue (is_readable t v) × ((page_of (table_of (versions_seen t) v view) after limit).rows ≢ [])

-- a desk's fault for what a read comes to: memory may be wanted for a page's rows alone
abbrev pub IsFaultOf : Result Shown Unread → DeskFault → Type 0
IsFaultOf said (Expired of current active) = said ≡ Err (Is_expired of current active)
IsFaultOf said NoView = said ≡ Err No_such_view
IsFaultOf said Memory = (page : Shown) × (said ≡ Ok page) × (page.rows ≢ [])
IsFaultOf said NoSession = ⊥
IsFaultOf said SessionOpen = ⊥
IsFaultOf said Away = ⊥

-- a read in this version is answered by the rule of readers
abbrev pub IsAnswerIn : Sitting → ℕ → ℕ → Option Row → ℕ → Result Shown DeskFault → Type 0
IsAnswerIn t v view after limit r = MatchResult r (λ page. answer_in t v view after limit ≡ Ok page) (IsFaultOf (answer_in t v view after limit))
