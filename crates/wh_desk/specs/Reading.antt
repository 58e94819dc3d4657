-- What a reader asks of its desk in turn, and what it is answered.
use Rattle.std.specs.Prelude.{◌≡◌, ◌≢◌, ◌≤◌, ◌+◌, ℕ, true, false, List, [], ◌∷◌, ◌++◌, length, map, Option, None}
use Rattle.std.specs.List.{All}
use Rattle.wh_store.specs.Pages.{Shown}
use Rattle.wh_store.specs.Readers.{Bookmark, bookmark_after, goes_on}
use Rattle.wh_desk.specs.declared.asks.Ask.{Ask}
use Rattle.wh_desk.specs.declared.asks.Ask.TheVariants as ask
use Rattle.wh_desk.specs.declared.asks.Answer.{Answer}
use Rattle.wh_desk.specs.declared.asks.Answer.TheVariants as answer
use Rattle.wh_desk.specs.declared.chair.DeskFault.{DeskFault}
use Rattle.wh_desk.specs.declared.chair.DeskFault.TheVariants.{NoSession}
use Rattle.wh_desk.specs.declared.reader.Place.{Place}
use Rattle.wh_desk.specs.Desks.{NotOpened, NotRead, OpensAt, Reads, Sitting}

-- where a reader stands
abbrev pub stand_of : Place → Bookmark
stand_of p = record { view = p.view; row = p.row.items }

-- ---- single calls

-- a call of a desk, and what it was answered
abbrev pub Call : Type 0
Call = Ask × Answer

-- a page has 1 to 256 rows at most
abbrev pub IsLimit : ℕ → Type 0
IsLimit limit = (1 ≤ limit) × (limit ≤ 256)

-- A desk is asked this, whose reader stands here, and is answered so; and what it then sees, and where its reader stands. It was seated before
-- a page or a close, and not before an open, but where the answer says so. Away is an answer to an open without a session and to a page in
-- one, where the copy that readers see could not be had; it leaves the desk as it was. A close looks at no copy, and is never answered so
pub data IsCall (t : Sitting) (at : Option Bookmark) : Ask → Answer → Sitting → Option Bookmark → Type 0 where
  opens : (u : Sitting) (v : ℕ) → OpensAt t u v → IsCall t at ask.Open (answer.Session v) u None
  opens_none : (u : Sitting) (fault : DeskFault) → NotOpened t u fault → IsCall t at ask.Open (answer.Refused fault) u at
  shows : (u : Sitting) (view limit : ℕ) (page : Shown) → IsLimit limit → Reads t u view (goes_on view at) limit page
      → IsCall t at (ask.Page view limit) (answer.Page page) u (bookmark_after view page)
  shows_none : (u : Sitting) (view limit : ℕ) (fault : DeskFault) → IsLimit limit → NotRead t u view (goes_on view at) limit fault
      → IsCall t at (ask.Page view limit) (answer.Refused fault) u at
  closes : t.session ≢ None → IsCall t at ask.Close answer.Closed (record t { session = None }) None
  closed_before : t.session ≡ None → IsCall t at ask.Close (answer.Refused NoSession) t at

-- these calls, one after another
pub data AreCalls : Sitting → Option Bookmark → List Call → Sitting → Option Bookmark → Type 0 where
  no_call : (t : Sitting) (at : Option Bookmark) → AreCalls t at [] t at
  call_more : (t u w : Sitting) (at later end : Option Bookmark) (a : Ask) (said : Answer) (calls : List Call) → IsCall t at a said u later → AreCalls u later calls w end
      → AreCalls t at ((a, said) ∷ calls) w end

-- ---- what is asked, by single calls

-- the calls for these pages of a view
abbrev pub page_call : ℕ → ℕ → Shown → Call
page_call view limit page = (ask.Page view limit, answer.Page page)

-- how many rows these pages have together
abbrev pub rows_in : List Shown → ℕ
rows_in [] = 0
rows_in (page ∷ pages) = length page.rows + rows_in pages

-- more rows follow each of these pages
abbrev pub AreAmid : List Shown → Type 0
AreAmid [] = Unit {0}
AreAmid (page ∷ pages) = (page.last ≡ false) × AreAmid pages

-- so many rows in pages of a view, of which the last is the view's last
pub record IsReadOut (view limit rows : ℕ) (calls : List Call) : Type 0 where
  pub pages : List Shown
  pub last : Shown
  pub amid : AreAmid pages
  pub ends : last.last ≡ true
  pub are : calls ≡ map (page_call view limit) pages ++ page_call view limit last ∷ []
  pub given : rows ≡ rows_in pages + length last.rows

-- pages of a view, up to one that is refused
pub record IsCutShort (view limit : ℕ) (fault : DeskFault) (calls : List Call) : Type 0 where
  pub pages : List Shown
  pub amid : AreAmid pages
  pub are : calls ≡ map (page_call view limit) pages ++ (ask.Page view limit, answer.Refused fault) ∷ []

-- what is asked comes to these calls, and is answered so: to one call, but for the rest of a view
abbrev pub ComesTo : Ask → Answer → List Call → Type 0
ComesTo ask.Open said calls = calls ≡ (ask.Open, said) ∷ []
ComesTo (ask.Page view limit) said calls = calls ≡ (ask.Page view limit, said) ∷ []
ComesTo ask.Close said calls = calls ≡ (ask.Close, said) ∷ []
ComesTo (ask.Rest view limit) (answer.Rows rows) calls = IsReadOut view limit rows calls
ComesTo (ask.Rest view limit) (answer.Refused fault) calls = IsCutShort view limit fault calls
ComesTo (ask.Rest view limit) said calls = ⊥

-- all that is asked, one after another
pub data ComeTo : List Ask → List Answer → List Call → Type 0 where
  none_asked : ComeTo [] [] []
  asked_more : (asks : List Ask) (answers : List Answer) (a : Ask) (said : Answer) (calls last : List Call) → ComeTo asks answers calls → ComesTo a said last
      → ComeTo (asks ++ a ∷ []) (answers ++ said ∷ []) (calls ++ last)

-- a desk that is asked this is answered so
pub record IsTurn (t : Sitting) (at : Option Bookmark) (a : Ask) (said : Answer) (u : Sitting) (later : Option Bookmark) : Type 0 where
  pub calls : List Call
  pub come : ComesTo a said calls
  pub are : AreCalls t at calls u later

-- a desk that is asked all this is answered so
pub record AreTurns (t : Sitting) (at : Option Bookmark) (asks : List Ask) (answers : List Answer) (u : Sitting) (later : Option Bookmark) : Type 0 where
  pub calls : List Call
  pub come : ComeTo asks answers calls
  pub are : AreCalls t at calls u later

-- it can be asked: a page has 1 to 256 rows at most
abbrev pub IsAskable : Ask → Type 0
IsAskable ask.Open = Unit {0}
IsAskable (ask.Page view limit) = IsLimit limit
IsAskable (ask.Rest view limit) = IsLimit limit
IsAskable ask.Close = Unit {0}
