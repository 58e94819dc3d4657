-- What a reader's calls come to.
use Rattle.std.proofs.Common.{◌≡◌, ◌≢◌, ◌+◌, ◌<◌, ◌∙◌, ℕ, true, false, List, [], ◌∷◌, ◌++◌, length, take, Option, Some, None, Result, Ok, Err, ap, arith, cond, refl, subst, sym}
use Rattle.std.specs.Prelude.{MatchOption, get_or, map}
use Rattle.std.proofs.lemmas.List.{take_more}
use Rattle.wh_row.specs.Row.{Row}
use Rattle.wh_store.specs.Pages.{Shown}
use Rattle.wh_desk.proofs.Growing.{opens_grow, reads_grow}
use Rattle.wh_desk.proofs.Telling.{grows_on}
use Rattle.wh_desk.proofs.Prefixes.{prefix_self}
use Rattle.wh_desk.specs.declared.asks.Ask.{Ask}
use Rattle.wh_desk.specs.declared.asks.Ask.TheVariants as ask
use Rattle.wh_desk.specs.declared.asks.Answer.{Answer}
use Rattle.wh_desk.specs.declared.asks.Answer.TheVariants as answer
use Rattle.wh_desk.specs.declared.chair.DeskFault.{DeskFault}
use Rattle.wh_desk.specs.declared.chair.DeskFault.TheVariants.{NoSession}
use Rattle.wh_desk.specs.Desks.{Grows, NotOpened, NotRead, OpensAt, Reads, Sitting}
use Rattle.wh_store.specs.Readers.{Bookmark, bookmark_after, goes_on}
use Rattle.wh_desk.specs.Reading.{AreAmid, AreCalls, AreTurns, Call, ComesTo, ComeTo, IsCall, IsCutShort, IsLimit, IsReadOut, IsTurn, asked_more, call_more, closed_before, closes, no_call, none_asked, opens, opens_none, shows, shows_none, page_call, rows_in}

-- ---- one call

one_alone : (t u : Sitting) (at later : Option Bookmark) (a : Ask) (said : Answer) → IsCall t at a said u later → AreCalls t at ((a, said) ∷ []) u later
one_alone t u at later a said call = call_more t u u at later later a said [] call (no_call u later)

pub opened : (t u : Sitting) (at later : Option Bookmark) (v : ℕ) → OpensAt t u v → later ≡ None → IsTurn t at ask.Open (answer.Session v) u later
opened t u at later v h e =
    subst (IsTurn t at ask.Open (answer.Session v) u) (sym e)
    (record { calls = (ask.Open, answer.Session v) ∷ []; come = refl; are = one_alone t u at None ask.Open (answer.Session v) (opens u v h) })

pub not_opened : (t u : Sitting) (at : Option Bookmark) (fault : DeskFault) → NotOpened t u fault → IsTurn t at ask.Open (answer.Refused fault) u at
not_opened t u at fault not = record { calls = (ask.Open, answer.Refused fault) ∷ []; come = refl; are = one_alone t u at at ask.Open (answer.Refused fault) (opens_none u fault not) }

pub closed : (t u : Sitting) (at later : Option Bookmark) → t.session ≢ None → u ≡ record t { session = None } → later ≡ None → IsTurn t at ask.Close answer.Closed u later
closed t u at later sat e none =
    let call : IsTurn t at ask.Close answer.Closed (record t { session = None }) None =
    record { calls = (ask.Close, answer.Closed) ∷ []; come = refl; are = one_alone t (record t { session = None }) at None ask.Close answer.Closed (closes sat) } in
    subst (λ w. IsTurn t at ask.Close answer.Closed w later) (sym e) (subst (IsTurn t at ask.Close answer.Closed (record t { session = None })) (sym none) call)

pub not_closed : (t u : Sitting) (at : Option Bookmark) (fault : DeskFault) → t.session ≡ None → fault ≡ NoSession → u ≡ record t { session = None } → IsTurn t at ask.Close (answer.Refused fault) u at
not_closed t u at fault free is_none e =
    let same : u ≡ t = e ∙ (λ i. record t { session = sym free i }) in
    subst (λ f. IsTurn t at ask.Close (answer.Refused f) u at) (sym is_none)
    (subst (λ w. IsTurn t at ask.Close (answer.Refused NoSession) w at) (sym same)
    (record { calls = (ask.Close, answer.Refused NoSession) ∷ []; come = refl; are = one_alone t t at at ask.Close (answer.Refused NoSession) (closed_before free) }))

-- ---- a page

pub shown : (t u : Sitting) (at later : Option Bookmark) (view limit : ℕ) (page : Shown) → IsLimit limit → Reads t u view (goes_on view at) limit page → later ≡ bookmark_after view page
    → IsCall t at (ask.Page view limit) (answer.Page page) u later
shown t u at later view limit page few reads e = subst (IsCall t at (ask.Page view limit) (answer.Page page) u) (sym e) (shows u view limit page few reads)

pub not_shown : (t u : Sitting) (at : Option Bookmark) (view limit : ℕ) (fault : DeskFault) → IsLimit limit → NotRead t u view (goes_on view at) limit fault
    → IsCall t at (ask.Page view limit) (answer.Refused fault) u at
not_shown t u at view limit fault few not = shows_none u view limit fault few not

-- asked for alone
pub shown_turn : (t u : Sitting) (at later : Option Bookmark) (view limit : ℕ) (page : Shown) → IsCall t at (ask.Page view limit) (answer.Page page) u later → IsTurn t at (ask.Page view limit) (answer.Page page) u later
shown_turn t u at later view limit page call = record { calls = page_call view limit page ∷ []; come = refl; are = one_alone t u at later (ask.Page view limit) (answer.Page page) call }

pub refused_turn : (t u : Sitting) (at later : Option Bookmark) (view limit : ℕ) (fault : DeskFault) → IsCall t at (ask.Page view limit) (answer.Refused fault) u later → IsTurn t at (ask.Page view limit) (answer.Refused fault) u later
refused_turn t u at later view limit fault call = record { calls = (ask.Page view limit, answer.Refused fault) ∷ []; come = refl; are = one_alone t u at later (ask.Page view limit) (answer.Refused fault) call }

-- ---- calls, one after another

pub calls_join : (t u w : Sitting) (at later end : Option Bookmark) (cs ds : List Call) → AreCalls t at cs u later → AreCalls u later ds w end → AreCalls t at (cs ++ ds) w end
calls_join _ _ w _ _ end _ ds (no_call t at) more = more
calls_join _ _ w _ _ end _ ds (call_more t v u at here later a said cs call rest) more =
    call_more t v w at here end a said (cs ++ ds) call (calls_join v u w here later end cs ds rest more)

-- ---- a view that is read on

-- pages of a view that others follow, so many rows
pub record IsAmidst (t : Sitting) (at : Option Bookmark) (view limit rows : ℕ) (u : Sitting) (later : Option Bookmark) : Type 0 where
  pub pages : List Shown
  pub amid : AreAmid pages
  pub given : rows ≡ rows_in pages
  pub are : AreCalls t at (map (page_call view limit) pages) u later

pub none_yet : (t : Sitting) (at : Option Bookmark) (view limit : ℕ) → IsAmidst t at view limit 0 t at
none_yet t at view limit = record { pages = []; amid = tt; given = refl; are = no_call t at }

amid_more : (pages : List Shown) (page : Shown) → AreAmid pages → page.last ≡ false → AreAmid (pages ++ page ∷ [])
amid_more [] page amid last = (last, tt)
amid_more (p ∷ pages) page amid last = (amid.0, amid_more pages page amid.1 last)

rows_more : (pages : List Shown) (page : Shown) → rows_in (pages ++ page ∷ []) ≡ rows_in pages + length page.rows
rows_more [] page = let n : ℕ = length page.rows in omega arith
rows_more (p ∷ pages) page = let more = rows_more pages page in omega (arith, more)

map_more : (view limit : ℕ) (pages : List Shown) (page : Shown) → map (page_call view limit) (pages ++ page ∷ []) ≡ map (page_call view limit) pages ++ page_call view limit page ∷ []
map_more view limit [] page = refl
map_more view limit (p ∷ pages) page = ap (λ cs. page_call view limit p ∷ cs) (map_more view limit pages page)

module _ (t u w : Sitting) (at later end : Option Bookmark) (view limit rows : ℕ) (so_far : IsAmidst t at view limit rows u later) where
  with_page : (page : Shown) → IsCall u later (ask.Page view limit) (answer.Page page) w end → AreCalls t at (map (page_call view limit) so_far.pages ++ page_call view limit page ∷ []) w end
  with_page page call = calls_join t u w at later end (map (page_call view limit) so_far.pages) (page_call view limit page ∷ []) so_far.are (one_alone u w later end (ask.Page view limit) (answer.Page page) call)

  pub page_more : (page : Shown) (more : ℕ) → IsCall u later (ask.Page view limit) (answer.Page page) w end → page.last ≡ false → more ≡ rows + length page.rows → IsAmidst t at view limit more w end
  page_more page more call last e = record {
    pages = so_far.pages ++ page ∷ [];
    amid = amid_more so_far.pages page so_far.amid last;
    given = e ∙ ap (λ n. n + length page.rows) so_far.given ∙ sym (rows_more so_far.pages page);
    are = subst (λ cs. AreCalls t at cs w end) (sym (map_more view limit so_far.pages page)) (with_page page call);
  }

  pub read_out : (page : Shown) (more : ℕ) → IsCall u later (ask.Page view limit) (answer.Page page) w end → page.last ≡ true → more ≡ rows + length page.rows
      → IsTurn t at (ask.Rest view limit) (answer.Rows more) w end
  read_out page more call last e = record {
    calls = map (page_call view limit) so_far.pages ++ page_call view limit page ∷ [];
    come = record { pages = so_far.pages; last = page; amid = so_far.amid; ends = last; are = refl; given = e ∙ ap (λ n. n + length page.rows) so_far.given };
    are = with_page page call;
  }

  pub cut_short : (fault : DeskFault) → IsCall u later (ask.Page view limit) (answer.Refused fault) w end → IsTurn t at (ask.Rest view limit) (answer.Refused fault) w end
  cut_short fault call = record {
    calls = map (page_call view limit) so_far.pages ++ (ask.Page view limit, answer.Refused fault) ∷ [];
    come = record { pages = so_far.pages; amid = so_far.amid; are = refl };
    are = calls_join t u w at later end (map (page_call view limit) so_far.pages) ((ask.Page view limit, answer.Refused fault) ∷ []) so_far.are (one_alone u w later end (ask.Page view limit) (answer.Refused fault) call);
  }

-- ---- all that is asked

pub nothing_asked : (t : Sitting) (at : Option Bookmark) → AreTurns t at [] [] t at
nothing_asked t at = record { calls = []; come = none_asked; are = no_call t at }

pub one_asked : (t u w : Sitting) (at later end : Option Bookmark) (asks : List Ask) (n : ℕ) (d : Ask) (answers : List Answer) (said : Answer) → AreTurns t at (take n asks) answers u later
    → n < length asks → IsTurn u later (get_or asks n d) said w end → AreTurns t at (take (n + 1) asks) (answers ++ said ∷ []) w end
one_asked t u w at later end asks n d answers said before within turn =
    subst (λ all. AreTurns t at all (answers ++ said ∷ []) w end) (sym (take_more asks n d within))
    (record {
      calls = before.calls ++ turn.calls;
      come = asked_more (take n asks) answers (get_or asks n d) said before.calls turn.calls before.come turn.come;
      are = calls_join t u w at later end before.calls turn.calls before.are turn.are;
    })

-- ---- what a desk knows only grows

grows_self : (t : Sitting) → Grows t (record t { session = None }) × Grows t t
grows_self t = ((refl, refl, prefix_self t.list), (refl, refl, prefix_self t.list))

pub call_grows : (t u : Sitting) (at later : Option Bookmark) (a : Ask) (said : Answer) → IsCall t at a said u later → Grows t u
call_grows t _ at _ _ _ (opens u v is) = is.0.0
call_grows t _ at _ _ _ (opens_none u fault not) = opens_grow t u (Err fault) not
call_grows t _ at _ _ _ (shows u view limit page few reads) = reads.1.0.0
call_grows t _ at _ _ _ (shows_none u view limit fault few not) = reads_grow t u view (goes_on view at) limit (Err fault) not
call_grows t _ at _ _ _ (closes sat) = (grows_self t).0
call_grows t _ at _ _ _ (closed_before free) = (grows_self t).1

pub calls_grow : (t u : Sitting) (at later : Option Bookmark) (cs : List Call) → AreCalls t at cs u later → Grows t u
calls_grow _ _ _ _ _ (no_call t at) = (grows_self t).1
calls_grow _ _ _ _ _ (call_more t u w at later end a said cs call rest) = grows_on t u w (call_grows t u at later a said call) (calls_grow u w later end cs rest)

pub turns_grow : (t u : Sitting) (at later : Option Bookmark) (asks : List Ask) (answers : List Answer) → AreTurns t at asks answers u later → Grows t u
turns_grow t u at later asks answers are = calls_grow t u at later are.calls are.are

-- ---- whether a session was open

pub had_session : (o : Option ℕ) (x : Unit {0}) → MatchOption o (◌≡◌ {A = Result (Unit {0}) DeskFault} (Ok x) (Err NoSession)) (λ _. ◌≡◌ {A = Result (Unit {0}) DeskFault} (Ok x) (Ok tt)) → o ≢ None
had_session None x h = absurd (let e = h in cc)
had_session (Some v) x h = λ e. cc

pub had_none : (o : Option ℕ) (fault : DeskFault) → MatchOption o (◌≡◌ {A = Result (Unit {0}) DeskFault} (Err fault) (Err NoSession)) (λ _. ◌≡◌ {A = Result (Unit {0}) DeskFault} (Err fault) (Ok tt))
    → (o ≡ None) × (fault ≡ NoSession)
had_none None fault h = (refl, (let e = h in cc))
had_none (Some v) fault h = absurd (let e = h in cc)
