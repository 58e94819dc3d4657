-- What readers are given that ask for views to their ends, in a session of version 0.
use Rattle.std.proofs.Common.{◌≡◌, ◌∙◌, ◌+◌, ◌-◌, ◌++◌, ◌<◌, ◌≤◌, ℕ, ℤ, zero, suc, true, false, List, [], ◌∷◌, length, map, take, Option, Some, None, ap, arith, refl, rules, subst, sym}
use Rattle.std.specs.Prelude.{IfSome, option_map, slice_get, slice_index_or, sum_by}
use Rattle.std.specs.List.{All, flat_map}
use Rattle.std.proofs.lemmas.List.{length-append, length-take, take_all}
use Rattle.std.proofs.lemmas.List.Elements.{All-push}
use Rattle.std.proofs.lemmas.List.Sums.{sum_by_more, sum_by_push}
use Rattle.std.proofs.lemmas.Option.{same_Some}
use Rattle.wh_row.specs.Bag.{Bag, empty, written}
use Rattle.wh_row.specs.Row.{Row}
use Rattle.wh_row.specs.Weigh.{Counted}
use Rattle.wh_store.specs.Laws.{PagesJoin, ReadsOn, VersionsStay}
use Rattle.wh_store.specs.Laws.ReadsOn.{ends, goes_on}
use Rattle.wh_store.specs.Operations.{Operation}
use Rattle.wh_store.specs.Pages.{Contents, Shown, page_of, rows_after}
use Rattle.wh_store.specs.Versions.{table_in, table_of}
use Rattle.wh_store.specs.Ledgers.{Warehouse, versions_in}
use Rattle.wh_desk.specs.Askers.{AreAnswered, IsAnswered}
use Rattle.wh_desk.specs.Desks.{Reads, Sitting, versions_seen}
use Rattle.wh_desk.proofs.Answering.{by_parts}
use Rattle.wh_desk.specs.Known.{Known}
use Rattle.wh_store.specs.Readers.{Bookmark, bookmark_after, goes_on as row_from}
use Rattle.wh_desk.specs.Reading.{AreAmid, AreCalls, Call, ComesTo, ComeTo, IsAskable, IsCall, IsLimit, IsReadOut, asked_more, call_more, closed_before, closes, no_call, none_asked, opens, opens_none, page_call, rows_in, shows, shows_none, stand_of}
use Rattle.wh_desk.specs.declared.askers.Answered.{Answered}
use Rattle.wh_desk.specs.declared.askers.Asker.{Asker}
use Rattle.wh_desk.specs.declared.asks.Ask.{Ask}
use Rattle.wh_desk.specs.declared.asks.Ask.TheVariants as ask
use Rattle.wh_desk.specs.declared.asks.Answer.{Answer}
use Rattle.wh_desk.specs.declared.asks.Answer.TheVariants as answer
use Rattle.wh_night.specs.Serving.{rows_of}
use Rattle.wh_night.specs.Serving.{AreRows, IsAt, IsSeated, rests, rows_told}
use Rattle.wh_night.specs.Inner.Serving.{GivesRows}

-- ---- lists that end with one more

-- what holds of each holds of the first ones and of the last
pub first_ones : {X : Type 0} (P : X → Type 0) (xs : List X) (x : X) → All P (xs ++ x ∷ []) → All P xs
first_ones P xs x all = λ k d l. (let n = length-append xs (x ∷ []) in get_first P xs x k d l (all k d (omega (arith, n, l))))
  where
    get_first : {X : Type 0} (P : X → Type 0) (xs : List X) (x : X) (k : ℕ) (d : X) → k < length xs → P (slice_index_or (xs ++ x ∷ []) k d) → P (slice_index_or xs k d)
    get_first P [] x k d l h = absurd (omega (arith, l))
    get_first P (y ∷ ys) x zero d l h = h
    get_first P (y ∷ ys) x (suc k) d l h = get_first P ys x k d (omega (arith, l)) h

pub last_one : {X : Type 0} (P : X → Type 0) (xs : List X) (x : X) → All P (xs ++ x ∷ []) → P x
last_one P xs x all = (let n = length-append xs (x ∷ []) in get_last P xs x x (all (length xs) x (omega (arith, n))))
  where
    get_last : {X : Type 0} (P : X → Type 0) (xs : List X) (x d : X) → P (slice_index_or (xs ++ x ∷ []) (length xs) d) → P x
    get_last P [] x d h = h
    get_last P (y ∷ ys) x d h = get_last P ys x d h

-- ---- what is asked

pub rests_more : (n : ℕ) → rests (n + 1) ≡ rests n ++ ask.Rest n 256 ∷ []
rests_more n = let e : n + 1 ≡ suc n = omega arith in ap rests e

pub rests_askable : (n : ℕ) → All IsAskable (rests n)
rests_askable zero = λ k d l. absurd (omega (arith, l))
rests_askable (suc n) = All-push IsAskable (rests n) (ask.Rest n 256) (rests_askable n) (omega arith, omega arith)

last_asked : (xs ys : List Ask) (x y : Ask) → xs ++ x ∷ [] ≡ ys ++ y ∷ [] → (xs ≡ ys) × (x ≡ y)
last_asked [] [] x y e = (refl, (let f = e in cc))
last_asked [] (z ∷ ys) x y e = absurd (let l = ap length e in let m = length-append ys (y ∷ []) in omega (arith, l, m))
last_asked (z ∷ xs) [] x y e = absurd (let l = ap length e in let m = length-append xs (x ∷ []) in omega (arith, l, m))
last_asked (z ∷ xs) (w ∷ ys) x y e =
    let first : z ≡ w = (let f = e in cc) in
    let more : xs ++ x ∷ [] ≡ ys ++ y ∷ [] = (let f = e in cc) in
    let rest = last_asked xs ys x y more in
    ((λ i. first i ∷ rest.0 i), rest.1)

-- one more reader is seated, at the last desk
pub seated_more : (views : ℕ) (desks rest : List Sitting) (askers more : List Asker) (desk : Sitting) (asker : Asker) → desks ≡ rest ++ desk ∷ [] → more ≡ askers ++ asker ∷ [] → ((told : Known) → IsAt told desk → IsSeated told views asker)
    → (told : Known) → All (IsAt told) desks × All (IsSeated told views) askers → All (IsAt told) rest × All (IsSeated told views) more
seated_more views desks rest askers more desk asker left seats one told all =
    let at : All (IsAt told) (rest ++ desk ∷ []) = subst (All (IsAt told)) left all.0 in (
      first_ones (IsAt told) rest desk at,
      subst (All (IsSeated told views)) (sym seats) (All-push (IsSeated told views) askers asker all.1 (one told (last_one (IsAt told) rest desk at))),
    )

-- ---- single calls

-- a page that was asked for
record IsGiven (t : Sitting) (at : Option Bookmark) (view limit : ℕ) (page : Shown) (u : Sitting) (later : Option Bookmark) : Type 0 where
  pub few : IsLimit limit
  pub reads : Reads t u view (row_from view at) limit page
  pub stands : later ≡ bookmark_after view page

given_page : (t u : Sitting) (at later : Option Bookmark) (a : Ask) (said : Answer) → IsCall t at a said u later → (view limit : ℕ) (page : Shown) → a ≡ ask.Page view limit → said ≡ answer.Page page
    → IsGiven t at view limit page u later
given_page t _ at _ _ _ (opens u v is) view limit page e f = absurd (let g = e in cc)
given_page t _ at _ _ _ (opens_none u fault not) view limit page e f = absurd (let g = e in cc)
given_page t _ at _ _ _ (shows u own few p limited reads) view limit page e f =
    let view_is : own ≡ view = (let g = e in cc) in
    let limit_is : few ≡ limit = (let g = e in cc) in
    let page_is : p ≡ page = (let g = f in cc) in
    record {
      few = subst IsLimit limit_is limited;
      reads = subst (λ q. Reads t u view (row_from view at) limit q) page_is (subst (λ l. Reads t u view (row_from view at) l p) limit_is (subst (λ v. Reads t u v (row_from v at) few p) view_is reads));
      stands = (λ i. bookmark_after (view_is i) (page_is i));
    }
given_page t _ at _ _ _ (shows_none u own few fault limited not) view limit page e f = absurd (let g = f in cc)
given_page t _ at _ _ _ (closes sat) view limit page e f = absurd (let g = e in cc)
given_page t _ at _ _ _ (closed_before free) view limit page e f = absurd (let g = e in cc)

-- ---- calls, one after another

record BeginsWith (t : Sitting) (at : Option Bookmark) (call : Call) (calls : List Call) (w : Sitting) (final : Option Bookmark) : Type 0 where
  pub next : Sitting
  pub here : Option Bookmark
  pub is : IsCall t at call.0 call.1 next here
  pub rest : AreCalls next here calls w final

first_call : (t w : Sitting) (at final : Option Bookmark) (cs : List Call) → AreCalls t at cs w final → (call : Call) (calls : List Call) → cs ≡ call ∷ calls → BeginsWith t at call calls w final
first_call _ _ _ _ _ (no_call t at) call calls e = absurd (let f = e in cc)
first_call _ _ _ _ _ (call_more t u w at here final a said cs is rest) call calls e =
    let same : (a, said) ≡ call = (let f = e in cc) in
    let others : cs ≡ calls = (let f = e in cc) in
    record { next = u; here = here; is = subst (λ (c : Call). IsCall t at c.0 c.1 u here) same is; rest = subst (λ ds. AreCalls u here ds w final) others rest }

no_more : (t w : Sitting) (at final : Option Bookmark) (cs : List Call) → AreCalls t at cs w final → cs ≡ [] → (w ≡ t) × (final ≡ at)
no_more _ _ _ _ _ (no_call t at) e = (refl, refl)
no_more _ _ _ _ _ (call_more t u w at here final a said cs is rest) e = absurd (let f = e in cc)

record Splits (t : Sitting) (at : Option Bookmark) (cs ds : List Call) (w : Sitting) (final : Option Bookmark) : Type 0 where
  pub amid : Sitting
  pub here : Option Bookmark
  pub first : AreCalls t at cs amid here
  pub rest : AreCalls amid here ds w final

split_calls : (cs ds : List Call) (t w : Sitting) (at final : Option Bookmark) → AreCalls t at (cs ++ ds) w final → Splits t at cs ds w final
split_calls [] ds t w at final are = record { amid = t; here = at; first = no_call t at; rest = are }
split_calls (c ∷ cs) ds t w at final are =
    let one = first_call t w at final (c ∷ (cs ++ ds)) are c (cs ++ ds) refl in
    let rest = split_calls cs ds one.next w one.here final one.rest in
    record { amid = rest.amid; here = rest.here; first = call_more t one.next rest.amid at one.here rest.here c.0 c.1 cs one.is rest.first; rest = rest.rest }

-- ---- pages of version 0

-- version 0 has what the warehouse began with, whatever has been published
first_version : VersionsStay → (of : Warehouse) (list : List Operation) (view : ℕ) → table_of (versions_in of list) 0 view ≡ table_in of.opening view
first_version stay of list view = ap (λ contents. table_in contents view) (stay of.opening [] list 0 (omega arith)).1

-- a page that a session of version 0 is given, and the session after it
record IsOfFirst (t : Sitting) (at : Option Bookmark) (view limit : ℕ) (page : Shown) (u : Sitting) (later : Option Bookmark) : Type 0 where
  pub some : 1 ≤ limit
  pub page_is : page ≡ page_of (table_in t.of.opening view) (row_from view at) limit
  pub session : u.session ≡ Some 0
  pub of : u.of ≡ t.of
  pub stands : later ≡ bookmark_after view page

page_read : VersionsStay → (t u : Sitting) (at later : Option Bookmark) (view limit : ℕ) (page : Shown) → t.session ≡ Some 0 → IsGiven t at view limit page u later → IsOfFirst t at view limit page u later
page_read stay t u at later view limit page zeroth given =
    let v : ℕ = given.reads.0 in
    let same : v ≡ 0 = same_Some v 0 (sym given.reads.1.1 ∙ zeroth) in
    let of : u.of ≡ t.of = given.reads.1.0.0.1 in
    let first : table_of (versions_seen u) 0 view ≡ table_in t.of.opening view =
    first_version stay u.of u.list view ∙ ap (λ (o : Warehouse). table_in o.opening view) of in
    record {
      some = given.few.0;
      page_is = (by_parts u v view (row_from view at) limit page given.reads.2).2 ∙ ap (λ k. page_of (table_of (versions_seen u) k view) (row_from view at) limit) same ∙ ap (λ table. page_of table (row_from view at) limit) first;
      session = given.reads.1.2 ∙ ap Some same;
      of = of;
      stands = given.stands;
    }

-- the last of some rows
record EndsWith (es : Counted) : Type 0 where
  pub before : Counted
  pub row : Row
  pub count : ℤ
  pub split : es ≡ before ++ (row, count) ∷ []
  pub there : slice_get es (length es - 1) ≡ Some (row, count)

last_of : (es : Counted) → 1 ≤ length es → EndsWith es
last_of [] h = absurd (omega (arith, h))
last_of (e ∷ []) h =
    let place : length (e ∷ []) - 1 ≡ 0 = omega arith in
    record { before = []; row = e.0; count = e.1; split = refl; there = ap (slice_get (e ∷ [])) place }
last_of (e ∷ f ∷ es) h =
    let place : length (e ∷ f ∷ es) - 1 ≡ suc (length (f ∷ es) - 1) = omega arith in
    let rest = last_of (f ∷ es) (omega arith) in
    record { before = e ∷ rest.before; row = rest.row; count = rest.count; split = ap (λ xs. e ∷ xs) rest.split; there = ap (slice_get (e ∷ f ∷ es)) place ∙ rest.there }

-- a page that more rows follow has a row
amid_rows : (table : Bag) (after : Option Row) (limit : ℕ) → 1 ≤ limit → (page_of table after limit).last ≡ false → 1 ≤ length (page_of table after limit).rows
amid_rows table after limit some amid =
    let all : Counted = rows_after table after in
    let more : limit < length all = grind (arith, amid) in
    let cut : length (take limit all) ≡ _ = length-take limit all in
    omega (arith, some, more, cut)

-- where a page leaves its reader
stands_at_end : (view : ℕ) (page : Shown) → page.last ≡ true → bookmark_after view page ≡ None
stands_at_end view page h = rw h refl

goes_on_behind : (view : ℕ) (page : Shown) (row : Row) (count : ℤ) → page.last ≡ false → slice_get page.rows (length page.rows - 1) ≡ Some (row, count) → row_from view (bookmark_after view page) ≡ Some row
goes_on_behind view page row count amid there =
    let stands : bookmark_after view page ≡ Some (record { view = view; row = row }) = rw amid (ap (option_map (λ e. record { view = view; row = e.0 })) there) in
    ap (row_from view) stands ∙ search rules

-- ---- a view that is read to its end

record IsRead (t : Sitting) (u : Sitting) (later : Option Bookmark) : Type 0 where
  pub session : u.session ≡ Some 0
  pub of : u.of ≡ t.of
  pub begins : later ≡ None

reads_on : VersionsStay → (view limit : ℕ) (pages : List Shown) (final : Shown) (t u : Sitting) (at later : Option Bookmark) → AreAmid pages → final.last ≡ true → t.session ≡ Some 0
    → AreCalls t at (map (page_call view limit) pages ++ page_call view limit final ∷ []) u later → ReadsOn (table_in t.of.opening view) (row_from view at) (pages ++ final ∷ []) × IsRead t u later
reads_on stay view limit [] final t u at later amid over zeroth are =
    let table : Bag = table_in t.of.opening view in
    let after = row_from view at in
    let one = first_call t u at later (page_call view limit final ∷ []) are (page_call view limit final) [] refl in
    let none = no_more one.next u one.here later [] one.rest refl in
    let page = page_read stay t one.next at one.here view limit final zeroth (given_page t one.next at one.here (ask.Page view limit) (answer.Page final) one.is view limit final refl refl) in
    let is_last : (page_of table after limit).last ≡ true = ap (λ (p : Shown). p.last) (sym page.page_is) ∙ over in (
      subst (λ p. ReadsOn table after (p ∷ [])) (sym page.page_is) (ends after limit is_last),
      record {
        session = ap (λ (s : Sitting). s.session) none.0 ∙ page.session;
        of = ap (λ (s : Sitting). s.of) none.0 ∙ page.of;
        begins = none.1 ∙ page.stands ∙ stands_at_end view final over;
      },
    )
reads_on stay view limit (p ∷ pages) final t u at later amid over zeroth are =
    let table : Bag = table_in t.of.opening view in
    let after = row_from view at in
    let rest_calls : List Call = map (page_call view limit) pages ++ page_call view limit final ∷ [] in
    let one = first_call t u at later (page_call view limit p ∷ rest_calls) are (page_call view limit p) rest_calls refl in
    let page = page_read stay t one.next at one.here view limit p zeroth (given_page t one.next at one.here (ask.Page view limit) (answer.Page p) one.is view limit p refl refl) in
    let more : (page_of table after limit).last ≡ false = ap (λ (q : Shown). q.last) (sym page.page_is) ∙ amid.0 in
    let last_row = last_of (page_of table after limit).rows (amid_rows table after limit page.some more) in
    let there : slice_get p.rows (length p.rows - 1) ≡ Some (last_row.row, last_row.count) = ap (λ (q : Shown). slice_get q.rows (length q.rows - 1)) page.page_is ∙ last_row.there in
    let behind : row_from view one.here ≡ Some last_row.row = ap (row_from view) page.stands ∙ goes_on_behind view p last_row.row last_row.count amid.0 there in
    let rest = reads_on stay view limit pages final one.next u one.here later amid.1 over page.session one.rest in
    let same : ReadsOn table (row_from view one.here) (pages ++ final ∷ []) = subst (λ (o : Warehouse). ReadsOn (table_in o.opening view) (row_from view one.here) (pages ++ final ∷ [])) page.of rest.0 in
    let on : ReadsOn table (Some last_row.row) (pages ++ final ∷ []) = subst (λ r. ReadsOn table r (pages ++ final ∷ [])) behind same in (
      subst (λ q. ReadsOn table after (q ∷ (pages ++ final ∷ []))) (sym page.page_is) (goes_on after limit last_row.before last_row.row last_row.count (pages ++ final ∷ []) more last_row.split on),
      record { session = rest.1.session; of = rest.1.of ∙ page.of; begins = rest.1.begins },
    )

rows_of_pages : (pages : List Shown) (final : Shown) → length (flat_map (λ page. page.rows) (pages ++ final ∷ [])) ≡ rows_in pages + length final.rows
rows_of_pages [] final = let l = length-append final.rows [] in omega (arith, l)
rows_of_pages (p ∷ pages) final =
    let rest = rows_of_pages pages final in
    let l = length-append p.rows (flat_map (λ page. page.rows) (pages ++ final ∷ [])) in
    omega (arith, rest, l)

read_out : VersionsStay → PagesJoin → (view limit rows : ℕ) (calls : List Call) (t u : Sitting) (at later : Option Bookmark) → IsReadOut view limit rows calls → AreCalls t at calls u later → at ≡ None → t.session ≡ Some 0
    → (rows ≡ length (written (table_in t.of.opening view))) × IsRead t u later
read_out stay join view limit rows calls t u at later out are begins zeroth =
    let own : AreCalls t at (map (page_call view limit) out.pages ++ page_call view limit out.last ∷ []) u later = subst (λ cs. AreCalls t at cs u later) out.are are in
    let read = reads_on stay view limit out.pages out.last t u at later out.amid out.ends zeroth own in
    let on : ReadsOn (table_in t.of.opening view) None (out.pages ++ out.last ∷ []) = subst (λ a. ReadsOn (table_in t.of.opening view) (row_from view a) (out.pages ++ out.last ∷ [])) begins read.0 in
    (out.given ∙ sym (rows_of_pages out.pages out.last) ∙ ap length (join (table_in t.of.opening view) (out.pages ++ out.last ∷ []) on), read.1)

-- ---- views that are read to their ends, one after another

rows_said : (view limit : ℕ) (said : Answer) (calls : List Call) → ComesTo (ask.Rest view limit) said calls → AreRows said → IsReadOut view limit (rows_told said) calls
rows_said view limit (answer.Rows n) calls h are = h
rows_said view limit (answer.Session v) calls h are = absurd are
rows_said view limit (answer.Page page) calls h are = absurd are
rows_said view limit answer.Closed calls h are = absurd are
rows_said view limit (answer.Refused fault) calls h are = absurd are

-- the rows of the tables up to one more
rows_next : (tables : Contents) (i : ℕ) → i < length tables → rows_of (take (suc i) tables) ≡ rows_of (take i tables) + length (written (table_in tables i))
rows_next tables i l = let e : suc i ≡ i + 1 = omega arith in ap (λ n. rows_of (take n tables)) e ∙ sum_by_more (λ table. length (written table)) tables i empty l

views_read : VersionsStay → PagesJoin → (asks : List Ask) (answers : List Answer) (calls : List Call) → ComeTo asks answers calls → (n : ℕ) → asks ≡ rests n → (t u : Sitting) (at later : Option Bookmark)
    → AreCalls t at calls u later → at ≡ None → t.session ≡ Some 0 → n ≤ length t.of.opening → All AreRows answers → (sum_by rows_told answers ≡ rows_of (take n t.of.opening)) × IsRead t u later
views_read stay join _ _ _ none_asked zero e t u at later are begins zeroth within told =
    let none = no_more t u at later [] are refl in
    (refl, record { session = ap (λ (s : Sitting). s.session) none.0 ∙ zeroth; of = ap (λ (s : Sitting). s.of) none.0; begins = none.1 ∙ begins })
views_read stay join _ _ _ none_asked (suc n) e t u at later are begins zeroth within told = absurd (let l = ap length e in let m = length-append (rests n) (ask.Rest n 256 ∷ []) in omega (arith, l, m))
views_read stay join _ _ _ (asked_more asks answers a said calls more come comes) zero e t u at later are begins zeroth within told = absurd (let l = ap length e in let m = length-append asks (a ∷ []) in omega (arith, l, m))
views_read stay join _ _ _ (asked_more asks answers a said calls more come comes) (suc n) e t u at later are begins zeroth within told =
    let same = last_asked asks (rests n) a (ask.Rest n 256) e in
    let parts = split_calls calls more t u at later are in
    let before = views_read stay join asks answers calls come n same.0 t parts.amid at parts.here parts.first begins zeroth (omega (arith, within)) (first_ones AreRows answers said told) in
    let out = rows_said n 256 said more (subst (λ b. ComesTo b said more) same.1 comes) (last_one AreRows answers said told) in
    let last_view = read_out stay join n 256 (rows_told said) more parts.amid u parts.here later out parts.rest before.1.begins before.1.session in
    let rows : rows_told said ≡ length (written (table_in t.of.opening n)) = last_view.0 ∙ ap (λ (o : Warehouse). length (written (table_in o.opening n))) before.1.of in (
      sum_by_push rows_told answers said ∙ (λ i. before.0 i + rows i) ∙ sym (rows_next t.of.opening n (omega (arith, within))),
      record { session = last_view.1.session; of = last_view.1.of ∙ before.1.of; begins = last_view.1.begins },
    )

-- ---- readers

one_gave : VersionsStay → PagesJoin → (told : Known) (asker : Asker) (one : Option Answered) → IsSeated told (length told.of.opening) asker → IfSome one (IsAnswered told asker)
    → IfSome one (GivesRows (rows_of told.of.opening))
one_gave stay join told asker None seated is = tt
one_gave stay join told asker (Some a) seated is = λ rows.
    let start : Sitting = is.start in
    let of : Warehouse = told.of in
    let same : start.of ≡ of = is.was_told.grows.1 ∙ seated.at.1 in
    let session : start.session ≡ Some 0 = is.was_told.session ∙ seated.session in
    let within : length of.opening ≤ length start.of.opening = (let e = ap (λ (o : Warehouse). length o.opening) same in omega (arith, e)) in
    let read = views_read stay join asker.asks.items a.answers.items is.turns.calls is.turns.come (length of.opening) seated.asks start a.reader.desk (option_map stand_of asker.reader.place) (option_map stand_of a.reader.place)
    is.turns.are (ap (option_map stand_of) seated.begins) session within rows in
    read.0 ∙ ap (λ (o : Warehouse). rows_of (take (length of.opening) o.opening)) same ∙ ap rows_of (take_all (length of.opening) of.opening (omega arith))

pub an_asker : (askers : List Asker) (k : ℕ) → k < length askers → Asker
an_asker [] k l = absurd (omega (arith, l))
an_asker (a ∷ askers) k l = a

pub all_gave : VersionsStay → PagesJoin → (told : Known) (askers : List Asker) (all : List (Option Answered)) → All (IsSeated told (length told.of.opening)) askers → AreAnswered told askers all
    → All (λ one. IfSome one (GivesRows (rows_of told.of.opening))) all
all_gave stay join told askers all seated are = λ k d l.
    let m : k < length askers = (let e = are.each in omega (arith, l, e)) in
    let a : Asker = an_asker askers k m in
    one_gave stay join told (slice_index_or askers k a) (slice_index_or all k d) (seated k a m) (are.are k a d m)
