-- A session reads the tables of its version.
use Rattle.std.proofs.Common.{◌≡◌, refl, sym, ap, ◌∙◌, subst, ℕ, zero, suc, ◌+◌, ◌-◌, ◌≤◌, ℤ, List, [], ◌∷◌, ◌++◌, length, Bool, true, false, arith, Option, Some, None, cond, eqb}
use Rattle.std.specs.Prelude.{option_map, slice_get, nat_le, reverse, take}
use Rattle.std.specs.List.{flat_map}
use Rattle.std.proofs.lemmas.Bool.{eqb-true, false≢true}
use Rattle.std.proofs.lemmas.List.{reverse-append, append-nil, append_assoc}
use Rattle.wh_row.specs.Bag.{Bag, written}
use Rattle.wh_row.specs.Row.{Row}
use Rattle.wh_row.specs.Weigh.{Counted}
use Rattle.wh_store.specs.Laws.{PagesJoin, ReadsOn, VersionsStay, ends, goes_on as reads_more}
use Rattle.wh_store.specs.Operations.{Operation, Opens, Writes, Commits, Gives_up}
use Rattle.wh_store.specs.Pages.{Shown, page_of, rows_after}
use Rattle.wh_store.specs.Versions.{number, table_in, table_of, version, versions_of}
use Rattle.wh_store.specs.Readers.{Bookmark, bookmark_after, goes_on}
use Rattle.wh_core.specs.Laws.{SessionsReadTables, goes_on_from, pages_read}
use Rattle.wh_core.specs.Log.{Deed, Log, Began, Drew, Finished, Paged_in, Committed, Gave_up, Sat_down, Turned, Left, SessionOf, session}
use Rattle.wh_core.specs.Nights.{Setup, last_night, page_in_turn, published, turn_in, versions}
use Rattle.wh_core.proofs.Deeds.{AreDeeds, IsDeed, none, one_more, deeds_of}

-- ---- the published list only grows

pub grows : (s : Setup) (d : Deed) (log : Log) → (rest : List Operation) × (published s (d ∷ log) ≡ published s log ++ rest)
unfolding published
grows s Began log = (Opens ∷ [], refl)
grows s Paged_in log = (page_in_turn (turn_in (last_night s log (published s log)) log), refl)
grows s Committed log = (Commits ∷ [], refl)
grows s Gave_up log = (Gives_up ∷ [], refl)
grows s (Drew w n) log = ([], sym (append-nil (published s log)))
grows s (Finished w) log = ([], sym (append-nil (published s log)))
grows s (Sat_down d v) log = ([], sym (append-nil (published s log)))
grows s (Turned d v p) log = ([], sym (append-nil (published s log)))
grows s (Left d) log = ([], sym (append-nil (published s log)))

-- so a version that is there has the same contents after each further deed
pub version_stays : VersionsStay → (s : Setup) (d : Deed) (log : Log) (k : ℕ) → k ≤ number (versions s log) → (k ≤ number (versions s (d ∷ log))) × (version (versions s (d ∷ log)) k ≡ version (versions s log) k)
version_stays stay s d log k within =
    let more = grows s d log in
    let P : List Operation → Type 0 = λ ops. (k ≤ number (versions_of s.opening ops)) × (version (versions_of s.opening ops) k ≡ version (versions s log) k) in
    subst P (sym more.1) (stay s.opening (published s log) more.0 k within)

-- ---- a chain of pages, the latest first

abbrev last_row : Shown → Option Row
last_row page = option_map (λ (e : Row × ℤ). e.0) (slice_get page.rows (length page.rows - 1))

abbrev after_of : List Shown → Option Row
after_of [] = None
after_of (p ∷ ps) = last_row p

abbrev GoesOn : List Shown → Type 0
GoesOn [] = Unit {0}
GoesOn (p ∷ ps) = (p.last ≡ false) × (row : Row) × (last_row p ≡ Some row)

abbrev IsChain : Bag → List Shown → Type 0
IsChain table [] = Unit {0}
IsChain table (p ∷ ps) = (limit : ℕ) × (p ≡ page_of table (after_of ps) limit) × GoesOn ps × IsChain table ps × (1 ≤ limit)

ends_with : (rows : Counted) (row : Row) → option_map (λ (e : Row × ℤ). e.0) (slice_get rows (length rows - 1)) ≡ Some row → (before : Counted) × (count : ℤ) × (rows ≡ before ++ (row, count) ∷ [])
ends_with [] row e = cc
ends_with (x ∷ []) row e = let same : x.0 ≡ row = cc in ([], x.1, ap (λ r. (r, x.1) ∷ []) same)
ends_with (x ∷ y ∷ es) row e =
    let step : length (x ∷ y ∷ es) - 1 ≡ suc (length (y ∷ es) - 1) = omega arith in
    let rest = ends_with (y ∷ es) row (ap (λ k. option_map (λ (e : Row × ℤ). e.0) (slice_get (x ∷ y ∷ es) k)) (sym step) ∙ e) in
    (x ∷ rest.0, rest.1, ap (λ l. x ∷ l) rest.2)

-- what is read from a row on, and a chain up to that row, are read from the beginning
reads : (table : Bag) (ps pages : List Shown) → IsChain table ps → GoesOn ps → ReadsOn table (after_of ps) pages → ReadsOn table None (reverse ps ++ pages)
reads table [] pages chain on rest = rest
reads table (p ∷ ps) pages chain on rest =
    let before = after_of ps in
    let end = ends_with p.rows on.1 on.2 in
    let same : p ≡ page_of table before chain.0 = chain.1 in
    let from : ReadsOn table (Some on.1) pages = subst (λ r. ReadsOn table r pages) on.2 rest in
    let here : ReadsOn table before (p ∷ pages) =
    subst (λ q. ReadsOn table before (q ∷ pages)) (sym same)
    (reads_more before chain.0 end.0 on.1 end.1 pages (ap (λ q. q.last) (sym same) ∙ on.0) (ap (λ q. q.rows) (sym same) ∙ end.2) from) in
    let moved : reverse ps ++ (p ∷ pages) ≡ reverse (p ∷ ps) ++ pages =
    sym (ap (λ l. l ++ pages) (reverse-append (p ∷ []) ps) ∙ append_assoc (reverse ps) (p ∷ []) pages) in
    subst (ReadsOn table None) moved (reads table ps (p ∷ pages) chain.3 chain.2 here)

-- a chain up to a last page is the whole table
whole : PagesJoin → (table : Bag) (p : Shown) (ps : List Shown) → IsChain table (p ∷ ps) → p.last ≡ true → flat_map (λ q. q.rows) (reverse (p ∷ ps)) ≡ written table
whole join table p ps chain last =
    let before = after_of ps in
    let same : p ≡ page_of table before chain.0 = chain.1 in
    let here : ReadsOn table before (p ∷ []) = subst (λ q. ReadsOn table before (q ∷ [])) (sym same) (ends before chain.0 (ap (λ q. q.last) (sym same) ∙ last)) in
    let moved : reverse ps ++ (p ∷ []) ≡ reverse (p ∷ ps) = sym (reverse-append (p ∷ []) ps) in
    join table (reverse (p ∷ ps)) (subst (ReadsOn table None) moved (reads table ps (p ∷ []) chain.3 chain.2 here))

-- a page that is not the last has a last row
has_row : (table : Bag) (after : Option Row) (limit : ℕ) → 1 ≤ limit → (page_of table after limit).last ≡ false → (row : Row) × (last_row (page_of table after limit) ≡ Some row)
has_row table after limit some open_still = at (rows_after table after) limit some open_still
  where
    none_left : (k : ℕ) → ¬ (nat_le 0 (suc k) ≡ false)
    none_left k h = grind (arith, h)

    last_there : (e : Row × ℤ) (es : Counted) → (row : Row) × (option_map (λ (e : Row × ℤ). e.0) (slice_get (e ∷ es) (length (e ∷ es) - 1)) ≡ Some row)
    last_there e [] = (e.0, refl)
    last_there e (f ∷ es) =
        let step : length (e ∷ f ∷ es) - 1 ≡ suc (length (f ∷ es) - 1) = omega arith in
        let r = last_there f es in
        (r.0, ap (λ k. option_map (λ (e : Row × ℤ). e.0) (slice_get (e ∷ f ∷ es) k)) step ∙ r.1)

    at : (rows : Counted) (limit : ℕ) → 1 ≤ limit → nat_le (length rows) limit ≡ false → (row : Row) × (option_map (λ (e : Row × ℤ). e.0) (slice_get (take limit rows) (length (take limit rows) - 1)) ≡ Some row)
    at rows zero some h = absurd (omega arith)
    at [] (suc k) some h = absurd (none_left k h)
    at (e ∷ es) (suc k) some h = last_there e (take k es)

-- the row after which reading goes on, after these pages, the latest first
abbrev goes_on_after : List Shown → Option Row
goes_on_after [] = None
goes_on_after (p ∷ ps) = cond p.last None (last_row p)

goes_on_row : (table : Bag) (ps : List Shown) → IsChain table ps → GoesOn (goes_on_from ps) × (after_of (goes_on_from ps) ≡ goes_on_after ps) × IsChain table (goes_on_from ps)
goes_on_row table [] chain = (tt, refl, tt)
goes_on_row table (p ∷ ps) chain = elim p.last as (λ b. p.last ≡ b → GoesOn (cond b [] (p ∷ ps)) × (after_of (cond b [] (p ∷ ps)) ≡ cond b None (last_row p)) × IsChain table (cond b [] (p ∷ ps))) [
  | true ↦ λ e. (tt, refl, tt)
  | false ↦ λ e.
      let row = has_row table (after_of ps) chain.0 chain.4 (ap (λ q. q.last) (sym chain.1) ∙ e) in
      ((e, row.0, ap last_row chain.1 ∙ row.1), refl, chain)
] refl

-- ---- what is known of a session

record IsReading (s : Setup) (log : Log) (d v : ℕ) (of : SessionOf) : Type 0 where
  there : of.version ≤ number (versions s log)
  chain : IsChain (table_of (versions s log) of.version v) (pages_read log d v)
  marked : goes_on v of.bookmark ≡ goes_on_after (pages_read log d v)

-- a deed that leaves the desk's session and its pages leaves what is known
kept : VersionsStay → (s : Setup) (x : Deed) (log : Log) (d v : ℕ) (of : SessionOf) → IsReading s log d v of → pages_read (x ∷ log) d v ≡ pages_read log d v → IsReading s (x ∷ log) d v of
kept stay s x log d v of r same =
    let stays = version_stays stay s x log of.version r.there in
    record {
      there = stays.0;
      chain = subst (λ ps. IsChain (table_of (versions s (x ∷ log)) of.version v) ps) (sym same)
          (subst (λ contents. IsChain (table_in contents v) (pages_read log d v)) (sym stays.1) r.chain);
      marked = r.marked ∙ ap goes_on_after (sym same);
    }

-- the bookmark that a page of the view w leaves, as it is for the view v
mark_is : (w v : ℕ) (page : Shown) → goes_on v (bookmark_after w page) ≡ cond (eqb w v) (cond page.last None (last_row page)) None
mark_is w v page = at page.last (slice_get page.rows (length page.rows - 1))
  where
    both : (b : Bool) (o : Option Row) → cond b o o ≡ o
    both true o = refl
    both false o = refl

    at : (b : Bool) (o : Option (Row × ℤ)) → goes_on v (cond b None (option_map (λ (e : Row × ℤ). record { view = w; row = e.0 }) o)) ≡ cond (eqb w v) (cond b None (option_map (λ (e : Row × ℤ). e.0) o)) None
    at true o = sym (both (eqb w v) None)
    at false None = sym (both (eqb w v) None)
    at false (Some e) = refl

module _ (stay : VersionsStay) (s : Setup) (d v : ℕ) where
  -- after a page of the view w, read at this desk
  turned : (log : Log) (w : ℕ) (page : Shown) (old : SessionOf) (limit : ℕ) → IsReading s log d v old → 1 ≤ limit
      → page ≡ page_of (table_of (versions s log) old.version w) (goes_on w old.bookmark) limit
      → (b : Bool) → eqb w v ≡ b → IsChain (table_of (versions s log) old.version v) (cond b (page ∷ goes_on_from (pages_read log d v)) [])
  turned log w page old limit r some same false b = tt
  turned log w page old limit r some same true b =
      let here : w ≡ v = eqb-true w v b in
      let on = goes_on_row (table_of (versions s log) old.version v) (pages_read log d v) r.chain in
      let next : page ≡ page_of (table_of (versions s log) old.version v) (after_of (goes_on_from (pages_read log d v))) limit =
      same ∙ (λ i. page_of (table_of (versions s log) old.version (here i)) (goes_on (here i) old.bookmark) limit) ∙ ap (λ o. page_of (table_of (versions s log) old.version v) o limit) (r.marked ∙ sym on.1) in
      (limit, next, on.0, on.2, some)

  -- a deed at a desk: this one, or another
  at_desk : (e : ℕ) (log : Log) (x : Deed) (of : SessionOf) → ((of : SessionOf) → session log d ≡ Some of → IsReading s log d v of)
      → (b : Bool) → eqb e d ≡ b → (o : Option SessionOf) (ps : List Shown) → session (x ∷ log) d ≡ cond b o (session log d) → pages_read (x ∷ log) d v ≡ cond b ps (pages_read log d v)
      → (e ≡ d → o ≡ Some of → ps ≡ pages_read (x ∷ log) d v → IsReading s (x ∷ log) d v of)
      → session (x ∷ log) d ≡ Some of → IsReading s (x ∷ log) d v of
  at_desk e log x of before true b o ps sits read mine at = mine (eqb-true e d b) (sym sits ∙ at) (sym read)
  at_desk e log x of before false b o ps sits read mine at = kept stay s x log d v of (before of (sym sits ∙ at)) read

  reading : (log : Log) (of : SessionOf) → AreDeeds s log → session log d ≡ Some of → IsReading s log d v of
  reading _ of none at = cc
  reading _ of (one_more log Began before deed) at = kept stay s Began log d v of (reading log of before at) refl
  reading _ of (one_more log (Drew w n) before deed) at = kept stay s (Drew w n) log d v of (reading log of before at) refl
  reading _ of (one_more log (Finished w) before deed) at = kept stay s (Finished w) log d v of (reading log of before at) refl
  reading _ of (one_more log Paged_in before deed) at = kept stay s Paged_in log d v of (reading log of before at) refl
  reading _ of (one_more log Committed before deed) at = kept stay s Committed log d v of (reading log of before at) refl
  reading _ of (one_more log Gave_up before deed) at = kept stay s Gave_up log d v of (reading log of before at) refl
  reading _ of (one_more log (Sat_down e k) before deed) at =
      at_desk e log (Sat_down e k) of (λ of. reading log of before) (eqb e d) refl (Some (record { version = k; bookmark = None })) [] refl refl
      (λ here is read. let first : record { version = k; bookmark = None } ≡ of = cc in
      subst (IsReading s (Sat_down e k ∷ log) d v) first (record {
        there = let stays = version_stays stay s (Sat_down e k) log k (subst (λ n. n ≤ number (versions s log)) (sym deed.1) (omega arith)) in stays.0;
        chain = subst (IsChain (table_of (versions s (Sat_down e k ∷ log)) k v)) read tt;
        marked = ap goes_on_after read;
      }))
      at
  reading _ of (one_more log (Turned e w page) before deed) at =
      at_desk e log (Turned e w page) of (λ of. reading log of before) (eqb e d) refl
      (option_map (λ (o : SessionOf). record { version = o.version; bookmark = bookmark_after w page }) (session log d))
      (cond (eqb w v) (page ∷ goes_on_from (pages_read log d v)) []) refl refl
      (λ here is read.
      let old : SessionOf = deed.0 in
      let sat : session log d ≡ Some old = ap (session log) (sym here) ∙ deed.1 in
      let r = reading log old before sat in
      let now : record { version = old.version; bookmark = bookmark_after w page } ≡ of =
      let both : Some (record { version = old.version; bookmark = bookmark_after w page }) ≡ Some of = sym (ap (option_map (λ (o : SessionOf). record { version = o.version; bookmark = bookmark_after w page })) sat) ∙ is in cc in
      let chain = turned log w page old deed.3 r deed.4 deed.5 (eqb w v) refl in
      let stays = version_stays stay s (Turned e w page) log old.version r.there in
      subst (IsReading s (Turned e w page ∷ log) d v) now (record {
        there = stays.0;
        chain = subst (λ contents. IsChain (table_in contents v) (pages_read (Turned e w page ∷ log) d v)) (sym stays.1) (subst (IsChain (table_of (versions s log) old.version v)) read chain);
        marked = mark_is w v page ∙ marks (eqb w v) page (goes_on_from (pages_read log d v)) ∙ ap goes_on_after read;
      }))
      at
    where
      marks : (b : Bool) (page : Shown) (ps : List Shown) → cond b (cond page.last None (last_row page)) None ≡ goes_on_after (cond b (page ∷ ps) [])
      marks true page ps = refl
      marks false page ps = refl
  reading _ of (one_more log (Left e) before deed) at =
      at_desk e log (Left e) of (λ of. reading log of before) (eqb e d) refl None [] refl refl (λ here is read. cc) at

pub read_tables : PagesJoin → VersionsStay → SessionsReadTables
read_tables join stay s log d v of legal sits =
    let r = reading stay s d v log of (deeds_of s log legal) sits in
    record {
      there = r.there;
      whole = λ page pages read last.
          ap (λ ps. flat_map (λ p. p.rows) (reverse ps)) read
          ∙ whole join (table_of (versions s log) of.version v) page pages (subst (IsChain (table_of (versions s log) of.version v)) read r.chain) last;
    }
