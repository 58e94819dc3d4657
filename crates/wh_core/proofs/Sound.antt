-- Every version is the contents of a base.
use Rattle.std.proofs.Common.{◌≡◌, refl, sym, ap, ◌∙◌, subst, ℕ, zero, suc, ◌+◌, ◌-◌, ◌<◌, ◌≤◌, ℤ, pos, negsuc, ◌+ℤ◌, List, [], ◌∷◌, ◌++◌, length, Bool, true, false, not, arith, cond, Option, Some, None, ⊎_elim}
use mathlib.Core.Logic.{◌⊎◌, inl, inr}
use Rattle.std.specs.Prelude.{◌≢◌, is_some, slice_index_or, slice_get}
use Rattle.std.proofs.lemmas.Bool.{false≢true, cases_lt}
use Rattle.wh_dag.specs.Shape.{children_of}
use Rattle.wh_dag.specs.Catalog.{CatalogOf, DefinitionOf, IsCatalog, columns, definition_of, is_base, is_empty, width_of}
use Rattle.wh_strategy.specs.declared.expression.Expression.{Expression}
use Rattle.wh_strategy.specs.Rules.{IsCorrect}
use Rattle.wh_row.specs.Bag.{Bag, HasWidth, IsTable, count, sum_of}
use Rattle.wh_row.proofs.BagLaws.{count-sum_of}
use Rattle.wh_maint.specs.Asked.{AreBags}
use Rattle.wh_maint.specs.Comp.{bag_at}
use Rattle.wh_maint.specs.Contents.{AreContents, AreContentsOf}
use Rattle.wh_maint.specs.Definition.{graph_of, view_of}
use Rattle.wh_maint.specs.Laws.{changed}
use Rattle.wh_maint.specs.View.{View, ViewGraph, column, value}
use Rattle.wh_maint.specs.Value.{accumulators, view_value}
use Rattle.wh_maint.proofs.FromScratch.{contents_are_values, catalogs_are_graphs}
use Rattle.wh_maint.proofs.Widths.{columns_have_width, tables_have_width}
use Rattle.wh_carry.specs.Carry.{at_first, carried, tables_after}
use Rattle.wh_carry.specs.Refused.{ArePassedBelow}
use Rattle.wh_carry.specs.NightLaws.{HaveTables}
use Rattle.wh_carry.specs.NightList.{puts_of}
use Rattle.wh_carry.proofs.Stands.{strategies_end_in_views}
use Rattle.wh_carry.proofs.NewValues.{ends_in_contents, passed_have_values}
use Rattle.wh_store.specs.Laws.{VersionsStay}
use Rattle.wh_store.specs.Operations.{Operation, Opens, Writes, Commits, Gives_up}
use Rattle.wh_store.specs.Pages.{Contents}
use Rattle.wh_store.specs.Versions.{Versions, after, number, opened as opened_by, table_in, written_over, version, versions_from, versions_of}
use Rattle.wh_carry.specs.Night.{Night, AreAllowed}
use Rattle.wh_carry.specs.Legs.{Leg, Wave, Page, Turn, In_wave, At_page, Over}
use Rattle.wh_core.specs.Laws.{CommitsMakeContents, IsGivenNight, IsSetup, VersionsAreContents}
use Rattle.wh_core.specs.Log.{Deed, Log, Began, Drew, Finished, Paged_in, Committed, Gave_up, Sat_down, Turned, Left, last_begun, nights_begun, is_open, pages, holding}
use Rattle.wh_core.specs.Nights.{GivenNight, Setup, next_night, night, night_from, last_night, page_in_turn, published, remaining, turn, turn_in, versions}
use Rattle.wh_core.specs.Replies.{IsLegalLog}
use Rattle.wh_core.proofs.Deeds.{AreDeeds, IsDeed, deeds_of, none, one_more}
use Rattle.wh_core.proofs.Nights.{last_is, night-start, whole_puts}
use Rattle.wh_core.proofs.Sessions.{version_stays}
use Rattle.wh_core.proofs.Underway.{IsAt, Underway, night-began, night-paged, ops_of, start_of, underway, versions_from-append}
use Rattle.wh_core.proofs.Writes.{IsWritten, puts_written, writing}

-- contents that a night can begin from
abbrev pub AreSound : Setup → Contents → Type 0
AreSound s contents = AreContents (graph_of s.catalog) (bag_at contents) × AreBags s.catalog contents

-- a base that has these contents is their own
own_contents : (catalog : CatalogOf) (base tables : ℕ → Bag) → AreContentsOf (graph_of catalog) base tables → AreContents (graph_of catalog) tables
own_contents catalog base tables are = record {
  counts = λ b e. subst IsTable (sym (are.bases b e)) (are.counts b e);
  bases = λ b e. refl;
  values = are.values;
  defined = are.defined;
}

pub number-newest : (v : Versions) → version v (number v) ≡ v.newest
number-newest v = let z : number v - number v ≡ 0 = omega arith in ap (λ k. slice_index_or (v.newest ∷ v.older) k []) z

pub given_at : (nights : List GivenNight) (n : ℕ) (d : GivenNight) → n < length nights → slice_get nights n ≡ Some (slice_index_or nights n d)
given_at [] n d l = absurd (omega arith)
given_at (x ∷ xs) zero d l = refl
given_at (x ∷ xs) (suc n) d l = given_at xs n d (omega arith)

-- ---- widths

sum_wide : (a b : Bag) (width : ℕ) → HasWidth a width → HasWidth b width → HasWidth (sum_of a b) width
sum_wide a b width left right q counts = ⊎_elim (λ e. right q (λ f. counts (count-sum_of a b q ∙ (λ i. e i +ℤ f i)))) (left q) (zero_or_not (count a q))
  where
    zero_or_not : (z : ℤ) → (z ≡ pos 0) ⊎ (z ≢ pos 0)
    zero_or_not (pos zero) = inl refl
    zero_or_not (pos (suc k)) = inr (λ e. cc)
    zero_or_not (negsuc k) = inr (λ e. cc)

empty_or_not : (us : List ℕ) → (us ≡ []) ⊎ ((us ≡ []) → ⊥)
empty_or_not [] = inl refl
empty_or_not (u ∷ us) = inr (λ e. cc)

not_empty : (us : List ℕ) → ¬ (us ≡ []) → is_empty us ≡ false
not_empty [] h = absurd (h refl)
not_empty (u ∷ us) h = refl

value_wide : (catalog : CatalogOf) (v : ℕ) (tables : List Bag) → IsCatalog catalog → v < length catalog.views.children → ¬ (children_of catalog.views.children v ≡ [])
    → HasWidth (view_value (view_of (definition_of catalog v)) tables) (width_of catalog v)
value_wide catalog v tables is l over = by (definition_of catalog v) refl (is.derived v l ∙ ap not (not_empty (children_of catalog.views.children v) over))
  where
    by : (o : Option DefinitionOf) → definition_of catalog v ≡ o → is_some (definition_of catalog v) ≡ true → HasWidth (view_value (view_of (definition_of catalog v)) tables) (width_of catalog v)
    by None e some = absurd (false≢true (ap is_some (sym e) ∙ some))
    by (Some d) e some =
        subst (λ k. HasWidth (view_value (view_of (definition_of catalog v)) tables) k) (sym (is.defined_columns v d e))
        (subst (λ o. HasWidth (view_value (view_of o) tables) (columns d.output)) (sym e)
        (tables_have_width d.output (accumulators (view_of (Some d)) tables) (λ j. columns_have_width d j _)))

tables_wide : (catalog : CatalogOf) (list : List Expression) (tables changes : List Bag) → IsCatalog catalog → IsCorrect catalog.views.children list → AreBags catalog tables → AreBags catalog changes
    → AreContents (graph_of catalog) (bag_at tables) → (u : ℕ) → u < length catalog.views.children
    → HasWidth (tables_after (graph_of catalog) (bag_at changes) list (bag_at tables) u) (width_of catalog u)
tables_wide catalog list tables changes is ok are given contents_before u l =
    let g : ViewGraph = graph_of catalog in
    let scratch = contents_are_values g (changed (bag_at tables) (bag_at changes)) (catalogs_are_graphs catalog is) in
    subst (λ t. HasWidth t (width_of catalog u)) (sym (strategies_end_in_views catalog list (bag_at tables) (bag_at changes) is ok contents_before.counts contents_before.values u l))
    (⊎_elim
    (λ e. subst (λ t. HasWidth t (width_of catalog u)) (sym (scratch.bases u e)) (sum_wide (bag_at tables u) (bag_at changes u) (width_of catalog u) (are.widths u l) (given.widths u l)))
    (λ over. subst (λ t. HasWidth t (width_of catalog u)) (sym (scratch.values u over)) (value_wide catalog u _ is l over))
    (empty_or_not (children_of catalog.views.children u)))

module _ (stay : VersionsStay) (s : Setup) (setup : IsSetup s) where
  pub given_night : (contents : Contents) (n : ℕ) → n < length s.nights → IsGivenNight s.catalog (slice_index_or s.nights n (record { changes = []; list = [] }))
  given_night contents n l = setup.nights n (slice_index_or s.nights n (record { changes = []; list = [] })) (given_at s.nights n (record { changes = []; list = [] }) l)

  -- what is known of a log
  pub record IsSound (log : Log) : Type 0 where
    pub contents : (k : ℕ) → k ≤ number (versions s log) → AreSound s (version (versions s log) k)
    pub allowed : is_open log ≡ true → AreAllowed (night s log)
    pub begun : nights_begun log ≤ length s.nights

  pub newest_sound : (log : Log) → IsSound log → AreSound s (versions s log).newest
  newest_sound log r = subst (AreSound s) (number-newest (versions s log)) (r.contents (number (versions s log)) (omega arith))

  module _ (log : Log) (before : AreDeeds s log) (r : IsSound log) (opened : is_open log ≡ true) (over : turn s log ≡ Over) where
    abbrev v0 : Versions
    v0 = versions_of s.opening (start_of s log)

    abbrev given : GivenNight
    given = slice_index_or s.nights (last_begun log) (record { changes = []; list = [] })

    abbrev n : Night
    n = night_from s v0.newest (last_begun log)

    abbrev a : Underway s log
    a = underway s log before opened

    fits : IsGivenNight s.catalog given
    fits = given_night v0.newest (last_begun log) (let b = r.begun in let some = last_is s log before opened in omega (arith, b, some))

    abbrev Passes : Night → Type 0
    Passes m = ArePassedBelow m.catalog m.list m.tables m.changes (length m.list) × (puts_of (graph_of m.catalog) m.changes m.keys m.list (at_first m.tables) ≡ ops_of a.over)

    passes : Passes n
    passes = subst Passes (night-start s log before opened) (whole_puts passed_have_values (night s log) (start_of s log) (published s log) (remaining s log) (pages log) (holding log) _ _ a over)

    -- before the commit the night's puts are being written
    versions_now : versions s log ≡ versions_from (writing v0 v0.newest) (ops_of a.over)
    versions_now = ap (versions_of s.opening) a.whole ∙ versions_from-append (opened_by s.opening) (start_of s log) (Opens ∷ ops_of a.over)

    same_newest : v0.newest ≡ (versions s log).newest
    same_newest = sym (ap (λ (v : Versions). v.newest) versions_now ∙ newest-puts (ops_of a.over) a.over refl)
      where
        newest-puts : (ops : List Operation) (legs : List Leg) → ops ≡ ops_of legs → (versions_from (writing v0 v0.newest) ops).newest ≡ v0.newest
        newest-puts ops legs e = ap (λ o. (versions_from (writing v0 v0.newest) o).newest) e ∙ each legs v0.newest
          where
            each : (legs : List Leg) (c : Contents) → (versions_from (writing v0 c) (ops_of legs)).newest ≡ v0.newest
            each [] c = refl
            each (Wave place jobs ∷ legs) c = each legs c
            each (Page place view rows ∷ legs) c = each legs (written_over view rows c)

    start_sound : AreSound s v0.newest
    start_sound = subst (AreSound s) (sym same_newest) (newest_sound log r)

    made : IsWritten v0 (puts_of (graph_of s.catalog) n.changes s.keys n.list (at_first n.tables)) v0.newest (tables_after (graph_of s.catalog) n.changes n.list n.tables)
    made = puts_written (graph_of s.catalog) n.changes s.keys setup.some_keys v0 n.list (at_first n.tables) v0.newest
        (λ p w at. let l = fits.list.views p w at in let each = start_sound.1.each in omega (arith, l, each)) (λ u. refl)

    written_so : versions s log ≡ writing v0 made.made
    written_so = versions_now ∙ ap (versions_from (writing v0 v0.newest)) (sym passes.1) ∙ made.versions

    now_newest : (versions s (Committed ∷ log)).newest ≡ made.made
    unfolding published
    now_newest = ap (λ (v : Versions). v.newest) (versions_from-append (opened_by s.opening) (published s log) (Commits ∷ [])) ∙ ap (λ v. (after v Commits).newest) written_so

    allowed : AreAllowed n
    allowed = subst AreAllowed (night-start s log before opened) (r.allowed opened)

    made_bags : AreBags s.catalog made.made
    made_bags = record {
      each = made.long ∙ start_sound.1.each;
      widths = λ u l. subst (λ t. HasWidth t (width_of s.catalog u)) (sym (made.same u))
          (tables_wide s.catalog given.list v0.newest given.changes setup.catalogue fits.list start_sound.1 fits.changes start_sound.0 u l);
    }

    committed : AreContentsOf (graph_of s.catalog) (changed (night s log).tables (night s log).changes) (bag_at (versions s (Committed ∷ log)).newest) × AreBags s.catalog (versions s (Committed ∷ log)).newest
    committed =
        let ends = ends_in_contents s.catalog given.list v0.newest given.changes made.made setup.catalogue fits.list start_sound.1 fits.changes made_bags allowed passes.0 (λ v l. made.same v) start_sound.0 in
        subst (λ m. AreContentsOf (graph_of s.catalog) (changed m.tables m.changes) (bag_at (versions s (Committed ∷ log)).newest) × AreBags s.catalog (versions s (Committed ∷ log)).newest)
        (sym (night-start s log before opened))
        (subst (λ c. AreContentsOf (graph_of s.catalog) (changed n.tables n.changes) (bag_at c) × AreBags s.catalog c) (sym now_newest) (ends, made_bags))

    -- its tables are those that the whole list makes
    commit_ends : HaveTables (versions s (Committed ∷ log)).newest (length (night s log).catalog.views.children) (tables_after (graph_of (night s log).catalog) (night s log).changes (night s log).list (night s log).tables)
    commit_ends =
        subst (λ (m : Night). HaveTables (versions s (Committed ∷ log)).newest (length m.catalog.views.children) (tables_after (graph_of m.catalog) m.changes m.list m.tables)) (sym (night-start s log before opened))
        (subst (λ c. HaveTables c (length s.catalog.views.children) (tables_after (graph_of s.catalog) n.changes n.list n.tables)) (sym now_newest)
        (record { each = made.long ∙ start_sound.1.each; are = λ v l. made.same v }))

  -- one deed more: of its versions, those that were not there before
  one_deed : (d : Deed) (log : Log) → IsSound log → ((k : ℕ) → number (versions s log) < k → k ≤ number (versions s (d ∷ log)) → AreSound s (version (versions s (d ∷ log)) k))
      → (is_open (d ∷ log) ≡ true → AreAllowed (night s (d ∷ log))) → nights_begun (d ∷ log) ≤ length s.nights → IsSound (d ∷ log)
  one_deed d log r later allowed begun = record {
    contents = λ k l. ⊎_elim (λ below. later k below l) (λ there. let same = version_stays stay s d log k there in subst (AreSound s) (sym same.1) (r.contents k there)) (cases_lt (number (versions s log)) k);
    allowed = allowed;
    begun = begun;
  }

  -- a deed that makes no version
  no_version : (d : Deed) (log : Log) → IsSound log → number (versions s (d ∷ log)) ≡ number (versions s log)
      → (is_open (d ∷ log) ≡ true → AreAllowed (night s (d ∷ log))) → nights_begun (d ∷ log) ≤ length s.nights → IsSound (d ∷ log)
  no_version d log r same allowed begun = one_deed d log r (λ k below l. absurd (omega (arith, below, l, same))) allowed begun

  -- a deed that makes one
  a_version : (d : Deed) (log : Log) → IsSound log → number (versions s (d ∷ log)) ≡ number (versions s log) + 1 → is_open (d ∷ log) ≡ false
      → AreSound s (versions s (d ∷ log)).newest → nights_begun (d ∷ log) ≤ length s.nights → IsSound (d ∷ log)
  a_version d log r next shut newest begun =
      one_deed d log r
      (λ k below l.
      let same : number (versions s (d ∷ log)) ≡ k = omega (arith, below, l, next) in
      subst (λ k. AreSound s (version (versions s (d ∷ log)) k)) same (subst (AreSound s) (sym (number-newest (versions s (d ∷ log)))) newest))
      (λ t. absurd (false≢true (sym shut ∙ t))) begun

  number-paged : (v : Versions) (t : Turn) → number (versions_from v (page_in_turn t)) ≡ number v
  number-paged v (In_wave place jobs drawn) = refl
  number-paged v (At_page place view rows) = refl
  number-paged v Over = refl

  pub sound : (log : Log) → AreDeeds s log → IsSound log
  unfolding published
  sound _ none = record {
    contents = λ k l. let z : 0 ≡ k = omega (arith, l) in subst (λ k. AreSound s (version (opened_by s.opening) k)) z (setup.opening, setup.tables);
    allowed = λ t. absurd (false≢true t);
    begun = omega arith;
  }
  sound _ (one_more log Began before deed) =
      no_version Began log (sound log before) (ap number (versions_from-append (opened_by s.opening) (published s log) (Opens ∷ [])))
      (λ t. subst AreAllowed (sym (night-began s log)) deed.2) (let b = deed.1 in omega (arith, b))
  sound _ (one_more log (Drew w k) before deed) = let r = sound log before in no_version (Drew w k) log r refl r.allowed r.begun
  sound _ (one_more log (Finished w) before deed) = let r = sound log before in no_version (Finished w) log r refl r.allowed r.begun
  sound _ (one_more log Paged_in before deed) =
      let r = sound log before in
      let t : Turn = turn_in (last_night s log (published s log)) log in
      no_version Paged_in log r (ap number (versions_from-append (opened_by s.opening) (published s log) (page_in_turn t)) ∙ number-paged (versions s log) t)
      (λ e. subst AreAllowed (sym (night-paged s log)) (r.allowed e)) r.begun
  sound _ (one_more log Committed before deed) =
      let r = sound log before in
      let c = committed log before r deed.0 deed.1 in
      a_version Committed log r (ap number (versions_from-append (opened_by s.opening) (published s log) (Commits ∷ [])) ∙ (let e : suc (number (versions s log)) ≡ number (versions s log) + 1 = omega arith in e)) refl
      (own_contents s.catalog _ _ c.0, c.1) r.begun
  sound _ (one_more log Gave_up before deed) =
      let r = sound log before in
      let same = versions_from-append (opened_by s.opening) (published s log) (Gives_up ∷ []) in
      a_version Gave_up log r (ap number same ∙ (let e : suc (number (versions s log)) ≡ number (versions s log) + 1 = omega arith in e)) refl
      (subst (λ v. AreSound s v.newest) (sym same) (newest_sound log r)) r.begun
  sound _ (one_more log (Sat_down d v) before deed) = let r = sound log before in no_version (Sat_down d v) log r refl r.allowed r.begun
  sound _ (one_more log (Turned d v page) before deed) = let r = sound log before in no_version (Turned d v page) log r refl r.allowed r.begun
  sound _ (one_more log (Left d) before deed) = let r = sound log before in no_version (Left d) log r refl r.allowed r.begun

pub versions_are_contents : VersionsStay → VersionsAreContents
versions_are_contents stay s log k setup legal within = (sound stay s setup log (deeds_of s log legal)).contents k within

pub commits_make_contents : VersionsStay → CommitsMakeContents
commits_make_contents stay s log setup legal opened over =
    let deeds = deeds_of s log legal in (committed stay s setup log deeds (sound stay s setup log deeds) opened over).0

-- a commit makes the tables that the whole night ends with
pub commits_end : VersionsStay → (s : Setup) (log : Log) → IsSetup s → IsLegalLog s log → is_open log ≡ true → turn s log ≡ Over
    → HaveTables (versions s (Committed ∷ log)).newest (length (night s log).catalog.views.children) (tables_after (graph_of (night s log).catalog) (night s log).changes (night s log).list (night s log).tables)
commits_end stay s log setup legal opened over =
    let deeds = deeds_of s log legal in commit_ends stay s setup log deeds (sound stay s setup log deeds) opened over
