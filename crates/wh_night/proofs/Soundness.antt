-- A published list that is sound stays so.
use Rattle.std.proofs.Common.{◌≡◌, refl, sym, ap, subst, ◌∙◌, ℕ, suc, ◌-◌, ◌≤◌, ◌<◌, true, false, List, [], ◌∷◌, ◌++◌, length, take, None, ⊎_elim, arith}
use Rattle.std.specs.Prelude.{IsTrue, IfErr, OnErr, OnOk, Result, Ok, Err, slice_index_or}
use Rattle.std.specs.List.{list_all}
use Rattle.std.proofs.lemmas.Bool.{and_parts, cases_lt, false≢true}
use Rattle.wh_dag.specs.Shape.{children_of}
use Rattle.wh_dag.specs.Catalog.{CatalogOf, IsCatalog}
use Rattle.wh_strategy.specs.declared.expression.Expression.{Expression}
use Rattle.wh_strategy.specs.Rules.{IsCorrect}
use Rattle.wh_row.specs.Bag.{Bag, IsTable, empty, sum_of}
use Rattle.wh_maint.specs.Asked.{AreBags}
use Rattle.wh_maint.specs.Comp.{bag_at}
use Rattle.wh_maint.specs.Contents.{AreBaseTables, AreContents, AreContentsOf, contents}
use Rattle.wh_maint.specs.Definition.{graph_of}
use Rattle.wh_maint.specs.Laws.{changed}
use Rattle.wh_maint.specs.View.{ViewGraph}
use Rattle.wh_maint.proofs.Differences.{sum-empty}
use Rattle.wh_maint.proofs.FromScratch.{catalogs_are_graphs, contents_are_values, same_contents}
use Rattle.wh_store.specs.Operations.{Operation, Opens, Writes, Commits, Gives_up}
use Rattle.wh_store.specs.Pages.{Contents}
use Rattle.wh_store.specs.Versions.{Versions, after, is_well_formed, number, versions_from, versions_of}
use Rattle.wh_store.specs.Ledgers.{Ledger, versions_in}
use Rattle.wh_carry.specs.Carry.{at_first, carried}
use Rattle.wh_carry.specs.NightLaws.{HaveTables}
use Rattle.wh_carry.specs.NightList.{IsNightList, ends_before, night_below, puts_of, whole as whole_list}
use Rattle.wh_carry.specs.Refused.{HaveValuesBelow}
use Rattle.wh_carry.proofs.Agreeing.{past}
use Rattle.wh_carry.proofs.Prefixes.{take_whole}
use Rattle.wh_carry.proofs.NewValues.{changed_base, strategies_end_in_contents}
use Rattle.wh_carry.proofs.NightLists.{night_lists_end_in_contents, night_lists_write_tables}
use Rattle.wh_carry.specs.Night.{Night, AreAllowed}
use Rattle.wh_night.specs.declared.cause.NightCause.{NightCause}
use Rattle.wh_night.specs.declared.left.Aftermath.{Aftermath}
use Rattle.wh_night.specs.declared.left.Aftermath.TheVariants.{Untouched, GivenUp, StillOpen}
use Rattle.wh_night.specs.declared.left.NightFault.{NightFault}
use Rattle.wh_night.specs.Tonight.{Begin_it, IsCut, IsDone, IsOpen, IsSound, Leaves, made_by, newest_in, tonight}
use Rattle.wh_night.proofs.Ends.{versions_append}
use Rattle.wh_night.proofs.Puts.{begins_open, is_write, puts_write}

-- ---- versions by their numbers

abbrev version_of : Contents → List Contents → ℕ → Contents
version_of newest older k = slice_index_or (newest ∷ older) (length older - k) []

newest_of : (newest : Contents) (older : List Contents) → version_of newest older (length older) ≡ newest
newest_of newest older = let e : length older - length older ≡ 0 = omega arith in ap (λ i. slice_index_or (newest ∷ older) i []) e

older_of : (newest before : Contents) (older : List Contents) (k : ℕ) → k ≤ length older → version_of newest (before ∷ older) k ≡ version_of before older k
older_of newest before older k l =
    let e : length (before ∷ older) - k ≡ suc (length older - k) = omega arith in
    ap (λ i. slice_index_or (newest ∷ before ∷ older) i []) e

-- ---- what a beginning of a night leaves of them

keeps : (v : Versions) (puts : List Operation) → list_all is_write puts ≡ true → ((versions_from v puts).newest ≡ v.newest) × ((versions_from v puts).older ≡ v.older)
keeps v [] h = (refl, refl)
keeps v (Opens ∷ puts) h = absurd (false≢true (and_parts false (list_all is_write puts) h).0)
keeps v (Writes view rows ∷ puts) h = keeps (after v (Writes view rows)) puts h
keeps v (Commits ∷ puts) h = absurd (false≢true (and_parts false (list_all is_write puts) h).0)
keeps v (Gives_up ∷ puts) h = absurd (false≢true (and_parts false (list_all is_write puts) h).0)

-- a list that ends by its commit is the whole one
only_writes : (xs : List Operation) → list_all is_write (xs ++ Commits ∷ []) ≡ true → ⊥
only_writes [] h = false≢true (and_parts false true h).0
only_writes (x ∷ xs) h = only_writes xs (and_parts (is_write x) (list_all is_write (xs ++ Commits ∷ [])) h).1

not_commit : (own puts : List Operation) → list_all is_write own ≡ true → Opens ∷ own ≡ puts ++ Commits ∷ [] → ⊥
not_commit own [] h e = cc
not_commit own (x ∷ puts) h e =
    let tail : own ≡ puts ++ Commits ∷ [] = cc in
    only_writes puts (subst (λ ops. list_all is_write ops ≡ true) tail h)

record IsWholeList (n : Night) (ops : List Operation) : Type 0 where
  values : HaveValuesBelow n.catalog n.list n.tables n.changes (length n.list)
  is : ops ≡ night_below (graph_of n.catalog) n.changes n.keys n.list n.tables (length n.list) ++ Commits ∷ []

whole_is : (n : Night) (ops puts : List Operation) → IsNightList n.catalog n.list n.tables n.changes n.keys ops → ops ≡ puts ++ Commits ∷ [] → IsWholeList n ops
whole_is n _ puts (whole_list values) e = record { values = values; is = refl }
whole_is n _ puts (ends_before place x at values fails) e =
    absurd (not_commit (puts_of (graph_of n.catalog) n.changes n.keys (take place n.list) (at_first n.tables)) puts (puts_write (graph_of n.catalog) n.changes n.keys (take place n.list) (at_first n.tables)) e)

-- a base that has these contents is their own
own_contents : (g : ViewGraph) (base tables : ℕ → Bag) → AreContentsOf g base tables → AreContents g tables
own_contents g base tables are = record {
  counts = λ b e. subst IsTable (sym (are.bases b e)) (are.counts b e);
  bases = λ b e. refl;
  values = are.values;
  defined = are.defined;
}

none_past : (catalog : CatalogOf) (bags : List Bag) → length bags ≡ length catalog.views.children → (v : ℕ) → length catalog.views.children ≤ v → bag_at bags v ≡ empty
none_past catalog bags each v l = past bags v empty (omega (arith, each, l))

no_children : (catalog : CatalogOf) (v : ℕ) → length catalog.views.children ≤ v → children_of catalog.views.children v ≡ []
unfolding children_of
no_children catalog v l = past catalog.views.children v [] l

-- what operations behind the list make
behind : (l : Ledger) (ops : List Operation) → versions_in l.of (l.list ++ ops) ≡ versions_from (versions_in l.of l.list) ops
behind l ops = versions_append (versions_of l.of.opening []) l.list ops

front_keeps : (n : Night) (v : Versions) (ops : List Operation) → Begin_it n ops → ((versions_from v ops).newest ≡ v.newest) × ((versions_from v ops).older ≡ v.older)
front_keeps n v [] b = (refl, refl)
front_keeps n v (x ∷ ops) b =
    let o = begins_open n (x ∷ ops) (λ e. cc) b in
    let k = keeps (after v Opens) o.puts o.write in
    (ap (λ xs. (versions_from v xs).newest) o.is ∙ k.0, ap (λ xs. (versions_from v xs).older) o.is ∙ k.1)

-- what a refused night leaves published makes the same newest contents
module _ (n : Night) (l m : Ledger) where
  open_newest : (cause : NightCause) → IsOpen n cause l m → newest_in m ≡ newest_in l
  open_newest cause o = ap newest_in o.now ∙ ap (λ (v : Versions). v.newest) (behind l o.ops) ∙ (front_keeps n (versions_in l.of l.list) o.ops o.beginning).0

  cut_newest : (cause : NightCause) → IsCut n cause l m → newest_in m ≡ newest_in l
  cut_newest cause o =
      let v0 : Versions = versions_in l.of l.list in
      ap newest_in o.now ∙ ap (λ (v : Versions). v.newest) (behind l (o.ops ++ Gives_up ∷ []) ∙ ap (versions_from v0) o.cut.cut ∙ versions_append v0 (Opens ∷ o.cut.puts) (Gives_up ∷ []))
      ∙ (front_keeps n v0 (Opens ∷ o.cut.puts) o.cut.beginning).0

  left_newest : (cause : NightCause) (left : Aftermath) → Leaves n cause l left m → newest_in m ≡ newest_in l
  left_newest cause Untouched e = ap newest_in e
  left_newest cause GivenUp o = cut_newest cause o
  left_newest cause StillOpen o = open_newest cause o

  pub refused_newest : {A : Type 0} (r : Result A NightFault) → IfErr r (λ f. Leaves n f.cause l f.left m) → OnErr r (newest_in m ≡ newest_in l)
  refused_newest (Ok report) leaves = tt
  refused_newest (Err f) leaves = left_newest f.cause f.left leaves

module _ (catalog : CatalogOf) (list : List Expression) (l m : Ledger) (changes : List Bag) (keys : ℕ) (is : IsCatalog catalog) (ok : IsCorrect catalog.views.children list)
    (bags : AreBags catalog (newest_in l)) (given : AreBags catalog changes) (some : 1 ≤ keys) (few : keys ≤ 256) (allowed : AreAllowed (tonight catalog list l changes keys)) (sound : IsSound catalog l)
    (well_formed : IsTrue (is_well_formed (length m.of.opening) m.list)) where
  abbrev n : Night
  n = tonight catalog list l changes keys

  abbrev g : ViewGraph
  g = graph_of catalog

  abbrev v0 : Versions
  v0 = versions_in l.of l.list

  newest_contents : AreContents g (bag_at v0.newest)
  newest_contents = subst (λ c. AreContents g (bag_at c)) (newest_of v0.newest v0.older) (sound.contents (number v0) (omega arith))

  -- no new version
  same_sound : (versions_in m.of m.list).newest ≡ v0.newest → (versions_in m.of m.list).older ≡ v0.older → IsSound catalog m
  same_sound a b = record {
    well_formed = well_formed;
    contents = λ k r. subst (λ c. AreContents g (bag_at c)) (λ i. version_of (sym a i) (sym b i) k) (sound.contents k (subst (λ o. k ≤ length o) b r));
  }

  -- one more
  one_more : (newest : Contents) → AreContents g (bag_at newest) → (versions_in m.of m.list).newest ≡ newest → (versions_in m.of m.list).older ≡ v0.newest ∷ v0.older → IsSound catalog m
  one_more newest are a b = record {
    well_formed = well_formed;
    contents = λ k r.
        let within : k ≤ length (v0.newest ∷ v0.older) = subst (λ o. k ≤ length o) b r in
        subst (λ c. AreContents g (bag_at c)) (λ i. version_of (sym a i) (sym b i) k) (⊎_elim
        (λ low. subst (λ c. AreContents g (bag_at c)) (sym (older_of newest v0.newest v0.older k (omega (arith, low)))) (sound.contents k (omega (arith, low))))
        (λ high.
        let e : length (v0.newest ∷ v0.older) ≡ k = omega (arith, high, within) in
        subst (λ c. AreContents g (bag_at c)) (sym (ap (version_of newest (v0.newest ∷ v0.older)) (sym e) ∙ newest_of newest (v0.newest ∷ v0.older))) are)
        (cases_lt k (suc (length v0.older))));
  }

  open_sound : (cause : NightCause) → IsOpen n cause l m → IsSound catalog m
  open_sound cause o =
      let k = front_keeps n v0 o.ops o.beginning in
      let now : versions_in m.of m.list ≡ versions_from v0 o.ops = ap (λ (x : Ledger). versions_in x.of x.list) o.now ∙ behind l o.ops in
      same_sound (ap (λ (v : Versions). v.newest) now ∙ k.0) (ap (λ (v : Versions). v.older) now ∙ k.1)

  cut_sound : (cause : NightCause) → IsCut n cause l m → IsSound catalog m
  cut_sound cause o =
      let k = front_keeps n v0 (Opens ∷ o.cut.puts) o.cut.beginning in
      let now : versions_in m.of m.list ≡ after (versions_from v0 (Opens ∷ o.cut.puts)) Gives_up =
      ap (λ (x : Ledger). versions_in x.of x.list) o.now ∙ behind l (o.ops ++ Gives_up ∷ []) ∙ ap (versions_from v0) o.cut.cut ∙ versions_append v0 (Opens ∷ o.cut.puts) (Gives_up ∷ []) in
      one_more v0.newest newest_contents (ap (λ (v : Versions). v.newest) now ∙ k.0) (ap (λ (v : Versions). v.older) now ∙ (λ i. k.0 i ∷ k.1 i))

  abbrev base : ℕ → Bag
  base = changed (bag_at v0.newest) (bag_at changes)

  counts : AreBaseTables g base
  counts = changed_base catalog v0.newest changes bags given allowed

  done_sound : IsDone n l m → IsSound catalog m
  done_sound o =
      let w = whole_is n o.ops o.whole.puts o.whole.night_list o.whole.commits in
      let end = night_lists_end_in_contents catalog list (bag_at v0.newest) (bag_at changes) keys v0 is ok some few (record { each = bags.each; are = λ v r. refl }) newest_contents counts w.values in
      let has = strategies_end_in_contents catalog list (bag_at v0.newest) (bag_at changes) is ok newest_contents counts w.values in
      let now : versions_in m.of m.list ≡ record { newest = end.newest; older = v0.newest ∷ v0.older; draft = None } =
      ap (λ (x : Ledger). versions_in x.of x.list) o.now ∙ behind l o.ops ∙ ap (versions_from v0) w.is ∙ end.published in
      one_more end.newest
      (own_contents g base (bag_at end.newest) (same_contents g base (contents g base) (bag_at end.newest)
      (λ v. ⊎_elim
      (λ r. end.are_contents.are v r)
      (λ r.
      none_past catalog end.newest end.are_contents.each v r
      ∙ sym ((contents_are_values g base (catalogs_are_graphs catalog is)).bases v (no_children catalog v r)
      ∙ (λ i. sum_of (none_past catalog v0.newest bags.each v r i) (none_past catalog changes given.each v r i)) ∙ sum-empty empty))
      (cases_lt v (length catalog.views.children)))
      has.0))
      (ap (λ (v : Versions). v.newest) now) (ap (λ (v : Versions). v.older) now)

  left_sound : (cause : NightCause) (left : Aftermath) → Leaves n cause l left m → IsSound catalog m
  left_sound cause Untouched e = subst (IsSound catalog) (sym e) sound
  left_sound cause GivenUp o = cut_sound cause o
  left_sound cause StillOpen o = open_sound cause o

  pub stays_sound : {A : Type 0} (r : Result A NightFault) → OnOk r (IsDone n l m) → IfErr r (λ f. Leaves n f.cause l f.left m) → IsSound catalog m
  stays_sound (Ok report) done left = done_sound done
  stays_sound (Err f) done left = left_sound f.cause f.left left

-- ---- the new contents

-- what stands after a night that is done: one version more, whose tables are those that carrying out makes
record Ends (catalog : CatalogOf) (list : List Expression) (l m : Ledger) (changes : List Bag) (keys : ℕ) : Type 0 where
  newest : Contents
  now : versions_in m.of m.list ≡ record { newest = newest; older = newest_in l ∷ (versions_in l.of l.list).older; draft = None }
  have : HaveTables newest (length catalog.views.children) (made_by (tonight catalog list l changes keys))

done_ends : (catalog : CatalogOf) (list : List Expression) (l m : Ledger) (changes : List Bag) (keys : ℕ) → IsCorrect catalog.views.children list → AreBags catalog (newest_in l) → 1 ≤ keys
    → IsDone (tonight catalog list l changes keys) l m → Ends catalog list l m changes keys
done_ends catalog list l m changes keys ok bags some o =
    let n : Night = tonight catalog list l changes keys in
    let v0 : Versions = versions_in l.of l.list in
    let night : List Operation = night_below (graph_of catalog) (bag_at changes) keys list (bag_at v0.newest) (length list) in
    let w = whole_is n o.ops o.whole.puts o.whole.night_list o.whole.commits in
    let written = night_lists_write_tables catalog list (bag_at v0.newest) (bag_at changes) keys v0 ok some (record { each = bags.each; are = λ v r. refl }) (length list) in
    record {
      newest = written.0;
      now = ap (λ (x : Ledger). versions_in x.of x.list) o.now ∙ versions_append (versions_of l.of.opening []) l.list o.ops ∙ ap (versions_from v0) w.is ∙ versions_append v0 night (Commits ∷ []) ∙ ap (λ v. after v Commits) written.1;
      have = subst (λ es. HaveTables written.0 (length catalog.views.children) (carried (graph_of catalog) (bag_at changes) es (at_first (bag_at v0.newest))).tables) (take_whole list) written.2;
    }

pub done_tables : (catalog : CatalogOf) (list : List Expression) (l m : Ledger) (changes : List Bag) (keys : ℕ) → IsCorrect catalog.views.children list → AreBags catalog (newest_in l) → 1 ≤ keys
    → IsDone (tonight catalog list l changes keys) l m → HaveTables (newest_in m) (length catalog.views.children) (made_by (tonight catalog list l changes keys))
done_tables catalog list l m changes keys ok bags some o =
    let e = done_ends catalog list l m changes keys ok bags some o in
    subst (λ c. HaveTables c (length catalog.views.children) (made_by (tonight catalog list l changes keys))) (sym (ap (λ (v : Versions). v.newest) e.now)) e.have

pub done_number : (catalog : CatalogOf) (list : List Expression) (l m : Ledger) (changes : List Bag) (keys : ℕ) → IsCorrect catalog.views.children list → AreBags catalog (newest_in l) → 1 ≤ keys
    → IsDone (tonight catalog list l changes keys) l m → number (versions_in m.of m.list) ≡ suc (number (versions_in l.of l.list))
done_number catalog list l m changes keys ok bags some o = let e = done_ends catalog list l m changes keys ok bags some o in ap number e.now

-- tables that agree at each place are one list
pub one_list : (tables others : List Bag) → length tables ≡ length others → ((v : ℕ) → v < length others → bag_at tables v ≡ bag_at others v) → tables ≡ others
one_list [] [] each are = refl
one_list [] (o ∷ others) each are = absurd (omega (arith, each))
one_list (t ∷ tables) [] each are = absurd (omega (arith, each))
one_list (t ∷ tables) (o ∷ others) each are = (λ i. are 0 (omega arith) i ∷ one_list tables others (omega (arith, each)) (λ v l. are (suc v) (omega (arith, l))) i)
