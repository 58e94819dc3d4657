-- The contents of a base, worked out view by view.
use Rattle.std.proofs.Common.{◌≡◌, ◌≢◌, ◌^◌, ◌↔◌, rules, ℕ, zero, suc, ◌+◌, ◌<◌, ◌≤◌, true, false, not, List, [], ◌∷◌, length, map, set, refl, sym, ap, subst, ◌∙◌, arith, ⊎_elim, inl, inr, ◌⊎◌, Option, Some, None, Ok, Err}
use Rattle.std.specs.Prelude.{is_some, Result, IfOk, OnOk}
use Rattle.std.specs.List.{All, AllZip, range_with_len}
use Rattle.std.proofs.lemmas.List.FromFn.{length-range_with_len, get_or-range_with_len}
use Rattle.std.proofs.lemmas.Bool.{cases_lt}
use Rattle.std.proofs.lemmas.List.{get_or-set_same, length-set}
use Rattle.wh_dag.specs.Shape.{children_of, has}
use Rattle.wh_dag.specs.Catalog.{CatalogOf, IsCatalog, DefinitionOf, definition_of, is_base, is_empty, width_of}
use Rattle.wh_row.specs.Bag.{Bag, HasWidth, empty, size}
use Rattle.wh_maint.specs.Answers.{IsEvaluateAnswer}
use Rattle.wh_maint.specs.Asked.{AreBags}
use Rattle.wh_maint.specs.Comp.{bag_at}
use Rattle.wh_maint.specs.Contents.{IsFromScratch, contents}
use Rattle.wh_maint.specs.Definition.{graph_of, view_of}
use Rattle.wh_maint.specs.Opening.{CanBeEvaluated, HasNoContents, HasRowsToMeet}
use Rattle.wh_maint.specs.Inner.Opening.{AreOpenedTo, IsAnswerOf, AreAnswersFrom, CanBeAsked, IsRun}
use Rattle.wh_maint.specs.Product.{combined}
use Rattle.wh_maint.specs.Size.{HaveTooMany}
use Rattle.wh_join.specs.CombinedRows.{product_of}
use Rattle.wh_maint.specs.Value.{HasValue, accumulators, view_value}
use Rattle.wh_maint.specs.View.{View, ViewGraph}
use Rattle.wh_maint.specs.declared.fault.MaintFault.{MaintFault}
use Rattle.wh_maint.specs.declared.fault.MaintFault.TheVariants.{Large, Memory, Range}
use Rattle.wh_maint.proofs.Differences.{same_tables}
use Rattle.wh_maint.proofs.TermSums.{err_same}
use Rattle.wh_maint.proofs.FromScratch.{catalogs_are_graphs, contents_are_values, past_end}
use Rattle.wh_maint.proofs.Widths.{columns_have_width, tables_have_width}

no_children : (us : List ℕ) → is_empty us ≡ true → us ≡ []
no_children [] e = refl
no_children (u ∷ us) e = cc

some_children : (us : List ℕ) → is_empty us ≡ false → ¬ (us ≡ [])
some_children [] e = λ f. cc
some_children (u ∷ us) e = λ f. cc

same_sizes : (us : List ℕ) (f g : ℕ → Bag) → ((u : ℕ) → has us u ≡ true → f u ≡ g u) → map (λ u. size (f u)) us ≡ map (λ u. size (g u)) us
unfolding has
same_sizes [] f g h = refl
same_sizes (u ∷ us) f g h = λ i. size (h u (here u us) i) ∷ same_sizes us f g (λ v t. h v (there u us v t)) i
  where
    here : (u : ℕ) (us : List ℕ) → has (u ∷ us) u ≡ true
    here u us = search rules

    there : (u : ℕ) (us : List ℕ) (v : ℕ) → has us v ≡ true → has (u ∷ us) v ≡ true
    there u us v t = grind (arith, t)

-- what a view is evaluated to over its children's tables it is over any that agree there
answer_same : (v : View) (us : List ℕ) (f g : ℕ → Bag) → ((u : ℕ) → has us u ≡ true → f u ≡ g u) → (n : ℕ) (r : Result Bag MaintFault)
    → IsEvaluateAnswer v us f n r → IsEvaluateAnswer v us g n r
answer_same v us f g same n r a = record {
  value = subst (λ (ts : List Bag). IfOk r (λ table. table ≡ view_value v ts)) (same_tables us f g same) a.value;
  large = subst (λ (ns : List ℕ). (r ≡ Err (Large n)) ↔ (2 ^ 56 < product_of ns)) (same_sizes us f g same) a.large;
  valued = subst (λ (ts : List Bag). OnOk r (HasValue v ts)) (same_tables us f g same) a.valued;
  range = subst (λ (ts : List Bag). r ≡ Err (Range n) → ¬ (HasValue v ts)) (same_tables us f g same) a.range;
  memory = λ e u t none. a.memory e u t (same u t ∙ none);
  err = a.err;
}

-- ---- tables with one in its place

stored_same : (tables : List Bag) (v : ℕ) (table : Bag) → v < length tables → bag_at (set tables v table) v ≡ table
stored_same tables v table l = get_or-set_same tables v table empty l

stored_other : (tables : List Bag) (v u : ℕ) (table : Bag) → u ≢ v → bag_at (set tables v table) u ≡ bag_at tables u
stored_other tables v u table n = search (rules, arith)

pub stored_bags : (c : CatalogOf) (tables : List Bag) (v : ℕ) (table : Bag) → AreBags c tables → v < length c.views.children → HasWidth table (width_of c v) → AreBags c (set tables v table)
stored_bags c tables v table b l wide = record {
  each = length-set tables v table ∙ b.each;
  widths = λ u k. ⊎_elim
      (λ same. subst (λ w. HasWidth (bag_at (set tables v table) w) (width_of c w)) (sym same) (subst (λ t. HasWidth t (width_of c v)) (sym (stored_same tables v table (omega (arith, b.each)))) wide))
      (λ other. subst (λ t. HasWidth t (width_of c u)) (sym (stored_other tables v u table other)) (b.widths u k))
      (same_or_not u v);
}
  where
    same_or_not : (a b : ℕ) → (a ≡ b) ⊎ (a ≢ b)
    same_or_not a b = ⊎_elim (λ less. inr (omega arith)) (λ more. ⊎_elim (λ further. inr (omega arith)) (λ back. inl (omega arith)) (cases_lt b a)) (cases_lt a b)

-- a view's value has the view's width
value_wide : (c : CatalogOf) → IsCatalog c → (v : ℕ) → v < length c.views.children → is_base c v ≡ false → (tables : List Bag)
    → HasWidth (view_value (view_of (definition_of c v)) tables) (width_of c v)
value_wide c is v l derived tables = go (definition_of c v) refl (is.derived v l ∙ ap not derived)
  where
    go : (o : Option DefinitionOf) → definition_of c v ≡ o → is_some o ≡ true → HasWidth (view_value (view_of o) tables) (width_of c v)
    go None e s = cc
    go (Some d) e s =
        subst (HasWidth (view_value (view_of (Some d)) tables)) (sym (is.defined_columns v d e))
        (tables_have_width d.output (accumulators (view_of (Some d)) tables) (λ j. columns_have_width d j (combined (view_of (Some d)).passes tables)))

-- and so has a table that is that value
pub table_wide : (c : CatalogOf) → IsCatalog c → (v : ℕ) → v < length c.views.children → is_base c v ≡ false → (tables : List Bag) (table : Bag)
    → table ≡ view_value (view_of (definition_of c v)) tables → HasWidth table (width_of c v)
table_wide c is v l derived tables table e = subst (λ t. HasWidth t (width_of c v)) (sym e) (value_wide c is v l derived tables)

-- ---- before the first view, and after the last

pub none_opened : (g : ViewGraph) (base : ℕ → Bag) → AreOpenedTo g base 0 base
none_opened g base = record { done = λ v k. absurd (omega arith); rest = λ v k. refl; valued = λ v k d. absurd (omega arith) }

pub all_opened : (c : CatalogOf) → IsCatalog c → (base tables : ℕ → Bag) → AreOpenedTo (graph_of c) base (length c.views.children) tables
    → (v : ℕ) → tables v ≡ contents (graph_of c) base v
unfolding children_of
all_opened c is base tables o v =
    ⊎_elim
    (λ l. o.done v l)
    (λ m. o.rest v m ∙ sym ((contents_are_values (graph_of c) base (catalogs_are_graphs c is)).bases v (none_past v m)))
    (cases_lt v (length c.views.children))
  where
    none_past : (v : ℕ) → length c.views.children ≤ v → children_of c.views.children v ≡ []
    none_past v m = past_end c.views.children v [] m

-- ---- answers ahead

-- so a view whose children are opened is evaluated to what it is over the contents
pub over_contents : (c : CatalogOf) (base tables : ℕ → Bag) (first : ℕ) → AreOpenedTo (graph_of c) base first tables → (view : ℕ)
    → ((u : ℕ) → has (children_of c.views.children view) u ≡ true → u < first) → (answer : Result Bag MaintFault)
    → IsAnswerOf c tables view answer → IsAnswerOf c (contents (graph_of c) base) view answer
over_contents c base tables first o view below answer a = λ d.
    answer_same (view_of (definition_of c view)) (children_of c.views.children view) tables (contents (graph_of c) base) (λ u t. o.done u (below u t)) view answer (a d)

-- and so are all views of a run
pub run_over : (c : CatalogOf) (base tables : ℕ → Bag) (first end : ℕ) → AreOpenedTo (graph_of c) base first tables → IsRun c first end
    → (n from : ℕ) → from + n ≤ end → (answers : List (Result Bag MaintFault)) → AllZip (IsAnswerOf c tables) (range_with_len from n) answers
    → AreAnswersFrom c (contents (graph_of c) base) from answers
run_over c base tables first end o run zero from l [] h = tt
run_over c base tables first end o run zero from l (answer ∷ answers) h = absurd h
run_over c base tables first end o run (suc n) from l [] h = absurd h
run_over c base tables first end o run (suc n) from l (answer ∷ answers) h =
    (over_contents c base tables first o from (λ u t. run.apart from u (omega arith) t) answer h.0, run_over c base tables first end o run n (from + 1) (omega arith) answers h.1)

-- each view of a run may be asked for
pub run_asked : (c : CatalogOf) (tables : List Bag) (first n : ℕ) → first + n ≤ length c.views.children → AreBags c tables
    → All (CanBeAsked c tables) (range_with_len first n)
run_asked c tables first n l are k d m =
    let in' : k < n = subst (λ z. k < z) (length-range_with_len first n) m in
    (subst (λ v. v < length c.views.children) (sym (get_or-range_with_len first n k d in')) (omega arith), are)

-- the first view alone is a run
pub one_run : (c : CatalogOf) → IsCatalog c → (first : ℕ) → first < length c.views.children → IsRun c first (first + 1)
one_run c is first l = record { few = omega arith; apart = λ view u k t. let low : u < view = is.shape.lower view u t in omega arith }

-- and one view more, whose children are below the first
pub more_run : (c : CatalogOf) (first end : ℕ) → IsRun c first end → end < length c.views.children
    → ((u : ℕ) → has (children_of c.views.children end) u ≡ true → u < first) → IsRun c first (end + 1)
more_run c first end run l below = record {
  few = omega arith;
  apart = λ view u k t. ⊎_elim
      (λ less. run.apart view u less t)
      (λ more. let here : view ≡ end = omega arith in below u (subst (λ w. has (children_of c.views.children w) u ≡ true) here t))
      (cases_lt view end);
}

-- all of no views, and of one more
pub none_below : (end u : ℕ) → has [] u ≡ true → u < end
unfolding has
none_below end u t = cc

pub more_below : (end view : ℕ) (rest : List ℕ) → view < end → ((u : ℕ) → has rest u ≡ true → u < end) → (u : ℕ) → has (view ∷ rest) u ≡ true → u < end
unfolding has
more_below end view rest l below u t = grind (arith, t, l, below u)

-- what an iterator that gave nothing has left
pub nothing_left : {A : Type 0} (xs : List A) → length xs ≡ 0 → xs ≡ []
nothing_left [] e = refl
nothing_left (x ∷ xs) e = absurd (let none : suc (length xs) ≡ 0 = e in omega arith)

-- ---- one view more

module _ (c : CatalogOf) (is : IsCatalog c) (base : ℕ → Bag) (tables : List Bag) (v : ℕ) (o : AreOpenedTo (graph_of c) base v (bag_at tables)) where
  abbrev pub kids : List ℕ
  kids = children_of c.views.children v

  abbrev pub opened : ℕ → Bag
  opened = contents (graph_of c) base

  whole : IsFromScratch (graph_of c) base
  whole = contents_are_values (graph_of c) base (catalogs_are_graphs c is)

  pub base_next : is_base c v ≡ true → AreOpenedTo (graph_of c) base (v + 1) (bag_at tables)
  base_next e = record {
    done = λ u k. ⊎_elim
        (λ less. o.done u less)
        (λ more. subst (λ w. bag_at tables w ≡ opened w) (omega arith) (o.rest v (omega arith) ∙ sym (whole.bases v (no_children kids e))))
        (cases_lt u v);
    rest = λ u k. o.rest u (omega arith);
    valued = λ u k d. ⊎_elim
        (λ less. o.valued u less d)
        (λ more. let here : v ≡ u = omega arith in absurd (subst (λ w. ¬ (children_of c.views.children w ≡ [])) (sym here) d (no_children kids e)))
        (cases_lt u v);
  }

  pub derived_next : v < length tables → is_base c v ≡ false → (table : Bag) → IsEvaluateAnswer (view_of (definition_of c v)) kids opened v (Ok table)
      → AreOpenedTo (graph_of c) base (v + 1) (bag_at (set tables v table))
  derived_next there d table a = record {
    done = λ u k. ⊎_elim
        (λ less. stored_other tables v u table (omega arith) ∙ o.done u less)
        (λ more. subst (λ w. bag_at (set tables v table) w ≡ opened w) (omega arith)
        (stored_same tables v table there ∙ a.value ∙ sym (whole.values v (some_children kids d))))
        (cases_lt u v);
    rest = λ u k. stored_other tables v u table (omega arith) ∙ o.rest u (omega arith);
    valued = λ u k du. ⊎_elim
        (λ less. o.valued u less du)
        (λ more. subst (CanBeEvaluated (graph_of c) opened) (omega arith) (record { few = λ many. let no = a.large.1 many in cc; valued = a.valued }))
        (cases_lt u v);
  }

  too_many : is_base c v ≡ false → HaveTooMany kids opened → HasNoContents (graph_of c) base (Large v)
  too_many d many = record { view = v; derived = some_children kids d; before = o.valued; why = (refl, many) }

  out_of_range : is_base c v ≡ false → ¬ (HaveTooMany kids opened) → ¬ (HasValue (view_of (definition_of c v)) (map opened kids))
      → HasNoContents (graph_of c) base (Range v)
  out_of_range d few none = record { view = v; derived = some_children kids d; before = o.valued; why = (refl, few, none) }

  pub refused_by : is_base c v ≡ false → (fault : MaintFault) → IsEvaluateAnswer (view_of (definition_of c v)) kids opened v (Err fault)
      → (fault ≡ Memory) ⊎ HasNoContents (graph_of c) base fault
  refused_by d fault a =
      ⊎_elim
      (λ m. inl m)
      (λ other. inr (⊎_elim
      (λ e. subst (HasNoContents (graph_of c) base) (sym e) (too_many d (a.large.0 (ap Err e))))
      (λ e. subst (HasNoContents (graph_of c) base) (sym e) (out_of_range d
      (λ many. absurd (let both : Large v ≡ Range v = sym (err_same _ _ (a.large.1 many)) ∙ e in cc))
      (a.range (ap Err e))))
      other))
      a.err

  pub rows_to_meet : is_base c v ≡ false → (fault : MaintFault) → IsEvaluateAnswer (view_of (definition_of c v)) kids opened v (Err fault)
      → fault ≡ Memory → HasRowsToMeet (graph_of c) base
  rows_to_meet d fault a e = record { view = v; derived = some_children kids d; before = o.valued; rows = a.memory (ap Err e) }
