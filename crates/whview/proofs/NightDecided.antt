-- What is decided of a night, from what its parts answer.
use Rattle.std.proofs.Common.{◌≡◌, ◌≢◌, ℕ, ◌<◌, ◌∷◌, true, List, [], length, refl, sym, ap, subst, ◌∙◌, arith, ⊎_elim, ◌⊎◌}
use Rattle.std.specs.Prelude.{replicate}
use Rattle.std.proofs.lemmas.Bool.{cases_lt}
use Rattle.wh_dag.specs.Catalog.{CatalogOf, IsCatalog, is_empty}
use Rattle.wh_dag.specs.Shape.{Views, children_of}
use Rattle.wh_row.specs.Bag.{Bag, IsTable, sum_of, empty}
use Rattle.wh_text_catalogue.specs.ReadCatalog.{catalog_of}
use Rattle.wh_load.specs.ReadingNight.{Night, Opening, catalog_in}
use Rattle.wh_maint.specs.Comp.{bag_at}
use Rattle.wh_maint.specs.Contents.{AreBaseTables, AreContents, AreContentsOf, IsFromScratch, contents}
use Rattle.wh_maint.specs.Definition.{graph_of}
use Rattle.wh_maint.specs.Laws.{changed}
use Rattle.wh_maint.specs.Opening.{CanBeEvaluated, HasNoContents, HaveContentsBelow}
use Rattle.wh_maint.specs.View.{IsViewGraph, ViewGraph}
use Rattle.wh_maint.specs.declared.fault.MaintFault.{MaintFault}
use Rattle.wh_maint.specs.declared.fault.MaintFault.TheVariants.{Memory}
use Rattle.wh_maint.proofs.FromScratch.{catalogs_are_graphs, contents_are_unique, contents_are_values}
use Rattle.wh_maint.proofs.Differences.{same_tables}
use Rattle.wh_maint.specs.Value.{view_value}
use Rattle.wh_carry.specs.Carry.{before, tables_after}
use Rattle.wh_carry.specs.Refused.{AreAllowedBelow, ArePassedBelow}
use Rattle.wh_carry.specs.Steps.{AreSteps}
use Rattle.wh_carry.specs.declared.report.CarryFault.{CarryFault}
use Rattle.wh_carry.specs.Fit.{AreFitFor}
use Rattle.wh_carry.proofs.Agreeing.{past}
use Rattle.wh_carry.proofs.FitNights.{contents_are_fit_for_nights}
use Rattle.wh_carry.proofs.NewValues.{new_contents_have_values, new_rows_are_few, passed_have_values, within}
use Rattle.wh_carry.specs.Laws.{AreFew}
use Rattle.wh_strategy.specs.Rules.{IsCorrect}
use Rattle.wh_strategy.specs.declared.expression.Expression.{Expression}
use Rattle.whview.specs.Inner.FitNight.{AreReadTables}
use Rattle.wh_night.specs.Refusals.{IsRefusedSo, left_of}
use Rattle.wh_carry.specs.Night.{night_over}
use Rattle.wh_night.specs.Serving.{rows_of}
use Rattle.whview.specs.NightOutput.{AreOpened, IsDecided, IsRefusedFrom, IsShownAs, IsShownFrom, night_from}
use Rattle.whview.specs.declared.night.Outcome.TheVariants.{NoContents}
use Rattle.whview.specs.declared.night.shown.Shown.{Shown}
use Rattle.whview.specs.declared.night_options.Printed.{Printed}
use Rattle.whview.proofs.AnyKeys.{refused_any}
use Rattle.whview.proofs.ReadRows.{none_negative}

pub decided_no_contents : (N : Night) (printed : Printed) (readers : ℕ) (cat : CatalogOf) → cat ≡ catalog_in N → (fault : MaintFault) → IsCorrect N.shape.children N.given.list
    → (fault ≡ Memory) ⊎ HasNoContents (graph_of cat) (bag_at N.opening.tables) fault → fault ≢ Memory → IsDecided N printed readers (NoContents fault)
decided_no_contents N printed readers cat e fault ok why not =
    (ok, ⊎_elim (λ m. absurd (not m)) (λ h. subst (λ k. HasNoContents (graph_of k) (bag_at N.opening.tables) fault) e h) why)

-- ---- the contents of the base that was read

is_base_of : (us : List ℕ) → us ≡ [] → is_empty us ≡ true
is_base_of [] e = refl
is_base_of (u ∷ us) e = cc

base_tables : (cat : CatalogOf) → IsCatalog cat → (tables : List Bag) → AreReadTables cat tables → AreBaseTables (graph_of cat) (bag_at tables)
base_tables cat is tables are b e =
    ⊎_elim
    (λ l. are.bases b l (is_base_of (children_of cat.views.children b) e))
    (λ m. subst IsTable (sym (past tables b empty (let n = are.bags.each in omega arith))) none_negative)
    (cases_lt b (length cat.views.children))

pub opened_fit : (cat : CatalogOf) → IsCatalog cat → (base old : List Bag) → AreReadTables cat base → ((v : ℕ) → bag_at old v ≡ contents (graph_of cat) (bag_at base) v)
    → (list : List Expression) → IsCorrect cat.views.children list → (changes : ℕ → Bag) → AreFitFor cat changes list (bag_at old)
opened_fit cat is base old are opened list ok changes =
    let g = graph_of cat in
    let whole : IsFromScratch g (bag_at base) = contents_are_values g (bag_at base) (catalogs_are_graphs cat is) in
    let counts : AreBaseTables g (contents g (bag_at base)) = λ b e. subst IsTable (sym (whole.bases b e)) (base_tables cat is base are b e) in
    subst (AreFitFor cat changes list) (λ i v. sym (opened v) i) (contents_are_fit_for_nights cat list (contents g (bag_at base)) changes is ok counts whole.values)

module _ (cat : CatalogOf) (is : IsCatalog cat) (base old : List Bag) (opened : (v : ℕ) → bag_at old v ≡ contents (graph_of cat) (bag_at base) v) where
  abbrev pub g : ViewGraph
  g = graph_of cat

  isg : IsViewGraph g
  isg = catalogs_are_graphs cat is

  whole : IsFromScratch g (bag_at base)
  whole = contents_are_values g (bag_at base) isg

  -- each derived view can be evaluated over them
  evaluated : HaveContentsBelow g (bag_at base) (length cat.views.children) → (v : ℕ) → ¬ (children_of cat.views.children v ≡ []) → CanBeEvaluated g (bag_at old) v
  evaluated valued v some =
      let as_old : contents g (bag_at base) ≡ bag_at old = λ i u. sym (opened u) i in
      subst (λ ts. CanBeEvaluated g ts v) as_old (valued v (within cat.views.children v some) some)

  -- these are the contents of their own base tables
  pub are_contents : AreReadTables cat base → HaveContentsBelow g (bag_at base) (length cat.views.children) → AreContents g (bag_at old)
  are_contents read valued = record {
    counts = λ b e. subst IsTable (sym (opened b ∙ whole.bases b e)) (base_tables cat is base read b e);
    bases = λ b e. refl;
    values = λ v some. opened v ∙ whole.values v some ∙ ap (view_value (g.views v)) (same_tables (g.children v) (contents g (bag_at base)) (bag_at old) (λ u t. sym (opened u)));
    defined = λ v some. (let has = evaluated valued v some in has.valued);
  }

  -- contents of their changed base are those of the base that was read, with its changes
  of_read_base : (ch : ℕ → Bag) (tables : ℕ → Bag) → AreContentsOf g (changed (bag_at old) ch) tables → AreContentsOf g (changed (bag_at base) ch) tables
  of_read_base ch tables are =
      let same = λ (b : ℕ) (e : g.children b ≡ []). ap (λ t. sum_of t (ch b)) (opened b ∙ whole.bases b e) in
      record {
        counts = λ b e. subst IsTable (same b e) (are.counts b e);
        bases = λ b e. are.bases b e ∙ same b e;
        values = are.values;
        defined = are.defined;
      }

  same_changed : (ch : ℕ → Bag) (v : ℕ) → contents g (changed (bag_at old) ch) v ≡ contents g (changed (bag_at base) ch) v
  same_changed ch v =
      let later : IsFromScratch g (changed (bag_at old) ch) = contents_are_values g (changed (bag_at old) ch) isg in
      contents_are_unique g (changed (bag_at base) ch) (contents g (changed (bag_at old) ch)) isg
      (λ b e. later.bases b e ∙ ap (λ t. sum_of t (ch b)) (opened b ∙ whole.bases b e)) later.values v

  -- as the old contents have values of few combined rows, and each expression is passed, so have the new ones
  new_valued : (list : List Expression) (ch : ℕ → Bag) → IsCorrect cat.views.children list → AreReadTables cat base
      → HaveContentsBelow g (bag_at base) (length cat.views.children) → ArePassedBelow cat list (bag_at old) ch (length list)
      → HaveContentsBelow g (changed (bag_at base) ch) (length cat.views.children)
  new_valued list ch ok read valued passed =
      let as_new : contents g (changed (bag_at old) ch) ≡ contents g (changed (bag_at base) ch) = λ i u. same_changed ch u i in
      let are : AreContents g (bag_at old) = are_contents read valued in
      let few : AreFew g (bag_at old) = λ v some. (let has = evaluated valued v some in has.few) in
      let have = new_contents_have_values cat list (bag_at old) ch is ok are (λ p e l at. passed_have_values cat ch (before g ch list (bag_at old) p) e (passed p e l at)) in
      let stay = new_rows_are_few cat list (bag_at old) ch is ok are.counts are.values few passed in
      λ v l some. subst (λ ts. CanBeEvaluated g ts v) as_new (record { few = stay v some; valued = have v some })

-- what the parts of a night answer, over a catalogue, tables, changes and a list
pub record CarryFacts (N : Night) (old new : List Bag) (steps : List (Expression × ℕ)) (cat : CatalogOf) (ts ch : List Bag) (list : List Expression) : Type 0 where
  pub is : IsCatalog cat
  pub correct : IsCorrect N.shape.children N.given.list
  pub read : AreReadTables cat N.opening.tables
  pub length_old : length old ≡ length cat.views.children
  pub opened : (v : ℕ) → bag_at old v ≡ contents (graph_of cat) (bag_at N.opening.tables) v
  pub valued : HaveContentsBelow (graph_of cat) (bag_at N.opening.tables) (length cat.views.children)
  pub allowed : AreAllowedBelow cat (bag_at ts) (bag_at ch) (length cat.views.children)
  pub passed : ArePassedBelow cat list (bag_at ts) (bag_at ch) (length list)
  pub carried : (v : ℕ) → v < length cat.views.children → bag_at new v ≡ tables_after (graph_of cat) (bag_at ch) list (bag_at ts) v
  pub contents_after : AreContents (graph_of cat) (bag_at ts) → AreContentsOf (graph_of cat) (changed (bag_at ts) (bag_at ch)) (bag_at new)
  pub reported : AreSteps cat.views.children list (bag_at ts) (tables_after (graph_of cat) (bag_at ch) list (bag_at ts)) steps

shown_from : (N : Night) (printed : Printed) (readers : ℕ) (old new : List Bag) (shown : Shown) (steps : List (Expression × ℕ)) (rows : List ℕ)
    → CarryFacts N old new steps (catalog_in N) old N.given.changes N.given.list → IsShownAs printed N.opening.views (bag_at old) (bag_at new) shown
    → rows ≡ replicate readers (rows_of old) → IsShownFrom N printed readers N.opening.views N.opening.texts new shown steps rows
shown_from N printed readers old new shown steps rows f is_shown given = record {
  views_read = refl;
  texts_read = refl;
  old = old;
  carried = record {
    opened = record { each = f.length_old; opened = λ v l. f.opened v; valued = f.valued };
    allowed = f.allowed;
    passed = f.passed;
    carried = f.carried;
    contents = of_read_base (catalog_in N) f.is N.opening.tables old f.opened (bag_at N.given.changes) (bag_at new)
        (f.contents_after (are_contents (catalog_in N) f.is N.opening.tables old f.opened f.read f.valued));
    valued = new_valued (catalog_in N) f.is N.opening.tables old f.opened N.given.list (bag_at N.given.changes) f.correct f.read f.valued f.passed;
    reported = f.reported;
  };
  printed_as = is_shown;
  given = given;
}

pub shown_carried : (N : Night) (printed : Printed) (readers : ℕ) (old new : List Bag) (shown : Shown) (steps : List (Expression × ℕ)) (rows : List ℕ) (cat : CatalogOf) (ch : List Bag) (list : List Expression)
    → cat ≡ catalog_in N → ch ≡ N.given.changes → list ≡ N.given.list
    → CarryFacts N old new steps cat old ch list → IsShownAs printed N.opening.views (bag_at old) (bag_at new) shown
    → rows ≡ replicate readers (rows_of old) → IsShownFrom N printed readers N.opening.views N.opening.texts new shown steps rows
shown_carried N printed readers old new shown steps rows cat ch list e same_changes same_list f is_shown given =
    shown_from N printed readers old new shown steps rows
    (subst (λ k. CarryFacts N old new steps k old N.given.changes N.given.list) e
    (subst (λ xs. CarryFacts N old new steps cat old xs N.given.list) same_changes
    (subst (λ xs. CarryFacts N old new steps cat old ch xs) same_list f)))
    is_shown given

-- these lists are the contents of the base that was read, over this catalogue
pub record AreOpenedBy (opening : Opening) (old : List Bag) (cat : CatalogOf) : Type 0 where
  pub each : length old ≡ length cat.views.children
  pub opened : (v : ℕ) → bag_at old v ≡ contents (graph_of cat) (bag_at opening.tables) v
  pub valued : HaveContentsBelow (graph_of cat) (bag_at opening.tables) (length cat.views.children)

pub opened_by : (shape : Views) (opening : Opening) (old : List Bag) → AreOpenedBy opening old (catalog_of shape opening.views) → AreOpened shape opening old
opened_by shape opening old o = record { each = o.each; opened = λ v l. o.opened v; valued = o.valued }

pub refused_from : (N : Night) (old : List Bag) (fault : CarryFault) (cat : CatalogOf) (ch : List Bag) (list : List Expression) (keys : ℕ)
    → cat ≡ catalog_in N → ch ≡ N.given.changes → list ≡ N.given.list
    → length old ≡ length cat.views.children → ((v : ℕ) → bag_at old v ≡ contents (graph_of cat) (bag_at N.opening.tables) v)
    → HaveContentsBelow (graph_of cat) (bag_at N.opening.tables) (length cat.views.children)
    → IsRefusedSo (night_over cat list old ch keys) (left_of fault.started) fault.fault → fault.fault ≢ Memory → IsRefusedFrom N fault
refused_from N old fault cat ch list keys e same_changes same_list each opened valued why not = record {
  old = old;
  opened = opened_by N.shape N.opening old (subst (AreOpenedBy N.opening old) e (record { each = each; opened = opened; valued = valued }));
  told = not;
  why = λ other. refused_any (night_from N old keys) other (left_of fault.started) fault.fault
      (subst (λ k. IsRefusedSo (night_over k N.given.list old N.given.changes keys) (left_of fault.started) fault.fault) e
      (subst (λ xs. IsRefusedSo (night_over cat N.given.list old xs keys) (left_of fault.started) fault.fault) same_changes
      (subst (λ xs. IsRefusedSo (night_over cat xs old ch keys) (left_of fault.started) fault.fault) same_list why)));
}
