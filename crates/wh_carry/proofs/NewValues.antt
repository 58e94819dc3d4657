-- A night whose expressions have values ends in contents, which have values.
use Rattle.std.proofs.Common.{◌≡◌, ℕ, zero, suc, ◌+◌, ◌^◌, ◌<◌, ◌≤◌, refl, sym, ap, subst, ◌∙◌, ℤ, pos, negsuc, ◌+ℤ◌, ◌*ℤ◌, true, false, cond, eqb, ◌&&◌, ◌||◌, List, [], ◌∷◌, map, length, take, ⊎_elim, arith}
use Rattle.std.specs.Prelude.{◌≤ℤ◌, FitsSigned, unsigned_abs}
use Rattle.std.specs.Int.{w64}
use Rattle.std.specs.List.{AllByRecursion}
use Rattle.std.proofs.lemmas.Bool.{cases_lt, eq-eqb, eqb-true}
use Rattle.std.proofs.lemmas.Int.{ints}
use Rattle.std.proofs.lemmas.Nat.{mul-le}
use Rattle.wh_dag.specs.Catalog.{CatalogOf, IsCatalog, definition_of, is_empty}
use Rattle.wh_dag.specs.Shape.{Distinct, has, children_of}
use Rattle.wh_strategy.specs.declared.expression.Expression.{Expression}
use Rattle.wh_strategy.specs.declared.expression.Expression.TheVariants.{Comp, Inst}
use Rattle.wh_strategy.specs.Expression.{At}
use Rattle.wh_strategy.specs.Rules.{IsCorrect}
use Rattle.wh_strategy.specs.Tests.{is_taken}
use Rattle.wh_row.specs.Row.{Row}
use Rattle.wh_row.specs.Weigh.{Counted, weigh}
use Rattle.wh_row.specs.Bag.{Bag, IsTable, count, empty, size, sum_of, written}
use Rattle.wh_row.proofs.BagLaws.{each_entry, weigh-sum_of}
use Rattle.wh_join.specs.CombinedRows.{size_in, product_of}
use Rattle.wh_maint.specs.Asked.{AreBags}
use Rattle.wh_maint.specs.Comp.{at_set, bag_at, changed_rows}
use Rattle.wh_maint.specs.Contents.{AreBaseTables, AreContents, AreContentsOf, AreValues, contents}
use Rattle.wh_maint.specs.Definition.{graph_of, view_of}
use Rattle.wh_maint.specs.Laws.{AreAmong, changed}
use Rattle.wh_maint.specs.Product.{combined}
use Rattle.wh_maint.specs.Size.{HaveTooMany, IsTooLarge, reach}
use Rattle.wh_maint.specs.Summary.{read_back, shown, summary}
use Rattle.wh_maint.specs.Value.{ChangeHasValue, HasValue, HaveValues, SumsFit, accumulators, view_value}
use Rattle.wh_maint.specs.View.{IsViewGraph, Joined, Summed, View, ViewGraph, column, value}
use Rattle.wh_maint.proofs.Differences.{nested, same_tables, sum-empty}
use Rattle.wh_maint.proofs.FromScratch.{catalogs_are_graphs, contents_are_values, has_contents, same_contents, values_are_tables}
use Rattle.wh_maint.proofs.MetRows.{new_rows_have_values, new_sums_fit, terms_give_values}
use Rattle.wh_maint.proofs.NoNegative.{AreTables, determined}
use Rattle.wh_maint.proofs.SizeBounds.{size-cons}
use Rattle.wh_maint.proofs.Summaries.{read_back-summary}
use Rattle.wh_maint.proofs.Telescope.{has_first, has_rest}
use Rattle.wh_carry.specs.Carry.{State, before, change_in, tables_after}
use Rattle.wh_carry.specs.Laws.{NewContentsHaveValues, NewRowsAreFew, PassedHaveValues, StrategiesEndInContents}
use Rattle.wh_carry.specs.Refused.{AreAllowedBelow, ArePassedBelow, ChangeHasNoValue, CompIsLarge, CompMeetsNoValue, HaveValuesBelow, RowIsLacking}
use Rattle.wh_carry.proofs.Agreeing.{count-empty, past}
use Rattle.wh_carry.proofs.Prefixes.{inst_after_comps, inst_is_first, place_within, source_after_comps, source_is_old, taken_is_new, taken_next, there}
use Rattle.wh_carry.proofs.FitNights.{changed_table}
use Rattle.wh_carry.proofs.Stands.{Stands, change_done, mixed, stands_at, strategies_end_in_views}

-- ---- the rows of two bags together are no more than the rows of both

sign : ℤ → ℤ
sign (pos zero) = pos 0
sign (pos (suc n)) = pos 1
sign (negsuc n) = negsuc 0

by_own_sign : (n : ℤ) → n *ℤ sign n ≡ pos (unsigned_abs n)
unfolding sign
by_own_sign (pos zero) = refl
by_own_sign (pos (suc n)) = omega (arith, ints)
by_own_sign (negsuc n) = omega (arith, ints)

by_any_sign : (n m : ℤ) → (n *ℤ sign m) ≤ℤ pos (unsigned_abs n)
unfolding sign
by_any_sign n (pos zero) = omega (arith, ints)
by_any_sign n (pos (suc m)) = omega (arith, ints)
by_any_sign n (negsuc m) = omega (arith, ints)

size_told : (h : Row → ℤ) (es : Counted) → AllByRecursion (λ (e : Row × ℤ). h e.0 ≡ sign e.1) es → weigh h es ≡ pos (size_in es)
size_told h [] a = refl
size_told h (e ∷ es) a =
    (λ i. (e.1 *ℤ a.0 i) +ℤ size_told h es a.1 i)
    ∙ ap (λ z. z +ℤ pos (size_in es)) (by_own_sign e.1)
    ∙ ap pos (sym (size-cons e es))

size_above : (m : Row → ℤ) (es : Counted) → weigh (λ r. sign (m r)) es ≤ℤ pos (size_in es)
size_above m [] = omega (arith, ints)
size_above m (e ∷ es) =
    let first = by_any_sign e.1 (m e.0) in
    let rest = size_above m es in
    subst (λ n. weigh (λ r. sign (m r)) (e ∷ es) ≤ℤ pos n) (sym (size-cons e es)) (omega (arith, ints, first, rest))

size_of_sum : (a b : Bag) → size (sum_of a b) ≤ size a + size b
size_of_sum a b =
    let h : Row → ℤ = λ r. sign (count (sum_of a b) r) in
    let told : weigh h (written (sum_of a b)) ≡ pos (size (sum_of a b)) = size_told h (written (sum_of a b)) (each_entry (λ r n. h r ≡ sign n) (sum_of a b) (λ q n. refl)) in
    let both = weigh-sum_of a b h in
    let left = size_above (count (sum_of a b)) (written a) in
    let right = size_above (count (sum_of a b)) (written b) in
    omega (arith, ints, told, both, left, right)

product_grows : (f g : ℕ → ℕ) (us : List ℕ) → ((u : ℕ) → has us u ≡ true → f u ≤ g u) → product_of (map f us) ≤ product_of (map g us)
product_grows f g [] h = omega arith
product_grows f g (u ∷ us) h =
    mul-le (f u) (product_of (map f us)) (g u) (product_of (map g us)) (h u (has_first u us)) (product_grows f g us (λ v t. h v (has_rest u us v t)))

-- ---- a view over its children's tables

same_numbers : (us : List ℕ) (f g : ℕ → ℕ) → ((u : ℕ) → has us u ≡ true → f u ≡ g u) → map f us ≡ map g us
same_numbers [] f g h = refl
same_numbers (u ∷ us) f g h = λ i. h u (has_first u us) i ∷ same_numbers us f g (λ v t. h v (has_rest u us v t)) i

same_few : (us : List ℕ) (f g : ℕ → Bag) → ((u : ℕ) → has us u ≡ true → f u ≡ g u) → ¬ (HaveTooMany us f) → ¬ (HaveTooMany us g)
same_few us f g h few = subst (λ ns. ¬ (2 ^ 56 < product_of ns)) (same_numbers us (λ u. size (f u)) (λ u. size (g u)) (λ u t. ap size (h u t))) few

same_rows : (view : View) (us : List ℕ) (f g : ℕ → Bag) → ((u : ℕ) → has us u ≡ true → f u ≡ g u) → HaveValues view (combined view.passes (map f us)) → HaveValues view (combined view.passes (map g us))
same_rows view us f g h r = subst (λ ts. HaveValues view (combined view.passes ts)) (same_tables us f g h) r

-- with the changes of a Comp's sources, the tables are the new ones
changed_at : (us ys : List ℕ) (tables change new : ℕ → Bag) → ((y : ℕ) → has ys y ≡ true → new y ≡ sum_of (tables y) (change y))
    → (u : ℕ) → has us u ≡ true → at_set ys (changed tables change) tables u ≡ at_set ys new tables u
changed_at us ys tables change new are u m = elim (has ys u) as (λ t. has ys u ≡ t → cond t (sum_of (tables u) (change u)) (tables u) ≡ cond t (new u) (tables u)) [ true ↦ λ t. sym (are u t) | false ↦ λ t. refl ] refl

-- a Comp that is not too large leads to few combined rows
few_after : (us ys : List ℕ) (tables change new : ℕ → Bag) → ((y : ℕ) → has ys y ≡ true → new y ≡ sum_of (tables y) (change y)) → ¬ (IsTooLarge us ys tables change) → ¬ (HaveTooMany us (at_set ys new tables))
few_after us ys tables change new are few =
    let later : ℕ → Bag = at_set ys (changed tables change) tables in
    let grows : (u : ℕ) → has us u ≡ true → size (later u) ≤ reach ys (λ w. size (tables w)) (λ w. size (change w)) u = λ u m.
    elim (has ys u) as (λ t. size (cond t (sum_of (tables u) (change u)) (tables u)) ≤ cond t (size (tables u) + size (change u)) (size (tables u))) [
      | true ↦ size_of_sum (tables u) (change u)
      | false ↦ omega arith
    ] in
    same_few us later (at_set ys new tables) (changed_at us ys tables change new are)
    (λ many. few (let grown = product_grows (λ u. size (later u)) (reach ys (λ w. size (tables w)) (λ w. size (change w))) us grows in omega (arith, many, grown)))

-- a Comp that adds rows with values leads to rows with values
rows_after : (view : View) (us ys : List ℕ) (tables change new : ℕ → Bag) → Distinct us → Distinct ys → AreAmong ys us → ((y : ℕ) → has ys y ≡ true → new y ≡ sum_of (tables y) (change y))
    → HaveValues view (changed_rows view.passes us ys tables change) → HaveValues view (combined view.passes (map tables us)) → HaveValues view (combined view.passes (map (at_set ys new tables) us))
rows_after view us ys tables change new apart own among are added r =
    same_rows view us (at_set ys (changed tables change) tables) (at_set ys new tables) (changed_at us ys tables change new are)
    (new_rows_have_values view us ys tables change apart own among r added)

-- ---- sums

same_sums : (k : ℕ) (a b : ℕ → Bag) → ((j : ℕ) → j < suc k → a j ≡ b j) → SumsFit (Summed k) a → SumsFit (Summed k) b
same_sums k a b same fit group above j l =
    subst (λ bag. FitsSigned w64 (count bag group)) (same (suc j) (omega arith)) (fit group (subst (λ bag. pos 1 ≤ℤ count bag group) (sym (same 0 (omega arith))) above) j l)

-- where a view's old sums fit and its change has a value, its new sums fit
sums_stay : (v : View) (us : List ℕ) (old new : ℕ → Bag) (p : ℕ → Bag) → AreTables us old → ((j : ℕ) → sum_of (accumulators v (map old us) j) (p j) ≡ accumulators v (map new us) j)
    → SumsFit v.kind (accumulators v (map old us)) → ChangeHasValue v.kind (view_value v (map old us)) p → SumsFit v.kind (accumulators v (map new us))
sums_stay v us old new p tables is =
    let a = accumulators v (map old us) in
    elim v.kind as (λ k. SumsFit k a → ChangeHasValue k (shown k a) p → SumsFit k (accumulators v (map new us))) [
      | Joined ↦ λ fit change. tt
      | Summed k ↦ λ fit change.
          let back : (j : ℕ) → j < suc k → read_back k (summary k a) j ≡ a j = read_back-summary k a (determined v us old tables) in
          same_sums k _ (accumulators v (map new us)) (λ j l. ap (λ b. sum_of b (p j)) (back j l) ∙ is j)
          (new_sums_fit k (summary k a) p (same_sums k a (read_back k (summary k a)) (λ j l. sym (back j l)) fit) change)
    ]

-- ---- along the list

pub not_base : (us : List ℕ) → ¬ (us ≡ []) → is_empty us ≡ false
not_base [] n = absurd (n refl)
not_base (u ∷ us) n = refl

pub within : (shape : List (List ℕ)) (v : ℕ) → ¬ (children_of shape v ≡ []) → v < length shape
unfolding children_of
within shape v some = ⊎_elim (λ l. l) (λ m. absurd (some (past shape v [] m))) (cases_lt v (length shape))

-- the children of a view: new those that its Comps before this place are from, the others old
abbrev mix : List Expression → (ℕ → Bag) → (ℕ → Bag) → ℕ → ℕ → ℕ → Bag
mix list old new v p = mixed (is_taken (take p list) v) new old

-- an expression that is passed has a value
pub passed_have_values : PassedHaveValues
passed_have_values catalog changes s (Comp v ys) h = (
  λ u m. h (ChangeHasNoValue u) m,
  terms_give_values (view_of (definition_of catalog v)) (children_of catalog.views.children v) ys s.tables (change_in (graph_of catalog) changes s) (h (CompMeetsNoValue v ys) (refl, refl)),
)
passed_have_values catalog changes s (Inst v) h = h (ChangeHasNoValue v) refl

module _ (catalog : CatalogOf) (list : List Expression) (old new changes : ℕ → Bag) (isg : IsViewGraph (graph_of catalog)) (ok : IsCorrect catalog.views.children list)
    (are_old : AreValues (graph_of catalog) old) (are_new : AreValues (graph_of catalog) new) (nonneg : (v : ℕ) → IsTable (old v))
    (bases : (b : ℕ) → children_of catalog.views.children b ≡ [] → sum_of (old b) (changes b) ≡ new b) where
  standing : (p : ℕ) → p ≤ length list → Stands catalog.views.children (graph_of catalog).views list old new p (before (graph_of catalog) changes list old p)
  standing p l = stands_at catalog.views.children (graph_of catalog).views list old new changes isg ok are_old are_new nonneg bases p l

  -- what a view's Comps keep over the tables of its children holds over the new ones
  module _ (v : ℕ) (P : (ℕ → Bag) → Type 0) (same : (f g : ℕ → Bag) → ((u : ℕ) → has (children_of catalog.views.children v) u ≡ true → f u ≡ g u) → P f → P g)
      (keeps : (p : ℕ) (ys : List ℕ) (new : ℕ → Bag) → At list p (Comp v ys)
      → ((y : ℕ) → has ys y ≡ true → new y ≡ sum_of ((before (graph_of catalog) changes list old p).tables y) (change_in (graph_of catalog) changes (before (graph_of catalog) changes list old p) y))
      → P (before (graph_of catalog) changes list old p).tables → P (at_set ys new (before (graph_of catalog) changes list old p).tables)) where
    at_own_comp : (p : ℕ) (ys : List ℕ) → p ≤ length list → At list p (Comp v ys) → P (mix list old new v p) → P (mix list old new v (suc p))
    at_own_comp p ys l at r =
        let shape : List (List ℕ) = catalog.views.children in
        let us : List ℕ = children_of shape v in
        let s : State = before (graph_of catalog) changes list old p in
        let st = standing p l in
        let change : ℕ → Bag = change_in (graph_of catalog) changes s in
        let here : (u : ℕ) → has us u ≡ true → s.tables u ≡ mix list old new v p u = λ u m. st.tables u ∙ (λ i. cond (sym (taken_is_new shape list ok p v ys at u m) i) (new u) (old u)) in
        let are_changed : (y : ℕ) → has ys y ≡ true → new y ≡ sum_of (s.tables y) (change y) = λ y m.
        sym (change_done shape (graph_of catalog).views list old new changes isg ok are_old are_new nonneg bases p s st y (source_is_old shape list ok p v ys at y m) (source_after_comps shape list ok p v ys at y m)) in
        same (at_set ys new s.tables) (mix list old new v (suc p))
        (λ u m.
        ap (cond (has ys u) (new u)) (here u m)
        ∙ nested (has ys u) (is_taken (take p list) v u) (new u) (old u)
        ∙ (λ i. cond (sym (taken_next list p (Comp v ys) v u at ∙ (λ j. (eq-eqb v v refl j && has ys u) || is_taken (take p list) v u)) i) (new u) (old u)))
        (keeps p ys new at are_changed (same (mix list old new v p) s.tables (λ u m. sym (here u m)) r))

    at_other_comp : (p w : ℕ) (ys : List ℕ) → At list p (Comp w ys) → eqb w v ≡ false → P (mix list old new v p) → P (mix list old new v (suc p))
    at_other_comp p w ys at other r =
        same (mix list old new v p) (mix list old new v (suc p))
        (λ u m i. cond (sym (taken_next list p (Comp w ys) v u at ∙ (λ j. (other j && has ys u) || is_taken (take p list) v u)) i) (new u) (old u)) r

    next : (p : ℕ) (e : Expression) → p ≤ length list → At list p e → P (mix list old new v p) → P (mix list old new v (suc p))
    next p (Comp w ys) l at r =
        elim (eqb w v) as (λ t. eqb w v ≡ t → P (mix list old new v (suc p))) [
          | true ↦ λ t. at_own_comp p ys l (subst (λ x. At list p (Comp x ys)) (eqb-true w v t) at) r
          | false ↦ λ t. at_other_comp p w ys at t r
        ] refl
    next p (Inst w) l at r =
        same (mix list old new v p) (mix list old new v (suc p))
        (λ u m i. cond (sym (taken_next list p (Inst w) v u at) i) (new u) (old u)) r

    kept_at : P old → (p : ℕ) → p ≤ length list → P (mix list old new v p)
    kept_at r zero l = r
    kept_at r (suc p) l =
        let e = there list p (omega arith) in
        next p e.0 (omega arith) e.1 (kept_at r p (omega arith))

    -- at its Inst all its Comps are done
    kept_new : ¬ (children_of catalog.views.children v ≡ []) → P old → P new
    kept_new some r =
        let shape : List (List ℕ) = catalog.views.children in
        let inst = ok.an_inst v (within shape v some) in
        let p : ℕ = inst.0 in
        let below : p < length list = place_within list p (Inst v) inst.1 in
        let all = inst_after_comps shape list ok p v inst.1 in
        same (mix list old new v p) new (λ u m i. cond (all u m i) (new u) (old u)) (kept_at r p (omega (arith, below)))

  -- where each expression has a value, a view has one over the new tables of its children
  new_value : HaveValuesBelow catalog list old changes (length list) → (v : ℕ) → ¬ (children_of catalog.views.children v ≡ [])
      → HasValue ((graph_of catalog).views v) (map old (children_of catalog.views.children v)) → HasValue ((graph_of catalog).views v) (map new (children_of catalog.views.children v))
  new_value valued v some old_value =
      let shape : List (List ℕ) = catalog.views.children in
      let us : List ℕ = children_of shape v in
      let view : View = (graph_of catalog).views v in
      let inst = ok.an_inst v (within shape v some) in
      let p : ℕ = inst.0 in
      let at : At list p (Inst v) = inst.1 in
      let below : p < length list = place_within list p (Inst v) at in
      let s : State = before (graph_of catalog) changes list old p in
      let st = standing p (omega (arith, below)) in
      let all = inst_after_comps shape list ok p v at in
      let whole : (u : ℕ) → has us u ≡ true → mix list old new v p u ≡ new u = λ u m i. cond (all u m i) (new u) (old u) in
      let table : s.tables v ≡ view_value view (map old us) = st.tables v ∙ (λ i. cond (inst_is_first shape list ok p v at i) (new v) (old v)) ∙ are_old v some in
      record {
        rows = kept_new v (λ tables. HaveValues view (combined view.passes (map tables us))) (same_rows view us)
            (λ p ys after at are r.
            let may = ok.allowed p v ys at in
            let here : State = before (graph_of catalog) changes list old p in
            rows_after view us ys here.tables (change_in (graph_of catalog) changes here) after (isg.distinct v) may.2 may.3 are (valued p (Comp v ys) (place_within list p (Comp v ys) at) at).1 r)
            some old_value.rows;
        sums = sums_stay view us old new (s.pending v) (λ u m. nonneg u)
            (λ j. st.pending v some j ∙ ap (value (column view j)) (same_tables us (mix list old new v p) new whole))
            old_value.sums
            (subst (λ t. ChangeHasValue view.kind t (s.pending v)) table (valued p (Inst v) below at (not_base us some)));
      }

  -- where each expression is passed, the new combined rows are few
  new_few : ArePassedBelow catalog list old changes (length list) → (v : ℕ) → ¬ (children_of catalog.views.children v ≡ []) → ¬ (HaveTooMany (children_of catalog.views.children v) old)
      → ¬ (HaveTooMany (children_of catalog.views.children v) new)
  new_few passed v some few =
      let us : List ℕ = children_of catalog.views.children v in
      kept_new v (λ tables. ¬ (HaveTooMany us tables)) (same_few us)
      (λ p ys after at are r.
      let here : State = before (graph_of catalog) changes list old p in
      few_after us ys here.tables (change_in (graph_of catalog) changes here) after are (passed p (Comp v ys) (place_within list p (Comp v ys) at) at (CompIsLarge v ys) (refl, refl)))
      some few

pub new_contents_have_values : NewContentsHaveValues
new_contents_have_values = λ catalog list tables changes is ok are valued v some.
    let g : ViewGraph = graph_of catalog in
    let isg : IsViewGraph g = catalogs_are_graphs catalog is in
    let new : ℕ → Bag = contents g (changed tables changes) in
    let whole = contents_are_values g (changed tables changes) isg in
    new_value catalog list tables new changes isg ok are.values whole.values (values_are_tables g tables isg are.counts are.values) (λ b e. sym (whole.bases b e)) valued v some (are.defined v some)

pub new_rows_are_few : NewRowsAreFew
new_rows_are_few = λ catalog list tables changes is ok base_tables are_old few passed v some.
    let g : ViewGraph = graph_of catalog in
    let isg : IsViewGraph g = catalogs_are_graphs catalog is in
    let new : ℕ → Bag = contents g (changed tables changes) in
    let whole = contents_are_values g (changed tables changes) isg in
    new_few catalog list tables new changes isg ok are_old whole.values (values_are_tables g tables isg base_tables are_old) (λ b e. sym (whole.bases b e)) passed v some (few v some)

pub strategies_end_in_contents : StrategiesEndInContents
strategies_end_in_contents = λ catalog list tables changes is ok are counts valued.
    let isg : IsViewGraph (graph_of catalog) = catalogs_are_graphs catalog is in (
      has_contents (graph_of catalog) (changed tables changes) isg counts (new_contents_have_values catalog list tables changes is ok are valued),
      strategies_end_in_views catalog list tables changes is ok are.counts are.values,
    )

-- ---- over lists

none_past : (catalog : CatalogOf) (bags : List Bag) → length bags ≡ length catalog.views.children → (v : ℕ) → length catalog.views.children ≤ v → bag_at bags v ≡ empty
none_past catalog bags each v l = past bags v empty (omega (arith, each, l))

no_children : (catalog : CatalogOf) (v : ℕ) → length catalog.views.children ≤ v → children_of catalog.views.children v ≡ []
unfolding children_of
no_children catalog v l = past catalog.views.children v [] l

is_base_of : (us : List ℕ) → us ≡ [] → is_empty us ≡ true
is_base_of [] e = refl
is_base_of (u ∷ us) e = cc

-- the changed base has tables where no base change is refused
pub changed_base : (catalog : CatalogOf) (tables changes : List Bag) → AreBags catalog tables → AreBags catalog changes → AreAllowedBelow catalog (bag_at tables) (bag_at changes) (length catalog.views.children)
    → AreBaseTables (graph_of catalog) (changed (bag_at tables) (bag_at changes))
changed_base catalog tables changes are given allowed b e = ⊎_elim
    (λ l. changed_table (bag_at tables b) (bag_at changes b) (allowed (RowIsLacking b) (l, is_base_of (children_of catalog.views.children b) e)))
    (λ l. subst IsTable (sym ((λ i. sum_of (none_past catalog tables are.each b l i) (none_past catalog changes given.each b l i)) ∙ sum-empty empty)) (λ row. subst (λ n. pos 0 ≤ℤ n) (sym (count-empty row)) (omega (arith, ints))))
    (cases_lt b (length catalog.views.children))

-- so a night whose base changes are allowed and whose expressions are passed ends in the contents of the changed base
pub ends_in_contents : (catalog : CatalogOf) (list : List Expression) (tables changes after : List Bag) → IsCatalog catalog → IsCorrect catalog.views.children list
    → AreBags catalog tables → AreBags catalog changes → AreBags catalog after → AreAllowedBelow catalog (bag_at tables) (bag_at changes) (length catalog.views.children)
    → ArePassedBelow catalog list (bag_at tables) (bag_at changes) (length list)
    → ((v : ℕ) → v < length catalog.views.children → bag_at after v ≡ tables_after (graph_of catalog) (bag_at changes) list (bag_at tables) v)
    → AreContents (graph_of catalog) (bag_at tables) → AreContentsOf (graph_of catalog) (changed (bag_at tables) (bag_at changes)) (bag_at after)
ends_in_contents catalog list tables changes after is ok are given have allowed passed carried contents_before =
    let g : ViewGraph = graph_of catalog in
    let base : ℕ → Bag = changed (bag_at tables) (bag_at changes) in
    let isg : IsViewGraph g = catalogs_are_graphs catalog is in
    let end = strategies_end_in_contents catalog list (bag_at tables) (bag_at changes) is ok contents_before (changed_base catalog tables changes are given allowed)
    (λ p e l at. passed_have_values catalog (bag_at changes) (before g (bag_at changes) list (bag_at tables) p) e (passed p e l at)) in
    same_contents g base (contents g base) (bag_at after)
    (λ v. ⊎_elim
    (λ l. carried v l ∙ end.1 v l)
    (λ l.
    none_past catalog after have.each v l
    ∙ sym ((contents_are_values g base isg).bases v (no_children catalog v l)
    ∙ (λ i. sum_of (none_past catalog tables are.each v l i) (none_past catalog changes given.each v l i)) ∙ sum-empty empty))
    (cases_lt v (length catalog.views.children)))
    end.0
