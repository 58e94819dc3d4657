-- A night, expression by expression, from its first parts to its end.
use Rattle.std.proofs.Common.{◌≡◌, ℕ, zero, suc, ◌+◌, ◌^◌, ◌<◌, ◌≤◌, refl, sym, ap, subst, ◌∙◌, pos, Bool, true, false, cond, List, [], ◌∷◌, ◌++◌, map, length, take, get_or, Some, ◌⊎◌, ⊎_elim, arith}
use Rattle.std.specs.Prelude.{slice_get, ◌≤ℤ◌}
use Rattle.std.specs.List.{range_with_len}
use Rattle.std.proofs.lemmas.Int.{ints}
use Rattle.std.proofs.lemmas.Option.{same_Some}
use Rattle.std.proofs.lemmas.Bool.{cases_lt, false≢true}
use Rattle.wh_dag.specs.Shape.{has, children_of}
use Rattle.wh_dag.specs.Catalog.{CatalogOf, IsCatalog, is_base, is_empty, width_of}
use Rattle.wh_strategy.specs.declared.expression.Expression.{Expression}
use Rattle.wh_strategy.specs.declared.expression.Expression.TheVariants.{Comp, Inst}
use Rattle.wh_strategy.specs.Expression.{At}
use Rattle.wh_strategy.specs.Rules.{IsCorrect}
use Rattle.wh_row.specs.Bag.{Bag, HasWidth, IsTable, empty, size}
use Rattle.wh_maint.specs.declared.fault.MaintFault.{MaintFault}
use Rattle.wh_maint.specs.declared.fault.MaintFault.TheVariants.{Memory}
use Rattle.wh_maint.specs.View.{sums_of}
use Rattle.wh_maint.specs.Definition.{graph_of}
use Rattle.wh_maint.specs.Comp.{PendingOf, bag_at}
use Rattle.wh_maint.specs.Size.{operand_rows_of}
use Rattle.wh_maint.specs.Width.{key_width}
use Rattle.wh_maint.specs.Fit.{IsFitTable}
use Rattle.wh_maint.specs.Finishing.{kind_in, IsPendingFor}
use Rattle.wh_maint.specs.Contents.{AreBaseTables}
use Rattle.wh_maint.specs.Asked.{AreBags}
use Rattle.wh_maint.proofs.Telescope.{has_first}
use Rattle.wh_maint.proofs.FromScratch.{catalogs_are_graphs}
use Rattle.wh_carry.specs.Kept.{KeptLists}
use Rattle.wh_carry.specs.Carry.{at_first, change_in, carried, before, tables_after}
use Rattle.wh_carry.specs.Carry as definition
use Rattle.wh_carry.specs.Fit.{AreFitTables}
use Rattle.wh_carry.specs.Kept.{Kept, kept, pending_at, is_known, HaveParts, IsFirst, finished, IsExpressionOf}
use Rattle.wh_carry.specs.Inner.Kept.{AreFirstParts, stepped, rows_in}
use Rattle.wh_carry.specs.Refused.{IsPassed, ArePassedBelow, IsListFault}
use Rattle.wh_carry.specs.Inner.Refused.{IsPassedIn, IsStepFaultIn}
use Rattle.wh_carry.specs.Steps.{rows_at, AreSteps}
use Rattle.wh_carry.specs.Inner.Steps.{AreFirstSteps}
use Rattle.wh_carry.proofs.Prefixes.{take_whole, place_within}
use Rattle.wh_carry.proofs.StepRows.{comp_reads, inst_writes}
use Rattle.wh_carry.proofs.Agreeing.{after_comp, after_inst, comp_done, inst_done, same_rows, length_range, past, count-empty, none_at}
use Rattle.wh_carry.specs.Inner.Agreeing.{Agrees, AreTold}
use Rattle.wh_carry.proofs.Refusals.{passed_here, comp_refused, inst_refused}

-- ---- lists that grow

pub get_last : {A : Type 0} (xs : List A) (x d : A) (n : ℕ) → length xs ≡ n → get_or (xs ++ x ∷ []) n d ≡ x
get_last [] x d n e = ap (λ m. get_or (x ∷ []) m d) (sym e)
get_last (y ∷ xs) x d n e = ap (λ m. get_or (y ∷ (xs ++ x ∷ [])) m d) (sym e) ∙ get_last xs x d (length xs) refl

pub get_front : {A : Type 0} (xs ys : List A) (d : A) (n : ℕ) → n < length xs → get_or (xs ++ ys) n d ≡ get_or xs n d
get_front [] ys d n l = absurd (omega arith)
get_front (x ∷ xs) ys d zero l = refl
get_front (x ∷ xs) ys d (suc n) l = get_front xs ys d n (omega arith)

last_item : {A : Type 0} (xs : List A) (x : A) (n : ℕ) → length xs ≡ n → slice_get (xs ++ x ∷ []) n ≡ Some x
last_item [] x n e = ap (slice_get (x ∷ [])) (sym e)
last_item (y ∷ xs) x n e = ap (slice_get (y ∷ (xs ++ x ∷ []))) (sym e) ∙ last_item xs x (length xs) refl

front_item : {A : Type 0} (xs ys : List A) (n : ℕ) → n < length xs → slice_get (xs ++ ys) n ≡ slice_get xs n
front_item [] ys n l = absurd (omega arith)
front_item (x ∷ xs) ys zero l = refl
front_item (x ∷ xs) ys (suc n) l = front_item xs ys n (omega arith)

longer : {A : Type 0} (xs : List A) (x : A) → length (xs ++ x ∷ []) ≡ length xs + 1
longer [] x = refl
longer (y ∷ xs) x = let e = longer xs x in omega arith

-- what holds of the items and of one more holds of all
pub each_more : {A : Type 0} (P : ℕ → A → Type 0) (xs : List A) (x d : A) (n : ℕ) → length xs ≡ n → ((v : ℕ) → v < n → P v (get_or xs v d)) → P n x
    → (v : ℕ) → v < n + 1 → P v (get_or (xs ++ x ∷ []) v d)
each_more P xs x d n e h here v l = ⊎_elim
    (λ k. subst (P v) (sym (get_front xs (x ∷ []) d v (omega arith))) (h v k))
    (λ k. let s : v ≡ n = omega arith in subst (λ w. P w (get_or (xs ++ x ∷ []) w d)) (sym s) (subst (P n) (sym (get_last xs x d n e)) here))
    (cases_lt v n)

-- ---- the first parts

pub first_parts_more : (catalog : CatalogOf) (s next : KeptLists) (v : ℕ) (table change : Bag) (pending : PendingOf) (known : Bool)
    → AreFirstParts catalog v s → HasWidth table (width_of catalog v) → HasWidth change (width_of catalog v)
    → pending ≡ record { view = v; columns = map (λ _. empty) (range_with_len 0 (suc (sums_of (kind_in catalog v)))) } → known ≡ is_base catalog v
    → next.tables ≡ s.tables ++ table ∷ [] → next.changes ≡ s.changes ++ change ∷ [] → next.pendings ≡ s.pendings ++ pending ∷ [] → next.known ≡ s.known ++ known ∷ []
    → AreFirstParts catalog (v + 1) next
first_parts_more catalog s next v table change pending known p tw cw pe ke t c q k = record {
  each_table = ap length t ∙ longer s.tables table ∙ ap (λ n. n + 1) p.each_table;
  each_change = ap length c ∙ longer s.changes change ∙ ap (λ n. n + 1) p.each_change;
  each_pending = ap length q ∙ longer s.pendings pending ∙ ap (λ n. n + 1) p.each_pending;
  each_known = ap length k ∙ longer s.known known ∙ ap (λ n. n + 1) p.each_known;
  table_widths = subst (λ bs. (u : ℕ) → u < v + 1 → HasWidth (bag_at bs u) (width_of catalog u)) (sym t) (each_more (λ u b. HasWidth b (width_of catalog u)) s.tables table empty v p.each_table p.table_widths tw);
  change_widths = subst (λ bs. (u : ℕ) → u < v + 1 → HasWidth (bag_at bs u) (width_of catalog u)) (sym c) (each_more (λ u b. HasWidth b (width_of catalog u)) s.changes change empty v p.each_change p.change_widths cw);
  pending = subst (λ (ps : List PendingOf). (u : ℕ) → u < v + 1 → pending_at ps u ≡ record { view = u; columns = map (λ _. empty) (range_with_len 0 (suc (sums_of (kind_in catalog u)))) }) (sym q)
      (each_more (λ u x. x ≡ record { view = u; columns = map (λ _. empty) (range_with_len 0 (suc (sums_of (kind_in catalog u)))) }) s.pendings pending (record { view = 0; columns = [] }) v p.each_pending p.pending pe);
  known = subst (λ ks. (u : ℕ) → u < v + 1 → is_known ks u ≡ is_base catalog u) (sym k) (each_more (λ u x. x ≡ is_base catalog u) s.known known false v p.each_known p.known ke);
}

none_wide : (n : ℕ) → HasWidth empty n
none_wide n row some = absurd (some (count-empty row))

pub first_wide : (b : Bool) (x : Bag) (n : ℕ) → HasWidth x n → HasWidth (cond b x empty) n
first_wide true x n w = w
first_wide false x n w = none_wide n

pub first_parts_are : (catalog : CatalogOf) (s : KeptLists) → IsCatalog catalog → AreFirstParts catalog (length catalog.views.children) s → HaveParts catalog s
first_parts_are catalog s is p = record {
  catalogue = is;
  tables = record { each = p.each_table; widths = p.table_widths };
  changes = record { each = p.each_change; widths = p.change_widths };
  each_pending = p.each_pending;
  pending = λ v l. subst (IsPendingFor catalog v) (sym (p.pending v l)) (record { of_view = refl; columns = length_range (λ _. empty) (suc (sums_of (kind_in catalog v))) 0 });
  wide = λ v d e j. ⊎_elim
      (λ l. subst (λ (x : PendingOf). HasWidth (bag_at x.columns j) (key_width d.output)) (sym (p.pending v l)) (subst (λ b. HasWidth b (key_width d.output)) (sym (none_at (suc (sums_of (kind_in catalog v))) 0 j)) (none_wide (key_width d.output))))
      (λ l. subst (λ (x : PendingOf). HasWidth (bag_at x.columns j) (key_width d.output)) (sym (past s.pendings v (record { view = 0; columns = [] }) (let e = p.each_pending in omega arith))) (none_wide (key_width d.output)))
      (cases_lt v (length catalog.views.children));
  each_known = p.each_known;
  bases = λ v l e. p.known v l ∙ e;
}

pub first_kept : (catalog : CatalogOf) (tables changes : List Bag) (s : KeptLists) → AreBags catalog tables → AreFirstParts catalog (length catalog.views.children) s
    → ((v : ℕ) → v < length catalog.views.children → bag_at s.tables v ≡ bag_at tables v)
    → ((v : ℕ) → v < length catalog.views.children → bag_at s.changes v ≡ cond (is_base catalog v) (bag_at changes v) empty)
    → IsFirst catalog (bag_at tables) (bag_at changes) (kept s)
first_kept catalog tables changes s are p ts cs = record {
  tables = λ v. ⊎_elim (ts v) (λ l. past s.tables v empty (let e = p.each_table in omega arith) ∙ sym (past tables v empty (let e = are.each in omega arith))) (cases_lt v (length catalog.views.children));
  pending = λ v l. ap (λ (x : PendingOf). x.columns) (p.pending v l);
  changes = λ v l e. cs v l ∙ (λ i. cond (e i) (bag_at changes v) empty);
  known = p.known;
}

-- ---- expression by expression

not_empty : (us : List ℕ) (ys : List ℕ) → 1 ≤ length ys → ((u : ℕ) → has ys u ≡ true → has us u ≡ true) → is_empty us ≡ false
unfolding has
not_empty (u ∷ us) ys l h = refl
not_empty [] [] l h = absurd (omega arith)
not_empty [] (y ∷ ys) l h = absurd (false≢true (h y (has_first y ys)))

pub expression_of : (catalog : CatalogOf) (list : List Expression) → IsCorrect catalog.views.children list → (p : ℕ) (e : Expression) → At list p e → IsExpressionOf catalog e
expression_of catalog list ok p (Comp v ys) at =
    let may = ok.allowed p v ys at in
    (may.0, not_empty (children_of catalog.views.children v) ys may.1 may.3, record { some = may.1; distinct = may.2; among = may.3 })
expression_of catalog list ok p (Inst v) at = ok.views p v at

module _ (catalog : CatalogOf) (list : List Expression) (old given : ℕ → Bag) (is : IsCatalog catalog) (ok : IsCorrect catalog.views.children list) where
  pub agrees_next : (p : ℕ) (e : Expression) (k after : Kept) → At list p e → Agrees catalog list old given p (before (graph_of catalog) given list old p) k → after ≡ stepped catalog e k
      → Agrees catalog list old given (p + 1) (before (graph_of catalog) given list old (p + 1)) after
  agrees_next p e k after at a f =
      let n : suc p ≡ p + 1 = omega arith in
      subst (λ m. Agrees catalog list old given m (before (graph_of catalog) given list old m) after) n (subst (Agrees catalog list old given (suc p) (before (graph_of catalog) given list old (suc p))) (sym f) (next e at))
    where
      next : (e : Expression) → At list p e → Agrees catalog list old given (suc p) (before (graph_of catalog) given list old (suc p)) (stepped catalog e k)
      next (Comp v ys) at = after_comp catalog list old given is ok p v ys k at a
      next (Inst v) at = after_inst catalog list old given is ok p v k at a

  pub rows_right : (p : ℕ) (e : Expression) (k : Kept) (rows : ℕ) → At list p e → Agrees catalog list old given p (before (graph_of catalog) given list old p) k → rows ≡ rows_in catalog e k → rows < 2 ^ 128
      → rows ≡ rows_at catalog.views.children list old (tables_after (graph_of catalog) given list old) p
  rows_right p (Comp v ys) k rows at a e small =
      let us : List ℕ = children_of catalog.views.children v in
      let s : definition.State = before (graph_of catalog) given list old p in
      let done = comp_done catalog list old given is ok p v ys k at a in
      e
      ∙ (λ i. operand_rows_of us ys (λ u. a.tables u i) (finished catalog (has ys) k).changes)
      ∙ same_rows us ys s.tables (finished catalog (has ys) k).changes (change_in (graph_of catalog) given s) done.1
      ∙ comp_reads catalog.views.children (graph_of catalog).views list old given ok p v ys at (λ u m. let l : u < v = is.shape.lower v u m in let k = (ok.allowed p v ys at).0 in omega arith)
  rows_right p (Inst v) k rows at a e small =
      let s : definition.State = before (graph_of catalog) given list old p in
      let done = inst_done catalog list old given is ok p v k at a in
      let f : rows ≡ size (change_in (graph_of catalog) given s v) = e ∙ ap size done.1 in
      f ∙ inst_writes catalog.views.children (graph_of catalog).views list old given ok p v at (subst (λ n. n < 2 ^ 128) f small)

  pub refused_next : (p : ℕ) (e : Expression) (k : Kept) (fault : MaintFault) → At list p e → Agrees catalog list old given p (before (graph_of catalog) given list old p) k → AreTold catalog list old given k
      → ArePassedBelow catalog list old given p → IsStepFaultIn catalog k e fault → (fault ≡ Memory) ⊎ IsListFault catalog list old given fault
  refused_next p (Comp v ys) k fault at a told earlier f = comp_refused catalog list old given is ok p v ys k at a told earlier fault f
  refused_next p (Inst v) k fault at a told earlier f = inst_refused catalog list old given is ok p v k at a told earlier fault f

  -- one more expression is passed
  pub passed_next : (p : ℕ) (e : Expression) (k : Kept) → At list p e → Agrees catalog list old given p (before (graph_of catalog) given list old p) k → AreTold catalog list old given k
      → ArePassedBelow catalog list old given p → IsPassedIn catalog k e → ArePassedBelow catalog list old given (p + 1)
  passed_next p e k at a told earlier h = λ q x l r. ⊎_elim
      (λ m. earlier q x m r)
      (λ m.
      let s : q ≡ p = omega arith in
      let same : e ≡ x = same_Some e x (sym at ∙ ap (slice_get list) (sym s) ∙ r) in
      subst (λ n. IsPassed catalog given (before (graph_of catalog) given list old n) x) (sym s)
      (subst (IsPassed catalog given (before (graph_of catalog) given list old p)) same (passed_here catalog list old given is ok p e k at a told h)))
      (cases_lt q p)

  pub tables_end : (p : ℕ) (k : Kept) → p ≡ length list → Agrees catalog list old given p (before (graph_of catalog) given list old p) k → (v : ℕ) → k.tables v ≡ tables_after (graph_of catalog) given list old v
  tables_end p k e a v = a.tables v ∙ ap (λ l. (carried (graph_of catalog) given l (at_first old)).tables v) (ap (λ n. take n list) e ∙ take_whole list)

pub steps_next : (shape : List (List ℕ)) (list : List Expression) (old new : ℕ → Bag) (p : ℕ) (steps : List (Expression × ℕ)) (e : Expression) (rows : ℕ) → AreFirstSteps shape list old new p steps
    → At list p e → rows ≡ rows_at shape list old new p → AreFirstSteps shape list old new (p + 1) (steps ++ (e, rows) ∷ [])
steps_next shape list old new p steps e rows f at r = record {
  each = longer steps (e, rows) ∙ ap (λ n. n + 1) f.each;
  rows = λ q x l a. ⊎_elim
      (λ h. front_item steps ((e, rows) ∷ []) q (let m = f.each in omega arith) ∙ f.rows q x h a)
      (λ h.
      let s : q ≡ p = omega arith in
      let same : e ≡ x = same_Some e x (sym at ∙ ap (slice_get list) (sym s) ∙ a) in
      ap (slice_get (steps ++ (e, rows) ∷ [])) s ∙ last_item steps (e, rows) p f.each ∙ (λ i. Some (same i, (r ∙ ap (rows_at shape list old new) (sym s)) i)))
      (cases_lt q p);
}

pub steps_end : (shape : List (List ℕ)) (list : List Expression) (old new : ℕ → Bag) (p : ℕ) (steps : List (Expression × ℕ)) → p ≡ length list → AreFirstSteps shape list old new p steps → AreSteps shape list old new steps
steps_end shape list old new p steps e f = record { each = f.each ∙ e; rows = λ q x at. f.rows q x (let l = place_within list q x at in omega arith) at }

-- ---- base tables

pub base_tables : (catalog : CatalogOf) (tables : List Bag) → IsCatalog catalog → AreBags catalog tables → AreFitTables catalog tables → AreBaseTables (graph_of catalog) (bag_at tables)
base_tables catalog tables is are fit b e = ⊎_elim
    (λ l. subst (λ k. IsFitTable k (bag_at tables b)) ((catalogs_are_graphs catalog is).bases b e) (fit b l))
    (λ l. subst IsTable (sym (past tables b empty (let m = are.each in omega arith))) (λ row. subst (λ n. pos 0 ≤ℤ n) (sym (count-empty row)) (omega (arith, ints))))
    (cases_lt b (length catalog.views.children))
