-- What the code keeps agrees with the definition before each place.
use Rattle.std.proofs.Common.{◌≡◌, ℕ, zero, suc, ◌+◌, ◌<◌, ◌≤◌, refl, sym, ap, subst, ◌∙◌, pos, ◌*ℤ◌, ◌+ℤ◌, Bool, true, false, not, cond, eqb, ◌&&◌, ◌||◌, List, [], ◌∷◌, ◌++◌, map, length, get_or, Option, Some, None, ⊎_elim, arith, ◌^◌}
use Rattle.std.specs.List.{AllByRecursion, flat_map, sum_by, range_with_len}
use Rattle.std.proofs.lemmas.Bool.{cases_lt, eqb-true, eq-eqb, false≢true, both_ways, or_left, false_from_ne_true}
use Rattle.std.specs.FinMap as fin
use Rattle.wh_dag.specs.Shape.{has, children_of}
use Rattle.wh_dag.specs.Parts.{parts}
use Rattle.wh_dag.specs.Catalog.{CatalogOf, IsCatalog, DefinitionOf, Keep, Sums, definition_of, is_base, is_empty}
use Rattle.wh_formula.specs.Expr.{ExprTree, value as expr_value}
use Rattle.wh_strategy.specs.declared.expression.Expression.{Expression}
use Rattle.wh_strategy.specs.declared.expression.Expression.TheVariants.{Comp, Inst}
use Rattle.wh_strategy.specs.Expression.{At, is_new}
use Rattle.wh_strategy.specs.Rules.{IsCorrect}
use Rattle.wh_row.specs.Row.{Row, row_cmp, is_row}
use Rattle.wh_row.specs.Weigh.{Counted, count_in}
use Rattle.wh_row.specs.Bag.{Bag, bag_of, written, empty, sum_of, count, size, number}
use Rattle.wh_row.proofs.BagLaws.{same_bag, count-bag_of}
use Rattle.wh_maint.specs.View.{View, ViewGraph, Fold, sums_of, column, weight_of, with_row, folded_rows, fold}
use Rattle.wh_maint.specs.Product.{matching}
use Rattle.wh_maint.specs.Summary.{change_of}
use Rattle.wh_maint.specs.Definition.{graph_of, view_of, kind_of, values_at, with_first, value_of, summand}
use Rattle.wh_maint.specs.Comp.{at_set, bag_at, comp, comp_columns, merged, term_rows, changed_rows, TermsHaveValues}
use Rattle.wh_maint.specs.Value.{AllHaveValues}
use Rattle.wh_maint.specs.Size.{capped, operand_rows_of, reach, IsTooLarge}
use Rattle.wh_join.specs.CombinedRows.{product_of}
use Rattle.wh_maint.specs.Laws.{AreAmong}
use Rattle.wh_maint.specs.Finishing.{kind_in}
use Rattle.wh_maint.proofs.Differences.{sum-empty}
use Rattle.wh_maint.proofs.FromScratch.{based, derived}
use lib.IntN.{*ℤ-zero}
use Rattle.wh_carry.specs.Carry.{State, change_in, step, carried, before}
use Rattle.wh_carry.specs.Kept.{Kept, IsFirst, finished, installed}
use Rattle.wh_carry.specs.Inner.Kept.{computed, stepped}
use Rattle.wh_carry.proofs.Prefixes.{before_next, new_next}
use Rattle.wh_carry.proofs.StepRows.{change_at_inst, change_at_comp}
use Rattle.wh_carry.proofs.PartReads.{parts_among, all_mono, sum_by-each}
use Rattle.wh_carry.specs.Inner.Agreeing.{gain, Agrees}

-- ---- only the changes of its sources count in a Comp

agree : {A : Type 0} (ys : List ℕ) (state f g : ℕ → A) → ((u : ℕ) → has ys u ≡ true → f u ≡ g u) → AllByRecursion (λ part. (u : ℕ) → at_set part f state u ≡ at_set part g state u) (parts ys)
agree ys state f g h = all_mono (λ part. AreAmong part ys) _ (parts ys) (λ part among u. elim (has part u) as (λ t. has part u ≡ t → cond t (f u) (state u) ≡ cond t (g u) (state u)) [ true ↦ λ t. h u (among u t) | false ↦ λ t. refl ] refl) (parts_among ys ys (λ u t. t))

flat-each : (F G : List ℕ → Counted) (xs : List (List ℕ)) → AllByRecursion (λ x. F x ≡ G x) xs → flat_map F xs ≡ flat_map G xs
flat-each F G [] h = refl
flat-each F G (x ∷ xs) h = λ i. h.0 i ++ flat-each F G xs h.1 i

both_all : (P Q : List ℕ → Type 0) (R : List ℕ → Type 0) (xs : List (List ℕ)) → ((x : List ℕ) → P x → Q x → R x) → AllByRecursion P xs → AllByRecursion Q xs → AllByRecursion R xs
both_all P Q R [] h a b = tt
both_all P Q R (x ∷ xs) h a b = (h x a.0 b.0, both_all P Q R xs h a.1 b.1)

module _ (children ys : List ℕ) (state f g : ℕ → Bag) (h : (u : ℕ) → has ys u ≡ true → f u ≡ g u) where
  pub same_comp : (k : Fold) → comp k children ys state f ≡ comp k children ys state g
  same_comp k = ap (λ es. fold k (bag_of es)) (flat-each (term_rows k.passes children state f) (term_rows k.passes children state g) (parts ys)
      (all_mono _ _ (parts ys) (λ part e. λ i. matching k.passes (map (λ u. e u i) children)) (agree ys state f g h)))

  pub same_changed : (passes : Row → Bool) → changed_rows passes children ys state f ≡ changed_rows passes children ys state g
  same_changed passes = ap bag_of (flat-each (term_rows passes children state f) (term_rows passes children state g) (parts ys)
      (all_mono _ _ (parts ys) (λ part e. λ i. matching passes (map (λ u. e u i) children)) (agree ys state f g h)))

  pub same_values : (v : View) → TermsHaveValues v children ys state f → TermsHaveValues v children ys state g
  same_values v a = both_all (λ part. (u : ℕ) → at_set part f state u ≡ at_set part g state u) _ _ (parts ys) (λ part e b. subst (λ ts. AllHaveValues v (matching v.passes ts)) (λ i. map (λ u. e u i) children) b) (agree ys state f g h) a

  pub same_rows : operand_rows_of children ys state f ≡ operand_rows_of children ys state g
  same_rows = ap capped (sum_by-each _ _ (parts ys) (all_mono _ _ (parts ys) (λ part e. λ i. sum_by (λ u. e u i) children)
      (agree ys (λ u. size (state u)) (λ u. size (f u)) (λ u. size (g u)) (λ u t. ap size (h u t)))))

  pub same_reach : IsTooLarge children ys state f → IsTooLarge children ys state g
  same_reach big = subst (λ n. 2 ^ 56 < n) (λ i. product_of (map (λ u. reaches u i) children)) big
    where
      reaches : (u : ℕ) → reach ys (λ w. size (state w)) (λ w. size (f w)) u ≡ reach ys (λ w. size (state w)) (λ w. size (g w)) u
      reaches u = elim (has ys u) as (λ t. has ys u ≡ t → cond t (size (state u) + size (f u)) (size (state u)) ≡ cond t (size (state u) + size (g u)) (size (state u))) [ true ↦ λ t. ap (λ b. size (state u) + size b) (h u t) | false ↦ λ t. refl ] refl

-- ---- columns past the last sum are empty

nothing : (k : Fold) → ((r : Row) → k.weight r ≡ pos 0) → (es : Counted) (q : Row) → count_in (folded_rows k es) q ≡ pos 0
nothing k h [] q = refl
nothing k h (e ∷ es) q = elim (k.goes_to e.0) as (λ o. count_in (with_row o (e.1 *ℤ k.weight e.0) (folded_rows k es)) q ≡ pos 0) [
  | None ↦ nothing k h es q
  | Some r ↦ (λ i. cond (is_row q r) ((ap (λ z. e.1 *ℤ z) (h e.0) ∙ *ℤ-zero e.1) i) (pos 0) +ℤ nothing k h es q i) ∙ none (is_row q r)
]
  where
    none : (t : Bool) → cond t (pos 0) (pos 0) +ℤ pos 0 ≡ pos 0
    none true = refl
    none false = refl

pub count-empty : (q : Row) → count empty q ≡ pos 0
count-empty q = ap number (fin.get-empty row_cmp q)

no_comp : (k : Fold) → ((r : Row) → k.weight r ≡ pos 0) → (children ys : List ℕ) (state change : ℕ → Bag) → comp k children ys state change ≡ empty
no_comp k h children ys state change = same_bag _ _ (λ q. count-bag_of (folded_rows k (written (changed_rows k.passes children ys state change))) q ∙ nothing k h (written (changed_rows k.passes children ys state change)) q ∙ sym (count-empty q))

pub past : {A : Type 0} (xs : List A) (n : ℕ) (d : A) → length xs ≤ n → get_or xs n d ≡ d
past [] n d l = refl
past (x ∷ xs) zero d l = absurd (omega arith)
past (x ∷ xs) (suc n) d l = past xs n d (omega arith)

longer : (row : Row) (es : List ExprTree) (rest : Row) → values_at row es ≡ Some rest → length rest ≡ length es
longer row [] rest e = cc
longer row (x ∷ es) rest e = elim (expr_value row x) as (λ o. with_first o (values_at row es) ≡ Some rest → length rest ≡ suc (length es)) [
  | None ↦ λ e. cc
  | Some n ↦ elim (values_at row es) as (λ o. values_at row es ≡ o → with_first (Some n) o ≡ Some rest → length rest ≡ suc (length es)) [
    | None ↦ λ t e. cc
    | Some more ↦ λ t e. let s : n ∷ more ≡ rest = cc in ap length (sym s) ∙ ap suc (longer row es more t)
  ] refl
] e

past_sums : (row : Row) (es : List ExprTree) (j : ℕ) → length es ≤ j → value_of (values_at row es) j ≡ pos 0
past_sums row es j l = elim (values_at row es) as (λ o. values_at row es ≡ o → value_of o j ≡ pos 0) [
  | None ↦ λ t. refl
  | Some more ↦ λ t. let e = longer row es more t in past more j (pos 0) (omega arith)
] refl

no_weight : (d : Option DefinitionOf) (j : ℕ) → suc (sums_of (view_of d).kind) ≤ j → (r : Row) → weight_of (view_of d) j r ≡ pos 0
no_weight d zero l r = absurd (omega arith)
no_weight None (suc j) l r = refl
no_weight (Some d) (suc j) l r = elim d.output as (λ o. suc (sums_of (kind_of o)) ≤ suc j → summand o j r ≡ pos 0) [
  | Keep kept ↦ λ l. refl
  | Sums group sums ↦ λ l. past_sums r sums j (omega arith)
] l

-- the columns in a list are those that there are, and empty past them
at_range : {A : Type 0} (f : ℕ → A) (n from j : ℕ) (d : A) → j < n → get_or (map f (range_with_len from n)) j d ≡ f (from + j)
at_range f zero from j d l = absurd (omega arith)
at_range f (suc n) from zero d l = let e : from ≡ from + 0 = omega arith in ap f e
at_range f (suc n) from (suc j) d l = at_range f n (from + 1) j d (omega arith) ∙ (let e : from + 1 + j ≡ from + suc j = omega arith in ap f e)

pub at_zero : {A : Type 0} (f : ℕ → A) (n j : ℕ) (d : A) → j < n → get_or (map f (range_with_len 0 n)) j d ≡ f j
at_zero f n j d l = at_range f n 0 j d l ∙ (let e : 0 + j ≡ j = omega arith in ap f e)

pub length_range : {A : Type 0} (f : ℕ → A) (n from : ℕ) → length (map f (range_with_len from n)) ≡ n
length_range f zero from = refl
length_range f (suc n) from = ap suc (length_range f n (from + 1))

pub none_at : (n k j : ℕ) → bag_at (map {A = ℕ} {B = Bag} (λ _. empty) (range_with_len k n)) j ≡ empty
none_at zero k j = refl
none_at (suc n) k zero = refl
none_at (suc n) k (suc j) = none_at n (k + 1) j

-- ---- agreement

not_base : (us : List ℕ) → is_empty us ≡ false → ¬ (us ≡ [])
not_base [] e = absurd (false≢true (sym e))
not_base (u ∷ us) e = λ t. cc

pub a_base : (us : List ℕ) → is_empty us ≡ true → us ≡ []
a_base [] e = refl
a_base (u ∷ us) e = absurd (false≢true e)

known_change : (t b : Bool) (x y z : Bag) → (b ≡ true → y ≡ z) → (b ≡ false → x ≡ z) → (t || b) ≡ true → cond (t && not b) x y ≡ z
known_change true true x y z f g e = f refl
known_change true false x y z f g e = g refl
known_change false true x y z f g e = f refl
known_change false false x y z f g e = absurd (false≢true e)

or_false : (t b : Bool) → (t || b) ≡ false → b ≡ false
or_false true b e = absurd (false≢true (sym e))
or_false false b e = e

module _ (catalog : CatalogOf) (list : List Expression) (old given : ℕ → Bag) (is : IsCatalog catalog) (ok : IsCorrect catalog.views.children list) where
  -- the change of each view is known at its Inst
  pub given_is_gain : (b : ℕ) → b < length catalog.views.children → is_base catalog b ≡ true → given b ≡ gain catalog given list old b
  given_is_gain b l e =
      let i = ok.an_inst b l in
      let s : State = before (graph_of catalog) given list old i.0 in
      sym (based (children_of catalog.views.children b) (given b) (change_of (kind_in catalog b) (s.tables b) (s.pending b)) (a_base (children_of catalog.views.children b) e))
      ∙ change_at_inst catalog.views.children (graph_of catalog).views list old given ok i.0 b i.1

  pub agrees_first : (k : Kept) → IsFirst catalog old given k → Agrees catalog list old given 0 (before (graph_of catalog) given list old 0) k
  unfolding carried is_new
  agrees_first k f = record {
    tables = f.tables;
    pending = λ v l j. ap (λ c. bag_at c j) (f.pending v l) ∙ none_at (suc (sums_of (kind_in catalog v))) 0 j;
    long = λ v l. ap length (f.pending v l) ∙ length_range (λ _. empty) (suc (sums_of (kind_in catalog v))) 0;
    known = λ v l t. let b : is_base catalog v ≡ true = sym (f.known v l) ∙ t in f.changes v l b ∙ given_is_gain v l b;
    unknown = λ v l t. (sym (f.known v l) ∙ t, refl);
  }

  -- at a place where the change of each of these views is what it gains, finishing them gives it
  pub agrees_finished : (p : ℕ) (s : State) (k : Kept) (test : ℕ → Bool) → Agrees catalog list old given p s k
      → ((u : ℕ) → test u ≡ true → u < length catalog.views.children) → ((u : ℕ) → test u ≡ true → change_in (graph_of catalog) given s u ≡ gain catalog given list old u)
      → Agrees catalog list old given p s (finished catalog test k)
  agrees_finished p s k test a within due = record {
    tables = a.tables;
    pending = a.pending;
    long = a.long;
    known = λ v l t. elim (test v) as (λ b. test v ≡ b → (b || k.known v) ≡ true → cond (b && not (k.known v)) (change_of (kind_in catalog v) (k.tables v) (bag_at (k.pending v))) (k.changes v) ≡ gain catalog given list old v) [
      | true ↦ λ b t. known_change true (k.known v) (change_of (kind_in catalog v) (k.tables v) (bag_at (k.pending v))) (k.changes v) (gain catalog given list old v)
          (λ y. a.known v l y)
          (λ n. (λ i. change_of (kind_in catalog v) (a.tables v i) (λ j. a.pending v l j i))
          ∙ sym (derived (children_of catalog.views.children v) (given v) (change_of (kind_in catalog v) (s.tables v) (s.pending v)) (not_base (children_of catalog.views.children v) (a.unknown v l n).0))
          ∙ due v b) t
      | false ↦ λ b t. a.known v l t
    ] refl t;
    unknown = λ v l t. a.unknown v l (or_false (test v) (k.known v) t);
  }

  -- the columns of a Comp are those of the definition
  pub columns_at : (v : ℕ) (ys : List ℕ) (s : State) (tables changes : ℕ → Bag) → ((u : ℕ) → tables u ≡ s.tables u) → ((u : ℕ) → has ys u ≡ true → changes u ≡ change_in (graph_of catalog) given s u)
      → (j : ℕ) → bag_at (comp_columns (view_of (definition_of catalog v)) (children_of catalog.views.children v) ys tables changes) j
      ≡ comp (column (view_of (definition_of catalog v)) j) (children_of catalog.views.children v) ys s.tables (change_in (graph_of catalog) given s)
  columns_at v ys s tables changes same due j =
      let view : View = view_of (definition_of catalog v) in
      let us : List ℕ = children_of catalog.views.children v in
      let f : ℕ → Bag = λ j. comp (column view j) us ys tables changes in
      let n : ℕ = suc (sums_of view.kind) in
      ⊎_elim
      (λ l. at_zero f n j empty l
      ∙ (λ i. comp (column view j) us ys (λ u. same u i) changes)
      ∙ same_comp us ys s.tables changes (change_in (graph_of catalog) given s) due (column view j))
      (λ l. past (map f (range_with_len 0 n)) j empty (subst (λ m. m ≤ j) (sym (length_range f n 0)) l)
      ∙ sym (no_comp (column view j) (no_weight (definition_of catalog v) j l) us ys s.tables (change_in (graph_of catalog) given s)))
      (cases_lt j n)

  merged_at : (a b : List Bag) (j : ℕ) → (length a ≤ j → bag_at b j ≡ empty) → bag_at (merged a b) j ≡ sum_of (bag_at a j) (bag_at b j)
  merged_at a b j none =
      let f : ℕ → Bag = λ j. sum_of (bag_at a j) (bag_at b j) in
      ⊎_elim
      (λ l. at_zero f (length a) j empty l)
      (λ l. past (map f (range_with_len 0 (length a))) j empty (subst (λ m. m ≤ j) (sym (length_range f (length a) 0)) l)
      ∙ sym ((λ i. sum_of (past a j empty l i) (none l i)) ∙ sum-empty empty))
      (cases_lt j (length a))

  -- what a Comp adds is added to what is pending, and the view's change stays as known as it was
  pub agrees_added : (p q v : ℕ) (ys : List ℕ) (s : State) (k : Kept) → ((w : ℕ) → is_new list q w ≡ is_new list p w) → v < length catalog.views.children → Agrees catalog list old given p s k
      → ((u : ℕ) → has ys u ≡ true → k.changes u ≡ change_in (graph_of catalog) given s u)
      → Agrees catalog list old given q (step (graph_of catalog) given (Comp v ys) s) (computed catalog v ys k)
  agrees_added p q v ys s k stay inside a due =
      let view : View = view_of (definition_of catalog v) in
      let us : List ℕ = children_of catalog.views.children v in
      let columns : List Bag = comp_columns view us ys k.tables k.changes in
      let added : ℕ → Bag = λ j. comp (column view j) us ys s.tables (change_in (graph_of catalog) given s) in
      let col : (j : ℕ) → bag_at columns j ≡ added j = columns_at v ys s k.tables k.changes a.tables due in
      let short : (j : ℕ) → length (k.pending v) ≤ j → bag_at columns j ≡ empty = λ j l. past columns j empty (subst (λ m. m ≤ j) (a.long v inside ∙ sym (length_range (λ j. comp (column view j) us ys k.tables k.changes) (suc (sums_of view.kind)) 0)) l) in
      record {
        tables = a.tables;
        pending = λ w l j. elim (eqb v w) as (λ t. bag_at (cond t (merged (k.pending v) columns) (k.pending w)) j ≡ cond t (λ j. sum_of (s.pending v j) (added j)) (s.pending w) j) [
          | true ↦ merged_at (k.pending v) columns j (short j) ∙ (λ i. sum_of (a.pending v inside j i) (col j i))
          | false ↦ a.pending w l j
        ];
        long = λ w l. elim (eqb v w) as (λ t. eqb v w ≡ t → length (cond t (merged (k.pending v) columns) (k.pending w)) ≡ suc (sums_of (kind_in catalog w))) [
          | true ↦ λ t. length_range (λ j. sum_of (bag_at (k.pending v) j) (bag_at columns j)) (length (k.pending v)) 0 ∙ a.long v inside ∙ ap (λ x. suc (sums_of (kind_in catalog x))) (eqb-true v w t)
          | false ↦ λ t. a.long w l
        ] refl;
        known = a.known;
        unknown = λ w l n. let both = a.unknown w l n in (both.0, stay w ∙ both.1);
      }

  pub agrees_comp : (p v : ℕ) (ys : List ℕ) (s : State) (k : Kept) → At list p (Comp v ys) → v < length catalog.views.children → Agrees catalog list old given p s k
      → ((u : ℕ) → has ys u ≡ true → k.changes u ≡ change_in (graph_of catalog) given s u)
      → Agrees catalog list old given (suc p) (step (graph_of catalog) given (Comp v ys) s) (computed catalog v ys k)
  agrees_comp p v ys s k at inside a due = agrees_added p (suc p) v ys s k (λ w. new_next list p (Comp v ys) w at) inside a due

  pub agrees_inst : (p v : ℕ) (s : State) (k : Kept) → At list p (Inst v) → Agrees catalog list old given p s k → k.known v ≡ true
      → k.changes v ≡ change_in (graph_of catalog) given s v
      → Agrees catalog list old given (suc p) (step (graph_of catalog) given (Inst v) s) (installed v k)
  agrees_inst p v s k at a known due = record {
    tables = λ u i. cond (eqb v u) (sum_of (a.tables v i) (due i)) (a.tables u i);
    pending = a.pending;
    long = a.long;
    known = a.known;
    unknown = λ w l n. let both = a.unknown w l n in (
      both.0,
      new_next list p (Inst v) w at ∙ (λ i. false_from_ne_true (eqb v w) (λ t. both_ways (k.known w) n (ap k.known (sym (eqb-true v w t)) ∙ known)) i || both.1 i),
    );
  }

  pub source_within : (p v : ℕ) (ys : List ℕ) → At list p (Comp v ys) → (u : ℕ) → has ys u ≡ true → u < length catalog.views.children
  source_within p v ys at u m = let may = ok.allowed p v ys at in let l = may.0 in let k : u < v = is.shape.lower v u (may.3 u m) in omega arith

  -- where a Comp stands its sources are finished, and where an Inst stands its view is
  pub comp_done : (p v : ℕ) (ys : List ℕ) (k : Kept) → At list p (Comp v ys) → Agrees catalog list old given p (before (graph_of catalog) given list old p) k
      → Agrees catalog list old given p (before (graph_of catalog) given list old p) (finished catalog (has ys) k)
      × ((u : ℕ) → has ys u ≡ true → (finished catalog (has ys) k).changes u ≡ change_in (graph_of catalog) given (before (graph_of catalog) given list old p) u)
  comp_done p v ys k at a =
      let within = source_within p v ys at in
      let due : (u : ℕ) → has ys u ≡ true → change_in (graph_of catalog) given (before (graph_of catalog) given list old p) u ≡ gain catalog given list old u =
      λ u m. change_at_comp catalog.views.children (graph_of catalog).views list old given ok p v ys at u m (within u m) in
      let b = agrees_finished p (before (graph_of catalog) given list old p) k (has ys) a within due in
      (b, λ u m. b.known u (within u m) (or_left (has ys u) (k.known u) m) ∙ sym (due u m))

  pub inst_done : (p v : ℕ) (k : Kept) → At list p (Inst v) → Agrees catalog list old given p (before (graph_of catalog) given list old p) k
      → Agrees catalog list old given p (before (graph_of catalog) given list old p) (finished catalog (λ u. eqb v u) k)
      × ((finished catalog (λ u. eqb v u) k).changes v ≡ change_in (graph_of catalog) given (before (graph_of catalog) given list old p) v)
  inst_done p v k at a =
      let inside = ok.views p v at in
      let due = change_at_inst catalog.views.children (graph_of catalog).views list old given ok p v at in
      let b = agrees_finished p (before (graph_of catalog) given list old p) k (λ u. eqb v u) a
      (λ u t. subst (λ w. w < length catalog.views.children) (eqb-true v u t) inside)
      (λ u t. subst (λ w. change_in (graph_of catalog) given (before (graph_of catalog) given list old p) w ≡ gain catalog given list old w) (eqb-true v u t) due) in
      (b, b.known v inside (or_left (eqb v v) (k.known v) (eq-eqb v v refl)) ∙ sym due)

  -- after a Comp and after an Inst
  pub after_comp : (p v : ℕ) (ys : List ℕ) (k : Kept) → At list p (Comp v ys) → Agrees catalog list old given p (before (graph_of catalog) given list old p) k
      → Agrees catalog list old given (suc p) (before (graph_of catalog) given list old (suc p)) (stepped catalog (Comp v ys) k)
  after_comp p v ys k at a =
      let g : ViewGraph = graph_of catalog in
      let s : State = before g given list old p in
      let done = comp_done p v ys k at a in
      subst (λ s. Agrees catalog list old given (suc p) s (stepped catalog (Comp v ys) k)) (sym (before_next g given list old p (Comp v ys) at))
      (agrees_comp p v ys s (finished catalog (has ys) k) at (ok.allowed p v ys at).0 done.0 done.1)

  pub after_inst : (p v : ℕ) (k : Kept) → At list p (Inst v) → Agrees catalog list old given p (before (graph_of catalog) given list old p) k
      → Agrees catalog list old given (suc p) (before (graph_of catalog) given list old (suc p)) (stepped catalog (Inst v) k)
  after_inst p v k at a =
      let g : ViewGraph = graph_of catalog in
      let s : State = before g given list old p in
      let done = inst_done p v k at a in
      subst (λ s. Agrees catalog list old given (suc p) s (stepped catalog (Inst v) k)) (sym (before_next g given list old p (Inst v) at))
      (agrees_inst p v s (finished catalog (λ u. eqb v u) k) at done.0 (ap (λ t. t || k.known v) (eq-eqb v v refl)) done.1)
