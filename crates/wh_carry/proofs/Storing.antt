-- Parts that are set, and their widths.
use Rattle.std.proofs.Common.{◌≡◌, ℕ, suc, ◌<◌, refl, sym, ap, subst, ◌∙◌, ◌+ℤ◌, Bool, true, false, not, cond, eqb, ◌&&◌, ◌||◌, List, [], length, get_or, set, map, ltb, ◌+◌, ◌⊎◌, ◌↔◌, inl, inr, OnOk, IfOk, IfErr, Option, Some, None, Result, Ok, Err, ⊎_elim, arith, get_or-set_other, get_or-set_same}
use Rattle.std.specs.Prelude.{is_some}
use Rattle.std.specs.List.{range_with_len}
use Rattle.std.proofs.lemmas.List.{length-set}
use Rattle.std.proofs.lemmas.Bool.{cases_lt, eqb-true, eqb-false, eq-eqb, ltb-true, lt-ltb, false≢true, both_ways, false_from_ne_true, and_parts, and_from, or_left, or_right, or_cases}
use Rattle.wh_dag.specs.Shape.{has, children_of}
use Rattle.wh_dag.specs.Catalog.{CatalogOf, IsCatalog, DefinitionOf, definition_of, is_base, width_of, columns}
use Rattle.wh_row.specs.Bag.{Bag, HasWidth, empty, sum_of, count}
use Rattle.wh_row.proofs.BagLaws.{same_bag, count-sum_of}
use Rattle.wh_maint.specs.View.{View, column, sums_of}
use Rattle.wh_maint.specs.Summary.{change_of}
use Rattle.wh_maint.specs.Definition.{view_of, kind_of}
use Rattle.wh_maint.specs.Comp.{PendingOf, bag_at, comp, comp_columns, merged, changed_rows, TermsHaveValues}
use Rattle.wh_maint.specs.Finishing.{kind_in, IsPendingFor}
use Rattle.wh_maint.specs.Answers.{IsCompAnswer}
use Rattle.wh_maint.specs.Asked.{AreBags}
use Rattle.wh_maint.specs.Width.{key_width}
use Rattle.wh_maint.proofs.BagLemmas.{zero_or_not}
use Rattle.wh_maint.proofs.Widths.{columns_have_width, changes_have_width}
use Rattle.wh_maint.specs.declared.fault.MaintFault.{MaintFault}
use Rattle.wh_maint.specs.declared.fault.MaintFault.TheVariants.{Large, Range, Memory, Absent}
use Rattle.wh_maint.specs.Size.{IsTooLarge}
use Rattle.wh_maint.specs.Fit.{IsFitTable}
use Rattle.wh_maint.specs.Refused.{AddsNothing, IsMergeFault}
use Rattle.wh_carry.specs.Answers.{IsComputeAnswer}
use Rattle.wh_carry.specs.Refused.{CanBeComputed, CanBeFinishedIn, IsUnfinishedIn, IsCompFaultIn}
use Rattle.wh_carry.specs.Inner.Refused.{IsAddFaultIn}
use Rattle.wh_carry.specs.Carry.{with_at}
use Rattle.wh_carry.specs.Kept.{Kept, KeptLists, kept, pending_at, is_known, AreKnown, HaveParts, CanFinish, IsPendingIn, finished, installed, with_added, with_change, with_pending}
use Rattle.wh_carry.specs.Inner.Kept.{computed}
use lib.IntN.{+ℤ_comm}
use Rattle.wh_carry.proofs.Agreeing.{length_range, at_zero, past, count-empty}

pub set_at : {A : Type 0} (xs : List A) (i u : ℕ) (x d : A) → i < length xs → get_or (set xs i x) u d ≡ cond (eqb i u) x (get_or xs u d)
set_at xs i u x d l = elim (eqb i u) as (λ t. eqb i u ≡ t → get_or (set xs i x) u d ≡ cond t x (get_or xs u d)) [
  | true ↦ λ t. ap (λ w. get_or (set xs i x) w d) (sym (eqb-true i u t)) ∙ get_or-set_same xs i x d l
  | false ↦ λ t. get_or-set_other xs i u x d (λ e. eqb-false i u t (sym e))
] refl

-- ---- widths

pub sum_wide : (a b : Bag) (n : ℕ) → HasWidth a n → HasWidth b n → HasWidth (sum_of a b) n
sum_wide a b n x y row some = ⊎_elim
    (λ e. y row (λ f. some (count-sum_of a b row ∙ (λ i. e i +ℤ f i))))
    (λ m. x row m)
    (zero_or_not (count a row))

none_wide : (n : ℕ) → HasWidth empty n
none_wide n row some = absurd (some (count-empty row))

pub bags_set : (catalog : CatalogOf) (bags : List Bag) (v : ℕ) (b : Bag) → AreBags catalog bags → v < length catalog.views.children → HasWidth b (width_of catalog v) → AreBags catalog (set bags v b)
bags_set catalog bags v b are l w =
    let each = are.each in
    let inside : v < length bags = omega arith in
    record {
      each = length-set bags v b ∙ are.each;
      widths = λ u m. subst (λ x. HasWidth x (width_of catalog u)) (sym (set_at bags v u b empty inside))
          (elim (eqb v u) as (λ t. eqb v u ≡ t → HasWidth (cond t b (bag_at bags u)) (width_of catalog u)) [
            | true ↦ λ t. subst (λ x. HasWidth b (width_of catalog x)) (eqb-true v u t) w
            | false ↦ λ t. are.widths u m
          ] refl);
    }

-- a derived view has a definition
pub defined : (catalog : CatalogOf) → IsCatalog catalog → (v : ℕ) → v < length catalog.views.children → is_base catalog v ≡ false → (d : DefinitionOf) × (definition_of catalog v ≡ Some d)
defined catalog is v l n = given (definition_of catalog v) (is.derived v l ∙ ap not n)
  where
    given : (o : Option DefinitionOf) → is_some o ≡ true → (d : DefinitionOf) × (o ≡ Some d)
    given None e = absurd (false≢true e)
    given (Some d) e = (d, refl)

-- the change of a view has its width
pub change_wide : (catalog : CatalogOf) (s : KeptLists) (v : ℕ) (pending : PendingOf) → HaveParts catalog s → v < length catalog.views.children → is_base catalog v ≡ false → IsPendingIn catalog v pending
    → HasWidth (change_of (kind_in catalog v) (bag_at s.tables v) (bag_at pending.columns)) (width_of catalog v)
change_wide catalog s v pending p l n q =
    let d = defined catalog p.catalogue v l n in
    let w : width_of catalog v ≡ columns d.0.output = p.catalogue.defined_columns v d.0 d.1 in
    subst (HasWidth (change_of (kind_in catalog v) (bag_at s.tables v) (bag_at pending.columns))) (sym w)
    (subst (λ o. HasWidth (change_of (view_of o).kind (bag_at s.tables v) (bag_at pending.columns)) (columns d.0.output)) (sym d.1)
    (changes_have_width d.0.output (bag_at s.tables v) (bag_at pending.columns)
    (subst (HasWidth (bag_at s.tables v)) w (p.tables.widths v l)) (q.wide d.0 d.1)))

-- what is kept pending of a view is pending of it
pub pending_in : (catalog : CatalogOf) (s : KeptLists) (v : ℕ) → HaveParts catalog s → v < length catalog.views.children → IsPendingIn catalog v (pending_at s.pendings v)
pending_in catalog s v p l = record { for_view = p.pending v l; wide = p.wide v }

-- a view whose change is not known is derived
pub unknown_is_derived : (catalog : CatalogOf) (s : KeptLists) → HaveParts catalog s → (v : ℕ) → v < length catalog.views.children → is_known s.known v ≡ false → is_base catalog v ≡ false
unknown_is_derived catalog s p v l n = false_from_ne_true (is_base catalog v) (λ t. both_ways (is_known s.known v) n (p.bases v l t))

-- ---- parts

-- to keep its change is to finish a view that is not finished yet
pub change_finishes : (catalog : CatalogOf) (k : Kept) (v : ℕ) (b : Bag) → k.known v ≡ false → b ≡ change_of (kind_in catalog v) (k.tables v) (bag_at (k.pending v)) → with_change v b k ≡ finished catalog (λ u. eqb v u) k
change_finishes catalog k v b n is =
    let change : ℕ → Bag = λ u. change_of (kind_in catalog u) (k.tables u) (bag_at (k.pending u)) in
    let changes : (u : ℕ) → with_at v b k.changes u ≡ cond (eqb v u && not (k.known u)) (change u) (k.changes u) = λ u.
    elim (eqb v u) as (λ t. eqb v u ≡ t → cond t b (k.changes u) ≡ cond (t && not (k.known u)) (change u) (k.changes u)) [
      | true ↦ λ t. is ∙ ap change (eqb-true v u t) ∙ (λ i. cond (not (sym (ap k.known (sym (eqb-true v u t)) ∙ n) i)) (change u) (k.changes u))
      | false ↦ λ t. refl
    ] refl in
    let known : (u : ℕ) → with_at v true k.known u ≡ (eqb v u || k.known u) = λ u. as_or (eqb v u) (k.known u) in
    λ i. record { tables = k.tables; pending = k.pending; changes = λ u. changes u i; known = λ u. known u i }
  where
    as_or : (t b : Bool) → cond t true b ≡ (t || b)
    as_or true b = refl
    as_or false b = refl

-- where it is known already, finishing a view changes nothing
pub kept_known : (catalog : CatalogOf) (k : Kept) (v : ℕ) → k.known v ≡ true → k ≡ finished catalog (λ u. eqb v u) k
kept_known catalog k v y =
    let changes : (u : ℕ) → k.changes u ≡ cond (eqb v u && not (k.known u)) (change_of (kind_in catalog u) (k.tables u) (bag_at (k.pending u))) (k.changes u) = λ u.
    elim (eqb v u) as (λ t. eqb v u ≡ t → k.changes u ≡ cond (t && not (k.known u)) (change_of (kind_in catalog u) (k.tables u) (bag_at (k.pending u))) (k.changes u)) [
      | true ↦ λ t i. cond (not (sym (ap k.known (sym (eqb-true v u t)) ∙ y) i)) (change_of (kind_in catalog u) (k.tables u) (bag_at (k.pending u))) (k.changes u)
      | false ↦ λ t. refl
    ] refl in
    let known : (u : ℕ) → k.known u ≡ (eqb v u || k.known u) = λ u.
    elim (eqb v u) as (λ t. eqb v u ≡ t → k.known u ≡ (t || k.known u)) [ true ↦ λ t. ap k.known (sym (eqb-true v u t)) ∙ y | false ↦ λ t. refl ] refl in
    λ i. record { tables = k.tables; pending = k.pending; changes = λ u. changes u i; known = λ u. known u i }

-- finishing some views and then others is finishing them all
pub finished_more : (catalog : CatalogOf) (k : Kept) (first more : ℕ → Bool) → finished catalog more (finished catalog first k) ≡ finished catalog (λ u. more u || first u) k
finished_more catalog k first more =
    λ i. record {
      tables = k.tables;
      pending = k.pending;
      changes = λ u. twice (more u) (first u) (k.known u) (change_of (kind_in catalog u) (k.tables u) (bag_at (k.pending u))) (k.changes u) i;
      known = λ u. sym (or_three (more u) (first u) (k.known u)) i;
    }
  where
    twice : (a b c : Bool) (x y : Bag) → cond (a && not (b || c)) x (cond (b && not c) x y) ≡ cond ((a || b) && not c) x y
    twice true true true x y = refl
    twice true true false x y = refl
    twice true false true x y = refl
    twice true false false x y = refl
    twice false b c x y = refl

    or_three : (a b c : Bool) → ((a || b) || c) ≡ (a || (b || c))
    or_three true b c = refl
    or_three false b c = refl

pub finished_same : (catalog : CatalogOf) (k : Kept) (f g : ℕ → Bool) → ((u : ℕ) → f u ≡ g u) → finished catalog f k ≡ finished catalog g k
finished_same catalog k f g h = λ i. finished catalog (λ u. h u i) k

pub can_finish_more : (catalog : CatalogOf) (k : Kept) (test : ℕ → Bool) → CanFinish catalog k → CanFinish catalog (finished catalog test k)
can_finish_more catalog k test can v l n = can v l (other (test v) (k.known v) n)
  where
    other : (t b : Bool) → (t || b) ≡ false → b ≡ false
    other true b e = absurd (false≢true (sym e))
    other false b e = e

-- ---- a Comp

bag_wide : (bags : List Bag) (j n : ℕ) → ((k : ℕ) → k < length bags → HasWidth (bag_at bags k) n) → HasWidth (bag_at bags j) n
bag_wide bags j n h = ⊎_elim (λ l. h j l) (λ l. subst (λ b. HasWidth b n) (sym (past bags j empty l)) (none_wide n)) (cases_lt j (length bags))

merged_wide : (a b : List Bag) (n : ℕ) → ((j : ℕ) → HasWidth (bag_at a j) n) → ((j : ℕ) → HasWidth (bag_at b j) n) → (j : ℕ) → HasWidth (bag_at (merged a b) j) n
merged_wide a b n x y j =
    let f : ℕ → Bag = λ j. sum_of (bag_at a j) (bag_at b j) in
    bag_wide (merged a b) j n (λ k l. subst (λ z. HasWidth z n) (sym (at_zero f (length a) k empty (subst (λ m. k < m) (length_range f (length a) 0) l))) (sum_wide (bag_at a k) (bag_at b k) n (x k) (y k)))

columns_wide : (d : DefinitionOf) (us ys : List ℕ) (tables changes : ℕ → Bag) (j : ℕ) → HasWidth (bag_at (comp_columns (view_of (Some d)) us ys tables changes) j) (key_width d.output)
columns_wide d us ys tables changes j =
    let f : ℕ → Bag = λ j. comp (column (view_of (Some d)) j) us ys tables changes in
    let n : ℕ = suc (sums_of (kind_of d.output)) in
    bag_wide (comp_columns (view_of (Some d)) us ys tables changes) j (key_width d.output) (λ k l. subst (λ z. HasWidth z (key_width d.output)) (sym (at_zero f n k empty (subst (λ m. k < m) (length_range f n 0) l)))
    (columns_have_width d k (changed_rows (view_of (Some d)).passes us ys tables changes)))

pub length_columns : (catalog : CatalogOf) (v : ℕ) (us ys : List ℕ) (tables changes : ℕ → Bag) → length (comp_columns (view_of (definition_of catalog v)) us ys tables changes) ≡ suc (sums_of (kind_in catalog v))
length_columns catalog v us ys tables changes = length_range (λ j. comp (column (view_of (definition_of catalog v)) j) us ys tables changes) (suc (sums_of (kind_in catalog v))) 0

-- what a Comp adds is pending of its view
pub comp_pending : (catalog : CatalogOf) (v : ℕ) (us ys : List ℕ) (tables changes : ℕ → Bag) (r : Result PendingOf MaintFault) → IfOk r (λ added. added.view ≡ v)
    → IfOk r (λ added. added.columns ≡ comp_columns (view_of (definition_of catalog v)) us ys tables changes) → IfOk r (IsPendingIn catalog v)
comp_pending catalog v us ys tables changes (Ok added) of is = record {
  for_view = record { of_view = of; columns = ap length is ∙ length_columns catalog v us ys tables changes };
  wide = λ d e j. subst (λ bs. HasWidth (bag_at bs j) (key_width d.output)) (sym is)
      (subst (λ o. HasWidth (bag_at (comp_columns (view_of o) us ys tables changes) j) (key_width d.output)) (sym e) (columns_wide d us ys tables changes j));
}
comp_pending catalog v us ys tables changes (Err fault) of is = tt

-- and so it is with what was pending before
pub sum_pending : (catalog : CatalogOf) (v : ℕ) (pending added sum : PendingOf) → IsPendingIn catalog v pending → IsPendingIn catalog v added → sum.view ≡ v → sum.columns ≡ merged pending.columns added.columns
    → IsPendingIn catalog v sum
sum_pending catalog v pending added sum p q of is = record {
  for_view = record { of_view = of; columns = ap length is ∙ length_range (λ j. sum_of (bag_at pending.columns j) (bag_at added.columns j)) (length pending.columns) 0 ∙ p.for_view.columns };
  wide = λ d e j. subst (λ bs. HasWidth (bag_at bs j) (key_width d.output)) (sym is) (merged_wide pending.columns added.columns (key_width d.output) (p.wide d e) (q.wide d e) j);
}

-- parts stay parts when something is pending of a view anew
pub parts_pending : (catalog : CatalogOf) (s next : KeptLists) (v : ℕ) (b : PendingOf) → HaveParts catalog s → v < length s.pendings → IsPendingIn catalog v b
    → next.tables ≡ s.tables → next.pendings ≡ set s.pendings v b → next.changes ≡ s.changes → next.known ≡ s.known
    → HaveParts catalog next
parts_pending catalog s next v b p inside is t q c k =
    let at : (u : ℕ) → pending_at next.pendings u ≡ cond (eqb v u) b (pending_at s.pendings u) = λ u. ap (λ ps. pending_at ps u) q ∙ set_at s.pendings v u b (record { view = 0; columns = [] }) inside in
    record {
      catalogue = p.catalogue;
      tables = subst (AreBags catalog) (sym t) p.tables;
      changes = subst (AreBags catalog) (sym c) p.changes;
      each_pending = ap length q ∙ length-set s.pendings v b ∙ p.each_pending;
      pending = λ u m. subst (IsPendingFor catalog u) (sym (at u)) (elim (eqb v u) as (λ t. eqb v u ≡ t → IsPendingFor catalog u (cond t b (pending_at s.pendings u))) [
        | true ↦ λ t. subst (λ w. IsPendingFor catalog w b) (eqb-true v u t) is.for_view
        | false ↦ λ t. p.pending u m
      ] refl);
      wide = λ u e r j. subst (λ (x : PendingOf). HasWidth (bag_at x.columns j) (key_width e.output)) (sym (at u)) (elim (eqb v u) as (λ t. eqb v u ≡ t → HasWidth (bag_at (cond t b (pending_at s.pendings u)).columns j) (key_width e.output)) [
        | true ↦ λ t. is.wide e (ap (definition_of catalog) (eqb-true v u t) ∙ r) j
        | false ↦ λ t. p.wide u e r j
      ] refl);
      each_known = ap length k ∙ p.each_known;
      bases = λ u m e. ap (λ ks. is_known ks u) k ∙ p.bases u m e;
    }

-- and when a view has another table of its width
pub parts_table : (catalog : CatalogOf) (s next : KeptLists) (v : ℕ) (b : Bag) → HaveParts catalog s → v < length catalog.views.children → HasWidth b (width_of catalog v)
    → next.tables ≡ set s.tables v b → next.pendings ≡ s.pendings → next.changes ≡ s.changes → next.known ≡ s.known
    → HaveParts catalog next
parts_table catalog s next v b p inside wide t q c k = record {
  catalogue = p.catalogue;
  tables = subst (AreBags catalog) (sym t) (bags_set catalog s.tables v b p.tables inside wide);
  changes = subst (AreBags catalog) (sym c) p.changes;
  each_pending = ap length q ∙ p.each_pending;
  pending = λ u m. subst (λ ps. IsPendingFor catalog u (pending_at ps u)) (sym q) (p.pending u m);
  wide = λ u e r j. subst (λ ps. HasWidth (bag_at (pending_at ps u).columns j) (key_width e.output)) (sym q) (p.wide u e r j);
  each_known = ap length k ∙ p.each_known;
  bases = λ u m e. ap (λ ks. is_known ks u) k ∙ p.bases u m e;
}

-- to add what a Comp adds is to compute it
pub added_computes : (catalog : CatalogOf) (k : Kept) (v : ℕ) (ys : List ℕ) (added : PendingOf) → added.view ≡ v
    → added.columns ≡ comp_columns (view_of (definition_of catalog v)) (children_of catalog.views.children v) ys k.tables k.changes
    → with_pending (with_added k added) k ≡ computed catalog v ys k
added_computes catalog k v ys added of is = λ i. with_pending (record { view = of i; columns = merged (k.pending (of i)) (is i) }) k

-- the order of two does not matter
pub merged_swap : (a b : List Bag) → length a ≡ length b → merged a b ≡ merged b a
merged_swap a b e = λ i. map (λ j. swap (bag_at a j) (bag_at b j) i) (range_with_len 0 (e i))
  where
    swap : (x y : Bag) → sum_of x y ≡ sum_of y x
    swap x y = same_bag (sum_of x y) (sum_of y x) (λ q. count-sum_of x y q ∙ +ℤ_comm (count x q) (count y q) ∙ sym (count-sum_of y x q))

-- ---- answers

pub if_ok_is : {A : Type 0} (P : A → Type 0) (b : A) (r : Result A MaintFault) → IfOk r (λ x. x ≡ b) → P b → IfOk r P
if_ok_is P b (Ok x) e h = subst P (sym e) h
if_ok_is P b (Err fault) e h = tt

pub on_ok : {A : Type 0} (P Q : Type 0) (r : Result A MaintFault) → (P → Q) → OnOk r P → OnOk r Q
on_ok P Q (Ok x) f h = f h
on_ok P Q (Err fault) f h = tt

pub same_err : {A : Type 0} (r : Result A MaintFault) (a b : MaintFault) → r ≡ Err a → r ≡ Err b → a ≡ b
same_err r a b e f = cc

-- a Comp that was computed was neither too large nor without a value
pub comp_passed : (view : View) (us ys : List ℕ) (tables changes : ℕ → Bag) (v : ℕ) (r : Result PendingOf MaintFault)
    → (IsTooLarge us ys tables changes → r ≡ Err (Large v)) → OnOk r (TermsHaveValues view us ys tables changes) → OnOk r (CanBeComputed view us ys tables changes)
comp_passed view us ys tables changes v (Ok added) large values = record { few = λ big. let e : Ok added ≡ Err (Large v) = large big in cc; values = values }
comp_passed view us ys tables changes v (Err fault) large values = tt

-- and one that was not was refused for its first reason
pub comp_refused : (catalog : CatalogOf) (k : Kept) (v : ℕ) (ys : List ℕ) (r : Result PendingOf MaintFault)
    → ((r ≡ Err (Large v)) ↔ IsTooLarge (children_of catalog.views.children v) ys k.tables k.changes)
    → (r ≡ Err (Range v) → ¬ (TermsHaveValues (view_of (definition_of catalog v)) (children_of catalog.views.children v) ys k.tables k.changes))
    → (r ≡ Err Memory → ¬ (AddsNothing (view_of (definition_of catalog v)) ys k.changes))
    → IfErr r (λ fault. (fault ≡ Memory) ⊎ (fault ≡ Large v) ⊎ (fault ≡ Range v))
    → IfErr r (IsCompFaultIn catalog k v ys)
comp_refused catalog k v ys (Ok added) large range memory one = tt
comp_refused catalog k v ys (Err (Large w)) large range memory one =
    let e : w ≡ v = ⊎_elim (λ e. cc) (λ es. ⊎_elim (λ e. cc) (λ e. cc) es) one in
    (e, large.0 (ap (λ x. Err (Large x)) e))
comp_refused catalog k v ys (Err (Range w)) large range memory one =
    let e : w ≡ v = ⊎_elim (λ e. cc) (λ es. ⊎_elim (λ e. cc) (λ e. cc) es) one in
    (e, λ big. not_both (Err (Range w)) (large.1 big) refl, range (ap (λ x. Err (Range x)) e))
  where
    not_both : (r : Result PendingOf MaintFault) → r ≡ Err (Large v) → r ≡ Err (Range w) → ⊥
    not_both r e f = cc
comp_refused catalog k v ys (Err Memory) large range memory one = memory refl
comp_refused catalog k v ys (Err (Absent w row)) large range memory one = ⊎_elim (λ e. cc) (λ es. ⊎_elim (λ e. cc) (λ e. cc) es) one

-- what a Comp is answered with over these tables and changes, it is answered with over what is kept, which they are
pub compute_answer : (catalog : CatalogOf) (s : KeptLists) (v : ℕ) (ys : List ℕ) (tables changes : List Bag) (r : Result PendingOf MaintFault) → tables ≡ s.tables → changes ≡ s.changes
    → IsCompAnswer (view_of (definition_of catalog v)) (children_of catalog.views.children v) ys (bag_at tables) (bag_at changes) v r → IsComputeAnswer catalog (kept s) v ys r
compute_answer catalog s v ys tables changes r same_tables same_changes is =
    let own : IsCompAnswer (view_of (definition_of catalog v)) (children_of catalog.views.children v) ys (bag_at s.tables) (bag_at s.changes) v r =
    subst (λ (ts : List Bag). IsCompAnswer (view_of (definition_of catalog v)) (children_of catalog.views.children v) ys (bag_at ts) (bag_at s.changes) v r) same_tables
    (subst (λ (ds : List Bag). IsCompAnswer (view_of (definition_of catalog v)) (children_of catalog.views.children v) ys (bag_at tables) (bag_at ds) v r) same_changes is) in
    record {
      pending = comp_pending catalog v (children_of catalog.views.children v) ys (bag_at s.tables) (bag_at s.changes) r own.view own.value;
      value = own.value;
      passed = comp_passed (view_of (definition_of catalog v)) (children_of catalog.views.children v) ys (bag_at s.tables) (bag_at s.changes) v r own.large.1 own.valued;
      refused = comp_refused catalog (kept s) v ys r own.large own.range own.memory own.err;
    }

pub add_refused : (catalog : CatalogOf) (k : Kept) (v : ℕ) (ys : List ℕ) (fault : MaintFault) → IsCompFaultIn catalog k v ys fault → IsAddFaultIn catalog k v ys fault
add_refused catalog k v ys (Large w) f = (f.0, inl f.1)
add_refused catalog k v ys (Range w) f = f
add_refused catalog k v ys Memory f = tt
add_refused catalog k v ys (Absent w row) f = f

pub sources_known : (catalog : CatalogOf) (k after : Kept) (ys : List ℕ) → after ≡ finished catalog (has ys) k → AreKnown after ys
sources_known catalog k after ys e = subst (λ k. AreKnown k ys) (sym e) (λ u m. or_left (has ys u) (k.known u) m)

-- ---- view by view

abbrev pub below : List ℕ → ℕ → ℕ → Bool
below views n u = has views u && ltb u n

pub none_below : (catalog : CatalogOf) (k : Kept) (views : List ℕ) → k ≡ finished catalog (below views 0) k
none_below catalog k views = λ i. record { tables = k.tables; pending = k.pending; changes = λ u. cond (sym (none u) i && not (k.known u)) (change_of (kind_in catalog u) (k.tables u) (bag_at (k.pending u))) (k.changes u); known = λ u. sym (none u) i || k.known u }
  where
    none : (u : ℕ) → below views 0 u ≡ false
    none u = false_from_ne_true (below views 0 u) (λ t. let l : u < 0 = ltb-true u 0 (and_parts (has views u) (ltb u 0) t).1 in absurd (omega arith))

same_tests : (a b : Bool) → (a ≡ true → b ≡ true) → (b ≡ true → a ≡ true) → a ≡ b
same_tests true b f g = sym (f refl)
same_tests false true f g = g refl
same_tests false false f g = refl

pub next_below : (catalog : CatalogOf) (k before after : Kept) (views : List ℕ) (v : ℕ) → has views v ≡ true → before ≡ finished catalog (below views v) k → after ≡ finished catalog (λ u. eqb v u) before
    → after ≡ finished catalog (below views (v + 1)) k
next_below catalog k before after views v m e f =
    f ∙ ap (finished catalog (λ u. eqb v u)) e ∙ finished_more catalog k (below views v) (λ u. eqb v u)
    ∙ finished_same catalog k (λ u. eqb v u || below views v u) (below views (v + 1)) (λ u. same_tests _ _
    (λ t. ⊎_elim
    (λ h. let s = eqb-true v u h in and_from (has views u) (ltb u (v + 1)) (ap (has views) (sym s) ∙ m) (lt-ltb u (v + 1) (omega arith)))
    (λ h. let b = and_parts (has views u) (ltb u v) h in let l : u < v = ltb-true u v b.1 in and_from (has views u) (ltb u (v + 1)) b.0 (lt-ltb u (v + 1) (omega arith)))
    (or_cases (eqb v u) (below views v u) t))
    (λ t. let b = and_parts (has views u) (ltb u (v + 1)) t in let l : u < v + 1 = ltb-true u (v + 1) b.1 in
    ⊎_elim (λ h. or_left (eqb v u) _ (eq-eqb v u (sym h))) (λ h. or_right (eqb v u) _ (and_from (has views u) (ltb u v) b.0 (lt-ltb u v h))) (at_or_below u v l)))
  where
    at_or_below : (u v : ℕ) → u < v + 1 → (u ≡ v) ⊎ (u < v)
    at_or_below u v l = ⊎_elim (λ h. inr h) (λ h. inl (omega arith)) (cases_lt u v)

pub skip_below : (catalog : CatalogOf) (k before : Kept) (views : List ℕ) (v : ℕ) → has views v ≡ false → before ≡ finished catalog (below views v) k → before ≡ finished catalog (below views (v + 1)) k
skip_below catalog k before views v out e =
    e ∙ finished_same catalog k (below views v) (below views (v + 1)) (λ u. same_tests _ _
    (λ t. let b = and_parts (has views u) (ltb u v) t in let l : u < v = ltb-true u v b.1 in and_from (has views u) (ltb u (v + 1)) b.0 (lt-ltb u (v + 1) (omega arith)))
    (λ t. let b = and_parts (has views u) (ltb u (v + 1)) t in let l : u < v + 1 = ltb-true u (v + 1) b.1 in
    ⊎_elim (λ h. and_from (has views u) (ltb u v) b.0 (lt-ltb u v h)) (λ h. let s : u ≡ v = omega arith in absurd (both_ways (has views v) out (ap (has views) (sym s) ∙ b.0))) (cases_lt u v)))

pub all_below : (catalog : CatalogOf) (k after : Kept) (views : List ℕ) (n : ℕ) → ((u : ℕ) → has views u ≡ true → u < n) → after ≡ finished catalog (below views n) k → after ≡ finished catalog (has views) k
all_below catalog k after views n within e =
    e ∙ finished_same catalog k (below views n) (has views) (λ u. same_tests _ _ (λ t. (and_parts (has views u) (ltb u n) t).0) (λ t. and_from (has views u) (ltb u n) t (lt-ltb u n (within u t))))

pub unfinished_first : (catalog : CatalogOf) (k after : Kept) (test : ℕ → Bool) (v : ℕ) (fault : MaintFault) → after ≡ finished catalog test k → IsUnfinishedIn catalog after v fault → IsUnfinishedIn catalog k v fault
unfinished_first catalog k after test v fault e f =
    let g : IsUnfinishedIn catalog (finished catalog test k) v fault = subst (λ k. IsUnfinishedIn catalog k v fault) e f in
    (or_false (test v) (k.known v) g.0, g.1)
  where
    or_false : (t b : Bool) → (t || b) ≡ false → b ≡ false
    or_false true b e = absurd (false≢true (sym e))
    or_false false b e = e

-- to finish the ones below a view does not touch it
pub finishes_first : (catalog : CatalogOf) (k after : Kept) (views : List ℕ) (v : ℕ) → after ≡ finished catalog (below views v) k → CanBeFinishedIn catalog after v → CanBeFinishedIn catalog k v
finishes_first catalog k after views v e can = λ n.
    let later : CanBeFinishedIn catalog (finished catalog (below views v) k) v = subst (λ k. CanBeFinishedIn catalog k v) e can in
    later ((λ i. not_itself i || k.known v) ∙ n)
  where
    not_itself : below views v v ≡ false
    not_itself = false_from_ne_true (below views v v) (λ t. let l : v < v = ltb-true v v (and_parts (has views v) (ltb v v) t).1 in absurd (omega arith))

pub finishes_next : (catalog : CatalogOf) (k : Kept) (views : List ℕ) (v : ℕ) → ((u : ℕ) → u < v → has views u ≡ true → CanBeFinishedIn catalog k u) → (has views v ≡ true → CanBeFinishedIn catalog k v)
    → (u : ℕ) → u < v + 1 → has views u ≡ true → CanBeFinishedIn catalog k u
finishes_next catalog k views v lower here u l m = ⊎_elim
    (λ h. lower u h m)
    (λ h. let s : v ≡ u = omega arith in subst (CanBeFinishedIn catalog k) s (here (ap (has views) s ∙ m)))
    (cases_lt u v)

-- ---- what is left fit, and refusals

pub can_finish_computed : (catalog : CatalogOf) (k after : Kept) (v : ℕ) (ys : List ℕ) (test : ℕ → Bool) → CanFinish catalog k → after ≡ computed catalog v ys (finished catalog test k) → CanFinish catalog after
can_finish_computed catalog k after v ys test can e = subst (CanFinish catalog) (sym e) (λ u l n. can_finish_more catalog k test can u l n)

pub can_finish_installed : (catalog : CatalogOf) (k after : Kept) (v : ℕ) → CanFinish catalog k → after ≡ installed v (finished catalog (λ u. eqb v u) k) → CanFinish catalog after
can_finish_installed catalog k after v can e =
    subst (CanFinish catalog) (sym e) (λ u l n. elim (eqb v u) as (λ t. eqb v u ≡ t → IsFitTable (kind_in catalog u) (cond t (sum_of (k.tables v) ((finished catalog (λ u. eqb v u) k).changes v)) (k.tables u))) [
      | true ↦ λ t. absurd (false≢true (sym n ∙ (λ i. t i || k.known u)))
      | false ↦ λ t. can_finish_more catalog k (λ u. eqb v u) can u l n
    ] refl)

pub merge_refused : (catalog : CatalogOf) (k : Kept) (v : ℕ) (ys : List ℕ) (fault : MaintFault)
    → CanBeComputed (view_of (definition_of catalog v)) (children_of catalog.views.children v) ys k.tables k.changes
    → IsMergeFault v (k.pending v) (comp_columns (view_of (definition_of catalog v)) (children_of catalog.views.children v) ys k.tables k.changes) fault → IsAddFaultIn catalog k v ys fault
merge_refused catalog k v ys (Large w) can f = (f.0, inr (can, f.1))
merge_refused catalog k v ys (Range w) can f = absurd f
merge_refused catalog k v ys Memory can f = tt
merge_refused catalog k v ys (Absent w row) can f = f

pub can_finish_after : (catalog : CatalogOf) (k after : Kept) (test : ℕ → Bool) → CanFinish catalog k → after ≡ finished catalog test k → CanFinish catalog after
can_finish_after catalog k after test can e = subst (CanFinish catalog) (sym e) (can_finish_more catalog k test can)
