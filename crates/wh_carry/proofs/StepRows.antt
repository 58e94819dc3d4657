-- What the expressions of a correct strategy read and write, from whatever tables it is carried out.
use Rattle.std.proofs.Common.{◌≡◌, ℕ, zero, suc, ◌+◌, ◌^◌, ◌-◌, ◌<◌, ◌≤◌, refl, sym, ap, ◌∙◌, Bool, true, false, cond, eqb, List, length, Some, ⊎_elim, arith}
use Rattle.std.specs.List.{sum_by}
use Rattle.std.proofs.Math.Nat.{min-eq_left}
use Rattle.std.proofs.lemmas.Bool.{cases_Bool, cases_lt, eq-eqb, eqb-true, or_parts, false_from_ne_true}
use Rattle.wh_dag.specs.Shape.{has, children_of}
use Rattle.wh_dag.specs.Parts.{parts}
use Rattle.wh_strategy.specs.declared.expression.Expression.{Expression}
use Rattle.wh_strategy.specs.declared.expression.Expression.TheVariants.{Comp, Inst}
use Rattle.wh_strategy.specs.Expression.{At, is_inst, is_new}
use Rattle.wh_strategy.specs.Rules.{IsCorrect}
use Rattle.wh_strategy.specs.Work.{state, term}
use Rattle.wh_strategy.proofs.Found.{inst_of_new, is_that_inst, old_before}
use Rattle.wh_strategy.proofs.PlaceCosts.{cost_of_comp, cost_of_inst}
use Rattle.wh_row.specs.Bag.{Bag, size, sum_of, difference_of}
use Rattle.wh_maint.specs.View.{View, ViewGraph, column}
use Rattle.wh_maint.specs.Summary.{change_of}
use Rattle.wh_maint.specs.Size.{capped, operand_rows_of}
use Rattle.wh_maint.specs.Comp.{at_set, comp}
use Rattle.wh_maint.specs.Laws.{AreAmong}
use Rattle.wh_maint.specs.Definition.{graph_of}
use Rattle.wh_maint.specs.Contents.{if_base}
use Rattle.wh_maint.proofs.Differences.{is_difference}
use Rattle.wh_carry.specs.Carry.{State, at_first, change_in, step, carried, before, tables_after}
use Rattle.wh_carry.specs.Steps.{true_sizes, one_each, rows_at}
use Rattle.wh_carry.specs.Laws.{StepsAreSummands}
use Rattle.wh_carry.proofs.Prefixes.{take_whole, there, place_within, before_next, new_next}
use Rattle.wh_carry.proofs.Stands.{graph, mixed}
use Rattle.wh_carry.proofs.PartReads.{parts_among, sum_by-each, sum_by-members, all_mono}

-- an expression that does not install a view leaves its table
same_table : (g : ViewGraph) (changes : ℕ → Bag) (e : Expression) (s : State) (u : ℕ) → is_inst u e ≡ false → (step g changes e s).tables u ≡ s.tables u
same_table g changes (Comp v ys) s u n = refl
same_table g changes (Inst v) s u n = λ i. cond (n i) (sum_of (s.tables v) (change_in g changes s v)) (s.tables u)

-- and one that is no Comp of it leaves what is pending
same_pending : (g : ViewGraph) (changes : ℕ → Bag) (e : Expression) (s : State) (u : ℕ) → ((ys : List ℕ) → ¬ (e ≡ Comp u ys)) → (step g changes e s).pending u ≡ s.pending u
same_pending g changes (Inst v) s u n = refl
same_pending g changes (Comp v ys) s u n =
    let out : eqb v u ≡ false = false_from_ne_true (eqb v u) (λ t. n ys (ap (λ w. Comp w ys) (eqb-true v u t))) in
    λ i. cond (out i) (λ j. sum_of (s.pending v j) (comp (column (g.views v) j) (g.children v) ys s.tables (change_in g changes s))) (s.pending u)

module _ (shape : List (List ℕ)) (views : ℕ → View) (list : List Expression) (old changes : ℕ → Bag) (ok : IsCorrect shape list) where
  is_old : (p u : ℕ) → p ≤ length list → is_new list p u ≡ false → (before (graph shape views) changes list old p).tables u ≡ old u
  unfolding carried
  is_old zero u l n = refl
  is_old (suc p) u l n =
      let r = there list p (omega arith) in
      let both = or_parts (is_inst u r.0) (is_new list p u) (sym (new_next list p r.0 u r.1) ∙ n) in
      ap (λ s. s.tables u) (before_next (graph shape views) changes list old p r.0 r.1)
      ∙ same_table (graph shape views) changes r.0 (before (graph shape views) changes list old p) u both.0
      ∙ is_old p u (omega arith) both.1

  -- once it is installed, a table stays
  stays : (q p u : ℕ) → At list q (Inst u) → q < p → p ≤ length list → (before (graph shape views) changes list old p).tables u ≡ (before (graph shape views) changes list old (suc q)).tables u
  stays q zero u at k l = absurd (omega arith)
  stays q (suc p) u at k l =
      ⊎_elim
      (λ m.
      let r = there list p (omega arith) in
      ap (λ s. s.tables u) (before_next (graph shape views) changes list old p r.0 r.1)
      ∙ same_table (graph shape views) changes r.0 (before (graph shape views) changes list old p) u
      (false_from_ne_true (is_inst u r.0) (λ t. let e : q ≡ p = ok.one_inst q p u at (r.1 ∙ ap Some (is_that_inst u r.0 t)) in omega arith))
      ∙ stays q p u at m (omega arith))
      (λ m. let e : p ≡ q = omega arith in ap (λ n. (before (graph shape views) changes list old (suc n)).tables u) e)
      (cases_lt q p)

  after_inst : (q u : ℕ) → At list q (Inst u) → tables_after (graph shape views) changes list old u ≡ (before (graph shape views) changes list old (suc q)).tables u
  after_inst q u at =
      ap (λ l. (carried (graph shape views) changes l (at_first old)).tables u) (sym (take_whole list))
      ∙ stays q (length list) u at (place_within list q (Inst u) at) (omega arith)

  -- the table before a place is the old one or the one at the end
  pub table_at : (p u : ℕ) → p ≤ length list → u < length shape
      → (before (graph shape views) changes list old p).tables u ≡ mixed (is_new list p) (tables_after (graph shape views) changes list old) old u
  table_at p u l k =
      ⊎_elim
      (λ t.
      let r = inst_of_new list p u t in
      stays r.0 p u r.1 r.2 l ∙ sym (after_inst r.0 u r.1) ∙ (λ i. cond (sym t i) (tables_after (graph shape views) changes list old u) (old u)))
      (λ n. is_old p u l n ∙ (λ i. cond (sym n i) (tables_after (graph shape views) changes list old u) (old u)))
      (cases_Bool (is_new list p u))

  pending_stays : (p k u : ℕ) → p + k ≤ length list → ((c : ℕ) (ys : List ℕ) → At list c (Comp u ys) → c < p)
      → (before (graph shape views) changes list old (p + k)).pending u ≡ (before (graph shape views) changes list old p).pending u
  pending_stays p zero u l first = let e : p + 0 ≡ p = omega arith in ap (λ n. (before (graph shape views) changes list old n).pending u) e
  pending_stays p (suc k) u l first =
      let e : p + suc k ≡ suc (p + k) = omega arith in
      let r = there list (p + k) (omega arith) in
      ap (λ n. (before (graph shape views) changes list old n).pending u) e
      ∙ ap (λ s. s.pending u) (before_next (graph shape views) changes list old (p + k) r.0 r.1)
      ∙ same_pending (graph shape views) changes r.0 (before (graph shape views) changes list old (p + k)) u (λ ys e. let m : p + k < p = first (p + k) ys (r.1 ∙ ap Some e) in omega arith)
      ∙ pending_stays p k u (omega arith) first

  -- up to its Inst a table is the old one
  old_until : (p q u : ℕ) → At list q (Inst u) → p ≤ q → (before (graph shape views) changes list old p).tables u ≡ old u
  old_until p q u at l =
      let inside = place_within list q (Inst u) at in
      is_old p u (omega arith) (old_before list p u (λ r a. let s : r ≡ q = ok.one_inst r q u a at in omega arith))

  -- from a place on that has all its Comps before it and not its Inst, a view has the table and the pending columns that its Inst finds
  pub whole_at : (p q u : ℕ) → At list q (Inst u) → p ≤ q → ((c : ℕ) (ys : List ℕ) → At list c (Comp u ys) → c < p)
      → ((before (graph shape views) changes list old p).tables u ≡ (before (graph shape views) changes list old q).tables u)
      × ((before (graph shape views) changes list old p).pending u ≡ (before (graph shape views) changes list old q).pending u)
  whole_at p q u at l first =
      let k : ℕ = q - p in
      let e : p + k ≡ q = omega arith in
      let inside = place_within list q (Inst u) at in (
        old_until p q u at l ∙ sym (old_until q q u at (omega arith)),
        sym (ap (λ n. (before (graph shape views) changes list old n).pending u) (sym e) ∙ pending_stays p k u (omega arith) first),
      )

  -- and its change is what it gains in the end
  pub change_at : (p q u : ℕ) → At list q (Inst u) → p ≤ q → ((c : ℕ) (ys : List ℕ) → At list c (Comp u ys) → c < p)
      → change_in (graph shape views) changes (before (graph shape views) changes list old p) u ≡ difference_of (tables_after (graph shape views) changes list old u) (old u)
  change_at p q u at l first =
      let whole = whole_at p q u at l first in
      let same : change_in (graph shape views) changes (before (graph shape views) changes list old p) u ≡ change_in (graph shape views) changes (before (graph shape views) changes list old q) u =
      λ i. if_base (children_of shape u) (changes u) (change_of (views u).kind (whole.0 i) (whole.1 i)) in
      let gained : tables_after (graph shape views) changes list old u ≡ sum_of (old u) (change_in (graph shape views) changes (before (graph shape views) changes list old q) u) =
      after_inst q u at
      ∙ ap (λ s. s.tables u) (before_next (graph shape views) changes list old q (Inst u) at)
      ∙ (λ i. cond (eq-eqb u u refl i) (sum_of ((before (graph shape views) changes list old q).tables u) (change_in (graph shape views) changes (before (graph shape views) changes list old q) u)) ((before (graph shape views) changes list old q).tables u))
      ∙ ap (λ b. sum_of b (change_in (graph shape views) changes (before (graph shape views) changes list old q) u)) (old_until q q u at (omega arith)) in
      same ∙ is_difference (tables_after (graph shape views) changes list old u) (old u) (change_in (graph shape views) changes (before (graph shape views) changes list old q) u) gained

  -- so it is where an Inst or a Comp needs its change
  pub whole_at_inst : (p q v : ℕ) → At list p (Inst v) → At list q (Inst v)
      → ((before (graph shape views) changes list old p).tables v ≡ (before (graph shape views) changes list old q).tables v)
      × ((before (graph shape views) changes list old p).pending v ≡ (before (graph shape views) changes list old q).pending v)
  whole_at_inst p q v at inst = let e : p ≡ q = ok.one_inst p q v at inst in whole_at p q v inst (omega arith) (λ c ys a. ok.own_inst c p v ys a at)

  pub whole_at_comp : (p q v : ℕ) (ys : List ℕ) → At list p (Comp v ys) → (u : ℕ) → has ys u ≡ true → At list q (Inst u)
      → ((before (graph shape views) changes list old p).tables u ≡ (before (graph shape views) changes list old q).tables u)
      × ((before (graph shape views) changes list old p).pending u ≡ (before (graph shape views) changes list old q).pending u)
  whole_at_comp p q v ys at u m inst =
      let k : p < q = ok.before_inst p q v u ys at m inst in
      whole_at p q u inst (omega arith) (λ c zs a. ok.changes_first c p u v zs ys a at m)

  -- an Inst finds all Comps of its view before it, and a Comp those of its sources
  pub change_at_inst : (p v : ℕ) → At list p (Inst v)
      → change_in (graph shape views) changes (before (graph shape views) changes list old p) v ≡ difference_of (tables_after (graph shape views) changes list old v) (old v)
  change_at_inst p v at = change_at p p v at (omega arith) (λ c ys a. ok.own_inst c p v ys a at)

  pub change_at_comp : (p v : ℕ) (ys : List ℕ) → At list p (Comp v ys) → (u : ℕ) → has ys u ≡ true → u < length shape
      → change_in (graph shape views) changes (before (graph shape views) changes list old p) u ≡ difference_of (tables_after (graph shape views) changes list old u) (old u)
  change_at_comp p v ys at u m l =
      let i = ok.an_inst u l in
      let k : p < i.0 = ok.before_inst p i.0 v u ys at m i.1 in
      change_at p i.0 u i.1 (omega arith) (λ c zs a. ok.changes_first c p u v zs ys a at m)

  -- each term of a Comp reads what work counts
  term_at : (p v : ℕ) (ys part : List ℕ) → At list p (Comp v ys) → ((u : ℕ) → has (children_of shape v) u ≡ true → u < length shape) → AreAmong part ys
      → sum_by (at_set part (λ u. size (change_in (graph shape views) changes (before (graph shape views) changes list old p) u)) (λ u. size ((before (graph shape views) changes list old p).tables u))) (children_of shape v)
      ≡ term (true_sizes old (tables_after (graph shape views) changes list old)) list p (children_of shape v) part
  term_at p v ys part at within among =
      let s : State = before (graph shape views) changes list old p in
      let end : ℕ → Bag = tables_after (graph shape views) changes list old in
      let inside = place_within list p (Comp v ys) at in
      sum_by-members
      (at_set part (λ u. size (change_in (graph shape views) changes s u)) (λ u. size (s.tables u)))
      (λ u. cond (has part u) (true_sizes old end u).change (state (true_sizes old end) list p u))
      (children_of shape v)
      (λ u m. elim (has part u) as (λ t. has part u ≡ t → cond t (size (change_in (graph shape views) changes s u)) (size (s.tables u)) ≡ cond t (true_sizes old end u).change (state (true_sizes old end) list p u)) [
        | true ↦ λ t. ap size (change_at_comp p v ys at u (among u t) (within u m))
        | false ↦ λ t. ap size (table_at p u (omega arith) (within u m)) ∙ size_cond (is_new list p u) (end u) (old u)
      ] refl)
    where
      size_cond : (t : Bool) (a b : Bag) → size (cond t a b) ≡ cond t (size a) (size b)
      size_cond true a b = refl
      size_cond false a b = refl

  pub comp_reads : (p v : ℕ) (ys : List ℕ) → At list p (Comp v ys) → ((u : ℕ) → has (children_of shape v) u ≡ true → u < length shape)
      → operand_rows_of (children_of shape v) ys (before (graph shape views) changes list old p).tables (change_in (graph shape views) changes (before (graph shape views) changes list old p))
      ≡ rows_at shape list old (tables_after (graph shape views) changes list old) p
  comp_reads p v ys at within =
      let s : State = before (graph shape views) changes list old p in
      let end : ℕ → Bag = tables_after (graph shape views) changes list old in
      let sums = sum_by-each
      (λ part. sum_by (at_set part (λ u. size (change_in (graph shape views) changes s u)) (λ u. size (s.tables u))) (children_of shape v))
      (term (true_sizes old end) list p (children_of shape v))
      (parts ys)
      (all_mono (λ part. AreAmong part ys) _ (parts ys) (λ part among. term_at p v ys part at within among) (parts_among ys ys (λ u t. t))) in
      ap capped (sums ∙ omega arith ∙ sym (cost_of_comp shape (true_sizes old end) one_each list p v ys at))

  pub inst_writes : (p v : ℕ) → At list p (Inst v) → size (change_in (graph shape views) changes (before (graph shape views) changes list old p) v) < 2 ^ 128
      → size (change_in (graph shape views) changes (before (graph shape views) changes list old p) v) ≡ rows_at shape list old (tables_after (graph shape views) changes list old) p
  inst_writes p v at small =
      let end : ℕ → Bag = tables_after (graph shape views) changes list old in
      let n : ℕ = size (change_in (graph shape views) changes (before (graph shape views) changes list old p) v) in
      let e : n ≡ size (difference_of (end v) (old v)) = ap size (change_at_inst p v at) in
      sym (min-eq_left (let l : n < 2 ^ 128 = small in omega arith)) ∙ ap capped (e ∙ omega arith ∙ sym (cost_of_inst shape (true_sizes old end) one_each list p v at))

pub steps_are_summands : StepsAreSummands
steps_are_summands = λ catalog list tables changes is ok. record {
  comps = λ p v ys at. comp_reads catalog.views.children (graph_of catalog).views list tables changes ok p v ys at
      (λ u m. let k : u < v = is.shape.lower v u m in let l = (ok.allowed p v ys at).0 in omega arith);
  insts = λ p v at small. inst_writes catalog.views.children (graph_of catalog).views list tables changes ok p v at small;
}
