-- What the tables of earlier expressions tell once one more is noted.
use Rattle.std.proofs.Common.{◌≡◌, ◌||◌, ℕ, ◌+◌, ◌<◌, ◌≤◌, List, [], ◌∷◌, ◌++◌, Bool, true, false, eqb, refl, sym, ap, ◌∙◌, length, get_or, replicate, set, take, drop, Some, ⊎_elim, arith}
use Rattle.std.specs.List.{list_any}
use Rattle.std.proofs.lemmas.Bool.{cases_Bool, eqb-true, cond-false, ne_eqb, eq-eqb, false≢true}
use Rattle.std.proofs.lemmas.List.{get_or-replicate, get_or-set_other, get_or-set_same, length-replicate, length-set, drop_more, take_more}
use Rattle.std.proofs.Math.Bool.{or_assoc}
use Rattle.std.proofs.lemmas.List.Folds.{list_any-append}
use Rattle.wh_dag.specs.Shape.{has}
use Rattle.wh_strategy.specs.Earlier.{TellsInstalled, TellsTaken, TellsRead}
use Rattle.wh_strategy.specs.Tests.{is_broken, place_from}
use Rattle.wh_strategy.specs.declared.expression.Expression.{Expression}
use Rattle.wh_strategy.specs.declared.rule.Rule.{Rule}

or_false : (b : Bool) → (b || false) ≡ b
or_false true = refl
or_false false = refl

or_true : (b : Bool) → (b || true) ≡ true
or_true true = refl
or_true false = refl

-- ---- before the first place

pub installed_none : TellsInstalled (replicate 64 false) []
installed_none = record { many = length-replicate 64 false; told = λ u l. get_or-replicate 64 u false false l }

pub taken_none : TellsTaken (replicate 64 (replicate 64 false)) []
taken_none = record {
  many = length-replicate 64 (replicate 64 false);
  wide = λ v l. ap length (get_or-replicate 64 v (replicate 64 false) [] l) ∙ length-replicate 64 false;
  told = λ v u l m. ap (λ r. get_or r u false) (get_or-replicate 64 v (replicate 64 false) [] l) ∙ get_or-replicate 64 u false false m;
}

pub read_none : TellsRead (replicate 64 false) []
read_none = record { many = length-replicate 64 false; told = λ v l. get_or-replicate 64 v false false l }

-- ---- marking views in a row

-- the row has what the old one had, and these views
pub record IsMarked (row old : List Bool) (views : List ℕ) : Type 0 where
  pub many : length row ≡ length old
  pub marked : (u : ℕ) → u < 64 → get_or row u false ≡ (get_or old u false || has views u)

has_more : (views : List ℕ) (i u : ℕ) → i < length views → has (take (i + 1) views) u ≡ (has (take i views) u || eqb (get_or views i 0) u)
unfolding has
has_more views i u l =
    ap (λ xs. list_any (λ w. eqb w u) xs) (take_more views i 0 l) ∙ list_any-append (λ w. eqb w u) (take i views) (get_or views i 0 ∷ [])
    ∙ ap (λ b. list_any (λ w. eqb w u) (take i views) || b) (or_false (eqb (get_or views i 0) u))

pub marked_none : (old : List Bool) → IsMarked old old []
unfolding has
marked_none old = record { many = refl; marked = λ u l. sym (or_false (get_or old u false)) }

-- one view more: the row that has its mark, or the same row where it is a number past 64
next_marked : (row old next : List Bool) (views : List ℕ) (i : ℕ) → i < length views → length next ≡ length old → IsMarked row old (take i views)
    → ((u : ℕ) → u < 64 → get_or next u false ≡ (get_or row u false || eqb (get_or views i 0) u)) → IsMarked next old (take (i + 1) views)
next_marked row old next views i l many is step = record {
  many = many;
  marked = λ u k. step u k ∙ ap (λ b. b || eqb (get_or views i 0) u) (is.marked u k) ∙ or_assoc (get_or old u false) (has (take i views) u) (eqb (get_or views i 0) u)
      ∙ ap (λ b. get_or old u false || b) (sym (has_more views i u l));
}

pub marked_more : (row old : List Bool) (views : List ℕ) (i : ℕ) → i < length views → get_or views i 0 < length row → IsMarked row old (take i views) → IsMarked (set row (get_or views i 0) true) old (take (i + 1) views)
marked_more row old views i l within is =
    next_marked row old (set row (get_or views i 0) true) views i l (length-set row (get_or views i 0) true ∙ is.many) is
    (λ u k. ⊎_elim
    (λ same. ap (λ w. get_or (set row (get_or views i 0) true) w false) (sym (eqb-true (get_or views i 0) u same)) ∙ get_or-set_same row (get_or views i 0) true false within
    ∙ sym (ap (λ b. get_or row u false || b) same ∙ or_true (get_or row u false)))
    (λ apart. get_or-set_other row (get_or views i 0) u true false (λ e. false≢true (sym apart ∙ eq-eqb (get_or views i 0) u (sym e)))
    ∙ sym (ap (λ b. get_or row u false || b) apart ∙ or_false (get_or row u false)))
    (cases_Bool (eqb (get_or views i 0) u)))

pub marked_same : (row old : List Bool) (views : List ℕ) (i : ℕ) → i < length views → 64 ≤ get_or views i 0 → IsMarked row old (take i views) → IsMarked row old (take (i + 1) views)
marked_same row old views i l past is =
    next_marked row old row views i l is.many is
    (λ u k. sym (ap (λ b. get_or row u false || b) (ne_eqb (get_or views i 0) u (λ e. let bad : ⊥ = omega arith in bad)) ∙ or_false (get_or row u false)))

-- ---- one place further

pub take_next : (list : List Expression) (i : ℕ) (e : Expression) → i < length list → e ≡ get_or list i e → take i list ++ e ∷ [] ≡ take (i + 1) list
take_next list i e l at = ap (λ x. take i list ++ x ∷ []) at ∙ sym (take_more list i e l)

pub place_next : (rule : Rule) (shape : List (List ℕ)) (list : List Expression) (i : ℕ) (e : Expression) → i < length list → e ≡ get_or list i e
    → is_broken rule shape (take i list) e ≡ false → place_from rule shape (take i list) (drop i list) ≡ place_from rule shape (take (i + 1) list) (drop (i + 1) list)
unfolding place_from
place_next rule shape list i e l at kept =
    ap (place_from rule shape (take i list)) (drop_next list i e l at)
    ∙ cond-false (is_broken rule shape (take i list) e) (Some (length (take i list) + 1)) (place_from rule shape (take i list ++ e ∷ []) (drop (i + 1) list)) kept
    ∙ ap (λ before. place_from rule shape before (drop (i + 1) list)) (take_next list i e l at)
  where
    drop_next : (list : List Expression) (i : ℕ) (e : Expression) → i < length list → e ≡ get_or list i e → drop i list ≡ e ∷ drop (i + 1) list
    drop_next list i e l at = drop_more list i e l ∙ ap (λ x. x ∷ drop (i + 1) list) (sym at)
