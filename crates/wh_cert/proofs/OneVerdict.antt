-- A certificate has one verdict only.
use Rattle.std.proofs.Common.{◌≡◌, ℕ, zero, suc, ◌+◌, ◌<◌, List, [], ◌∷◌, refl, sym, ap, ◌∙◌, subst, take, Some, ⊎_elim, arith}
use Rattle.std.specs.Prelude.{slice_get}
use Rattle.std.specs.List.{All as Each}
use Rattle.std.proofs.lemmas.Bool.{cases_order}
use Rattle.std.proofs.lemmas.Option.{get_or_from_slice_get, slice_get_within}
use Rattle.wh_strategy.specs.Prices.{Prices}
use Rattle.wh_strategy.specs.declared.sizes.Size.{Size}
use Rattle.wh_cert.specs.Bound.{pair_bound_of}
use Rattle.wh_cert.specs.Search.{Placed, IsGoodNode, IsAcceptedTree, IsFirstBad, nodes_of}
use Rattle.wh_cert.specs.Tree.{CaseTree, tree_of}
use Rattle.wh_cert.specs.declared.certificate.Certificate.{Certificate}
use Rattle.wh_cert.specs.declared.certificate.Certificate.TheVariants.{Pairs, Search}
use Rattle.wh_cert.specs.declared.certificate.PairMin.{PairMin}
use Rattle.wh_cert.specs.declared.certificate.Verdict.{Verdict}
use Rattle.wh_cert.specs.declared.certificate.Verdict.TheVariants.{All, OneWay, Rejected}
use Rattle.wh_cert.specs.Certificate.{DifferFirst, IsAccepted, IsRejected, wrong_line, other_work, IsJudged, lines_of}

get_taken : (xs : List PairMin) (n i : ℕ) → i < n → slice_get (take n xs) i ≡ slice_get xs i
get_taken [] zero i l = refl
get_taken [] (suc n) i l = refl
get_taken (x ∷ xs) zero i l = absurd (omega arith)
get_taken (x ∷ xs) (suc n) zero l = refl
get_taken (x ∷ xs) (suc n) (suc i) l = get_taken xs n i (omega arith)

not_earlier : (lines right : List PairMin) (a b : ℕ) (first : DifferFirst lines right a) (second : DifferFirst lines right b) → first.index < second.index → ⊥
not_earlier lines right a b first second l =
    first.differ
    (sym (get_taken lines second.index first.index l)
    ∙ ap (λ xs. slice_get xs first.index) second.same
    ∙ get_taken right second.index first.index l)

one_line : (lines right : List PairMin) (a b : ℕ) → DifferFirst lines right a → DifferFirst lines right b → a ≡ b
one_line lines right a b first second =
    let i : a ≡ first.index + 1 = first.counted in
    let j : b ≡ second.index + 1 = second.counted in
    ⊎_elim
    (λ e. omega arith)
    (λ r. ⊎_elim
    (λ l. absurd (not_earlier lines right a b first second l))
    (λ l. absurd (not_earlier lines right b a second first l))
    r)
    (cases_order first.index second.index)

not_all : (shape : List (List ℕ)) (sizes : ℕ → Size) (work bound : ℕ) (lines : List PairMin) (line : ℕ) → IsAccepted shape sizes work bound lines → IsRejected shape sizes work bound lines line → ⊥
not_all shape sizes work bound lines line a (wrong_line d) = d.differ (ap (λ xs. slice_get xs d.index) a.right)
not_all shape sizes work bound lines line a (other_work z e n) = n a.reached

same_line : (shape : List (List ℕ)) (sizes : ℕ → Size) (work bound : ℕ) (lines : List PairMin) (a b : ℕ) → IsRejected shape sizes work bound lines a → IsRejected shape sizes work bound lines b → a ≡ b
same_line shape sizes work bound lines a b (wrong_line d) (wrong_line d') = one_line lines (lines_of shape sizes) a b d d'
same_line shape sizes work bound lines a b (wrong_line d) (other_work z e n) = absurd (d.differ (ap (λ xs. slice_get xs d.index) e))
same_line shape sizes work bound lines a b (other_work z e n) (wrong_line d) = absurd (d.differ (ap (λ xs. slice_get xs d.index) e))
same_line shape sizes work bound lines a b (other_work z e n) (other_work z' e' n') = z ∙ sym z'

-- a tree with a bad node is not accepted, and one bad node is the first
not_both_trees : (P : Placed → Type 0) (xs : List Placed) (k : ℕ) (p : Placed) → Each P xs → slice_get xs k ≡ Some p → (P p → ⊥) → ⊥
not_both_trees P xs k p all at bad = bad (subst P (get_or_from_slice_get xs k p p at) (all k p (slice_get_within xs k p at)))

get_placed : (xs : List Placed) (n i : ℕ) → i < n → slice_get (take n xs) i ≡ slice_get xs i
get_placed [] zero i l = refl
get_placed [] (suc n) i l = refl
get_placed (x ∷ xs) zero i l = absurd (omega arith)
get_placed (x ∷ xs) (suc n) zero l = refl
get_placed (x ∷ xs) (suc n) (suc i) l = get_placed xs n i (omega arith)

not_before : (shape : List (List ℕ)) (sizes : ℕ → Size) (prices : Prices) (work : ℕ) (tree : CaseTree) (a b : ℕ) (first : IsFirstBad shape sizes prices work tree a) (second : IsFirstBad shape sizes prices work tree b) → first.index < second.index → ⊥
not_before shape sizes prices work tree a b first second l =
    not_both_trees (IsGoodNode shape sizes prices work) (take second.index (nodes_of tree)) first.index first.placed second.earlier
    (get_placed (nodes_of tree) second.index first.index l ∙ first.there) first.bad

one_node : (shape : List (List ℕ)) (sizes : ℕ → Size) (prices : Prices) (work : ℕ) (tree : CaseTree) (a b : ℕ) → IsFirstBad shape sizes prices work tree a → IsFirstBad shape sizes prices work tree b → a ≡ b
one_node shape sizes prices work tree a b first second =
    let i : a ≡ first.index + 1 = first.counted in
    let j : b ≡ second.index + 1 = second.counted in
    ⊎_elim
    (λ e. omega arith)
    (λ r. ⊎_elim
    (λ l. absurd (not_before shape sizes prices work tree a b first second l))
    (λ l. absurd (not_before shape sizes prices work tree b a second first l))
    r)
    (cases_order first.index second.index)

not_accepted : (shape : List (List ℕ)) (sizes : ℕ → Size) (prices : Prices) (work : ℕ) (tree : CaseTree) (place : ℕ) → IsAcceptedTree shape sizes prices work tree → IsFirstBad shape sizes prices work tree place → ⊥
not_accepted shape sizes prices work tree place all first = not_both_trees (IsGoodNode shape sizes prices work) (nodes_of tree) first.index first.placed all first.there first.bad

pub verdicts_same : (shape : List (List ℕ)) (sizes : ℕ → Size) (prices : Prices) (work : ℕ) (certificate : Certificate) (verdict other : Verdict) → IsJudged shape sizes prices work certificate verdict → IsJudged shape sizes prices work certificate other → verdict ≡ other
verdicts_same shape sizes prices work (Pairs lines) All All a b = refl
verdicts_same shape sizes prices work (Pairs lines) All OneWay a b = absurd b
verdicts_same shape sizes prices work (Pairs lines) All (Rejected line) a b = absurd (not_all shape sizes work (pair_bound_of shape sizes prices) lines line a b)
verdicts_same shape sizes prices work (Pairs lines) OneWay other a b = absurd a
verdicts_same shape sizes prices work (Pairs lines) (Rejected line) All a b = absurd (not_all shape sizes work (pair_bound_of shape sizes prices) lines line b a)
verdicts_same shape sizes prices work (Pairs lines) (Rejected line) OneWay a b = absurd b
verdicts_same shape sizes prices work (Pairs lines) (Rejected line) (Rejected line') a b = ap Rejected (same_line shape sizes work (pair_bound_of shape sizes prices) lines line line' a b)
verdicts_same shape sizes prices work (Search nodes) All other a b = absurd a
verdicts_same shape sizes prices work (Search nodes) OneWay All a b = absurd b
verdicts_same shape sizes prices work (Search nodes) OneWay OneWay a b = refl
verdicts_same shape sizes prices work (Search nodes) OneWay (Rejected place) a b = absurd (not_accepted shape sizes prices work (tree_of nodes) place a.1 b.1)
verdicts_same shape sizes prices work (Search nodes) (Rejected place) All a b = absurd b
verdicts_same shape sizes prices work (Search nodes) (Rejected place) OneWay a b = absurd (not_accepted shape sizes prices work (tree_of nodes) place b.1 a.1)
verdicts_same shape sizes prices work (Search nodes) (Rejected place) (Rejected place') a b = ap Rejected (one_node shape sizes prices work (tree_of nodes) place place' a.1 b.1)
