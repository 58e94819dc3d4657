-- Tests of the sources of a Comp.
use Rattle.std.proofs.Common.{◌≡◌, ◌↔◌, ℕ, ◌≤◌, Bool, length, arith, refl, sym, ap, ◌∙◌, subst, true, false, List, [], ◌∷◌, ⊎_elim}
use Rattle.std.specs.Prelude.{◌==◌}
use Rattle.std.proofs.lemmas.Bool.{and_parts, and_from, or_cases, eqb-true, false≢true, not_from_false, cases_Bool, both_ways, not_from_true}
use Rattle.wh_dag.specs.Shape.{has, Distinct}
use Rattle.wh_maint.specs.Laws.{AreAmong}
use Rattle.wh_maint.specs.Inner.Asked.{are_among, are_distinct}
use Rattle.wh_maint.proofs.Telescope.{has_first, has_rest}

among_all : (us others : List ℕ) → are_among us others ≡ true → AreAmong us others
unfolding has
among_all [] others t = λ u m. absurd (false≢true m)
among_all (u ∷ us) others t = let p = and_parts _ _ t in λ w m. ⊎_elim
    (λ e. subst (λ x. has others x ≡ true) (eqb-true u w e) p.0)
    (λ e. among_all us others p.1 w e)
    (or_cases _ _ m)

all_among : (us others : List ℕ) → AreAmong us others → are_among us others ≡ true
all_among [] others h = refl
all_among (u ∷ us) others h = and_from _ _ (h u (has_first u us)) (all_among us others (λ w m. h w (has_rest u us w m)))

distinct_all : (us : List ℕ) → are_distinct us ≡ true → Distinct us
unfolding Distinct
distinct_all [] t = tt
distinct_all (u ∷ us) t = let p = and_parts _ _ t in
    (⊎_elim (λ s. absurd (both_ways _ (not_from_true _ s) p.0)) (λ f. f) (cases_Bool (has us u)), distinct_all us p.1)

all_distinct : (us : List ℕ) → Distinct us → are_distinct us ≡ true
unfolding Distinct
all_distinct [] d = refl
all_distinct (u ∷ us) d = and_from _ _ (not_from_false _ d.0) (all_distinct us d.1)

pub among_told : (us others : List ℕ) → (are_among us others ≡ true) ↔ AreAmong us others
among_told us others = (among_all us others, all_among us others)

pub distinct_told : (us : List ℕ) → (are_distinct us ≡ true) ↔ Distinct us
distinct_told us = (distinct_all us, all_distinct us)

pub among_other : (us others same : List ℕ) → others ≡ same → (b : Bool) → b ≡ are_among us others → (b ≡ true) ↔ AreAmong us same
among_other us others same e b is =
    (λ t. (among_told us same).0 (ap (are_among us) (sym e) ∙ sym is ∙ t), λ h. is ∙ ap (are_among us) e ∙ (among_told us same).1 h)

pub some_of : (us : List ℕ) (b : Bool) → b ≡ (length us == 0) → b ≡ false → 1 ≤ length us
some_of [] b is f = absurd (both_ways b f is)
some_of (u ∷ us) b is f = omega arith
