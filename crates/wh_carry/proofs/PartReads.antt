-- Sums over the parts of a list of sources.
use Rattle.std.proofs.Common.{◌≡◌, ℕ, ◌+◌, refl, sym, ap, ◌∙◌, true, eqb, List, [], ◌∷◌, ◌++◌, map, ⊎_elim}
use Rattle.std.specs.List.{AllByRecursion, sum_by}
use Rattle.std.proofs.lemmas.Bool.{eqb-true, or_cases, false≢true}
use Rattle.std.proofs.lemmas.List.Sums.{sum_by-cons}
use Rattle.wh_dag.specs.Shape.{has}
use Rattle.wh_dag.specs.Parts.{parts}
use Rattle.wh_maint.specs.Laws.{AreAmong}
use Rattle.wh_maint.proofs.Telescope.{has_first, has_rest}

all_append : (P : List ℕ → Type 0) (xs ys : List (List ℕ)) → AllByRecursion P xs → AllByRecursion P ys → AllByRecursion P (xs ++ ys)
all_append P [] ys a b = b
all_append P (x ∷ xs) ys a b = (a.0, all_append P xs ys a.1 b)

all_map : (P Q : List ℕ → Type 0) (f : List ℕ → List ℕ) (xs : List (List ℕ)) → ((x : List ℕ) → P x → Q (f x)) → AllByRecursion P xs → AllByRecursion Q (map f xs)
all_map P Q f [] h a = tt
all_map P Q f (x ∷ xs) h a = (h x a.0, all_map P Q f xs h a.1)

with_member : (y : ℕ) (part all : List ℕ) → has all y ≡ true → AreAmong part all → AreAmong (y ∷ part) all
unfolding has
with_member y part all m h u t = ⊎_elim (λ e. ap (has all) (sym (eqb-true y u e)) ∙ m) (λ r. h u r) (or_cases (eqb y u) (has part u) t)

no_member : (all : List ℕ) → AreAmong [] all
unfolding has
no_member all u t = absurd (false≢true t)

-- each part has members of the list alone
pub parts_among : (ys all : List ℕ) → AreAmong ys all → AllByRecursion (λ part. AreAmong part all) (parts ys)
unfolding parts
parts_among [] all h = tt
parts_among (y ∷ ys) all h =
    let rest = parts_among ys all (λ u t. h u (has_rest y ys u t)) in
    let one = h y (has_first y ys) in (
      with_member y [] all one (no_member all),
      all_append (λ part. AreAmong part all) (parts ys) (map (λ part. y ∷ part) (parts ys)) rest
          (all_map (λ part. AreAmong part all) (λ part. AreAmong part all) (λ part. y ∷ part) (parts ys) (λ part. with_member y part all one) rest),
    )

pub sum_by-each : {X : Type 0} (f g : X → ℕ) (xs : List X) → AllByRecursion (λ x. f x ≡ g x) xs → sum_by f xs ≡ sum_by g xs
sum_by-each f g [] h = refl
sum_by-each f g (x ∷ xs) h = sum_by-cons f x xs ∙ (λ i. h.0 i + sum_by-each f g xs h.1 i) ∙ sym (sum_by-cons g x xs)

pub sum_by-members : (f g : ℕ → ℕ) (xs : List ℕ) → ((x : ℕ) → has xs x ≡ true → f x ≡ g x) → sum_by f xs ≡ sum_by g xs
sum_by-members f g [] h = refl
sum_by-members f g (x ∷ xs) h = sum_by-cons f x xs ∙ (λ i. h x (has_first x xs) i + sum_by-members f g xs (λ y t. h y (has_rest x xs y t)) i) ∙ sym (sum_by-cons g x xs)

pub all_mono : (P Q : List ℕ → Type 0) (xs : List (List ℕ)) → ((x : List ℕ) → P x → Q x) → AllByRecursion P xs → AllByRecursion Q xs
all_mono P Q [] h a = tt
all_mono P Q (x ∷ xs) h a = (h x a.0, all_mono P Q xs h a.1)
