-- Bags of the derived views, one pushed behind the other.
use Rattle.std.proofs.Common.{◌≡◌, ◌≢◌, ◌+◌, ◌<◌, ◌≤◌, ◌++◌, ℕ, zero, suc, List, [], ◌∷◌, Option, None, Some, arith, get_or, length, map, refl, subst, sym, ⊎_elim}
use Rattle.std.specs.Prelude.{IfSome, slice_get}
use Rattle.std.proofs.lemmas.Bool.{cases_lt}
use Rattle.std.proofs.lemmas.Option.{get_or_from_slice_get, slice_get_past, slice_get_read}
use Rattle.wh_maint.specs.Comp.{bag_at}
use Rattle.wh_row.specs.Bag.{Bag, IsTable, empty}
use Rattle.wh_text_catalogue.specs.Definitions.{ViewOf}
use Rattle.whview.specs.Inner.NightOutput.{AtDerivedBelow}
use Rattle.whview.specs.NightOutput.{AtDerived}

at_front : (bags : List Bag) (x : Bag) (k : ℕ) → k < length bags → bag_at (bags ++ x ∷ []) k ≡ bag_at bags k
at_front [] x k l = let bad : ⊥ = omega arith in absurd bad
at_front (b ∷ bags) x zero l = refl
at_front (b ∷ bags) x (suc k) l = at_front bags x k (omega arith)

at_end : (bags : List Bag) (x : Bag) (k : ℕ) → k ≡ length bags → bag_at (bags ++ x ∷ []) k ≡ x
at_end [] x zero l = refl
at_end [] x (suc k) l = let bad : ⊥ = omega arith in absurd bad
at_end (b ∷ bags) x zero l = let bad : ⊥ = omega arith in absurd bad
at_end (b ∷ bags) x (suc k) l = at_end bags x k (omega arith)

with_bag : (o : Option ViewOf) (x y w : Bag) → y ≡ x → IfSome o (λ view. view.definition ≢ None → x ≡ w) → IfSome o (λ view. view.definition ≢ None → y ≡ w)
with_bag o x y w e h = subst (λ (b : Bag). IfSome o (λ view. view.definition ≢ None → b ≡ w)) (sym e) h

pub one_more : (n m : ℕ) (views : List ViewOf) (bags more : List Bag) (x : Bag) (wanted : ℕ → Bag) → m ≡ n + 1 → length bags ≡ n → more ≡ bags ++ x ∷ [] → AtDerivedBelow n views (λ k. bag_at bags k ≡ wanted k)
    → IfSome (slice_get views n) (λ view. view.definition ≢ None → x ≡ wanted n) → AtDerivedBelow m views (λ k. bag_at more k ≡ wanted k)
one_more n m views bags more x wanted next each pushed below last =
    subst (λ (bs : List Bag). AtDerivedBelow m views (λ k. bag_at bs k ≡ wanted k)) (sym pushed) (λ k l.
    ⊎_elim
    (λ less. with_bag (slice_get views k) (bag_at bags k) (bag_at (bags ++ x ∷ []) k) (wanted k) (at_front bags x k (omega (arith, less, each))) (below k less))
    (λ more. let same : n ≡ k = omega (arith, more, l, next) in
    with_bag (slice_get views k) x (bag_at (bags ++ x ∷ []) k) (wanted k) (at_end bags x k (omega (arith, same, each)))
    (subst (λ (p : ℕ). IfSome (slice_get views p) (λ view. view.definition ≢ None → x ≡ wanted p)) same last))
    (cases_lt k n))

-- no view stands behind the last one
pub all_below : (n : ℕ) (views : List ViewOf) (P : ℕ → Type 0) → length views ≤ n → AtDerivedBelow n views P → AtDerived views P
all_below n views P past below k =
    ⊎_elim
    (λ less. below k less)
    (λ more. subst (λ (o : Option ViewOf). IfSome o (λ view. view.definition ≢ None → P k)) (sym (slice_get_past views k (omega (arith, past, more)))) tt)
    (cases_lt k n)

-- a bag that was read at a place
pub item_at : (bags : List Bag) (k : ℕ) (x : Bag) → k < length bags → x ≡ get_or bags k x → x ≡ bag_at bags k
item_at bags k x l is = sym (get_or_from_slice_get bags k x empty (slice_get_read bags (length bags) k x refl l is))

-- copies of tables are tables
pub copies_count : (o : Option ViewOf) (b t : Bag) → IsTable t → IfSome o (λ view. view.definition ≢ None → b ≡ t) → IfSome o (λ view. view.definition ≢ None → IsTable b)
copies_count None b t is h = tt
copies_count (Some view) b t is h = λ derived. subst IsTable (sym (h derived)) is

pub from_place : {A : Type 0} (f : A → ViewOf) (xs : List A) (place : ℕ) (view : A) (P : Type 0) → slice_get xs place ≡ Some view
    → IfSome (slice_get (map f xs) place) (λ v. v.definition ≢ None → P) → (f view).definition ≢ None → P
from_place f [] place view P is h = cc
from_place f (x ∷ xs) zero view P is h = let same : x ≡ view = cc in subst (λ y. (f y).definition ≢ None → P) same h
from_place f (x ∷ xs) (suc place) view P is h = from_place f xs place view P is h

-- what holds of the derived view at a place that was read
pub at_place : {A : Type 0} (f : A → ViewOf) (xs : List A) (place : ℕ) (view : A) (P : Type 0) → slice_get xs place ≡ Some view → ((f view).definition ≢ None → P)
    → IfSome (slice_get (map f xs) place) (λ v. v.definition ≢ None → P)
at_place f [] place view P is h = cc
at_place f (x ∷ xs) zero view P is h = let same : x ≡ view = cc in subst (λ y. (f y).definition ≢ None → P) (sym same) h
at_place f (x ∷ xs) (suc place) view P is h = at_place f xs place view P is h
