-- The first of some judgements that has a fault.
use Rattle.std.proofs.Common.{◌≡◌, ◌<◌, ◌+◌, ℕ, zero, suc, List, [], ◌∷◌, ◌++◌, Option, Some, None, ◌⊎◌, inl, inr, refl, sym, ap, subst, ◌∙◌, arith}
use Rattle.std.specs.Prelude.{slice_get}
use Rattle.std.specs.Option.{option_or}
use Rattle.wh_text.specs.FirstFault.{Finds}
use Rattle.wh_text.specs.declared.fault.LoadFault.{LoadFault}

-- the fault of the first judgement that has one
abbrev pub first_of : List (Option LoadFault) → Option LoadFault
first_of [] = None
first_of (judgement ∷ rest) = option_or judgement (first_of rest)

-- this judgement has the fault, and none before it has any
pub record IsFirstOf (judgements : List (Option LoadFault)) (fault : LoadFault) : Type 0 where
  pub number : ℕ
  pub finds : Finds judgements number fault
  pub first : (before : ℕ) (other : LoadFault) → before < number → Finds judgements before other → ⊥

later-first : (rest : List (Option LoadFault)) (fault : LoadFault) → IsFirstOf rest fault → IsFirstOf (None ∷ rest) fault
later-first rest fault is = record { number = suc is.number; finds = is.finds; first = by }
  where
    by : (before : ℕ) (other : LoadFault) → before < suc is.number → Finds (None ∷ rest) before other → ⊥
    by zero other below finds = cc
    by (suc before) other below finds = is.first before other (omega arith) finds

pub is-first : (judgements : List (Option LoadFault)) (fault : LoadFault) → first_of judgements ≡ Some fault → IsFirstOf judgements fault
is-first [] fault e = cc
is-first (None ∷ rest) fault e = later-first rest fault (is-first rest fault e)
is-first (Some own ∷ rest) fault e = record { number = zero; finds = ap Some e; first = λ before other below finds. absurd (omega arith) }

pub none-finds : (judgements : List (Option LoadFault)) (number : ℕ) (fault : LoadFault) → first_of judgements ≡ None → Finds judgements number fault → ⊥
none-finds [] number fault e finds = cc
none-finds (None ∷ rest) zero fault e finds = cc
none-finds (None ∷ rest) (suc number) fault e finds = none-finds rest number fault e finds
none-finds (Some own ∷ rest) number fault e finds = cc

-- Things that are judged one after another.

-- the fault of the first of these that has one, by its judgements, where the first of them has this number
abbrev pub first_in : {X : Type 0} → (ℕ → X → List (Option LoadFault)) → ℕ → List X → Option LoadFault
first_in judged number [] = None
first_in judged number (x ∷ xs) = option_or (first_of (judged number x)) (first_in judged (number + 1) xs)

-- the thing at this place has the fault, and none before it has any
pub record IsFirstIn {X : Type 0} (judged : ℕ → X → List (Option LoadFault)) (start : ℕ) (xs : List X) (fault : LoadFault) : Type 0 where
  pub place : ℕ
  pub own : X
  pub number : ℕ
  pub there : slice_get xs place ≡ Some own
  pub finds : Finds (judged (start + place) own) number fault
  pub first : (other : ℕ) (x : X) (k : ℕ) (another : LoadFault) → slice_get xs other ≡ Some x → Finds (judged (start + other) x) k another → (other < place) ⊎ ((other ≡ place) × (k < number)) → ⊥

none-at-start : {X : Type 0} (judged : ℕ → X → List (Option LoadFault)) (start k : ℕ) (x : X) (fault : LoadFault) → first_of (judged start x) ≡ None → Finds (judged (start + 0) x) k fault → ⊥
none-at-start judged start k x fault e finds =
    let same : start + 0 ≡ start = omega arith in
    none-finds (judged start x) k fault e (subst (λ n. Finds (judged n x) k fault) same finds)

is-own-first : {X : Type 0} (judged : ℕ → X → List (Option LoadFault)) (start : ℕ) (x : X) (xs : List X) (fault : LoadFault) → first_of (judged start x) ≡ Some fault → IsFirstIn judged start (x ∷ xs) fault
is-own-first {X} judged start x xs fault e = record { place = zero; own = x; number = is.number; there = refl; finds = subst (λ n. Finds (judged n x) is.number fault) same is.finds; first = by }
  where
    same : start ≡ start + 0
    same = omega arith

    is : IsFirstOf (judged start x) fault
    is = is-first (judged start x) fault e

    by : (other : ℕ) (y : X) (k : ℕ) (another : LoadFault) → slice_get (x ∷ xs) other ≡ Some y → Finds (judged (start + other) y) k another → (other < zero) ⊎ ((other ≡ zero) × (k < is.number)) → ⊥
    by other y k another there finds (inl below) = absurd (omega arith)
    by zero y k another there finds (inr here) =
        let one : x ≡ y = cc in
        is.first k another here.1 (subst (λ n. Finds (judged n x) k another) (sym same) (subst (λ z. Finds (judged (start + zero) z) k another) (sym one) finds))
    by (suc other) y k another there finds (inr here) = (let bad = here.0 in absurd (omega arith))

later-first-in : {X : Type 0} (judged : ℕ → X → List (Option LoadFault)) (start : ℕ) (x : X) (xs : List X) (fault : LoadFault) → first_of (judged start x) ≡ None → IsFirstIn judged (start + 1) xs fault
    → IsFirstIn judged start (x ∷ xs) fault
later-first-in {X} judged start x xs fault none is = record {
  place = suc is.place;
  own = is.own;
  number = is.number;
  there = is.there;
  finds = subst (λ n. Finds (judged n is.own) is.number fault) (moved is.place) is.finds;
  first = by;
}
  where
    moved : (n : ℕ) → (start + 1) + n ≡ start + suc n
    moved n = omega arith

    by : (other : ℕ) (y : X) (k : ℕ) (another : LoadFault) → slice_get (x ∷ xs) other ≡ Some y → Finds (judged (start + other) y) k another → (other < suc is.place) ⊎ ((other ≡ suc is.place) × (k < is.number)) → ⊥
    by zero y k another there finds before =
        let one : x ≡ y = cc in
        none-at-start judged start k x another none (subst (λ z. Finds (judged (start + zero) z) k another) (sym one) finds)
    by (suc other) y k another there finds (inl below) = is.first other y k another there (subst (λ n. Finds (judged n y) k another) (sym (moved other)) finds) (inl (omega arith))
    by (suc other) y k another there finds (inr here) =
        is.first other y k another there (subst (λ n. Finds (judged n y) k another) (sym (moved other)) finds) (inr ((let e = here.0 in omega arith), here.1))

pub is-first-in : {X : Type 0} (judged : ℕ → X → List (Option LoadFault)) (start : ℕ) (xs : List X) (fault : LoadFault) → first_in judged start xs ≡ Some fault → IsFirstIn judged start xs fault
is-first-in judged start [] fault e = cc
is-first-in {X} judged start (x ∷ xs) fault e = by (first_of (judged start x)) refl (is-first-in judged (start + 1) xs fault) e
  where
    by : (o : Option LoadFault) → first_of (judged start x) ≡ o → (first_in judged (start + 1) xs ≡ Some fault → IsFirstIn judged (start + 1) xs fault) → option_or o (first_in judged (start + 1) xs) ≡ Some fault
        → IsFirstIn judged start (x ∷ xs) fault
    by None none more e = later-first-in judged start x xs fault none (more e)
    by (Some own) found more e = is-own-first judged start x xs fault (found ∙ e)

pub none-in : {X : Type 0} (judged : ℕ → X → List (Option LoadFault)) (start : ℕ) (xs : List X) (place : ℕ) (own : X) (number : ℕ) (fault : LoadFault) → first_in judged start xs ≡ None
    → slice_get xs place ≡ Some own → Finds (judged (start + place) own) number fault → ⊥
none-in judged start [] place own number fault e there finds = cc
none-in {X} judged start (x ∷ xs) place own number fault e there finds =
    by (first_of (judged start x)) refl (λ none place there finds. none-in judged (start + 1) xs place own number fault none there finds) e place there finds
  where
    by : (o : Option LoadFault) → first_of (judged start x) ≡ o
        → (first_in judged (start + 1) xs ≡ None → (place : ℕ) → slice_get xs place ≡ Some own → Finds (judged ((start + 1) + place) own) number fault → ⊥) → option_or o (first_in judged (start + 1) xs) ≡ None → (place : ℕ) → slice_get (x ∷ xs) place ≡ Some own
        → Finds (judged (start + place) own) number fault → ⊥
    by (Some f) found more e place there finds = cc
    by None none more e zero there finds =
        let one : x ≡ own = cc in
        none-at-start judged start number x fault none (subst (λ z. Finds (judged (start + zero) z) number fault) (sym one) finds)
    by None none more e (suc place) there finds =
        let moved : start + suc place ≡ (start + 1) + place = omega arith in
        more e place there (subst (λ n. Finds (judged n own) number fault) moved finds)

-- Steps, one after another.

pub first_of-append : (judgements more : List (Option LoadFault)) → first_of (judgements ++ more) ≡ option_or (first_of judgements) (first_of more)
first_of-append [] more = refl
first_of-append (None ∷ judgements) more = first_of-append judgements more
first_of-append (Some fault ∷ judgements) more = refl
