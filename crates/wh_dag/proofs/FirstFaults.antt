-- The first fault of a written shape is the first one by places.
use Rattle.std.proofs.Common.{◌≡◌, ℕ, zero, suc, ◌+◌, ◌<◌, Bool, true, false, List, [], ◌∷◌, ◌++◌, length, take, refl, ap, sym, ◌∙◌, arith, get_or, subst, append_assoc, inl, inr, ◌⊎◌, ⊎_elim, Option, Some, None, nat_lt}
use Rattle.std.specs.Prelude.{slice_get, if◌then◌else◌, nat_le}
use Rattle.std.specs.Str.{bytes_eq}
use Rattle.std.proofs.lemmas.List.{get_or_default, append-nil}
use Rattle.std.proofs.lemmas.List.Folds.{Any-from_list_any}
use Rattle.std.proofs.lemmas.Option.{slice_get-get_or, slice_get_within, get_or_from_slice_get, same_Some}
use Rattle.std.proofs.lemmas.Bool.{cases_order, leb-true, leb-false, le-leb, lt-leb, ltb-true, lt-ltb}
use Rattle.std.proofs.lemmas.Slice.Eq.{bytes_eq-Decides}
use Rattle.wh_dag.specs.declared.fault.ShapeFault.{ShapeFault}
use Rattle.wh_dag.specs.declared.fault.ShapeFault.TheVariants.{Duplicate, Unknown, Forward, Repeated, TooMany, EmptyOver}
use Rattle.wh_dag.specs.Written.{name_of, is_named, number_of}
use Rattle.wh_dag.specs.Fault.{or_else, place_fault, child_fault, children_fault, over_fault, view_fault, fault_from, first_fault}
use Rattle.wh_dag.specs.FirstFault.{IsListed, IsWrong, view_too_many, duplicate, no_child, child_too_many, unknown, forward, repeated, IsFirstFault, FirstFaultByPlaces}
use Rattle.wh_dag.proofs.Faultless.{named_at, or_none, if_none, of_view, each_view}

some_or : (a b : Option ShapeFault) (f : ShapeFault) → or_else a b ≡ Some f → (a ≡ Some f) ⊎ ((a ≡ None) × (b ≡ Some f))
some_or None b f h = inr (refl, h)
some_or (Some g) b f h = inl h

some_if : (b : Bool) (g : ShapeFault) (r : Option ShapeFault) (f : ShapeFault) → (if b then Some g else r) ≡ Some f → ((b ≡ true) × (g ≡ f)) ⊎ ((b ≡ false) × (r ≡ Some f))
some_if true g r f h = inl (refl, same_Some g f h)
some_if false g r f h = inr (refl, h)

if_some : (b : Bool) (g : ShapeFault) (r : Option ShapeFault) (f : ShapeFault) → b ≡ true → f ≡ g → (if b then Some g else r) ≡ Some f
if_some true g r f t e = ap Some (sym e)
if_some false g r f t e = cc

if_not : (b : Bool) (g : ShapeFault) (r o : Option ShapeFault) → b ≡ false → r ≡ o → (if b then Some g else r) ≡ o
if_not true g r o t e = cc
if_not false g r o t e = e

-- ---- what is wrong with a view at each step, as a test

-- the fault of the child at this place, after children of those names
abbrev kid : List (List ℕ) → ℕ → List (List ℕ) → List (List ℕ) → ℕ → Option ShapeFault
kid names view before [] p = None
kid names view before (c ∷ cs) zero = child_fault names view before c
kid names view before (c ∷ cs) (suc p) = kid names view (before ++ c ∷ []) cs p

abbrev own_kid : List (List ℕ) → ℕ → Option (List (List ℕ)) → ℕ → Option ShapeFault
own_kid names view None p = None
own_kid names view (Some cs) p = kid names view [] cs p

abbrev whole : List (List ℕ) → ℕ → Option (List (List ℕ)) → Option ShapeFault
whole names view None = None
whole names view (Some []) = Some (EmptyOver view (name_of names view))
whole names view (Some (c ∷ cs)) = if nat_lt 6 (length (c ∷ cs)) then Some (TooMany view (name_of names view)) else None

abbrev stage : List (List ℕ) → ℕ → Option (List (List ℕ)) → ℕ → Option ShapeFault
stage names view own zero = if nat_le 64 view then Some (TooMany view (name_of names view)) else None
stage names view own (suc zero) = if is_named (take view names) (name_of names view) then Some (Duplicate view (name_of names view)) else None
stage names view own (suc (suc zero)) = whole names view own
stage names view own (suc (suc (suc p))) = own_kid names view own p

-- ---- the first fault of a view is that of its first step that has one

kids_before : (names : List (List ℕ)) (view : ℕ) (before : List (List ℕ)) (c : List ℕ) (cs : List (List ℕ)) (p : ℕ) →
    child_fault names view before c ≡ None → ((j : ℕ) → j < p → kid names view (before ++ c ∷ []) cs j ≡ None) →
    (j : ℕ) → j < suc p → kid names view before (c ∷ cs) j ≡ None
kids_before names view before c cs p h hs zero l = h
kids_before names view before c cs p h hs (suc j) l = hs j (omega arith)

-- the first place with a fault, and the fault there
record FirstKid (f : ShapeFault) (at : ℕ → Option ShapeFault) : Type 0 where
  place : ℕ
  here : at place ≡ Some f
  before : (j : ℕ) → j < place → at j ≡ None

kids_some : (names : List (List ℕ)) (view : ℕ) (before cs : List (List ℕ)) (f : ShapeFault) →
    children_fault names view before cs ≡ Some f → FirstKid f (kid names view before cs)
kids_some names view before [] f h = cc
kids_some names view before (c ∷ cs) f h =
    elim (some_or (child_fault names view before c) (children_fault names view (before ++ c ∷ []) cs) f h) [
      | inl a ↦ record { place = 0; here = a; before = λ j l. absurd (omega arith) }
      | inr b ↦
          let r : FirstKid f (kid names view (before ++ c ∷ []) cs) = kids_some names view (before ++ c ∷ []) cs f b.1 in
          record { place = suc r.place; here = r.here; before = kids_before names view before c cs r.place b.0 r.before }
    ]

kids_none : (names : List (List ℕ)) (view : ℕ) (before cs : List (List ℕ)) → children_fault names view before cs ≡ None →
    (p : ℕ) → kid names view before cs p ≡ None
kids_none names view before [] h p = refl
kids_none names view before (c ∷ cs) h zero = (or_none _ _ h).0
kids_none names view before (c ∷ cs) h (suc p) = kids_none names view (before ++ c ∷ []) cs (or_none _ _ h).1 p

over_some : (names : List (List ℕ)) (view : ℕ) (own : Option (List (List ℕ))) (f : ShapeFault) → over_fault names view own ≡ Some f →
    (whole names view own ≡ Some f) ⊎ ((whole names view own ≡ None) × FirstKid f (own_kid names view own))
over_some names view None f h = cc
over_some names view (Some []) f h = inl h
over_some names view (Some (c ∷ cs)) f h =
    elim (some_if (nat_lt 6 (length (c ∷ cs))) (TooMany view (name_of names view)) (children_fault names view [] (c ∷ cs)) f h) [
      | inl a ↦ inl (if_some _ _ None f a.0 (sym a.1))
      | inr b ↦ inr (if_not _ _ None None b.0 refl, kids_some names view [] (c ∷ cs) f b.1)
    ]

over_none : (names : List (List ℕ)) (view : ℕ) (own : Option (List (List ℕ))) → over_fault names view own ≡ None →
    (whole names view own ≡ None) × ((p : ℕ) → own_kid names view own p ≡ None)
over_none names view None h = (refl, λ p. refl)
over_none names view (Some []) h = cc
over_none names view (Some (c ∷ cs)) h =
    let a = if_none (nat_lt 6 (length (c ∷ cs))) (TooMany view (name_of names view)) (children_fault names view [] (c ∷ cs)) h in
    (if_not _ _ None None a.0 refl, kids_none names view [] (c ∷ cs) a.1)

none_up_to_2 : (names : List (List ℕ)) (view : ℕ) (own : Option (List (List ℕ))) → stage names view own 0 ≡ None → stage names view own 1 ≡ None →
    (j : ℕ) → j < 2 → stage names view own j ≡ None
none_up_to_2 names view own z o zero l = z
none_up_to_2 names view own z o (suc zero) l = o
none_up_to_2 names view own z o (suc (suc j)) l = absurd (omega arith)

none_up_to_kid : (names : List (List ℕ)) (view : ℕ) (own : Option (List (List ℕ))) (p : ℕ) → stage names view own 0 ≡ None →
    stage names view own 1 ≡ None → whole names view own ≡ None → ((j : ℕ) → j < p → own_kid names view own j ≡ None) →
    (j : ℕ) → j < suc (suc (suc p)) → stage names view own j ≡ None
none_up_to_kid names view own p z o t hs zero l = z
none_up_to_kid names view own p z o t hs (suc zero) l = o
none_up_to_kid names view own p z o t hs (suc (suc zero)) l = t
none_up_to_kid names view own p z o t hs (suc (suc (suc j))) l = hs j (omega arith)

none_at_all : (names : List (List ℕ)) (view : ℕ) (own : Option (List (List ℕ))) → stage names view own 0 ≡ None → stage names view own 1 ≡ None →
    whole names view own ≡ None → ((j : ℕ) → own_kid names view own j ≡ None) → (j : ℕ) → stage names view own j ≡ None
none_at_all names view own z o t hs zero = z
none_at_all names view own z o t hs (suc zero) = o
none_at_all names view own z o t hs (suc (suc zero)) = t
none_at_all names view own z o t hs (suc (suc (suc j))) = hs j

view_some : (names : List (List ℕ)) (view : ℕ) (own : Option (List (List ℕ))) (f : ShapeFault) → view_fault names view own ≡ Some f →
    FirstKid f (stage names view own)
view_some names view own f h =
    elim (some_if (nat_le 64 view) (TooMany view (name_of names view)) (if is_named (take view names) (name_of names view) then Some (Duplicate view (name_of names view)) else over_fault names view own) f h) [
      | inl a ↦ record { place = 0; here = if_some _ _ None f a.0 (sym a.1); before = λ j l. absurd (omega arith) }
      | inr b ↦ named b.0 b.1
    ]
  where
    last : nat_le 64 view ≡ false → is_named (take view names) (name_of names view) ≡ false → over_fault names view own ≡ Some f → FirstKid f (stage names view own)
    last few new e =
        let z : stage names view own 0 ≡ None = if_not _ _ None None few refl in
        let o : stage names view own 1 ≡ None = if_not _ _ None None new refl in
        elim (over_some names view own f e) [
          | inl a ↦ record { place = 2; here = a; before = none_up_to_2 names view own z o }
          | inr b ↦ record { place = suc (suc (suc b.1.place)); here = b.1.here; before = none_up_to_kid names view own b.1.place z o b.0 b.1.before }
        ]

    named : nat_le 64 view ≡ false → (if is_named (take view names) (name_of names view) then Some (Duplicate view (name_of names view)) else over_fault names view own) ≡ Some f → FirstKid f (stage names view own)
    named few e =
        elim (some_if (is_named (take view names) (name_of names view)) (Duplicate view (name_of names view)) (over_fault names view own) f e) [
          | inl a ↦ record {
            place = 1;
            here = if_some _ _ None f a.0 (sym a.1);
            before = λ j l. let first : 0 ≡ j = omega arith in subst (λ k. stage names view own k ≡ None) first (if_not _ _ None None few refl);
          }
          | inr b ↦ last few b.0 b.1
        ]

view_none : (names : List (List ℕ)) (view : ℕ) (own : Option (List (List ℕ))) → view_fault names view own ≡ None →
    (j : ℕ) → stage names view own j ≡ None
view_none names view own h =
    let a = if_none (nat_le 64 view) (TooMany view (name_of names view)) (if is_named (take view names) (name_of names view) then Some (Duplicate view (name_of names view)) else over_fault names view own) h in
    let b = if_none (is_named (take view names) (name_of names view)) (Duplicate view (name_of names view)) (over_fault names view own) a.1 in
    let o = over_none names view own b.1 in
    none_at_all names view own (if_not _ _ None None a.0 refl) (if_not _ _ None None b.0 refl) o.0 o.1

-- ---- the first fault of all views is that of the first view that has one

record FirstView (names : List (List ℕ)) (n : ℕ) (over : List (Option (List (List ℕ)))) (f : ShapeFault) : Type 0 where
  index : ℕ
  view : ℕ
  counted : view ≡ n + index
  own : Option (List (List ℕ))
  there : slice_get over index ≡ Some own
  here : view_fault names view own ≡ Some f
  before : (j v : ℕ) (o : Option (List (List ℕ))) → v ≡ n + j → j < index → slice_get over j ≡ Some o → view_fault names v o ≡ None

views_before : (names : List (List ℕ)) (n : ℕ) (x : Option (List (List ℕ))) (over : List (Option (List (List ℕ)))) (k : ℕ) → view_fault names n x ≡ None →
    ((j v : ℕ) (o : Option (List (List ℕ))) → v ≡ (n + 1) + j → j < k → slice_get over j ≡ Some o → view_fault names v o ≡ None) →
    (j v : ℕ) (o : Option (List (List ℕ))) → v ≡ n + j → j < suc k → slice_get (x ∷ over) j ≡ Some o → view_fault names v o ≡ None
views_before names n x over k h hs zero v o e l at =
    let here : n ≡ v = omega arith in
    subst (λ y. view_fault names v y ≡ None) (same_Some x o at) (subst (λ u. view_fault names u x ≡ None) here h)
views_before names n x over k h hs (suc j) v o e l at = hs j v o (omega arith) (omega arith) at

views_some : (names : List (List ℕ)) (n : ℕ) (over : List (Option (List (List ℕ)))) (f : ShapeFault) → fault_from names n over ≡ Some f →
    FirstView names n over f
views_some names n [] f h = cc
views_some names n (x ∷ over) f h =
    elim (some_or (view_fault names n x) (fault_from names (n + 1) over) f h) [
      | inl a ↦ record { index = 0; view = n; counted = omega arith; own = x; there = refl; here = a; before = λ j v o e l at. absurd (omega arith) }
      | inr b ↦
          let r : FirstView names (n + 1) over f = views_some names (n + 1) over f b.1 in
          record { index = suc r.index; view = r.view; counted = (let e : r.view ≡ (n + 1) + r.index = r.counted in omega arith); own = r.own; there = r.there; here = r.here; before = views_before names n x over r.index b.0 r.before }
    ]

-- ---- the tests say what is wrong

kid_at : (names : List (List ℕ)) (view : ℕ) (before cs : List (List ℕ)) (p : ℕ) (c : List ℕ) → slice_get cs p ≡ Some c →
    kid names view before cs p ≡ child_fault names view (before ++ take p cs) c
kid_at names view before [] p c at = cc
kid_at names view before (x ∷ cs) zero c at =
    ap (child_fault names view before) (same_Some x c at) ∙ ap (λ b. child_fault names view b c) (sym (append-nil before))
kid_at names view before (x ∷ cs) (suc p) c at =
    kid_at names view (before ++ x ∷ []) cs p c at ∙ ap (λ b. child_fault names view b c) (append_assoc before (x ∷ []) (take p cs))

-- the child at a place that has a fault
record FaultyKid (names : List (List ℕ)) (view : ℕ) (cs : List (List ℕ)) (p : ℕ) (f : ShapeFault) : Type 0 where
  child : List ℕ
  there : slice_get cs p ≡ Some child
  fault : child_fault names view (take p cs) child ≡ Some f

kid_there : (names : List (List ℕ)) (view : ℕ) (before cs : List (List ℕ)) (p : ℕ) (f : ShapeFault) → kid names view before cs p ≡ Some f →
    (c : List ℕ) × (slice_get cs p ≡ Some c)
kid_there names view before [] p f h = cc
kid_there names view before (x ∷ cs) zero f h = (x, refl)
kid_there names view before (x ∷ cs) (suc p) f h = kid_there names view (before ++ x ∷ []) cs p f h

-- a name that is found stands at a place
named_place : (names : List (List ℕ)) (name : List ℕ) → is_named names name ≡ true → (k : ℕ) × (k < length names) × (slice_get names k ≡ Some name)
named_place names name h =
    let (k, x, l, at, e) = Any-from_list_any (λ n. bytes_eq n name) names h in
    (k, l, slice_get-get_or names k name l ∙ ap Some (get_or_default names k name x l ∙ at ∙ (bytes_eq-Decides x name).0 e))

placed_name : (names : List (List ℕ)) (name : List ℕ) (k : ℕ) → slice_get names k ≡ Some name → is_named names name ≡ true
placed_name names name k at =
    let l : k < length names = slice_get_within names k name at in
    subst (λ n. is_named names n ≡ true) (get_or_from_slice_get names k name name at) (named_at names k name l)

get_taken : (xs : List (List ℕ)) (n i : ℕ) → i < n → slice_get (take n xs) i ≡ slice_get xs i
get_taken [] zero i l = refl
get_taken [] (suc n) i l = refl
get_taken (x ∷ xs) zero i l = absurd (omega arith)
get_taken (x ∷ xs) (suc n) zero l = refl
get_taken (x ∷ xs) (suc n) (suc i) l = get_taken xs n i (omega arith)

taken_short : (xs : List (List ℕ)) (n i : ℕ) → i < length (take n xs) → i < n
taken_short [] zero i l = absurd (omega arith)
taken_short [] (suc n) i l = absurd (omega arith)
taken_short (x ∷ xs) zero i l = absurd (omega arith)
taken_short (x ∷ xs) (suc n) zero l = omega arith
taken_short (x ∷ xs) (suc n) (suc i) l = let r : i < n = taken_short xs n i (omega arith) in omega arith

-- a child that is wrong by the test is wrong by places
child_wrong : (names : List (List ℕ)) (over : List (Option (List (List ℕ)))) (view p : ℕ) (cs : List (List ℕ)) (c : List ℕ) (f : ShapeFault) (o : Option ℕ) →
    slice_get over view ≡ Some (Some cs) → slice_get cs p ≡ Some c → number_of names c ≡ o → place_fault view (take p cs) c o ≡ Some f →
    IsWrong names over view (3 + p) f
child_wrong names over view p cs c f None own at e h =
    unknown p c refl (record { children = cs; own = own; there = at }) e (sym (same_Some (Unknown view c) f h))
child_wrong names over view p cs c f (Some u) own at e h =
    elim (some_if (nat_le view u) (Forward view c) (if is_named (take p cs) c then Some (Repeated view c) else None) f h) [
      | inl a ↦ forward p u c refl (record { children = cs; own = own; there = at }) e (leb-true view u a.0) (sym a.1)
      | inr b ↦ again (leb-false view u b.0) b.1
    ]
  where
    again : u < view → (if is_named (take p cs) c then Some (Repeated view c) else None) ≡ Some f → IsWrong names over view (3 + p) f
    again low k =
        elim (some_if (is_named (take p cs) c) (Repeated view c) None f k) [
          | inl a ↦
              let (i, l, there) = named_place (take p cs) c a.0 in
              let early : i < p = taken_short cs p i l in
              repeated p u i c refl (record { children = cs; own = own; there = at }) e low early
              (record { children = cs; own = own; there = sym (get_taken cs p i early) ∙ there }) (sym a.1)
          | inr b ↦ cc
        ]

shown : (names : List (List ℕ)) (over : List (Option (List (List ℕ)))) → length names ≡ length over → (view : ℕ) (own : Option (List (List ℕ))) (step : ℕ) (f : ShapeFault) →
    slice_get over view ≡ Some own → stage names view own step ≡ Some f → IsWrong names over view step f
shown names over same view own zero f at h =
    elim (some_if (nat_le 64 view) (TooMany view (name_of names view)) None f h) [
      | inl a ↦ view_too_many refl (slice_get_within over view own at) (leb-true 64 view a.0) (sym a.1)
      | inr b ↦ cc
    ]
shown names over same view own (suc zero) f at h =
    elim (some_if (is_named (take view names) (name_of names view)) (Duplicate view (name_of names view)) None f h) [
      | inl a ↦
          let (i, l, there) = named_place (take view names) (name_of names view) a.0 in
          let early : i < view = taken_short names view i l in
          duplicate i refl (slice_get_within over view own at) early
          (get_or_from_slice_get names i (name_of names view) [] (sym (get_taken names view i early) ∙ there)) (sym a.1)
      | inr b ↦ cc
    ]
shown names over same view None (suc (suc zero)) f at h = cc
shown names over same view (Some []) (suc (suc zero)) f at h = no_child refl at (sym (same_Some (EmptyOver view (name_of names view)) f h))
shown names over same view (Some (c ∷ cs)) (suc (suc zero)) f at h =
    elim (some_if (nat_lt 6 (length (c ∷ cs))) (TooMany view (name_of names view)) None f h) [
      | inl a ↦ child_too_many (c ∷ cs) refl at (ltb-true 6 (length (c ∷ cs)) a.0) (sym a.1)
      | inr b ↦ cc
    ]
shown names over same view None (suc (suc (suc p))) f at h = cc
shown names over same view (Some cs) (suc (suc (suc p))) f at h =
    let (c, there) = kid_there names view [] cs p f h in
    let on : 3 + p ≡ suc (suc (suc p)) = omega arith in
    subst (λ s. IsWrong names over view s f) on
    (child_wrong names over view p cs c f (number_of names c) at there refl (sym (kid_at names view [] cs p c there) ∙ h))

-- ---- and what is wrong is what the tests say

abbrev Tells : List (List ℕ) → ℕ → Option (List (List ℕ)) → ℕ → ShapeFault → Type 0
Tells names view own step f = stage names view own step ≡ Some f

whole_many : (names : List (List ℕ)) (view : ℕ) (cs : List (List ℕ)) (f : ShapeFault) → 6 < length cs → f ≡ TooMany view (name_of names view) →
    whole names view (Some cs) ≡ Some f
whole_many names view [] f l e = absurd (omega arith)
whole_many names view (c ∷ cs) f l e = if_some _ _ None f (lt-ltb 6 (length (c ∷ cs)) l) e

kid_tells : (names : List (List ℕ)) (over : List (Option (List (List ℕ)))) (view p step : ℕ) (c : List ℕ) (own : Option (List (List ℕ))) (f : ShapeFault) →
    step ≡ 3 + p → (at : IsListed over view p c) → slice_get over view ≡ Some own →
    place_fault view (take p at.children) c (number_of names c) ≡ Some f → Tells names view own step f
kid_tells names over view p step c own f e at there h =
    let on : suc (suc (suc p)) ≡ step = omega arith in
    let same : Some at.children ≡ own = same_Some (Some at.children) own (sym at.own ∙ there) in
    subst (λ s. Tells names view own s f) on
    (subst (λ o. own_kid names view o p ≡ Some f) same (kid_at names view [] at.children p c at.there ∙ h))

told : (names : List (List ℕ)) (over : List (Option (List (List ℕ)))) → length names ≡ length over → (view step : ℕ) (f : ShapeFault) (own : Option (List (List ℕ))) →
    slice_get over view ≡ Some own → IsWrong names over view step f → Tells names view own step f
told names over same view step f own at (view_too_many s l many e) =
    subst (λ k. Tells names view own k f) (sym s) (if_some _ _ None f (le-leb 64 view many) e)
told names over same view step f own at (duplicate i s l early alike e) =
    let in' : i < length names = omega arith in
    let there : slice_get (take view names) i ≡ Some (name_of names view) =
    get_taken names view i early ∙ slice_get-get_or names i [] in' ∙ ap Some alike in
    subst (λ k. Tells names view own k f) (sym s) (if_some _ _ None f (placed_name (take view names) (name_of names view) i there) e)
told names over same view step f own at (no_child s there e) =
    subst (λ k. Tells names view own k f) (sym s)
    (subst (λ o. whole names view o ≡ Some f) (same_Some (Some []) own (sym there ∙ at)) (ap Some (sym e)))
told names over same view step f own at (child_too_many cs s there many e) =
    subst (λ k. Tells names view own k f) (sym s)
    (subst (λ o. whole names view o ≡ Some f) (same_Some (Some cs) own (sym there ∙ at)) (whole_many names view cs f many e))
told names over same view step f own at (unknown p c s listed none e) =
    kid_tells names over view p step c own f s listed at
    (ap (place_fault view (take p listed.children) c) none ∙ ap Some (sym e))
told names over same view step f own at (forward p u c s listed is later e) =
    kid_tells names over view p step c own f s listed at
    (ap (place_fault view (take p listed.children) c) is ∙ if_some _ _ _ f (le-leb view u later) e)
told names over same view step f own at (repeated p u i c s listed is low early listed' e) =
    let alike : listed'.children ≡ listed.children = same_list listed'.children listed.children (same_Some (Some listed'.children) (Some listed.children) (sym listed'.own ∙ listed.own)) in
    let there : slice_get (take p listed.children) i ≡ Some c =
    get_taken listed.children p i early ∙ ap (λ cs. slice_get cs i) (sym alike) ∙ listed'.there in
    kid_tells names over view p step c own f s listed at
    (ap (place_fault view (take p listed.children) c) is
    ∙ if_not _ _ _ (Some f) (lt-leb view u low) (if_some _ _ None f (placed_name (take p listed.children) c i there) e))
  where
    same_list : (xs ys : List (List ℕ)) → Some xs ≡ Some ys → xs ≡ ys
    same_list xs ys h = same_Some xs ys h

-- what is wrong is wrong with a view that there is
own_of : (names : List (List ℕ)) (over : List (Option (List (List ℕ)))) (view step : ℕ) (f : ShapeFault) → IsWrong names over view step f →
    (own : Option (List (List ℕ))) × (slice_get over view ≡ Some own)
own_of names over view step f (view_too_many s l many e) = (get_or over view None, slice_get-get_or over view None l)
own_of names over view step f (duplicate i s l early alike e) = (get_or over view None, slice_get-get_or over view None l)
own_of names over view step f (no_child s there e) = (Some [], there)
own_of names over view step f (child_too_many cs s there many e) = (Some cs, there)
own_of names over view step f (unknown p c s listed none e) = (Some listed.children, listed.own)
own_of names over view step f (forward p u c s listed is later e) = (Some listed.children, listed.own)
own_of names over view step f (repeated p u i c s listed is low early listed' e) = (Some listed.children, listed.own)

not_wrong : (names : List (List ℕ)) (over : List (Option (List (List ℕ)))) → length names ≡ length over → (view step : ℕ) (f : ShapeFault) →
    ((own : Option (List (List ℕ))) → slice_get over view ≡ Some own → stage names view own step ≡ None) → IsWrong names over view step f → ⊥
not_wrong names over same view step f none wrong =
    let (own, at) = own_of names over view step f wrong in
    let is : stage names view own step ≡ Some f = told names over same view step f own at wrong in
    let no : stage names view own step ≡ None = none own at in
    cc

first_by_places : (names : List (List ℕ)) (over : List (Option (List (List ℕ)))) → length names ≡ length over → (f : ShapeFault) →
    first_fault names over ≡ Some f → IsFirstFault names over f
first_by_places names over same f h =
    let r : FirstView names 0 over f = views_some names 0 over f h in
    let here : r.index ≡ r.view = (let e : r.view ≡ 0 + r.index = r.counted in omega arith) in
    let at : slice_get over r.view ≡ Some r.own = ap (slice_get over) (sym here) ∙ r.there in
    let s : FirstKid f (stage names r.view r.own) = view_some names r.view r.own f r.here in
    record {
      view = r.view;
      step = s.place;
      wrong = shown names over same r.view r.own s.place f at s.here;
      views_before = λ v k other l.
          not_wrong names over same v k other
          (λ own there. view_none names v own (r.before v v own (omega arith) (let low : v < r.view = l in omega arith) there) k);
      steps_before = λ k other l.
          not_wrong names over same r.view k other
          (λ own there. subst (λ o. stage names r.view o k ≡ None) (same_Some r.own own (sym at ∙ there)) (s.before k l));
    }

-- two faults of one step are one
one_fault : (names : List (List ℕ)) (over : List (Option (List (List ℕ)))) → length names ≡ length over → (view step : ℕ) (f g : ShapeFault) →
    IsWrong names over view step f → IsWrong names over view step g → f ≡ g
one_fault names over same view step f g a b =
    let (own, at) = own_of names over view step f a in
    same_Some f g (sym (told names over same view step f own at a) ∙ told names over same view step g own at b)

one_first : (names : List (List ℕ)) (over : List (Option (List (List ℕ)))) → length names ≡ length over → (f g : ShapeFault) →
    IsFirstFault names over f → IsFirstFault names over g → g ≡ f
one_first names over same f g a b =
    ⊎_elim
    (λ v. steps v)
    (λ r. ⊎_elim
    (λ l. absurd (b.views_before a.view a.step f l a.wrong))
    (λ l. absurd (a.views_before b.view b.step g l b.wrong))
    r)
    (cases_order a.view b.view)
  where
    steps : a.view ≡ b.view → g ≡ f
    steps v =
        let a' : IsWrong names over b.view a.step f = subst (λ u. IsWrong names over u a.step f) v a.wrong in
        let b' : IsWrong names over a.view b.step g = subst (λ u. IsWrong names over u b.step g) (sym v) b.wrong in
        ⊎_elim
        (λ s. one_fault names over same b.view b.step g f b.wrong (subst (λ k. IsWrong names over b.view k f) s a'))
        (λ r. ⊎_elim
        (λ l. absurd (b.steps_before a.step f l a'))
        (λ l. absurd (a.steps_before b.step g l b'))
        r)
        (cases_order a.step b.step)

by_places_first : (names : List (List ℕ)) (over : List (Option (List (List ℕ)))) → length names ≡ length over → (f : ShapeFault) (o : Option ShapeFault) →
    first_fault names over ≡ o → IsFirstFault names over f → o ≡ Some f
by_places_first names over same f None e h =
    absurd
    (not_wrong names over same h.view h.step f
    (λ own at. view_none names h.view own (of_view names h.view own (each_view names 0 over e h.view h.view own (omega arith) at)) h.step)
    h.wrong)
by_places_first names over same f (Some g) e h = ap Some (one_first names over same f g h (first_by_places names over same g e))

pub by_places : FirstFaultByPlaces
by_places names over same f = (first_by_places names over same f, by_places_first names over same f (first_fault names over) refl)
