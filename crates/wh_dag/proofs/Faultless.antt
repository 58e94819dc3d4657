-- A written shape has no fault exactly where it is well formed.
use Rattle.std.proofs.Common.{◌≡◌, ◌≢◌, ℕ, zero, suc, ◌+◌, ◌<◌, ◌≤◌, Bool, true, false, List, [], ◌∷◌, ◌++◌, length, take, refl, ap, sym, ◌∙◌, arith, get_or, subst, append_assoc, inl, inr, Option, Some, None}
use Rattle.std.specs.Prelude.{slice_get, if◌then◌else◌, AllPairs}
use Rattle.std.specs.Str.{bytes_eq}
use Rattle.std.proofs.lemmas.List.{get_or-take, get_or_default, length-take-le, append-nil}
use Rattle.std.proofs.lemmas.List.Folds.{list_any-from_Any, list_any_none}
use Rattle.std.proofs.lemmas.Option.{slice_get-get_or, slice_get_within, get_or_from_slice_get, same_Some}
use Rattle.std.proofs.lemmas.Bool.{cases_lt, leb-false, lt-leb, ltb-false, le-ltb, both_ways, false_from_ne_true}
use Rattle.std.proofs.lemmas.Slice.Eq.{bytes_eq-Decides}
use Rattle.wh_dag.specs.declared.fault.ShapeFault.{ShapeFault}
use Rattle.wh_dag.specs.Written.{name_of, is_named, number_of}
use Rattle.wh_dag.specs.Fault.{or_else, place_fault, child_fault, children_fault, over_fault, view_fault, fault_from, first_fault}
use Rattle.wh_dag.specs.WellFormed.{IsWellFormed, FaultlessIsWellFormed}

-- a name that stands at a place is found
pub named_at : (names : List (List ℕ)) (k : ℕ) (d : List ℕ) → k < length names → is_named names (get_or names k d) ≡ true
named_at names k d l =
    list_any-from_Any (λ n. bytes_eq n (get_or names k d)) names
    (k, get_or names k d, l, get_or_default names k (get_or names k d) d l, (bytes_eq-Decides (get_or names k d) (get_or names k d)).1 refl)

-- a name that is not found stands at no place
pub unnamed_at : (names : List (List ℕ)) (name : List ℕ) → is_named names name ≡ false → (k : ℕ) (d : List ℕ) → k < length names → get_or names k d ≢ name
unnamed_at names name h k d l e = both_ways _ h (subst (λ n. is_named names n ≡ true) e (named_at names k d l))

-- and one that stands at no place is not found
pub unnamed : (names : List (List ℕ)) (name : List ℕ) → ((k : ℕ) (d : List ℕ) → k < length names → get_or names k d ≢ name) → is_named names name ≡ false
unnamed names name h =
    list_any_none (λ n. bytes_eq n name) names
    (λ k d l. false_from_ne_true _ (λ t. h k d l ((bytes_eq-Decides _ _).0 t)))

pub or_none : (a b : Option ShapeFault) → or_else a b ≡ None → (a ≡ None) × (b ≡ None)
or_none None b h = (refl, h)
or_none (Some f) b h = cc

none_or : (a b : Option ShapeFault) → a ≡ None → b ≡ None → or_else a b ≡ None
none_or None b h k = k
none_or (Some f) b h k = cc

pub if_none : (b : Bool) (f : ShapeFault) (r : Option ShapeFault) → (if b then Some f else r) ≡ None → (b ≡ false) × (r ≡ None)
if_none true f r h = cc
if_none false f r h = (refl, h)

none_if : (b : Bool) (f : ShapeFault) (r : Option ShapeFault) → b ≡ false → r ≡ None → (if b then Some f else r) ≡ None
none_if true f r h k = cc
none_if false f r h k = k

-- a child without a fault: a view of a lower number has its name, and it did not stand before
pub record IsChild (names : List (List ℕ)) (view : ℕ) (before : List (List ℕ)) (child : List ℕ) : Type 0 where
  pub number : ℕ
  pub is : number_of names child ≡ Some number
  pub lower : number < view
  pub new : is_named before child ≡ false

place_child : (names : List (List ℕ)) (view : ℕ) (before : List (List ℕ)) (child : List ℕ) (o : Option ℕ) → number_of names child ≡ o →
    place_fault view before child o ≡ None → IsChild names view before child
place_child names view before child None e h = cc
place_child names view before child (Some u) e h =
    let a = if_none _ _ _ h in
    let b = if_none _ _ _ a.1 in
    record { number = u; is = e; lower = leb-false view u a.0; new = b.0 }

child_place : (names : List (List ℕ)) (view : ℕ) (before : List (List ℕ)) (child : List ℕ) → IsChild names view before child →
    child_fault names view before child ≡ None
child_place names view before child h =
    rw h.is
    (none_if _ _ _ (lt-leb view h.number h.lower) (none_if _ _ _ h.new refl))

-- the children from here on have no fault: each of them
each_child : (names : List (List ℕ)) (view : ℕ) (before cs : List (List ℕ)) → children_fault names view before cs ≡ None →
    (k : ℕ) (c : List ℕ) → slice_get cs k ≡ Some c → IsChild names view (before ++ take k cs) c
each_child names view before [] h k c at = cc
each_child names view before (x ∷ cs) h zero c at =
    let a = or_none _ _ h in
    let same : x ≡ c = same_Some x c at in
    subst (λ y. IsChild names view (before ++ []) y) same
    (subst (λ b. IsChild names view b x) (sym (append-nil before)) (place_child names view before x _ refl a.0))
each_child names view before (x ∷ cs) h (suc k) c at =
    let a = or_none _ _ h in
    subst (λ b. IsChild names view b c) (append_assoc before (x ∷ []) (take k cs))
    (each_child names view (before ++ x ∷ []) cs a.1 k c at)

child_each : (names : List (List ℕ)) (view : ℕ) (before cs : List (List ℕ)) →
    ((k : ℕ) (c : List ℕ) → slice_get cs k ≡ Some c → IsChild names view (before ++ take k cs) c) →
    children_fault names view before cs ≡ None
child_each names view before [] h = refl
child_each names view before (x ∷ cs) h =
    none_or _ _
    (child_place names view before x (subst (λ b. IsChild names view b x) (append-nil before) (h 0 x refl)))
    (child_each names view (before ++ x ∷ []) cs
    (λ k c at. subst (λ b. IsChild names view b c) (sym (append_assoc before (x ∷ []) (take k cs))) (h (suc k) c at)))

-- a list of children without a fault
pub record IsList (names : List (List ℕ)) (view : ℕ) (cs : List (List ℕ)) : Type 0 where
  pub some : 1 ≤ length cs
  pub few : length cs ≤ 6
  pub each : (k : ℕ) (c : List ℕ) → slice_get cs k ≡ Some c → IsChild names view (take k cs) c

over_list : (names : List (List ℕ)) (view : ℕ) (cs : List (List ℕ)) → over_fault names view (Some cs) ≡ None → IsList names view cs
over_list names view [] h = cc
over_list names view (x ∷ cs) h =
    let a = if_none _ _ _ h in
    record { some = omega arith; few = ltb-false 6 (length (x ∷ cs)) a.0; each = each_child names view [] (x ∷ cs) a.1 }

list_over : (names : List (List ℕ)) (view : ℕ) (cs : List (List ℕ)) → IsList names view cs → over_fault names view (Some cs) ≡ None
list_over names view [] h = absurd (let some : 1 ≤ 0 = h.some in omega arith)
list_over names view (x ∷ cs) h =
    none_if _ _ _ (le-ltb 6 (length (x ∷ cs)) h.few) (child_each names view [] (x ∷ cs) h.each)

-- a view without a fault
pub record IsView (names : List (List ℕ)) (view : ℕ) (own : Option (List (List ℕ))) : Type 0 where
  pub few : view < 64
  pub new : is_named (take view names) (name_of names view) ≡ false
  pub over : over_fault names view own ≡ None

view_of : (names : List (List ℕ)) (view : ℕ) (over : Option (List (List ℕ))) → view_fault names view over ≡ None → IsView names view over
view_of names view over h =
    let a = if_none _ _ _ h in
    let b = if_none _ _ _ a.1 in
    record { few = leb-false 64 view a.0; new = b.0; over = b.1 }

pub of_view : (names : List (List ℕ)) (view : ℕ) (over : Option (List (List ℕ))) → IsView names view over → view_fault names view over ≡ None
of_view names view over h = none_if _ _ _ (lt-leb 64 view h.few) (none_if _ _ _ h.new h.over)

pub each_view : (names : List (List ℕ)) (n : ℕ) (over : List (Option (List (List ℕ)))) → fault_from names n over ≡ None →
    (k m : ℕ) (o : Option (List (List ℕ))) → m ≡ n + k → slice_get over k ≡ Some o → IsView names m o
each_view names n [] h k m o e at = cc
each_view names n (x ∷ over) h zero m o e at =
    let a = or_none _ _ h in
    let same : x ≡ o = same_Some x o at in
    let here : n ≡ m = omega arith in
    subst (λ y. IsView names m y) same (subst (λ y. IsView names y x) here (view_of names n x a.0))
each_view names n (x ∷ over) h (suc k) m o e at =
    each_view names (n + 1) over (or_none _ _ h).1 k m o (omega arith) at

view_each : (names : List (List ℕ)) (n : ℕ) (over : List (Option (List (List ℕ)))) →
    ((k m : ℕ) (o : Option (List (List ℕ))) → m ≡ n + k → slice_get over k ≡ Some o → IsView names m o) →
    fault_from names n over ≡ None
view_each names n [] h = refl
view_each names n (x ∷ over) h =
    none_or _ _
    (of_view names n x (h 0 n x (omega arith) refl))
    (view_each names (n + 1) over (λ k m o e at. h (suc k) m o (omega arith) at))

-- no two members of a list are the same, as none stands among those before it
distinct_from : (xs : List (List ℕ)) → ((k : ℕ) → k < length xs → (d : List ℕ) → is_named (take k xs) (get_or xs k d) ≡ false) →
    AllPairs (λ first second. first ≢ second) xs
distinct_from xs h i j d l m =
    let n : i < length (take j xs) = rw (length-take-le j xs (omega arith)) l in
    rw (get_or-take j xs i d l) at (unnamed_at (take j xs) (get_or xs j d) (h j m d) i d n)

from_distinct : (xs : List (List ℕ)) → AllPairs (λ first second. first ≢ second) xs → (k : ℕ) → k < length xs → (d : List ℕ) →
    is_named (take k xs) (get_or xs k d) ≡ false
from_distinct xs h k m d =
    unnamed (take k xs) (get_or xs k d)
    (λ i e l.
    let n : i < k = rw (length-take-le k xs (omega arith)) at l in
    let in' : i < length xs = omega arith in
    rw (get_or-take k xs i e n, get_or_default xs i e d in') (h i k d n m))

pub well_formed : (names : List (List ℕ)) (over : List (Option (List (List ℕ)))) → length names ≡ length over →
    first_fault names over ≡ None → IsWellFormed names over
well_formed names over named h = record {
  few_views = elim (cases_lt 64 (length over)) [
    | inl more ↦ absurd (let no : 64 < 64 = (view 64 more).few in omega arith)
    | inr few ↦ few
  ];
  names_distinct =
      distinct_from names
      (λ k l d. rw (get_or_default names k d [] l) (view k (omega arith)).new);
  some_children = λ v cs at. (list v cs at).some;
  few_children = λ v cs at. (list v cs at).few;
  children_lower = λ v cs c at (k, l, e).
      let one = (list v cs at).each k c (slice_get-get_or cs k c l ∙ ap Some e) in
      (one.number, one.is, one.lower);
  children_distinct = λ v cs at.
      distinct_from cs (λ k l d. ((list v cs at).each k (get_or cs k d) (slice_get-get_or cs k d l)).new);
}
  where
    view : (v : ℕ) → v < length over → IsView names v (get_or over v None)
    view v l = each_view names 0 over h v v (get_or over v None) (omega arith) (slice_get-get_or over v None l)

    list : (v : ℕ) (cs : List (List ℕ)) → slice_get over v ≡ Some (Some cs) → IsList names v cs
    list v cs at = over_list names v cs (each_view names 0 over h v v (Some cs) (omega arith) at).over

pub faultless : (names : List (List ℕ)) (over : List (Option (List (List ℕ)))) → length names ≡ length over →
    IsWellFormed names over → first_fault names over ≡ None
faultless names over named w = view_each names 0 over one
  where
    none : (v : ℕ) (o : Option (List (List ℕ))) → slice_get over v ≡ Some o → over_fault names v o ≡ None
    none v None at = refl
    none v (Some cs) at =
        list_over names v cs
        (record {
          some = w.some_children v cs at;
          few = w.few_children v cs at;
          each = λ k c here.
              let in' : k < length cs = slice_get_within cs k c here in
              let is : get_or cs k c ≡ c = get_or_from_slice_get cs k c c here in
              let low = w.children_lower v cs c at (k, in', is) in
              record {
                number = low.0;
                is = low.1;
                lower = low.2;
                new = rw is at (from_distinct cs (w.children_distinct v cs at) k in' c);
              };
        })

    one : (k m : ℕ) (o : Option (List (List ℕ))) → m ≡ 0 + k → slice_get over k ≡ Some o → IsView names m o
    one k m o e at =
        let here : k ≡ m = omega arith in
        let in' : k < length over = slice_get_within over k o at in
        let few : length over ≤ 64 = w.few_views in
        subst (λ v. IsView names v o) here
        (record {
          few = omega arith;
          new = from_distinct names w.names_distinct k (omega arith) [];
          over = none k o at;
        })

pub law : FaultlessIsWellFormed
law names over named = (well_formed names over named, faultless names over named)
