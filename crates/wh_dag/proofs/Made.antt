-- The child lists of a well-formed written shape are those of a shape.
use Rattle.std.proofs.Common.{◌≡◌, ◌≢◌, ℕ, zero, suc, ◌<◌, ◌≤◌, true, List, [], ◌∷◌, length, map, refl, ap, sym, ◌∙◌, arith, get_or, subst, inl, inr, Option, Some, None}
use Rattle.std.specs.Prelude.{slice_get, AllPairs, Contains, unwrap_or, ◌==◌, Vec, String, string_bytes}
use Rattle.std.specs.declared.alloc.Global.{Global}
use Rattle.std.specs.Str.{bytes_eq}
use Rattle.std.proofs.lemmas.List.{length-map}
use Rattle.std.proofs.lemmas.List.Quantifiers.{position-Some}
use Rattle.std.proofs.lemmas.Option.{same_Some}
use Rattle.std.proofs.lemmas.Bool.{or_cases, eqb-true, false_from_ne_true}
use Rattle.std.proofs.lemmas.Slice.Eq.{bytes_eq-Decides}
use Rattle.wh_dag.specs.Shape.{has, Distinct, children_of, IsShape}
use Rattle.wh_dag.specs.Written.{number_of, numbers_of, children_written, texts, written, written_list}
use Rattle.wh_dag.specs.WellFormed.{IsWellFormed}

-- what holds of the children of a view: of none, and of the numbers of each written list
children_cases : (P : List ℕ → Type 0) (names : List (List ℕ)) (over : List (Option (List (List ℕ)))) (view : ℕ) → P [] →
    ((cs : List (List ℕ)) → slice_get over view ≡ Some (Some cs) → P (numbers_of names cs)) →
    P (children_of (map (children_written names) over) view)
unfolding children_of
children_cases P names [] view none some = none
children_cases P names (None ∷ over) zero none some = none
children_cases P names (Some cs ∷ over) zero none some = some cs refl
children_cases P names (own ∷ over) (suc view) none some = children_cases P names over view none some

Contains-tail : (x : List ℕ) (xs : List (List ℕ)) (y : List ℕ) → Contains xs y → Contains (x ∷ xs) y
Contains-tail x xs y (k, l, e) = (suc k, omega arith, e)

-- what holds of the number of each member holds of each number
has_number : (P : ℕ → Type 0) (f : List ℕ → ℕ) (cs : List (List ℕ)) (u : ℕ) → ((c : List ℕ) → Contains cs c → P (f c)) →
    has (map f cs) u ≡ true → P u
unfolding has
has_number P f [] u h m = cc
has_number P f (c ∷ cs) u h m =
    elim (or_cases (f c == u) _ m) [
      | inl here ↦ subst P (eqb-true (f c) u here) (h c (0, omega arith, refl))
      | inr later ↦ has_number P f cs u (λ d in'. h d (Contains-tail c cs d in')) later
    ]

-- two names of one number are the same name
number_same : (names : List (List ℕ)) (c d : List ℕ) (u : ℕ) → number_of names c ≡ Some u → number_of names d ≡ Some u → c ≡ d
number_same names c d u e f =
    let a = position-Some (λ n. bytes_eq n c) names u [] e in
    let b = position-Some (λ n. bytes_eq n d) names u [] f in
    sym ((bytes_eq-Decides (get_or names u []) c).0 a.1) ∙ (bytes_eq-Decides (get_or names u []) d).0 b.1

unwrap_same : (o : Option ℕ) (u : ℕ) → o ≡ Some u → unwrap_or o 0 ≡ u
unwrap_same None u e = cc
unwrap_same (Some v) u e = same_Some v u e

-- distinct names that views have are distinct numbers
distinct_numbers : (names cs : List (List ℕ)) → ((c : List ℕ) → Contains cs c → (u : ℕ) × (number_of names c ≡ Some u)) →
    AllPairs (λ first second. first ≢ second) cs → Distinct (numbers_of names cs)
unfolding Distinct
distinct_numbers names [] named apart = tt
distinct_numbers names (c ∷ cs) named apart = (
  false_from_ne_true _
      (λ m. has_number (λ u. u ≢ unwrap_or (number_of names c) 0) (λ d. unwrap_or (number_of names d) 0) cs _
      (λ d (k, l, e) same.
      let n = named c (0, omega arith, refl) in
      let o = named d (Contains-tail c cs d (k, l, e)) in
      let equal : o.0 ≡ n.0 = sym (unwrap_same (number_of names d) o.0 o.1) ∙ same ∙ unwrap_same (number_of names c) n.0 n.1 in
      apart 0 (suc k) d (omega arith) (omega arith) (number_same names c d n.0 n.1 (o.1 ∙ ap Some equal) ∙ sym e))
      m refl),
  distinct_numbers names cs (λ d in'. named d (Contains-tail c cs d in')) (λ i j d l m. apart (suc i) (suc j) d (omega arith) (omega arith)),
)

pub shape_of : (names : List (List ℕ)) (over : List (Option (List (List ℕ)))) → IsWellFormed names over →
    IsShape (map (children_written names) over)
unfolding Distinct has
shape_of names over w = record {
  few_views = rw length-map w.few_views;
  few_children = λ v. children_cases (λ own. length own ≤ 6) names over v (omega arith) (λ cs at. rw length-map (w.few_children v cs at));
  lower = λ v u. children_cases (λ own. has own u ≡ true → u < v) names over v (λ m. cc)
      (has_numbers v u);
  distinct = λ v. children_cases Distinct names over v tt
      (λ cs at. distinct_numbers names cs (λ c in'. let low = w.children_lower v cs c at in' in (low.0, low.1)) (w.children_distinct v cs at));
}
  where
    has_numbers : (v u : ℕ) (cs : List (List ℕ)) → slice_get over v ≡ Some (Some cs) → has (numbers_of names cs) u ≡ true → u < v
    has_numbers v u cs at =
        has_number (λ n. n < v) (λ c. unwrap_or (number_of names c) 0) cs u
        (λ c in'. let low = w.children_lower v cs c at in' in
        rw (unwrap_same (number_of names c) low.0 low.1) low.2)

-- as many names as lists in memory, and so as bytes
pub texts_named : (names : List (String Global)) (over : List (Option (Vec (String Global) Global))) →
    length names ≡ length over → length (texts names) ≡ length (written over)
texts_named names over h = length-map names string_bytes ∙ h ∙ sym (length-map over written_list)
