-- What the sets of a draft tell while couples are decided and decisions are taken back.
use Rattle.std.proofs.Common.{◌≡◌, ◌≢◌, ℕ, zero, suc, ◌+◌, ◌<◌, ◌≤◌, ◌⊎◌, List, [], ◌∷◌, ◌++◌, Bool, true, false, not, ◌&&◌, ◌||◌, eqb, ltb, filter, refl, sym, ap, ◌∙◌, subst, length, take, get_or, slice_get, Some, ⊎_elim, inl, inr, arith}
use Rattle.std.proofs.lemmas.Bool.{cases_order, eqb-true, eq-eqb, ne_eqb, lt-ltb, le-ltb, and_parts, or_left, or_right, or_cases, both_ways, false≢true, false_from_ne_true}
use Rattle.std.proofs.lemmas.Option.{none-some, same_Some}
use Rattle.std.proofs.lemmas.List.Folds.{list_any-append}
use Rattle.std.proofs.lemmas.Map.Views.{any-filter_same}
use Rattle.wh_dag.specs.Shape.{has, children_of, IsShape}
use Rattle.wh_dag.specs.Siblings.{IsCouple}
use Rattle.wh_strategy.proofs.Found.{has_within}
use Rattle.wh_cert.specs.Graph.{decides, DecidesAll}
use Rattle.wh_cert.proofs.Tables.{has_more}
use Rattle.wh_minwork.specs.Decided.{AreDecisions}
use Rattle.wh_minwork.specs.Draft.{completed, leaves_open, DecidesCouples}
use Rattle.wh_minwork.specs.Inner.Draft.{AreDraftSets, DecidesOneWay}
use Rattle.wh_minwork.specs.Inner.Sets.{in_rows}
use Rattle.wh_minwork.proofs.Decisions.{decides_push, decides_new, decides_was}
use Rattle.wh_minwork.proofs.Ordering.{couple_within}

-- ---- rows that are filled

row_of : (x h w r : Bool) → ((x && w) || ((x && h) || r)) ≡ ((x && (h || w)) || r)
row_of true true true r = refl
row_of true true false r = refl
row_of true false true r = refl
row_of true false false r = refl
row_of false h w r = refl

-- a row that grows by one
pub fill_more : (old new initial : ℕ → ℕ → Bool) (v : ℕ) (row : List ℕ) (k : ℕ) → k < length row → ((a b : ℕ) → old a b ≡ ((eqb v a && has (take k row) b) || initial a b)) → ((a b : ℕ) → new a b ≡ ((eqb v a && eqb (get_or row k 0) b) || old a b)) → (a b : ℕ) → new a b ≡ ((eqb v a && has (take (k + 1) row) b) || initial a b)
fill_more old new initial v row k l h g a b =
    g a b ∙ ap (λ z. (eqb v a && eqb (get_or row k 0) b) || z) (h a b)
    ∙ row_of (eqb v a) (has (take k row) b) (eqb (get_or row k 0) b) (initial a b)
    ∙ ap (λ z. (eqb v a && z) || initial a b) (sym (has_more row k b l))

pub fill_none : (initial : ℕ → ℕ → Bool) (v a b : ℕ) (row : List ℕ) → initial a b ≡ ((eqb v a && has (take 0 row) b) || initial a b)
unfolding has
fill_none initial v a b row = by (eqb v a) (initial a b)
  where
    by : (x r : Bool) → r ≡ ((x && false) || r)
    by true r = refl
    by false r = refl

or_no : (x : Bool) → (x || false) ≡ x
or_no true = refl
or_no false = refl

-- a view more
pub below_more : (v a : ℕ) → (eqb v a || ltb a v) ≡ ltb a (v + 1)
below_more v a =
    ⊎_elim
    (λ (e : v ≡ a). let t : ltb a (v + 1) ≡ true = lt-ltb a (v + 1) (omega arith) in rw (eq-eqb v a e, t) refl)
    (λ o. ⊎_elim
    (λ (l : v < a).
    let t : ltb a (v + 1) ≡ false = le-ltb a (v + 1) (omega arith) in
    let f : ltb a v ≡ false = le-ltb a v (omega arith) in
    rw (ne_eqb v a (λ e. omega arith), f, t) refl)
    (λ (l : a < v).
    let t : ltb a (v + 1) ≡ true = lt-ltb a (v + 1) (omega arith) in
    let f : ltb a v ≡ true = lt-ltb a v l in
    rw (ne_eqb v a (λ e. omega arith), f, t) refl)
    o)
    (cases_order v a)

pub filled_row : (shape : List (List ℕ)) (new : ℕ → ℕ → Bool) (v : ℕ) (row : List ℕ) (k : ℕ) → row ≡ children_of shape v → take k row ≡ row → ((a b : ℕ) → new a b ≡ ((eqb v a && has (take k row) b) || (ltb a v && has (children_of shape a) b))) → (a b : ℕ) → new a b ≡ (ltb a (v + 1) && has (children_of shape a) b)
filled_row shape new v row k own whole h a b =
    h a b ∙ ap (λ z. (eqb v a && has z b) || (ltb a v && has (children_of shape a) b)) (whole ∙ own) ∙ same (eqb v a) refl ∙ ap (λ z. z && has (children_of shape a) b) (below_more v a)
  where
    same : (x : Bool) → eqb v a ≡ x → ((x && has (children_of shape v) b) || (ltb a v && has (children_of shape a) b)) ≡ ((x || ltb a v) && has (children_of shape a) b)
    same true e = rw (eqb-true v a e) (by (has (children_of shape a) b) (ltb a a))
      where
        by : (x r : Bool) → (x || (r && x)) ≡ x
        by true r = refl
        by false true = refl
        by false false = refl
    same false e = refl

pub filled_all : (shape : List (List ℕ)) (new : ℕ → ℕ → Bool) (v : ℕ) → length shape ≤ v → ((a b : ℕ) → new a b ≡ (ltb a v && has (children_of shape a) b)) → (a b : ℕ) → new a b ≡ has (children_of shape a) b
filled_all shape new v n h a b = h a b ∙ by (has (children_of shape a) b) refl
  where
    by : (x : Bool) → has (children_of shape a) b ≡ x → (ltb a v && x) ≡ x
    by true m = let l : a < length shape = has_within shape a b m in rw (lt-ltb a v (omega arith)) refl
    by false m = no (ltb a v)
      where
        no : (r : Bool) → (r && false) ≡ false
        no true = refl
        no false = refl

-- ---- couples

-- the numbers of a couple have a place in a set
pub couple_small : (shape : List (List ℕ)) (u w : ℕ) → IsShape shape → IsCouple shape u w → (u < 64) × (w < 64)
couple_small shape u w sh c =
    let l = couple_within shape u w sh c.1 in
    let few : length shape ≤ 64 = sh.few_views in
    let a : u < length shape = l.0 in
    let b : w < length shape = l.1 in
    (omega arith, omega arith)

-- what is decided stands in the list
pub decision_stands : (ds : List (ℕ × ℕ)) (u w : ℕ) → decides ds u w ≡ true → (p : ℕ) × (c : ℕ × ℕ) × (slice_get ds p ≡ Some c) × (c.0 ≡ u) × (c.1 ≡ w)
unfolding decides
decision_stands [] u w h = absurd (false≢true h)
decision_stands (d ∷ ds) u w h =
    ⊎_elim
    (λ e. let b = and_parts _ _ e in (0, d, refl, eqb-true d.0 u b.0, eqb-true d.1 w b.1))
    (λ e. let r = decision_stands ds u w e in (suc r.0, r.1, r.2, r.3, r.4))
    (or_cases _ _ h)

-- the decisions of a list are one way
pub decisions_one_way : (ds : List (ℕ × ℕ)) → AreDecisions ds → DecidesOneWay ds
decisions_one_way ds h u w t = false_from_ne_true _ (λ back.
    let a = decision_stands ds u w t in
    let b = decision_stands ds w u back in
    let e : a.0 ≡ b.0 = h.once a.0 b.0 a.1 b.1 a.2 b.2 (inr (a.3 ∙ sym b.4, a.4 ∙ sym b.3)) in
    let same : a.1 ≡ b.1 = same_Some a.1 b.1 (sym a.2 ∙ ap (slice_get ds) e ∙ b.2) in
    h.two a.0 a.1 a.2 (a.3 ∙ sym b.4 ∙ ap (λ z. z.1) (sym same)))

get_last : (ds : List (ℕ × ℕ)) (c : ℕ × ℕ) → slice_get (ds ++ c ∷ []) (length ds) ≡ Some c
get_last [] c = refl
get_last (d ∷ ds) c = get_last ds c

get_before : (ds : List (ℕ × ℕ)) (c d : ℕ × ℕ) (p : ℕ) → slice_get ds p ≡ Some d → (slice_get (ds ++ c ∷ []) p ≡ Some d) × (p < length ds)
get_before [] c d zero h = absurd (none-some d h)
get_before [] c d (suc p) h = absurd (none-some d h)
get_before (x ∷ xs) c d zero h = (h, omega arith)
get_before (x ∷ xs) c d (suc p) h = let r = get_before xs c d p h in let l : p < length xs = r.1 in (r.0, omega arith)

-- the last decision is on a couple that those before it leave open
pub last_open : (ds : List (ℕ × ℕ)) (a b : ℕ) → AreDecisions (ds ++ (a, b) ∷ []) → (decides ds a b ≡ false) × (decides ds b a ≡ false)
last_open ds a b h = (false_from_ne_true _ (λ t. never a b (inl (refl, refl)) t), false_from_ne_true _ (λ t. never b a (inr (refl, refl)) t))
  where
    never : (u w : ℕ) → ((u ≡ a) × (w ≡ b)) ⊎ ((u ≡ b) × (w ≡ a)) → decides ds u w ≡ true → ⊥
    never u w is t =
        let s = decision_stands ds u w t in
        let g = get_before ds (a, b) s.1 s.0 s.2 in
        let l : s.0 < length ds = g.1 in
        let e : s.0 ≡ length ds = h.once s.0 (length ds) s.1 (a, b) g.0 (get_last ds (a, b)) (⊎_elim (λ i. inl (s.3 ∙ i.0, s.4 ∙ i.1)) (λ i. inr (s.3 ∙ i.0, s.4 ∙ i.1)) is) in
        omega arith

-- ---- the couples that are left as they are ordered

-- what is decided by the completed list
pub completed_decides : (ordered ds : List (ℕ × ℕ)) (u w : ℕ) → decides (completed ordered ds) u w ≡ (decides ds u w || (not (decides ds u w || decides ds w u) && decides ordered u w))
unfolding decides
completed_decides ordered ds u w =
    list_any-append (λ d. eqb d.0 u && eqb d.1 w) ds (filter (leaves_open ds) ordered)
    ∙ ap (λ z. decides ds u w || z) (any-filter_same (λ (d : ℕ × ℕ). eqb d.0 u && eqb d.1 w) (leaves_open ds) (not (decides ds u w || decides ds w u)) (λ d t. let b = and_parts _ _ t in same d.0 d.1 (eqb-true d.0 u b.0) (eqb-true d.1 w b.1)) ordered)
  where
    same : (a b : ℕ) → a ≡ u → b ≡ w → not (decides ds a b || decides ds b a) ≡ not (decides ds u w || decides ds w u)
    same a b e f = ap (λ z. not (decides ds z b || decides ds b z)) e ∙ ap (λ z. not (decides ds u z || decides ds z u)) f

pub completed_none : (ordered : List (ℕ × ℕ)) (u w : ℕ) → decides (completed ordered []) u w ≡ decides ordered u w
unfolding decides
completed_none ordered u w = completed_decides ordered [] u w

push_bits : (p q d e o : Bool) → (q ≡ true → (p ≡ false) × (d ≡ false) × (e ≡ false)) → (p || (not q && (d || (not (d || e) && o)))) ≡ ((d || p) || (not ((d || p) || (e || q)) && o))
push_bits true q true e o h = refl
push_bits true q false e o h = refl
push_bits false true true e o h = absurd (false≢true (sym (h refl).1))
push_bits false true false true o h = absurd (false≢true (sym (h refl).2))
push_bits false true false false o h = refl
push_bits false false true e o h = refl
push_bits false false false true o h = refl
push_bits false false false false o h = refl

turn_bits : (p q d e o : Bool) → (p ≡ true → (q ≡ false) × (d ≡ false) × (e ≡ false) × (o ≡ false)) → (q ≡ true → (d ≡ false) × (e ≡ false) × (o ≡ true)) → (q || (not p && ((d || p) || (not ((d || p) || (e || q)) && o)))) ≡ (d || (not (d || e) && o))
turn_bits true true d e o g h = absurd (false≢true (sym (g refl).0))
turn_bits true false d e o g h = rw ((g refl).1, (g refl).2, (g refl).3) refl
turn_bits false true d e o g h = rw ((h refl).0, (h refl).1, (h refl).2) refl
turn_bits false false true e o g h = refl
turn_bits false false false true o g h = refl
turn_bits false false false false o g h = refl

keep_bits : (p q d e o : Bool) → (p ≡ true → (d ≡ false) × (e ≡ false) × (o ≡ true)) → (q ≡ true → (p ≡ false) × (d ≡ false) × (e ≡ false) × (o ≡ false)) → ((d || p) || (not ((d || p) || (e || q)) && o)) ≡ (d || (not (d || e) && o))
keep_bits true q d e o g h = rw ((g refl).0, (g refl).1, (g refl).2) refl
keep_bits false true d e o g h = rw ((h refl).1, (h refl).2, (h refl).3) refl
keep_bits false false true e o g h = refl
keep_bits false false false true o g h = refl
keep_bits false false false false o g h = refl

settle_bits : (p q d e : Bool) → (q || (p || (d || e))) ≡ ((d || p) || (e || q))
settle_bits true true true e = refl
settle_bits true true false e = refl
settle_bits true false true e = refl
settle_bits true false false e = refl
settle_bits false true true e = refl
settle_bits false true false true = refl
settle_bits false true false false = refl
settle_bits false false true e = refl
settle_bits false false false true = refl
settle_bits false false false false = refl

free_bits : (p q d e : Bool) → (p ≡ true → (d ≡ false) × (e ≡ false)) → (q ≡ true → (d ≡ false) × (e ≡ false)) → (not q && (not p && ((d || p) || (e || q)))) ≡ (d || e)
free_bits p true d e g h = rw ((h refl).0, (h refl).1) refl
free_bits true false d e g h = rw ((g refl).0, (g refl).1) refl
free_bits false false true e g h = refl
free_bits false false false true g h = refl
free_bits false false false false g h = refl

pub and_swap : (x y : Bool) → (x && y) ≡ (y && x)
and_swap true true = refl
and_swap true false = refl
and_swap false true = refl
and_swap false false = refl

-- the decision on a and b is asked of
abbrev is_this : ℕ → ℕ → ℕ → ℕ → Bool
is_this a b u w = eqb a u && eqb b w

this_is : (a b u w : ℕ) → is_this a b u w ≡ true → (a ≡ u) × (b ≡ w)
this_is a b u w t = let p = and_parts _ _ t in (eqb-true a u p.0, eqb-true b w p.1)

-- u, w is not both this pair and this pair turned round
not_turned : (a b u w : ℕ) → a ≢ b → is_this a b w u ≡ true → is_this a b u w ≡ false
not_turned a b u w n t = false_from_ne_true _ (λ s. let x = this_is a b w u t in let y = this_is a b u w s in n (x.0 ∙ sym y.1))

-- what holds of the decisions on a and b holds at these numbers
at_this : (ds : List (ℕ × ℕ)) (a b u w : ℕ) (x : Bool) → decides ds a b ≡ x → is_this a b u w ≡ true → decides ds u w ≡ x
at_this ds a b u w x h t = let i = this_is a b u w t in subst (λ z. decides ds z w ≡ x) i.0 (subst (λ z. decides ds a z ≡ x) i.1 h)

at_turned : (ds : List (ℕ × ℕ)) (a b u w : ℕ) (x : Bool) → decides ds b a ≡ x → is_this a b w u ≡ true → decides ds u w ≡ x
at_turned ds a b u w x h t = let i = this_is a b w u t in subst (λ z. decides ds z w ≡ x) i.1 (subst (λ z. decides ds b z ≡ x) i.0 h)

-- one decision more
pub completed_push : (ordered ds : List (ℕ × ℕ)) (before before' : ℕ → ℕ → Bool) (a b : ℕ) → a ≢ b → decides ds a b ≡ false → decides ds b a ≡ false → ((w u : ℕ) → before' w u ≡ ((eqb b w && eqb a u) || (not (eqb a w && eqb b u) && before w u))) → (u w : ℕ) → before w u ≡ decides (completed ordered ds) u w → before' w u ≡ decides (completed ordered (ds ++ (a, b) ∷ [])) u w
completed_push ordered ds before before' a b n o o' g u w h =
    g w u
    ∙ ap (λ z. z || (not (is_this a b w u) && before w u)) (and_swap (eqb b w) (eqb a u))
    ∙ ap (λ z. is_this a b u w || (not (is_this a b w u) && z)) (h ∙ completed_decides ordered ds u w)
    ∙ push_bits (is_this a b u w) (is_this a b w u) (decides ds u w) (decides ds w u) (decides ordered u w) (λ t. (not_turned a b u w n t, at_turned ds a b u w false o' t, at_this ds a b w u false o t))
    ∙ sym (pushed ordered ds a b u w)
  where
    pushed : (ordered ds : List (ℕ × ℕ)) (a b u w : ℕ) → decides (completed ordered (ds ++ (a, b) ∷ [])) u w ≡ ((decides ds u w || is_this a b u w) || (not ((decides ds u w || is_this a b u w) || (decides ds w u || is_this a b w u)) && decides ordered u w))
    pushed ordered ds a b u w =
        completed_decides ordered (ds ++ (a, b) ∷ []) u w
        ∙ ap (λ z. z || (not (z || decides (ds ++ (a, b) ∷ []) w u) && decides ordered u w)) (decides_push ds a b u w)
        ∙ ap (λ z. (decides ds u w || is_this a b u w) || (not ((decides ds u w || is_this a b u w) || z) && decides ordered u w)) (decides_push ds a b w u)

pushed_form : (ordered ds : List (ℕ × ℕ)) (a b u w : ℕ) → decides (completed ordered (ds ++ (a, b) ∷ [])) u w ≡ ((decides ds u w || is_this a b u w) || (not ((decides ds u w || is_this a b u w) || (decides ds w u || is_this a b w u)) && decides ordered u w))
pushed_form ordered ds a b u w =
    completed_decides ordered (ds ++ (a, b) ∷ []) u w
    ∙ ap (λ z. z || (not (z || decides (ds ++ (a, b) ∷ []) w u) && decides ordered u w)) (decides_push ds a b u w)
    ∙ ap (λ z. (decides ds u w || is_this a b u w) || (not ((decides ds u w || is_this a b u w) || z) && decides ordered u w)) (decides_push ds a b w u)

-- the last decision is taken back, which was against the order of all couples
pub completed_turn : (ordered ds : List (ℕ × ℕ)) (before before' : ℕ → ℕ → Bool) (a b : ℕ) → a ≢ b → decides ds a b ≡ false → decides ds b a ≡ false → decides ordered b a ≡ true → decides ordered a b ≡ false → ((w u : ℕ) → before' w u ≡ ((eqb a w && eqb b u) || (not (eqb b w && eqb a u) && before w u))) → (u w : ℕ) → before w u ≡ decides (completed ordered (ds ++ (a, b) ∷ [])) u w → before' w u ≡ decides (completed ordered ds) u w
completed_turn ordered ds before before' a b n o o' d d' g u w h =
    g w u
    ∙ ap (λ z. is_this a b w u || (not z && before w u)) (and_swap (eqb b w) (eqb a u))
    ∙ ap (λ z. is_this a b w u || (not (is_this a b u w) && z)) (h ∙ pushed_form ordered ds a b u w)
    ∙ turn_bits (is_this a b u w) (is_this a b w u) (decides ds u w) (decides ds w u) (decides ordered u w)
    (λ t. (not_turned a b w u n t, at_this ds a b u w false o t, at_turned ds a b w u false o' t, at_this ordered a b u w false d' t))
    (λ t. (at_turned ds a b u w false o' t, at_this ds a b w u false o t, at_turned ordered a b u w true d t))
    ∙ sym (completed_decides ordered ds u w)

-- and where it was by that order
pub completed_keep : (ordered ds : List (ℕ × ℕ)) (before : ℕ → ℕ → Bool) (a b : ℕ) → a ≢ b → decides ds a b ≡ false → decides ds b a ≡ false → decides ordered a b ≡ true → decides ordered b a ≡ false → (u w : ℕ) → before w u ≡ decides (completed ordered (ds ++ (a, b) ∷ [])) u w → before w u ≡ decides (completed ordered ds) u w
completed_keep ordered ds before a b n o o' d d' u w h =
    h ∙ pushed_form ordered ds a b u w
    ∙ keep_bits (is_this a b u w) (is_this a b w u) (decides ds u w) (decides ds w u) (decides ordered u w)
    (λ t. (at_this ds a b u w false o t, at_turned ds a b w u false o' t, at_this ordered a b u w true d t))
    (λ t. (not_turned a b u w n t, at_turned ds a b u w false o' t, at_this ds a b w u false o t, at_turned ordered a b u w false d' t))
    ∙ sym (completed_decides ordered ds u w)

-- what is settled
pub settled_push : (ds : List (ℕ × ℕ)) (settled settled' : ℕ → ℕ → Bool) (a b : ℕ) → ((u w : ℕ) → settled u w ≡ (decides ds u w || decides ds w u)) → ((u w : ℕ) → settled' u w ≡ ((eqb b u && eqb a w) || ((eqb a u && eqb b w) || settled u w))) → (u w : ℕ) → settled' u w ≡ (decides (ds ++ (a, b) ∷ []) u w || decides (ds ++ (a, b) ∷ []) w u)
settled_push ds settled settled' a b h g u w =
    g u w
    ∙ ap (λ z. z || (is_this a b u w || settled u w)) (and_swap (eqb b u) (eqb a w))
    ∙ ap (λ z. is_this a b w u || (is_this a b u w || z)) (h u w)
    ∙ settle_bits (is_this a b u w) (is_this a b w u) (decides ds u w) (decides ds w u)
    ∙ sym (ap (λ z. z || decides (ds ++ (a, b) ∷ []) w u) (decides_push ds a b u w) ∙ ap (λ z. (decides ds u w || is_this a b u w) || z) (decides_push ds a b w u))

pub settled_pop : (ds : List (ℕ × ℕ)) (settled settled' : ℕ → ℕ → Bool) (a b : ℕ) → decides ds a b ≡ false → decides ds b a ≡ false → ((u w : ℕ) → settled u w ≡ (decides (ds ++ (a, b) ∷ []) u w || decides (ds ++ (a, b) ∷ []) w u)) → ((u w : ℕ) → settled' u w ≡ (not (eqb b u && eqb a w) && (not (eqb a u && eqb b w) && settled u w))) → (u w : ℕ) → settled' u w ≡ (decides ds u w || decides ds w u)
settled_pop ds settled settled' a b o o' h g u w =
    g u w
    ∙ ap (λ z. not z && (not (is_this a b u w) && settled u w)) (and_swap (eqb b u) (eqb a w))
    ∙ ap (λ z. not (is_this a b w u) && (not (is_this a b u w) && z)) (h u w ∙ ap (λ z. z || decides (ds ++ (a, b) ∷ []) w u) (decides_push ds a b u w) ∙ ap (λ z. (decides ds u w || is_this a b u w) || z) (decides_push ds a b w u))
    ∙ free_bits (is_this a b u w) (is_this a b w u) (decides ds u w) (decides ds w u)
    (λ t. (at_this ds a b u w false o t, at_turned ds a b w u false o' t))
    (λ t. (at_turned ds a b u w false o' t, at_this ds a b w u false o t))

-- each decision of one more is on a couple
pub couples_push : (shape : List (List ℕ)) (ds : List (ℕ × ℕ)) (a b : ℕ) → IsCouple shape a b → DecidesCouples shape ds → DecidesCouples shape (ds ++ (a, b) ∷ [])
couples_push shape ds a b c h u w t =
    ⊎_elim (λ o. h u w o) (λ e. subst (λ z. IsCouple shape z w) e.0 (subst (λ z. IsCouple shape a z) e.1 c)) (decides_was ds a b u w t)

pub couples_pop : (shape : List (List ℕ)) (ds : List (ℕ × ℕ)) (a b : ℕ) → DecidesCouples shape (ds ++ (a, b) ∷ []) → DecidesCouples shape ds
couples_pop shape ds a b h u w t = h u w (decides_push ds a b u w ∙ or_left _ _ t)

-- a list is what comes before its last, and its last
pub last_split : (ds : List (ℕ × ℕ)) (n : ℕ) (none : ℕ × ℕ) → n + 1 ≡ length ds → ds ≡ take n ds ++ ((get_or ds n none).0, (get_or ds n none).1) ∷ []
last_split [] n none e = absurd (omega arith)
last_split (d ∷ []) zero none e = refl
last_split (d ∷ c ∷ ds) zero none e = absurd (omega arith)
last_split (d ∷ []) (suc n) none e = absurd (omega arith)
last_split (d ∷ c ∷ ds) (suc n) none e = ap (λ z. d ∷ z) (last_split (c ∷ ds) n none (omega arith))

-- the numbers of a decision have a place in a set
pub decision_small : (shape : List (List ℕ)) (ds : List (ℕ × ℕ)) (n : ℕ) (none : ℕ × ℕ) → IsShape shape → DecidesCouples shape ds → n + 1 ≡ length ds → ((get_or ds n none).0 < 64) × ((get_or ds n none).1 < 64)
decision_small shape ds n none sh h e =
    let last : ℕ × ℕ = get_or ds n none in
    couple_small shape last.0 last.1 sh
    (h last.0 last.1 (subst (λ z. decides z last.0 last.1 ≡ true) (sym (last_split ds n none e)) (decides_new (take n ds) last.0 last.1)))

-- a couple of the shape stands one way in the order of all couples
one_order : (shape : List (List ℕ)) (ordered : List (ℕ × ℕ)) (a b : ℕ) → DecidesAll shape ordered → IsCouple shape a b → decides ordered b a ≡ false → decides ordered a b ≡ true
one_order shape ordered a b all c f = ⊎_elim (λ t. t) (λ t. absurd (both_ways _ f t)) (all.all a b c)

-- the last decision is taken back
pub sets_turned : (views : ℕ) (over under before before' desired settled settled' : List ℕ) (shape : List (List ℕ)) (ordered ds : List (ℕ × ℕ)) (a b : ℕ) → AreDraftSets views over under before desired settled shape ordered (ds ++ (a, b) ∷ []) → AreDecisions (ds ++ (a, b) ∷ []) → in_rows desired a b ≡ true → ((w u : ℕ) → in_rows before' w u ≡ ((eqb a w && eqb b u) || (not (eqb b w && eqb a u) && in_rows before w u))) → ((u w : ℕ) → in_rows settled' u w ≡ (not (eqb b u && eqb a w) && (not (eqb a u && eqb b w) && in_rows settled u w))) → AreDraftSets views over under before' desired settled' shape ordered ds
sets_turned views over under before before' desired settled settled' shape ordered ds a b h once d g s =
    let o = last_open ds a b once in
    let couple = h.decided_couples a b (decides_new ds a b) in
    let small = couple_small shape a b h.edges.shape_is couple in
    let back : decides ordered b a ≡ true = sym (h.desired_are b a small.1 small.0) ∙ d in
    record {
      edges = record {
        shape_is = h.edges.shape_is;
        views_are = h.edges.views_are;
        over_are = h.edges.over_are;
        under_are = h.edges.under_are;
        before_are = λ u w lu lw. completed_turn ordered ds (λ w u. in_rows before w u) (λ w u. in_rows before' w u) a b couple.0 o.0 o.1 back (h.ordered_once b a back) g u w (h.edges.before_are u w lu lw);
      };
      desired_are = h.desired_are;
      settled_are = settled_pop ds (λ u w. in_rows settled u w) (λ u w. in_rows settled' u w) a b o.0 o.1 h.settled_are s;
      ordered_all = h.ordered_all;
      ordered_once = h.ordered_once;
      decided_couples = couples_pop shape ds a b h.decided_couples;
    }

pub sets_kept : (views : ℕ) (over under before desired settled settled' : List ℕ) (shape : List (List ℕ)) (ordered ds : List (ℕ × ℕ)) (a b : ℕ) → AreDraftSets views over under before desired settled shape ordered (ds ++ (a, b) ∷ []) → AreDecisions (ds ++ (a, b) ∷ []) → in_rows desired a b ≡ false → ((u w : ℕ) → in_rows settled' u w ≡ (not (eqb b u && eqb a w) && (not (eqb a u && eqb b w) && in_rows settled u w))) → AreDraftSets views over under before desired settled' shape ordered ds
sets_kept views over under before desired settled settled' shape ordered ds a b h once d s =
    let o = last_open ds a b once in
    let couple = h.decided_couples a b (decides_new ds a b) in
    let small = couple_small shape a b h.edges.shape_is couple in
    let not_back : decides ordered b a ≡ false = sym (h.desired_are b a small.1 small.0) ∙ d in
    record {
      edges = record {
        shape_is = h.edges.shape_is;
        views_are = h.edges.views_are;
        over_are = h.edges.over_are;
        under_are = h.edges.under_are;
        before_are = λ u w lu lw. completed_keep ordered ds (λ w u. in_rows before w u) a b couple.0 o.0 o.1 (one_order shape ordered a b h.ordered_all couple not_back) not_back u w (h.edges.before_are u w lu lw);
      };
      desired_are = h.desired_are;
      settled_are = settled_pop ds (λ u w. in_rows settled u w) (λ u w. in_rows settled' u w) a b o.0 o.1 h.settled_are s;
      ordered_all = h.ordered_all;
      ordered_once = h.ordered_once;
      decided_couples = couples_pop shape ds a b h.decided_couples;
    }

-- a child has a place in a set
pub child_view : (shape : List (List ℕ)) (v u : ℕ) → IsShape shape → has (children_of shape v) u ≡ true → u < 64
child_view shape v u sh h =
    let few : length shape ≤ 64 = sh.few_views in
    let below : v < length shape = has_within shape v u h in
    let lower : u < v = sh.lower v u h in
    omega arith

pub child_small : (shape : List (List ℕ)) (v k : ℕ) (row : List ℕ) → IsShape shape → row ≡ children_of shape v → k < length row → get_or row k 0 < 64
unfolding has
child_small shape v k row sh own low =
    child_view shape v (get_or row k 0) sh (subst (λ z. has z (get_or row k 0) ≡ true) own (has_listed row k low))
  where
    has_listed : (xs : List ℕ) (k : ℕ) → k < length xs → has xs (get_or xs k 0) ≡ true
    has_listed [] k l = absurd (omega arith)
    has_listed (x ∷ xs) zero l = or_left _ _ (eq-eqb x x refl)
    has_listed (x ∷ xs) (suc k) l = or_right _ _ (has_listed xs k (omega arith))
