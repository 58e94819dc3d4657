-- The rule of levels, and what a loop over the views adds.
use Rattle.std.proofs.Common.{◌≡◌, ℕ, zero, suc, ◌+◌, ◌<◌, Bool, true, false, cond, List, [], ◌∷◌, ◌++◌, map, refl, ap, sym, ◌∙◌, arith}
use Rattle.std.specs.Prelude.{slice_index, filter, ◌||◌, ◌==◌}
use Rattle.std.specs.List.{range_with_len, All}
use Rattle.std.proofs.lemmas.List.{map-id, append-nil}
use Rattle.std.proofs.lemmas.List.Elements.{filter-append}
use Rattle.std.proofs.lemmas.List.FromFn.{map-range_with_len_more}
use Rattle.std.proofs.lemmas.Bool.Decides.{Decides-eqb}
use Rattle.wh_dag.specs.Shape.{has, children_of, IsShape}
use Rattle.wh_dag.specs.Level.{level_over, level_within, level_of}

pub or_right : (b c : Bool) → c ≡ true → (b || c) ≡ true
or_right true c h = refl
or_right false c h = h

pub or_left : (b c : Bool) → b ≡ true → (b || c) ≡ true
or_left true c h = refl
or_left false c h = cc

pub has_head : (x : ℕ) (xs : List ℕ) → has (x ∷ xs) x ≡ true
unfolding has
has_head x xs = or_left (x == x) _ ((Decides-eqb x x).1 refl)

pub has_tail : (x : ℕ) (xs : List ℕ) (u : ℕ) → has xs u ≡ true → has (x ∷ xs) u ≡ true
unfolding has
has_tail x xs u h = or_right (x == u) _ h

-- two functions that agree at each member map the list alike
pub map_agree : (f g : ℕ → ℕ) (xs : List ℕ) → ((u : ℕ) → has xs u ≡ true → f u ≡ g u) → map f xs ≡ map g xs
map_agree f g [] h = refl
map_agree f g (x ∷ xs) h =
    let head : f x ≡ g x = h x (has_head x xs) in
    let tail : map f xs ≡ map g xs = map_agree f g xs (λ u m. h u (has_tail x xs u m)) in
    cc

-- each member of a list that has only such members
pub All-from_has : (P : ℕ → Type 0) (xs : List ℕ) → ((u : ℕ) → has xs u ≡ true → P u) → All P xs
All-from_has P [] h k d l = absurd (omega arith)
All-from_has P (x ∷ xs) h zero d l = h x (has_head x xs)
All-from_has P (x ∷ xs) h (suc k) d l = All-from_has P xs (λ u m. h u (has_tail x xs u m)) k d (omega arith)

-- as children are lower, more steps than the view's number change nothing
pub level_within_enough : (shape : List (List ℕ)) → IsShape shape → (m n view : ℕ) → view < m → view < n →
    level_within m shape view ≡ level_within n shape view
unfolding level_within
level_within_enough shape s zero n view l r = absurd (omega arith)
level_within_enough shape s (suc m) zero view l r = absurd (omega arith)
level_within_enough shape s (suc m) (suc n) view l r =
    ap level_over
    (map_agree _ _ (children_of shape view) (λ u h. let low : u < view = s.lower view u h in
    level_within_enough shape s m n u (omega arith) (omega arith)))

pub level_rule : (shape : List (List ℕ)) → IsShape shape → (view : ℕ) →
    level_of shape view ≡ level_over (map (level_of shape) (children_of shape view))
unfolding level_of level_within
level_rule shape s view =
    ap level_over
    (map_agree _ _ (children_of shape view) (λ u h. let low : u < view = s.lower view u h in
    level_within_enough shape s view (suc u) u low (omega arith)))

-- the level of the next view, from the levels of those before it
pub level_next : (shape : List (List ℕ)) → IsShape shape → (levels own : List ℕ) (view : ℕ) → own ≡ children_of shape view →
    ((v : ℕ) → v < view → slice_index levels v ≡ level_of shape v) →
    level_over (map (slice_index levels) own) ≡ level_of shape view
level_next shape s levels own view e h =
    rw (e, level_rule shape s view)
    (ap level_over (map_agree _ _ (children_of shape view) (λ u m. h u (s.lower view u m))))

pub range_with_len_more : (n : ℕ) → range_with_len 0 (n + 1) ≡ range_with_len 0 n ++ n ∷ []
range_with_len_more n =
    sym (map-id (range_with_len 0 (n + 1)))
    ∙ map-range_with_len_more (λ k. k) 0 n n (omega arith)
    ∙ ap (λ z. z ++ n ∷ []) (map-id (range_with_len 0 n))

-- one number more, kept where it passes
pub filter_range_more : (p : ℕ → Bool) (n : ℕ) →
    filter p (range_with_len 0 (n + 1)) ≡ filter p (range_with_len 0 n) ++ cond (p n) (n ∷ []) []
filter_range_more p n = ap (filter p) (range_with_len_more n) ∙ filter-append p (range_with_len 0 n) (n ∷ [])

-- a number that passes, put at the end of those below it that pass
pub filter_range_in : (p : ℕ → Bool) (n : ℕ) (old new : List ℕ) → old ≡ filter p (range_with_len 0 n) →
    p n ≡ true → new ≡ old ++ n ∷ [] → new ≡ filter p (range_with_len 0 (n + 1))
filter_range_in p n old new e t m = m ∙ ap (λ z. z ++ n ∷ []) e ∙ sym (rw t at (filter_range_more p n))

-- a number that does not pass leaves them as they are
pub filter_range_out : (p : ℕ → Bool) (n : ℕ) (old new : List ℕ) → old ≡ filter p (range_with_len 0 n) →
    p n ≡ false → new ≡ old → new ≡ filter p (range_with_len 0 (n + 1))
filter_range_out p n old new e t m =
    m ∙ e ∙ sym (rw (t, append-nil) at (filter_range_more p n))
