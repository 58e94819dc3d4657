-- A correct list has few expressions.
use Rattle.std.proofs.Common.{◌≡◌, ℕ, ◌+◌, ◌*◌, ◌<◌, ◌≤◌, true, List, [], ◌∷◌, length, refl, ap, sym, subst, zero, suc, arith, ⊎_elim}
use Rattle.std.specs.Prelude.{map}
use Rattle.std.specs.List.{range_with_len}
use Rattle.std.proofs.lemmas.Bool.{cases_lt, eqb-true, false_from_ne_true, false≢true, or_cases}
use Rattle.std.proofs.lemmas.List.{length-map}
use Rattle.std.proofs.lemmas.List.FromFn.{length-range_with_len}
use Rattle.wh_dag.specs.Shape.{Distinct, IsShape, children_of, has}
use Rattle.wh_dag.proofs.Members.{length-le_members}
use Rattle.wh_strategy.specs.Expression.{At}
use Rattle.wh_strategy.specs.Rules.{IsCorrect}
use Rattle.wh_strategy.specs.declared.expression.Expression.{Expression}
use Rattle.wh_strategy.specs.declared.expression.Expression.TheVariants.{Comp, Inst}
use Rattle.wh_strategy.proofs.Found.{has-head, has-tail}

-- a number of its own for each expression of a correct list, as views are below 64
abbrev code : Expression → ℕ
code (Inst v) = v * 65 + 64
code (Comp v []) = 0
code (Comp v (u ∷ us)) = v * 65 + u

place_of : (f : Expression → ℕ) (xs : List Expression) (u : ℕ) → has (map f xs) u ≡ true → (k : ℕ) × (x : Expression) × At xs k x × (f x ≡ u)
unfolding has
place_of f [] u h = absurd (false≢true h)
place_of f (x ∷ xs) u h =
    ⊎_elim
    (λ here. (0, x, refl, eqb-true (f x) u here))
    (λ later. let at = place_of f xs u later in (suc at.0, at.1, at.2, at.3))
    (or_cases _ _ h)

distinct_codes : (f : Expression → ℕ) (list : List Expression) → ((p q : ℕ) (x y : Expression) → At list p x → At list q y → f x ≡ f y → p ≡ q) → Distinct (map f list)
unfolding Distinct
distinct_codes f [] h = tt
distinct_codes f (x ∷ xs) h = (
  false_from_ne_true _
      (λ m.
      let at = place_of f xs (f x) m in
      let e : 0 ≡ suc at.0 = h 0 (suc at.0) x at.1 refl at.2 (sym at.3) in
      omega arith),
  distinct_codes f xs (λ p q y z a b e. let s : suc p ≡ suc q = h (suc p) (suc q) y z a b e in omega arith),
)

has_range : (a n u : ℕ) → a ≤ u → u < a + n → has (range_with_len a n) u ≡ true
has_range a zero u l m = absurd (omega arith)
has_range a (suc n) u l m =
    ⊎_elim
    (λ above. has-tail a u (range_with_len (a + 1) n) (has_range (a + 1) n u (omega arith) (omega arith)))
    (λ same. let e : a ≡ u = omega arith in subst (λ z. has (a ∷ range_with_len (a + 1) n) z ≡ true) e (has-head a (range_with_len (a + 1) n)))
    (cases_lt a u)

few_codes : (f : Expression → ℕ) (list : List Expression) (n : ℕ) → ((p q : ℕ) (x y : Expression) → At list p x → At list q y → f x ≡ f y → p ≡ q)
    → ((k : ℕ) (x : Expression) → At list k x → f x < n) → length list ≤ n
few_codes f list n apart below =
    let few = length-le_members (map f list) (range_with_len 0 n) (distinct_codes f list apart)
    (λ u m.
    let at = place_of f list u m in
    let l : f at.1 < n = below at.0 at.1 at.2 in
    has_range 0 n u (omega arith) (omega (arith, at.3))) in
    let many = length-map list f in
    let all = length-range_with_len 0 n in
    omega arith

small_source : (shape : List (List ℕ)) (list : List Expression) → IsShape shape → IsCorrect shape list → (p v u : ℕ) (us : List ℕ) → At list p (Comp v (u ∷ us)) → (v < 64) × (u < 64)
small_source shape list sh co p v u us at =
    let ok = co.allowed p v (u ∷ us) at in
    let inside : v < length shape = ok.0 in
    let few = sh.few_views in
    let below : u < v = sh.lower v u (ok.3 u (has-head u us)) in
    (omega arith, omega arith)

no_sources : (shape : List (List ℕ)) (list : List Expression) → IsCorrect shape list → (p v : ℕ) → At list p (Comp v []) → ⊥
no_sources shape list co p v at = let some : 1 ≤ 0 = (co.allowed p v [] at).1 in omega arith

codes_apart : (shape : List (List ℕ)) (list : List Expression) → IsShape shape → IsCorrect shape list → (p q : ℕ) (x y : Expression) → At list p x → At list q y → code x ≡ code y → p ≡ q
codes_apart shape list sh co p q (Inst v) (Inst w) a b e =
    let same : w ≡ v = omega arith in
    co.one_inst p q v a (subst (λ z. At list q (Inst z)) same b)
codes_apart shape list sh co p q (Inst v) (Comp w []) a b e = absurd (no_sources shape list co q w b)
codes_apart shape list sh co p q (Inst v) (Comp w (u ∷ us)) a b e = let s = small_source shape list sh co q w u us b in absurd (omega arith)
codes_apart shape list sh co p q (Comp v []) y a b e = absurd (no_sources shape list co p v a)
codes_apart shape list sh co p q (Comp v (u ∷ us)) (Inst w) a b e = let s = small_source shape list sh co p v u us a in absurd (omega arith)
codes_apart shape list sh co p q (Comp v (u ∷ us)) (Comp w []) a b e = absurd (no_sources shape list co q w b)
codes_apart shape list sh co p q (Comp v (u ∷ us)) (Comp w (x ∷ xs)) a b e =
    let s = small_source shape list sh co p v u us a in
    let t = small_source shape list sh co q w x xs b in
    let codes : v * 65 + u ≡ w * 65 + x = e in
    let same : w ≡ v = omega arith in
    let source : x ≡ u = omega arith in
    co.once p q v u (u ∷ us) (x ∷ xs) a (subst (λ z. At list q (Comp z (x ∷ xs))) same b) (has-head u us)
    (subst (λ z. has (x ∷ xs) z ≡ true) source (has-head x xs))

codes_below : (shape : List (List ℕ)) (list : List Expression) → IsShape shape → IsCorrect shape list → (k : ℕ) (x : Expression) → At list k x → code x < 4160
codes_below shape list sh co k (Inst v) at = let inside : v < length shape = co.views k v at in let few = sh.few_views in omega arith
codes_below shape list sh co k (Comp v []) at = absurd (no_sources shape list co k v at)
codes_below shape list sh co k (Comp v (u ∷ us)) at = let s = small_source shape list sh co k v u us at in let below : v * 65 + u < 4160 = omega arith in below

pub few_expressions : (shape : List (List ℕ)) (list : List Expression) → IsShape shape → IsCorrect shape list → length list ≤ 4160
few_expressions shape list sh co = few_codes code list 4160 (codes_apart shape list sh co) (codes_below shape list sh co)
