-- How often a node stands in a list, and where.
use Rattle.std.proofs.Common.{◌≡◌, ◌≢◌, ℕ, zero, suc, ◌+◌, ◌<◌, ◌≤◌, List, [], ◌∷◌, ◌++◌, ◌⊎◌, Bool, true, false, refl, sym, ap, ◌∙◌, subst, length, map, get_or, slice_get, Some, ⊎_elim, inl, inr, arith}
use Rattle.std.specs.List.{list_any, remove, All}
use Rattle.std.proofs.lemmas.Option.{none-some, same_Some}
use Rattle.std.proofs.lemmas.Bool.{eqb-true, eq-eqb, false≢true, or_cases, or_parts, or_from, and_parts, and_from, cases_Bool, cond-true, cond-false, false_from_ne_true}
use Rattle.wh_minwork.specs.Inner.Nodes.{one_if, same_node, one, times}
use Rattle.wh_minwork.specs.declared.node.Node.{Node}
use Rattle.wh_minwork.specs.declared.node.Node.TheVariants.{Comp, Inst}

pub same_itself : (e : Node) → same_node e e ≡ true
same_itself (Comp a b) = and_from _ _ (eq-eqb a a refl) (eq-eqb b b refl)
same_itself (Inst a) = eq-eqb a a refl

pub same_is : (x e : Node) → same_node x e ≡ true → x ≡ e
same_is (Comp a b) (Comp c d) h =
    let p = and_parts _ _ h in
    ap (λ z. Comp z b) (eqb-true a c p.0) ∙ ap (λ z. Comp c z) (eqb-true b d p.1)
same_is (Comp a b) (Inst c) h = absurd (false≢true h)
same_is (Inst a) (Comp c d) h = absurd (false≢true h)
same_is (Inst a) (Inst c) h = ap (λ z. Inst z) (eqb-true a c h)

pub one_itself : (e : Node) → one e e ≡ 1
one_itself e = cond-true (same_node e e) 1 0 (same_itself e)

-- a count that tells whether a test holds
pub is_one : (b : Bool) (n : ℕ) → n ≡ one_if b → b ≡ true → n ≡ 1
is_one b n h t = h ∙ cond-true b 1 0 t

pub is_none : (b : Bool) (n : ℕ) → n ≡ one_if b → b ≡ false → n ≡ 0
is_none b n h f = h ∙ cond-false b 1 0 f

pub at_most_one : (b : Bool) (n : ℕ) → n ≡ one_if b → n ≤ 1
at_most_one true n h = let k : n ≡ 1 = h in omega arith
at_most_one false n h = let k : n ≡ 0 = h in omega arith

pub times_append : (e : Node) (xs ys : List Node) → times e (xs ++ ys) ≡ times e xs + times e ys
unfolding times
times_append e [] ys = omega arith
times_append e (x ∷ xs) ys = let k : times e (xs ++ ys) ≡ times e xs + times e ys = times_append e xs ys in omega arith

pub times_push : (e : Node) (xs : List Node) (x : Node) → times e (xs ++ x ∷ []) ≡ times e xs + one x e
unfolding times
times_push e xs x = let k : times e (xs ++ x ∷ []) ≡ times e xs + (one x e + 0) = times_append e xs (x ∷ []) in omega arith

pub times_remove : (e : Node) (xs : List Node) (i : ℕ) (x : Node) → i < length xs → x ≡ get_or xs i x → times e xs ≡ one x e + times e (remove xs i)
unfolding times
times_remove e [] i x l r = absurd (omega arith)
times_remove e (y ∷ ys) zero x l r = ap (λ z. one z e + times e ys) (sym r)
times_remove e (y ∷ ys) (suc i) x l r =
    let k : times e ys ≡ one x e + times e (remove ys i) = times_remove e ys i x (omega arith) r in
    omega arith

pub times_get : (e : Node) (xs : List Node) (p : ℕ) → slice_get xs p ≡ Some e → 1 ≤ times e xs
unfolding times
times_get e [] zero h = absurd (none-some e h)
times_get e [] (suc p) h = absurd (none-some e h)
times_get e (x ∷ xs) zero h =
    let k : one x e ≡ 1 = ap (λ z. one z e) (same_Some x e h) ∙ one_itself e in
    omega arith
times_get e (x ∷ xs) (suc p) h = let k : 1 ≤ times e xs = times_get e xs p h in omega arith

pub found : (e : Node) (xs : List Node) → 1 ≤ times e xs → (p : ℕ) × (slice_get xs p ≡ Some e)
unfolding times
found e [] h = absurd (omega arith)
found e (x ∷ xs) h =
    ⊎_elim
    (λ t. (0, ap Some (same_is x e t)))
    (λ f.
    let k : one x e ≡ 0 = cond-false (same_node x e) 1 0 f in
    let r = found e xs (omega arith) in (suc r.0, r.1))
    (cases_Bool (same_node x e))

pub twice : (e : Node) (xs : List Node) (p q : ℕ) → slice_get xs p ≡ Some e → slice_get xs q ≡ Some e → times e xs ≤ 1 → p ≡ q
unfolding times
twice e [] zero q a b l = absurd (none-some e a)
twice e [] (suc p) q a b l = absurd (none-some e a)
twice e (x ∷ xs) zero zero a b l = refl
twice e (x ∷ xs) zero (suc q) a b l =
    let k : one x e ≡ 1 = ap (λ z. one z e) (same_Some x e a) ∙ one_itself e in
    let m : 1 ≤ times e xs = times_get e xs q b in
    absurd (omega arith)
twice e (x ∷ xs) (suc p) zero a b l =
    let k : one x e ≡ 1 = ap (λ z. one z e) (same_Some x e b) ∙ one_itself e in
    let m : 1 ≤ times e xs = times_get e xs p a in
    absurd (omega arith)
twice e (x ∷ xs) (suc p) (suc q) a b l = ap suc (twice e xs p q a b (omega arith))

pub not_any : (t : Node → Bool) (e : Node) (xs : List Node) → list_any t xs ≡ false → 1 ≤ times e xs → t e ≡ false
unfolding times
not_any t e [] h l = absurd (omega arith)
not_any t e (x ∷ xs) h l =
    let p = or_parts (t x) (list_any t xs) h in
    ⊎_elim
    (λ s. subst (λ z. t z ≡ false) (same_is x e s) p.0)
    (λ f.
    let k : one x e ≡ 0 = cond-false (same_node x e) 1 0 f in
    not_any t e xs p.1 (omega arith))
    (cases_Bool (same_node x e))

pub get_within : {X : Type 0} (xs : List X) (p : ℕ) (x : X) → slice_get xs p ≡ Some x → p < length xs
get_within [] zero x h = absurd (none-some x h)
get_within [] (suc p) x h = absurd (none-some x h)
get_within (y ∷ ys) zero x h = omega arith
get_within (y ∷ ys) (suc p) x h = let k : p < length ys = get_within ys p x h in omega arith

pub get_left : {X : Type 0} (xs ys : List X) (p : ℕ) (x : X) → slice_get xs p ≡ Some x → slice_get (xs ++ ys) p ≡ Some x
get_left [] ys zero x h = absurd (none-some x h)
get_left [] ys (suc p) x h = absurd (none-some x h)
get_left (z ∷ zs) ys zero x h = h
get_left (z ∷ zs) ys (suc p) x h = get_left zs ys p x h

pub get_pushed : {X : Type 0} (xs : List X) (y : X) (p : ℕ) (x : X) → slice_get (xs ++ y ∷ []) p ≡ Some x → (slice_get xs p ≡ Some x) ⊎ ((p ≡ length xs) × (y ≡ x))
get_pushed [] y zero x h = inr (refl, same_Some y x h)
get_pushed [] y (suc zero) x h = absurd (none-some x h)
get_pushed [] y (suc (suc p)) x h = absurd (none-some x h)
get_pushed (z ∷ zs) y zero x h = inl h
get_pushed (z ∷ zs) y (suc p) x h = ⊎_elim (λ a. inl a) (λ b. inr (ap suc b.0, b.1)) (get_pushed zs y p x h)

pub get_mapped : {X Y : Type 0} (f : X → Y) (xs : List X) (p : ℕ) (y : Y) → slice_get (map f xs) p ≡ Some y → (x : X) × (slice_get xs p ≡ Some x) × (f x ≡ y)
get_mapped f [] zero y h = absurd (none-some y h)
get_mapped f [] (suc p) y h = absurd (none-some y h)
get_mapped f (x ∷ xs) zero y h = (x, refl, same_Some (f x) y h)
get_mapped f (x ∷ xs) (suc p) y h = get_mapped f xs p y h

pub get_map : {X Y : Type 0} (f : X → Y) (xs : List X) (p : ℕ) (x : X) → slice_get xs p ≡ Some x → slice_get (map f xs) p ≡ Some (f x)
get_map f [] zero x h = absurd (none-some x h)
get_map f [] (suc p) x h = absurd (none-some x h)
get_map f (y ∷ ys) zero x h = ap (λ z. Some (f z)) (same_Some y x h)
get_map f (y ∷ ys) (suc p) x h = get_map f ys p x h

pub get_value : {X : Type 0} (xs : List X) (p : ℕ) (x d : X) → slice_get xs p ≡ Some x → get_or xs p d ≡ x
get_value [] zero x d h = absurd (none-some x h)
get_value [] (suc p) x d h = absurd (none-some x h)
get_value (y ∷ ys) zero x d h = same_Some y x h
get_value (y ∷ ys) (suc p) x d h = get_value ys p x d h

pub get_some : {X : Type 0} (xs : List X) (p : ℕ) → p < length xs → (x : X) × (slice_get xs p ≡ Some x)
get_some [] p l = absurd (omega arith)
get_some (y ∷ ys) zero l = (y, refl)
get_some (y ∷ ys) (suc p) l = get_some ys p (omega arith)

pub any_found : (t : Node → Bool) (xs : List Node) → list_any t xs ≡ true → (x : Node) × (t x ≡ true) × (1 ≤ times x xs)
unfolding times
any_found t [] h = absurd (false≢true h)
any_found t (x ∷ xs) h =
    ⊎_elim
    (λ a. (x, a, let k : one x x ≡ 1 = one_itself x in omega arith))
    (λ b. let r = any_found t xs b in (r.0, r.1, let k : 1 ≤ times r.0 xs = r.2 in omega arith))
    (or_cases (t x) (list_any t xs) h)

pub none_any : (t : Node → Bool) (xs : List Node) → All (λ x. t x ≡ false) xs → list_any t xs ≡ false
none_any t [] h = refl
none_any t (x ∷ xs) h = or_from _ _ (h 0 x (omega arith)) (none_any t xs (λ k d l. h (suc k) d (omega arith)))

pub times_none : (e : Node) (xs : List Node) → All (λ x. x ≢ e) xs → times e xs ≡ 0
unfolding times
times_none e [] h = refl
times_none e (x ∷ xs) h =
    let k : one x e ≡ 0 = cond-false (same_node x e) 1 0 (false_from_ne_true _ (λ t. h zero x (omega arith) (same_is x e t))) in
    let r : times e xs ≡ 0 = times_none e xs (λ k d l. h (suc k) d (omega arith)) in
    omega arith
