-- Pairs in places side by side.
use Rattle.std.proofs.lemmas.Int.{ints}
use Rattle.std.proofs.Common.{◌≡◌, refl, sym, ap, subst, ◌∙◌, ℕ, zero, suc, ◌+◌, ◌-◌, ◌<◌, ◌≤◌, ℤ, pos, negsuc, ◌≤ℤ◌, List, [], ◌∷◌, ◌++◌, length, take, drop, set, get_or, ◌<ℤ◌, Bool, true, false, cond, arith, None, slice_get}
use mir.Syntax.{w64}
use lib.Signed.{lt_z}
use Rattle.std.proofs.Common.{to_z, of_z, to_z-of_z, FitsSigned}
use Rattle.std.specs.Prelude.{int_le, ◌==◌, ◌&&◌}
use Rattle.std.specs.List.{copy_within}
use Rattle.std.proofs.lemmas.Bool.Decides.{nat_tests}
use Rattle.std.proofs.Math.ListN.{replicate}
use Rattle.std.proofs.lemmas.List.{drop_all, append-nil}
use Rattle.wh_versions.specs.Rows.{Pairs, with_pair, without_pair}
use Rattle.wh_versions.specs.Inner.Rows.{pairs_of, numbers_of, counts_of, AreStored, AreCounts, BeginsWith}

pub no_less : (z : ℤ) → pos 0 ≤ℤ z → int_le (pos 0) z ≡ true
no_less z l = grind (arith, ints)

pub least : (z : ℤ) → int_le (pos 0) z ≡ true → pos 0 ≤ℤ z
least z l = grind (arith, ints)

pub few : (ns : List ℕ) (cs : List ℤ) → length (pairs_of ns cs) ≤ length ns
few [] cs = omega arith
few (n ∷ ns) [] = omega arith
few (n ∷ ns) (c ∷ cs) = elim (int_le (pos 0) c) as (λ t. length (cond t ((n, c) ∷ pairs_of ns cs) []) ≤ suc (length ns)) [
  | true ↦ omega (arith, few ns cs)
  | false ↦ omega arith
]

pub are_counts : (ns : List ℕ) (cs : List ℤ) → AreCounts (pairs_of ns cs)
are_counts [] cs = tt
are_counts (n ∷ ns) [] = tt
are_counts (n ∷ ns) (c ∷ cs) = elim (int_le (pos 0) c) as (λ t. int_le (pos 0) c ≡ t → AreCounts (cond t ((n, c) ∷ pairs_of ns cs) [])) [
  | true ↦ λ e. (least c e, are_counts ns cs)
  | false ↦ λ e. tt
] refl

pairs_back : (n : ℕ) (ps : Pairs) → AreCounts ps → length ps ≤ n → pairs_of (numbers_of n ps) (counts_of n ps) ≡ ps
pairs_back zero [] a l = refl
pairs_back zero (p ∷ ps) a l = absurd (omega arith)
pairs_back (suc n) [] a l = refl
pairs_back (suc n) (p ∷ ps) a l = λ i. cond (no_less p.1 a.0 i) ((p.0, p.1) ∷ pairs_back n ps a.1 (omega arith) i) []

-- places that have these pairs have them alone
pub record HavePairs (n : ℕ) (ps : Pairs) (ns : List ℕ) (cs : List ℤ) : Type 0 where
  pub pairs : pairs_of ns cs ≡ ps
  pub stored : AreStored n ns cs

pub have_pairs : (n : ℕ) (ns : List ℕ) (cs : List ℤ) (ps : Pairs) → AreCounts ps → length ps ≤ n → numbers_of n ps ≡ ns → counts_of n ps ≡ cs → HavePairs n ps ns cs
have_pairs n ns cs ps a l h k =
    let e : pairs_of ns cs ≡ ps = (λ i. pairs_of (sym h i) (sym k i)) ∙ pairs_back n ps a l in
    record { pairs = e; stored = record { numbers = ap (numbers_of n) e ∙ h; counts = ap (counts_of n) e ∙ k } }

-- ---- no pairs

no_numbers : (n : ℕ) → numbers_of n [] ≡ replicate n 0
no_numbers zero = refl
no_numbers (suc n) = ap (λ xs. 0 ∷ xs) (no_numbers n)

no_counts : (n : ℕ) → counts_of n [] ≡ replicate n (negsuc 0)
no_counts zero = refl
no_counts (suc n) = ap (λ xs. negsuc 0 ∷ xs) (no_counts n)

pub none_stored : (n : ℕ) → HavePairs n [] (replicate n 0) (replicate n (negsuc 0))
none_stored n = have_pairs n (replicate n 0) (replicate n (negsuc 0)) [] tt (omega arith) (no_numbers n) (no_counts n)

-- ---- one more in front

first_numbers : (n : ℕ) (ps : Pairs) → numbers_of n (take n ps) ≡ take n (numbers_of (suc n) ps)
first_numbers zero ps = refl
first_numbers (suc n) [] = ap (λ xs. 0 ∷ xs) (some_numbers n)
  where
    some_numbers : (n : ℕ) → numbers_of n [] ≡ take n (numbers_of (suc n) [])
    some_numbers zero = refl
    some_numbers (suc n) = ap (λ xs. 0 ∷ xs) (some_numbers n)
first_numbers (suc n) (p ∷ ps) = ap (λ xs. p.0 ∷ xs) (first_numbers n ps)

first_counts : (n : ℕ) (ps : Pairs) → counts_of n (take n ps) ≡ take n (counts_of (suc n) ps)
first_counts zero ps = refl
first_counts (suc n) [] = ap (λ xs. negsuc 0 ∷ xs) (some_counts n)
  where
    some_counts : (n : ℕ) → counts_of n [] ≡ take n (counts_of (suc n) [])
    some_counts zero = refl
    some_counts (suc n) = ap (λ xs. negsuc 0 ∷ xs) (some_counts n)
first_counts (suc n) (p ∷ ps) = ap (λ xs. p.1 ∷ xs) (first_counts n ps)

few_counts : (n : ℕ) (ps : Pairs) → AreCounts ps → AreCounts (take n ps)
few_counts zero ps a = tt
few_counts (suc n) [] a = tt
few_counts (suc n) (p ∷ ps) a = (a.0, few_counts n ps a.1)

few_of : (n : ℕ) (ps : Pairs) → length (take n ps) ≤ n
few_of zero ps = omega arith
few_of (suc n) [] = omega arith
few_of (suc n) (p ∷ ps) = omega (arith, few_of n ps)

-- the places moved up by one
pub moved_up : {A : Type 0} (xs : List A) (n k j : ℕ) (x : A) → length xs ≡ suc n → k ≡ n → j ≡ suc n → set ((take 1 xs ++ take k xs) ++ drop j xs) 0 x ≡ x ∷ take n xs
moved_up [] n k j x l a b = absurd (omega arith)
moved_up (y ∷ ys) n k j x l a b =
    let gone : drop j (y ∷ ys) ≡ [] = drop_all j (y ∷ ys) (omega arith) in
    ap (λ zs. x ∷ (take k (y ∷ ys) ++ zs)) gone ∙ ap (λ zs. x ∷ zs) (append-nil (take k (y ∷ ys))) ∙ ap (λ i. x ∷ take i (y ∷ ys)) a

-- and down by one
last_set : {A : Type 0} (n : ℕ) (ys zs : List A) (x : A) → length ys ≡ n → length zs ≡ suc n → set (take n ys ++ drop n zs) n x ≡ ys ++ x ∷ []
last_set zero [] [] x a b = absurd (omega arith)
last_set zero [] (z ∷ []) x a b = refl
last_set zero [] (z ∷ w ∷ zs) x a b = absurd (omega arith)
last_set zero (y ∷ ys) zs x a b = absurd (omega arith)
last_set (suc n) [] zs x a b = absurd (omega arith)
last_set (suc n) (y ∷ ys) [] x a b = absurd (omega arith)
last_set (suc n) (y ∷ ys) (z ∷ zs) x a b = ap (λ ws. y ∷ ws) (last_set n ys zs x (omega arith) (omega arith))

pub moved_down : {A : Type 0} (xs : List A) (n k j : ℕ) (x : A) → length xs ≡ suc n → k ≡ n → j ≡ n → set (take k (drop 1 xs) ++ drop j xs) n x ≡ drop 1 xs ++ x ∷ []
moved_down [] n k j x l a b = absurd (omega arith)
moved_down (y ∷ ys) n k j x l a b = ap (λ i. set (take i ys ++ drop j (y ∷ ys)) n x) a ∙ ap (λ i. set (take n ys ++ drop i (y ∷ ys)) n x) b ∙ last_set n ys (y ∷ ys) x (omega arith) l

module _ (n : ℕ) (ns : List ℕ) (cs : List ℤ) (s : AreStored (suc n) ns cs) (m : ℕ) (c : ℤ) (least_c : pos 0 ≤ℤ c) where
  pub put_in_front : HavePairs (suc n) (take (suc n) ((m, c) ∷ pairs_of ns cs)) (m ∷ take n ns) (c ∷ take n cs)
  put_in_front = have_pairs (suc n) (m ∷ take n ns) (c ∷ take n cs) (take (suc n) ((m, c) ∷ pairs_of ns cs)) (least_c, few_counts n (pairs_of ns cs) (are_counts ns cs)) (few_of (suc n) ((m, c) ∷ pairs_of ns cs))
      (ap (λ xs. m ∷ xs) (first_numbers n (pairs_of ns cs) ∙ ap (take n) s.numbers))
      (ap (λ xs. c ∷ xs) (first_counts n (pairs_of ns cs) ∙ ap (take n) s.counts))

-- ---- the first place has a pair

first_pair : (x : ℕ) (ns : List ℕ) (y : ℤ) (cs : List ℤ) → pos 0 ≤ℤ y → pairs_of (x ∷ ns) (y ∷ cs) ≡ (x, y) ∷ pairs_of ns cs
first_pair x ns y cs h = ap (λ b. cond b ((x, y) ∷ pairs_of ns cs) []) (no_less y h)

module _ (n x : ℕ) (ns : List ℕ) (y : ℤ) (cs : List ℤ) (s : AreStored (suc n) (x ∷ ns) (y ∷ cs)) (h : pos 0 ≤ℤ y) (l : length ns ≡ n) where
  rest_numbers : numbers_of n (pairs_of ns cs) ≡ ns
  rest_numbers = let e : x ∷ numbers_of n (pairs_of ns cs) ≡ x ∷ ns = ap (numbers_of (suc n)) (sym (first_pair x ns y cs h)) ∙ s.numbers in cc

  rest_counts : counts_of n (pairs_of ns cs) ≡ cs
  rest_counts = let e : y ∷ counts_of n (pairs_of ns cs) ≡ y ∷ cs = ap (counts_of (suc n)) (sym (first_pair x ns y cs h)) ∙ s.counts in cc

  numbers_back : (n : ℕ) (ps : Pairs) → length ps ≤ n → numbers_of (suc n) ps ≡ numbers_of n ps ++ 0 ∷ []
  numbers_back zero [] a = refl
  numbers_back zero (p ∷ ps) a = absurd (omega arith)
  numbers_back (suc n) [] a = ap (λ xs. 0 ∷ xs) (numbers_back n [] (omega arith))
  numbers_back (suc n) (p ∷ ps) a = ap (λ xs. p.0 ∷ xs) (numbers_back n ps (omega arith))

  counts_back : (n : ℕ) (ps : Pairs) → length ps ≤ n → counts_of (suc n) ps ≡ counts_of n ps ++ negsuc 0 ∷ []
  counts_back zero [] a = refl
  counts_back zero (p ∷ ps) a = absurd (omega arith)
  counts_back (suc n) [] a = ap (λ xs. negsuc 0 ∷ xs) (counts_back n [] (omega arith))
  counts_back (suc n) (p ∷ ps) a = ap (λ xs. p.1 ∷ xs) (counts_back n ps (omega arith))

  pub taken_away : HavePairs (suc n) (pairs_of ns cs) (ns ++ 0 ∷ []) (cs ++ negsuc 0 ∷ [])
  taken_away =
      let f : length (pairs_of ns cs) ≤ n = omega (arith, few ns cs, l) in
      have_pairs (suc n) (ns ++ 0 ∷ []) (cs ++ negsuc 0 ∷ []) (pairs_of ns cs) (are_counts ns cs) (omega arith)
      (numbers_back n (pairs_of ns cs) f ∙ ap (λ xs. xs ++ 0 ∷ []) rest_numbers)
      (counts_back n (pairs_of ns cs) f ∙ ap (λ xs. xs ++ negsuc 0 ∷ []) rest_counts)

-- ---- the pairs from a place on

-- none stands from an absent place on
pub absent_place : (ns : List ℕ) (cs : List ℤ) (i : ℕ) → length cs ≡ length ns → i < length ns → get_or cs i (pos 0) <ℤ pos 0 → pairs_of (drop i ns) (drop i cs) ≡ []
absent_place [] cs i l h a = absurd (omega arith)
absent_place (n ∷ ns) [] i l h a = absurd (omega arith)
absent_place (n ∷ ns) (c ∷ cs) zero l h a = ap (λ t. cond t ((n, c) ∷ pairs_of ns cs) []) (below c a)
  where
    below : (c : ℤ) → c <ℤ pos 0 → int_le (pos 0) c ≡ false
    below c h = grind (arith, ints)
absent_place (n ∷ ns) (c ∷ cs) (suc i) l h a = absent_place ns cs i (omega arith) (omega arith) a

-- the pair at a place, where those before it have pairs
pub pair_before : (ns : List ℕ) (cs : List ℤ) (i k : ℕ) → length cs ≡ length ns → i < length ns → i < k → pos 0 ≤ℤ get_or cs i (pos 0)
    → slice_get (pairs_of (drop (i + 1) ns) (drop (i + 1) cs)) (k - (i + 1)) ≡ slice_get (pairs_of (drop i ns) (drop i cs)) (k - i)
pair_before [] cs i k l h b a = absurd (omega arith)
pair_before (n ∷ ns) [] i k l h b a = absurd (omega arith)
pair_before (n ∷ ns) (c ∷ cs) zero zero l h b a = absurd (omega arith)
pair_before (n ∷ ns) (c ∷ cs) zero (suc k) l h b a =
    let one : suc k - (zero + 1) ≡ k = omega arith in
    let all : suc k - zero ≡ suc k = omega arith in
    ap (slice_get (pairs_of ns cs)) one ∙ sym (ap (λ j. slice_get (pairs_of (n ∷ ns) (c ∷ cs)) j) all ∙ ap (λ ps. slice_get ps (suc k)) (first_pair n ns c cs a))
pair_before (n ∷ ns) (c ∷ cs) (suc i) zero l h b a = absurd (omega arith)
pair_before (n ∷ ns) (c ∷ cs) (suc i) (suc k) l h b a =
    let on : suc i + 1 ≡ suc (i + 1) = omega arith in
    let one : suc k - suc (i + 1) ≡ k - (i + 1) = omega arith in
    let all : suc k - suc i ≡ k - i = omega arith in
    ap (λ j. slice_get (pairs_of (drop j (n ∷ ns)) (drop j (c ∷ cs))) (suc k - j)) on
    ∙ ap (slice_get (pairs_of (drop (i + 1) ns) (drop (i + 1) cs))) one
    ∙ pair_before ns cs i k (omega arith) (omega arith) (omega arith) a
    ∙ sym (ap (slice_get (pairs_of (drop i ns) (drop i cs))) all)

pub no_pair : (ps : Pairs) (k : ℕ) → ps ≡ [] → slice_get ps k ≡ None
no_pair [] zero e = refl
no_pair [] (suc k) e = refl
no_pair (p ∷ ps) k e = cc

-- ---- what a night makes of places

have_same : (n : ℕ) (ps qs : Pairs) (ns ms : List ℕ) (cs ds : List ℤ) → HavePairs n ps ns cs → qs ≡ ps → ms ≡ ns → ds ≡ cs → HavePairs n qs ms ds
have_same n ps qs ns ms cs ds h p m d =
    subst (λ (x : Pairs). HavePairs n x ms ds) (sym p) (subst (λ (x : List ℕ). HavePairs n ps x ds) (sym m) (subst (λ (x : List ℤ). HavePairs n ps ns x) (sym d) h))

length_numbers : (n : ℕ) (ps : Pairs) → length (numbers_of n ps) ≡ n
length_numbers zero ps = refl
length_numbers (suc n) [] = ap suc (length_numbers n [])
length_numbers (suc n) (p ∷ ps) = ap suc (length_numbers n ps)

length_counts : (n : ℕ) (ps : Pairs) → length (counts_of n ps) ≡ n
length_counts zero ps = refl
length_counts (suc n) [] = ap suc (length_counts n [])
length_counts (suc n) (p ∷ ps) = ap suc (length_counts n ps)

pub places : (n : ℕ) (ns : List ℕ) (cs : List ℤ) → AreStored n ns cs → length ns ≡ n
places n ns cs s = ap length (sym s.numbers) ∙ length_numbers n (pairs_of ns cs)

pub count_places : (n : ℕ) (ns : List ℕ) (cs : List ℤ) → AreStored n ns cs → length cs ≡ n
count_places n ns cs s = ap length (sym s.counts) ∙ length_counts n (pairs_of ns cs)

not_first : (n m : ℕ) (c : ℤ) (ns : List ℕ) (cs : List ℤ) → BeginsWith m ns cs false → with_pair n m c (pairs_of ns cs) ≡ take n ((m, c) ∷ pairs_of ns cs)
not_first n m c [] cs b = refl
not_first n m c (x ∷ ns) [] b = refl
not_first n m c (x ∷ ns) (y ∷ cs) b = elim (int_le (pos 0) y) as (λ t. false ≡ (t && x == m) → with_pair n m c (cond t ((x, y) ∷ pairs_of ns cs) []) ≡ take n ((m, c) ∷ cond t ((x, y) ∷ pairs_of ns cs) [])) [
  | true ↦ λ e. ap (λ t. cond t ((m, c) ∷ pairs_of ns cs) (take n ((m, c) ∷ (x, y) ∷ pairs_of ns cs))) (sym e)
  | false ↦ λ e. refl
] b

-- a pair in front
pub pushed : (n : ℕ) (ns ms : List ℕ) (cs ds : List ℤ) (m : ℕ) (c : ℤ) → AreStored n ns cs → pos 0 ≤ℤ c → 0 < n → BeginsWith m ns cs false → ms ≡ copy_within ns 0 (n - 1) 1 → ds ≡ copy_within cs 0 (n - 1) 1
    → HavePairs n (with_pair n m c (pairs_of ns cs)) (set ms 0 m) (set ds 0 c)
pushed zero ns ms cs ds m c s h some b e f = absurd (omega arith)
pushed (suc n) ns ms cs ds m c s h some b e f =
    have_same (suc n) _ _ _ _ _ _ (put_in_front n ns cs s m c h) (not_first (suc n) m c ns cs b)
    (ap (λ xs. set xs 0 m) e ∙ moved_up ns n (suc n - 1 - 0) (1 + (suc n - 1 - 0)) m (places (suc n) ns cs s) (omega arith) (omega arith))
    (ap (λ xs. set xs 0 c) f ∙ moved_up cs n (suc n - 1 - 0) (1 + (suc n - 1 - 0)) c (count_places (suc n) ns cs s) (omega arith) (omega arith))

and_first : (a b : Bool) → true ≡ (a && b) → a ≡ true
and_first true b h = refl
and_first false b h = cc

and_second : (a b : Bool) → true ≡ (a && b) → b ≡ true
and_second true b h = sym h
and_second false b h = cc

same_number : (a b : ℕ) → (a == b) ≡ true → a ≡ b
same_number a b h = grind (arith, nat_tests)

-- the first pair taken away
pub removed : (n : ℕ) (ns ms : List ℕ) (cs ds : List ℤ) (m : ℕ) → AreStored n ns cs → BeginsWith m ns cs true → ms ≡ copy_within ns 1 n 0 → ds ≡ copy_within cs 1 n 0
    → HavePairs n (without_pair m (pairs_of ns cs)) (set ms (n - 1) 0) (set ds (n - 1) (negsuc 0))
removed n [] ms cs ds m s b e f = cc
removed n (x ∷ ns) ms [] ds m s b e f = cc
removed zero (x ∷ ns) ms (y ∷ cs) ds m s b e f = absurd (let l : length (x ∷ ns) ≡ zero = places zero (x ∷ ns) (y ∷ cs) s in omega arith)
removed (suc n) (x ∷ ns) ms (y ∷ cs) ds m s b e f =
    let low = least y (and_first (int_le (pos 0) y) (x == m) b) in
    let is = and_second (int_le (pos 0) y) (x == m) b in
    let l : length (x ∷ ns) ≡ suc n = places (suc n) (x ∷ ns) (y ∷ cs) s in
    let r : length (y ∷ cs) ≡ suc n = count_places (suc n) (x ∷ ns) (y ∷ cs) s in
    let one : suc n - 1 ≡ n = omega arith in
    have_same (suc n) _ _ _ _ _ _ (taken_away n x ns y cs s low (omega arith))
    (ap (without_pair m) (first_pair x ns y cs low) ∙ ap (λ t. cond t (pairs_of ns cs) ((x, y) ∷ pairs_of ns cs)) is)
    (ap (λ xs. set xs (suc n - 1) 0) e ∙ ap (λ k. set (copy_within (x ∷ ns) 1 (suc n) 0) k 0) one ∙ moved_down (x ∷ ns) n (suc n - 1) (0 + (suc n - 1)) 0 l one (omega arith))
    (ap (λ xs. set xs (suc n - 1) (negsuc 0)) f ∙ ap (λ k. set (copy_within (y ∷ cs) 1 (suc n) 0) k (negsuc 0)) one ∙ moved_down (y ∷ cs) n (suc n - 1) (0 + (suc n - 1)) (negsuc 0) r one (omega arith))

-- ---- what the code tells of a count

under : (z : ℤ) → lt_z z (pos 0) ≡ true → z <ℤ pos 0
under z h = grind (arith, ints)

over : (z : ℤ) → lt_z z (pos 0) ≡ false → pos 0 ≤ℤ z
over z h = grind (arith, ints)

pub is_below : (z : ℤ) → FitsSigned w64 z → lt_z (to_z w64 (of_z w64 z)) (pos 0) ≡ true → z <ℤ pos 0
is_below z f h = under z (subst (λ (x : ℤ). lt_z x (pos 0) ≡ true) (to_z-of_z f) h)

pub is_least : (z : ℤ) → FitsSigned w64 z → lt_z (to_z w64 (of_z w64 z)) (pos 0) ≡ false → pos 0 ≤ℤ z
is_least z f h = over z (subst (λ (x : ℤ). lt_z x (pos 0) ≡ false) (to_z-of_z f) h)

pub is_none : (z : ℤ) → FitsSigned w64 z → of_z w64 z ≡ 0 → z ≡ pos 0
is_none z f h = sym (to_z-of_z f) ∙ ap (to_z w64) h
