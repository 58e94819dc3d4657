-- Rows side by side.
use Rattle.std.proofs.Common.{◌≡◌, refl, sym, ap, ◌∙◌, ℕ, zero, suc, ◌+◌, ◌*◌, ◌<◌, ◌≤◌, ℤ, List, [], ◌∷◌, ◌++◌, length, take, drop, Some, slice_get, arith, length-drop, length-append, get_or, set}
use Rattle.std.proofs.lemmas.List.{drop-drop, take-take, drop-take, take-append-le, drop-append-le, take_all, length-take-le}
use Rattle.std.specs.List.{insert, remove}
use Rattle.std.proofs.lemmas.List.Edits.{length-insert, length-remove}
use Rattle.std.specs.Map.{keys_of}
use Rattle.wh_pieces.specs.Row.{Row}
use Rattle.wh_pieces.specs.Flat.{flat}
use Rattle.wh_pieces.specs.Inner.Place.{set_at}

pub length-flat : {T : Type 0} (w : ℕ) (cells : List ℤ) (vs : List T) → length (flat w cells vs) ≡ length vs
length-flat w cells [] = refl
length-flat w cells (v ∷ vs) = ap suc (length-flat w (drop w cells) vs)

no_cells : (a : List ℤ) → length a ≡ 0 → a ≡ []
no_cells [] e = refl
no_cells (x ∷ a) e = absurd (omega arith)

pub flat-append : {T : Type 0} (w : ℕ) (a b : List ℤ) (us vs : List T) → length a ≡ w * length us → flat w (a ++ b) (us ++ vs) ≡ flat w a us ++ flat w b vs
flat-append w a b [] vs e = ap (λ (x : List ℤ). flat w (x ++ b) vs) (no_cells a (omega arith))
flat-append w a b (u ∷ us) vs e =
    let fits : w ≤ length a = omega arith in
    let rest : length (drop w a) ≡ w * length us = omega (arith, length-drop w a) in
    (λ i. (take-append-le w a b fits i, u) ∷ flat w (drop-append-le w a b fits i) (us ++ vs))
    ∙ ap (λ es. (take w a, u) ∷ es) (flat-append w (drop w a) b us vs rest)

pub drop-flat : {T : Type 0} (w : ℕ) (cells : List ℤ) (vs : List T) (i : ℕ) → drop i (flat w cells vs) ≡ flat w (drop (w * i) cells) (drop i vs)
drop-flat w cells vs zero = ap (λ n. flat w (drop n cells) vs) (let z : 0 ≡ w * 0 = omega arith in z)
drop-flat w cells [] (suc i) = refl
drop-flat w cells (v ∷ vs) (suc i) =
    drop-flat w (drop w cells) vs i
    ∙ ap (λ (x : List ℤ). flat w x (drop i vs)) (drop-drop (w * i) w cells)
    ∙ ap (λ n. flat w (drop n cells) (drop i vs)) (let z : w + w * i ≡ w * suc i = omega arith in z)

pub take-flat : {T : Type 0} (w : ℕ) (cells : List ℤ) (vs : List T) (i : ℕ) → take i (flat w cells vs) ≡ flat w (take (w * i) cells) (take i vs)
take-flat w cells vs zero = refl
take-flat w cells [] (suc i) = refl
take-flat w cells (v ∷ vs) (suc i) =
    let more : w + w * i ≡ w * suc i = omega arith in
    let within : w ≤ w * suc i = omega arith in
    ap (λ es. (take w cells, v) ∷ es) (take-flat w (drop w cells) vs i)
    ∙ (λ k. (sym (take-take w (w * suc i) cells within) k, v) ∷ flat w (sym (drop-take w (w * i) cells) k) (take i vs))
    ∙ ap (λ n. (take w (take (w * suc i) cells), v) ∷ flat w (drop w (take n cells)) (take i vs)) more

pub flat-one : {T : Type 0} (w : ℕ) (row : List ℤ) (v : T) → length row ≡ w → flat w row (v ∷ []) ≡ (row, v) ∷ []
flat-one w row v e = ap (λ (r : List ℤ). (r, v) ∷ []) (take_all w row (omega arith))

pub row-flat : {T : Type 0} (w : ℕ) (cells : List ℤ) (vs : List T) (i : ℕ) → i < length vs → slice_get (keys_of (flat w cells vs)) i ≡ Some (take w (drop (w * i) cells))
row-flat w cells [] i l = absurd (omega arith)
row-flat w cells (v ∷ vs) zero l = ap (λ n. Some (take w (drop n cells))) (let z : 0 ≡ w * 0 = omega arith in z)
row-flat w cells (v ∷ vs) (suc i) l =
    row-flat w (drop w cells) vs i (omega arith)
    ∙ ap (λ (x : List ℤ). Some (take w x)) (drop-drop (w * i) w cells)
    ∙ ap (λ n. Some (take w (drop n cells))) (let z : w + w * i ≡ w * suc i = omega arith in z)

pub get-flat : {T : Type 0} (w : ℕ) (cells : List ℤ) (vs : List T) (i : ℕ) (r : Row) (v : T) → slice_get (keys_of (flat w cells vs)) i ≡ Some r → slice_get vs i ≡ Some v → slice_get (flat w cells vs) i ≡ Some (r, v)
get-flat w cells [] i r v d e = cc
get-flat w cells (u ∷ vs) zero r v d e =
    let same : u ≡ v = cc in
    let row : take w cells ≡ r = cc in
    λ k. Some (row k, same k)
get-flat w cells (u ∷ vs) (suc i) r v d e = get-flat w (drop w cells) vs i r v d e

pub set-flat : {T : Type 0} (w : ℕ) (cells : List ℤ) (vs : List T) (i : ℕ) (v : T) → flat w cells (set vs i v) ≡ set_at (flat w cells vs) i v
set-flat w cells [] i v = refl
set-flat w cells (u ∷ vs) zero v = refl
set-flat w cells (u ∷ vs) (suc i) v = ap (λ es. (take w cells, u) ∷ es) (set-flat w (drop w cells) vs i v)

-- an element that was read
pub got : {X : Type 0} (xs : List X) (i : ℕ) (x : X) → i < length xs → x ≡ get_or xs i x → slice_get xs i ≡ Some x
got [] i x l e = absurd (omega arith)
got (y ∷ xs) zero x l e = ap Some (sym e)
got (y ∷ xs) (suc i) x l e = got xs i x (omega arith) e

-- a row's cells lie in the array
pub row_within : (w i n : ℕ) → i < n → w * i + w ≤ w * n
row_within w i zero l = absurd (omega arith)
row_within w zero (suc n) l = omega arith
row_within w (suc i) (suc n) l = omega (arith, row_within w i n (omega arith))

pub place_within : (w i n : ℕ) → i ≤ n → w * i ≤ w * n
place_within w zero n l = omega arith
place_within w (suc i) zero l = absurd (omega arith)
place_within w (suc i) (suc n) l = omega (arith, place_within w i n (omega arith))

-- ---- edits

taken : {T : Type 0} (w : ℕ) (cells : List ℤ) (vs : List T) (i : ℕ) → length cells ≡ w * length vs → i ≤ length vs → length (take (w * i) cells) ≡ w * length (take i vs)
taken w cells vs i e l =
    let fits = place_within w i (length vs) l in
    length-take-le (w * i) cells (omega arith) ∙ ap (λ n. w * n) (sym (length-take-le i vs l))

pub insert-flat : {T : Type 0} (w : ℕ) (cells : List ℤ) (vs : List T) (i : ℕ) (row : Row) (v : T) → length cells ≡ w * length vs → i ≤ length vs → length row ≡ w
    → flat w (take (w * i) cells ++ (row ++ drop (w * i) cells)) (insert vs i v) ≡ insert (flat w cells vs) i (row, v)
insert-flat w cells vs i row v e l wide =
    flat-append w (take (w * i) cells) (row ++ drop (w * i) cells) (take i vs) (v ∷ drop i vs) (taken w cells vs i e l)
    ∙ ap (λ es. flat w (take (w * i) cells) (take i vs) ++ es) (flat-append w row (drop (w * i) cells) (v ∷ []) (drop i vs) (omega arith))
    ∙ (λ k. sym (take-flat w cells vs i) k ++ (flat-one w row v wide k ++ sym (drop-flat w cells vs i) k))

pub insert-cells : {T : Type 0} (w : ℕ) (cells : List ℤ) (vs : List T) (i : ℕ) (row : Row) (v : T) → length cells ≡ w * length vs → i ≤ length vs → length row ≡ w
    → length (take (w * i) cells ++ (row ++ drop (w * i) cells)) ≡ w * length (insert vs i v)
insert-cells w cells vs i row v e l wide =
    let fits = place_within w i (length vs) l in
    let a = length-append (take (w * i) cells) (row ++ drop (w * i) cells) in
    let b = length-append row (drop (w * i) cells) in
    let t = length-take-le (w * i) cells (omega arith) in
    let d = length-drop (w * i) cells in
    let more : length (take (w * i) cells ++ (row ++ drop (w * i) cells)) ≡ w * (length vs + 1) = omega arith in
    more ∙ ap (λ n. w * n) (sym (length-insert vs i v l))

pub remove-flat : {T : Type 0} (w : ℕ) (cells : List ℤ) (vs : List T) (i : ℕ) → length cells ≡ w * length vs → i < length vs
    → flat w (take (w * i) cells ++ drop (w * i + w) cells) (remove vs i) ≡ remove (flat w cells vs) i
remove-flat w cells vs i e l =
    let next : w * i + w ≡ w * suc i = omega arith in
    flat-append w (take (w * i) cells) (drop (w * i + w) cells) (take i vs) (drop (suc i) vs) (taken w cells vs i e (omega arith))
    ∙ ap (λ n. flat w (take (w * i) cells) (take i vs) ++ flat w (drop n cells) (drop (suc i) vs)) next
    ∙ (λ k. sym (take-flat w cells vs i) k ++ sym (drop-flat w cells vs (suc i)) k)

pub remove-cells : {T : Type 0} (w : ℕ) (cells : List ℤ) (vs : List T) (i : ℕ) → length cells ≡ w * length vs → i < length vs
    → length (take (w * i) cells ++ drop (w * i + w) cells) ≡ w * length (remove vs i)
remove-cells w cells vs i e l =
    let fits = row_within w i (length vs) l in
    let a = length-append (take (w * i) cells) (drop (w * i + w) cells) in
    let t = length-take-le (w * i) cells (omega arith) in
    let d = length-drop (w * i + w) cells in
    let n = length-remove vs i l in
    let less : length (take (w * i) cells ++ drop (w * i + w) cells) + w ≡ w * length vs = omega arith in
    let same : w * length (remove vs i) + w ≡ w * length vs = (let z : w * length (remove vs i) + w ≡ w * (length (remove vs i) + 1) = omega arith in z) ∙ ap (λ n. w * n) n in
    omega arith

-- cells of rows, and of more rows
pub mul_add : (w a b : ℕ) → w * (a + b) ≡ w * a + w * b
mul_add w a zero = let z : a + 0 ≡ a = omega arith in ap (λ n. w * n) z ∙ (let y : w * a ≡ w * a + w * 0 = omega arith in y)
mul_add w a (suc b) =
    let z : a + suc b ≡ suc (a + b) = omega arith in
    let y : w * suc (a + b) ≡ w + w * (a + b) = omega arith in
    let x : w + (w * a + w * b) ≡ w * a + w * suc b = omega arith in
    ap (λ n. w * n) z ∙ y ∙ ap (λ n. w + n) (mul_add w a b) ∙ x

pub drop-cells : {T : Type 0} (w : ℕ) (cells : List ℤ) (vs : List T) (i : ℕ) → length cells ≡ w * length vs → i ≤ length vs → length (drop (w * i) cells) ≡ w * length (drop i vs)
drop-cells w cells vs i e l =
    let fits = place_within w i (length vs) l in
    let d = length-drop (w * i) cells in
    let n : length (drop i vs) + i ≡ length vs = omega (arith, length-drop i vs) in
    let same : w * length (drop i vs) + w * i ≡ w * length vs = (let z : w * length (drop i vs) + w * i ≡ w * (length (drop i vs) + i) = sym (mul_add w (length (drop i vs)) i) in z) ∙ ap (λ n. w * n) n in
    omega arith

-- ---- rows on the way

pub run-flat : {T : Type 0} (w : ℕ) (cells : List ℤ) (vs : List T) (i k n : ℕ) → n ≡ w * k → flat w (take n (drop (w * i) cells)) (take k (drop i vs)) ≡ take k (drop i (flat w cells vs))
run-flat w cells vs i k n e =
    ap (λ m. flat w (take m (drop (w * i) cells)) (take k (drop i vs))) e
    ∙ sym (take-flat w (drop (w * i) cells) (drop i vs) k)
    ∙ ap (take k) (sym (drop-flat w cells vs i))

pub run-count : {T : Type 0} (vs : List T) (i k : ℕ) → i + k ≤ length vs → length (take k (drop i vs)) ≡ k
run-count vs i k l = length-take-le k (drop i vs) (omega (arith, length-drop i vs))

pub run-cells : {T : Type 0} (w : ℕ) (cells : List ℤ) (vs : List T) (i k n : ℕ) → length cells ≡ w * length vs → i + k ≤ length vs → n ≡ w * k → length (take n (drop (w * i) cells)) ≡ w * length (take k (drop i vs))
run-cells w cells vs i k n e l same =
    let all = place_within w (i + k) (length vs) l in
    let split = mul_add w i k in
    length-take-le n (drop (w * i) cells) (omega (arith, length-drop (w * i) cells)) ∙ same ∙ ap (λ m. w * m) (sym (run-count vs i k l))
