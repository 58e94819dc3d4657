-- Pieces of entries.
use Rattle.std.proofs.Common.{◌≡◌, refl, sym, ap, subst, ◌∙◌, ℕ, zero, suc, ◌+◌, ◌-◌, ◌^◌, ◌<◌, ◌≤◌, List, [], ◌∷◌, ◌++◌, length, take, drop, Some, None, Bool, true, false, cond, slice_get, get_or, set, arith, append_assoc, length-append, length-drop}
use Rattle.std.proofs.lemmas.List.{take_all, drop_all, take_at, drop_at, take-append-drop, length-take-le, append-nil}
use Rattle.std.specs.List.{AllByRecursion, insert, remove}
use Rattle.std.specs.List.Sorted.{IsStrictlySortedBy}
use Rattle.std.specs.Map.{keys_of}
use Rattle.std.specs.Ordering.{is_eq, match_ordering}
use Rattle.std.specs.declared.cmp.Ordering.{Ordering}
use Rattle.std.specs.declared.cmp.Ordering.TheVariants.{Less, Equal, Greater}
use Rattle.wh_pieces.specs.Row.{Row, row_cmp, is_row}
use Rattle.wh_pieces.proofs.RowLaws.{rows_total, rows_exact}
use Rattle.wh_pieces.specs.Place.{AreRisingRows, IsAbove}
use Rattle.wh_pieces.specs.Inner.Place.{IsBelowFirst, IsFirst, IsAt, IsGapFor, set_at}
use Rattle.wh_pieces.specs.Pieces.{found, with_entry, without_entry, all_of}
use Rattle.wh_pieces.specs.Inner.Pieces.{AreNotEmpty, AreCounted, IsPieceFor, piece_at, before, after}
use Rattle.wh_pieces.proofs.OrderLaws.{turned, still_above}

-- ---- entries with others before or after them

pub found-above : {T : Type 0} (row : Row) (a b : List (Row × T)) → IsAbove row a → found row (a ++ b) ≡ found row b
found-above row [] b h = refl
found-above row (e ∷ a) b h = (λ i. cond (is_eq (h.0 i)) (Some e.1) (found row (a ++ b))) ∙ found-above row a b h.1

pub with-above : {T : Type 0} (row : Row) (v : T) (a b : List (Row × T)) → IsAbove row a → with_entry (a ++ b) row v ≡ a ++ with_entry b row v
with-above row v [] b h = refl
with-above row v (e ∷ a) b h =
    (λ i. match_ordering (h.0 i) ((row, v) ∷ e ∷ (a ++ b)) ((e.0, v) ∷ (a ++ b)) (e ∷ with_entry (a ++ b) row v))
    ∙ ap (λ es. e ∷ es) (with-above row v a b h.1)

pub without-above : {T : Type 0} (row : Row) (a b : List (Row × T)) → IsAbove row a → without_entry (a ++ b) row ≡ a ++ without_entry b row
without-above row [] b h = refl
without-above row (e ∷ a) b h =
    (λ i. cond (is_eq (h.0 i)) (a ++ b) (e ∷ without_entry (a ++ b) row))
    ∙ ap (λ es. e ∷ es) (without-above row a b h.1)

none_below : {T : Type 0} (row : Row) (b : List (Row × T)) → AllByRecursion (λ k. row_cmp row k ≡ Less) (keys_of b) → found row b ≡ None
none_below row [] h = refl
none_below row (e ∷ b) h = (λ i. cond (is_eq (h.0 i)) (Some e.1) (found row b)) ∙ none_below row b h.1

pub lower_below : {T : Type 0} (row k : Row) (b : List (Row × T)) → row_cmp row k ≡ Less → AllByRecursion (λ y. row_cmp k y ≡ Less) (keys_of b) → AllByRecursion (λ y. row_cmp row y ≡ Less) (keys_of b)
lower_below row k [] h a = tt
lower_below row k (e ∷ b) h a = (rows_total.trans row k e.0 h a.0, lower_below row k b h a.1)

pub found-below : {T : Type 0} (row : Row) (b : List (Row × T)) → IsBelowFirst row b → AreRisingRows b → found row b ≡ None
unfolding IsStrictlySortedBy
found-below row [] h s = refl
found-below row (e ∷ b) h s = none_below row (e ∷ b) (h, lower_below row e.0 b h s.0)

pub with-below : {T : Type 0} (row : Row) (v : T) (b : List (Row × T)) → IsBelowFirst row b → with_entry b row v ≡ (row, v) ∷ b
with-below row v [] h = refl
with-below row v (e ∷ b) h = λ i. match_ordering (h i) ((row, v) ∷ e ∷ b) ((e.0, v) ∷ b) (e ∷ with_entry b row v)

without_lower : {T : Type 0} (row : Row) (b : List (Row × T)) → AllByRecursion (λ k. row_cmp row k ≡ Less) (keys_of b) → without_entry b row ≡ b
without_lower row [] h = refl
without_lower row (e ∷ b) h = (λ i. cond (is_eq (h.0 i)) b (e ∷ without_entry b row)) ∙ ap (λ es. e ∷ es) (without_lower row b h.1)

pub without-below : {T : Type 0} (row : Row) (b : List (Row × T)) → IsBelowFirst row b → AreRisingRows b → without_entry b row ≡ b
unfolding IsStrictlySortedBy
without-below row [] h s = refl
without-below row (e ∷ b) h s = without_lower row (e ∷ b) (h, lower_below row e.0 b h s.0)

-- at the row's place
pub found-at : {T : Type 0} (row r : Row) (v : T) (es s : List (Row × T)) (place : ℕ) → IsAbove row (take place es) → IsFirst row (drop place es) → slice_get es place ≡ Some (r, v) → found row (es ++ s) ≡ Some v
found-at row r v [] s zero a f g = absurd f
found-at row r v [] s (suc place) a f g = absurd f
found-at {T} row r v (e ∷ es) s zero a f g =
    let same : e ≡ (r, v) = cc in
    (λ i. cond (is_eq (f i)) (Some e.1) (found row (es ++ s))) ∙ ap (λ (x : Row × T). Some x.1) same
found-at row r v (e ∷ es) s (suc place) a f g = (λ i. cond (is_eq (a.0 i)) (Some e.1) (found row (es ++ s))) ∙ found-at row r v es s place a.1 f g

pub with-at : {T : Type 0} (row : Row) (v : T) (es s : List (Row × T)) (place : ℕ) → IsAbove row (take place es) → IsFirst row (drop place es) → with_entry (es ++ s) row v ≡ set_at es place v ++ s
with-at row v [] s zero a f = absurd f
with-at row v [] s (suc place) a f = absurd f
with-at row v (e ∷ es) s zero a f = λ i. match_ordering (f i) ((row, v) ∷ e ∷ (es ++ s)) ((e.0, v) ∷ (es ++ s)) (e ∷ with_entry (es ++ s) row v)
with-at row v (e ∷ es) s (suc place) a f =
    (λ i. match_ordering (a.0 i) ((row, v) ∷ e ∷ (es ++ s)) ((e.0, v) ∷ (es ++ s)) (e ∷ with_entry (es ++ s) row v))
    ∙ ap (λ xs. e ∷ xs) (with-at row v es s place a.1 f)

pub without-at : {T : Type 0} (row : Row) (es s : List (Row × T)) (place : ℕ) → IsAbove row (take place es) → IsFirst row (drop place es) → without_entry (es ++ s) row ≡ remove es place ++ s
without-at row [] s zero a f = absurd f
without-at row [] s (suc place) a f = absurd f
without-at row (e ∷ es) s zero a f = λ i. cond (is_eq (f i)) (es ++ s) (e ∷ without_entry (es ++ s) row)
without-at row (e ∷ es) s (suc place) a f =
    (λ i. cond (is_eq (a.0 i)) (es ++ s) (e ∷ without_entry (es ++ s) row))
    ∙ ap (λ xs. e ∷ xs) (without-at row es s place a.1 f)

-- ---- order

pub rising-front : {T : Type 0} (a b : List (Row × T)) → AreRisingRows (a ++ b) → AreRisingRows a
unfolding IsStrictlySortedBy
rising-front [] b s = tt
rising-front {T} (e ∷ a) b s = (front a s.0, rising-front a b s.1)
  where
    front : (a : List (Row × T)) → AllByRecursion (λ y. row_cmp e.0 y ≡ Less) (keys_of (a ++ b)) → AllByRecursion (λ y. row_cmp e.0 y ≡ Less) (keys_of a)
    front [] h = tt
    front (f ∷ a) h = (h.0, front a h.1)

pub rising-back : {T : Type 0} (a b : List (Row × T)) → AreRisingRows (a ++ b) → AreRisingRows b
unfolding IsStrictlySortedBy
rising-back [] b s = s
rising-back (e ∷ a) b s = rising-back a b s.1

all_with : {T : Type 0} (P : Row → Type 0) (row : Row) (v : T) (es : List (Row × T)) → P row → AllByRecursion P (keys_of es) → AllByRecursion P (keys_of (with_entry es row v))
all_with P row v [] p h = (p, tt)
all_with P row v (e ∷ es) p h = elim (row_cmp row e.0) as (λ o. AllByRecursion P (keys_of (match_ordering o ((row, v) ∷ e ∷ es) ((e.0, v) ∷ es) (e ∷ with_entry es row v)))) [
  | Less ↦ (p, h)
  | Equal ↦ h
  | Greater ↦ (h.0, all_with P row v es p h.1)
]

pub rising-with : {T : Type 0} (row : Row) (v : T) (es : List (Row × T)) → AreRisingRows es → AreRisingRows (with_entry es row v)
unfolding IsStrictlySortedBy
rising-with row v [] s = (tt, tt)
rising-with row v (e ∷ es) s =
    let rest = rising-with row v es s.1 in
    elim (row_cmp row e.0) as (λ o. row_cmp row e.0 ≡ o → AreRisingRows (match_ordering o ((row, v) ∷ e ∷ es) ((e.0, v) ∷ es) (e ∷ with_entry es row v))) [
      | Less ↦ λ h. ((h, lower_below row e.0 es h s.0), s)
      | Equal ↦ λ h. s
      | Greater ↦ λ h. (all_with (λ y. row_cmp e.0 y ≡ Less) row v es (turned row e.0 Greater h) s.0, rest)
    ] refl

all_without : {T : Type 0} (P : Row → Type 0) (row : Row) (es : List (Row × T)) → AllByRecursion P (keys_of es) → AllByRecursion P (keys_of (without_entry es row))
all_without P row [] h = tt
all_without P row (e ∷ es) h = elim (is_row row e.0) as (λ t. AllByRecursion P (keys_of (cond t es (e ∷ without_entry es row)))) [ true ↦ h.1 | false ↦ (h.0, all_without P row es h.1) ]

pub rising-without : {T : Type 0} (row : Row) (es : List (Row × T)) → AreRisingRows es → AreRisingRows (without_entry es row)
unfolding IsStrictlySortedBy
rising-without row [] s = tt
rising-without row (e ∷ es) s =
    let rest = rising-without row es s.1 in
    elim (is_row row e.0) as (λ t. AreRisingRows (cond t es (e ∷ without_entry es row))) [ true ↦ s.1 | false ↦ (all_without (λ y. row_cmp e.0 y ≡ Less) row es s.0, rest) ]

-- ---- one piece among the others

pub all-split : {T : Type 0} (ls : List (List (Row × T))) (nth : ℕ) → nth < length ls → all_of ls ≡ all_of (take nth ls) ++ (piece_at ls nth ++ all_of (drop (suc nth) ls))
all-split [] nth l = absurd (omega arith)
all-split (x ∷ ls) zero l = refl
all-split (x ∷ ls) (suc nth) l = ap (λ es. x ++ es) (all-split ls nth (omega arith)) ∙ sym (append_assoc x (all_of (take nth ls)) (piece_at ls nth ++ all_of (drop (suc nth) ls)))

pub all-append : {T : Type 0} (a b : List (List (Row × T))) → all_of (a ++ b) ≡ all_of a ++ all_of b
all-append [] b = refl
all-append (x ∷ a) b = ap (λ es. x ++ es) (all-append a b) ∙ sym (append_assoc x (all_of a) (all_of b))

pub all-set : {T : Type 0} (ls : List (List (Row × T))) (nth : ℕ) (x : List (Row × T)) → nth < length ls → all_of (set ls nth x) ≡ all_of (take nth ls) ++ (x ++ all_of (drop (suc nth) ls))
all-set [] nth x l = absurd (omega arith)
all-set (y ∷ ls) zero x l = refl
all-set (y ∷ ls) (suc nth) x l = ap (λ es. y ++ es) (all-set ls nth x (omega arith)) ∙ sym (append_assoc y (all_of (take nth ls)) (x ++ all_of (drop (suc nth) ls)))

pub some-set : {T : Type 0} (ls : List (List (Row × T))) (nth : ℕ) (x : List (Row × T)) → 0 < length x → AreNotEmpty ls → AreNotEmpty (set ls nth x)
some-set [] nth x l h = tt
some-set (y ∷ ls) zero x l h = (l, h.1)
some-set (y ∷ ls) (suc nth) x l h = (h.0, some-set ls nth x l h.1)

pub some-insert : {T : Type 0} (ls : List (List (Row × T))) (nth : ℕ) (x : List (Row × T)) → 0 < length x → AreNotEmpty ls → AreNotEmpty (insert ls nth x)
some-insert ls zero x l h = (l, h)
some-insert [] (suc nth) x l h = (l, tt)
some-insert (y ∷ ls) (suc nth) x l h = (h.0, some-insert ls nth x l h.1)

pub some-at : {T : Type 0} (ls : List (List (Row × T))) (nth : ℕ) → nth < length ls → AreNotEmpty ls → 0 < length (piece_at ls nth)
some-at [] nth l h = absurd (omega arith)
some-at (y ∷ ls) zero l h = h.0
some-at (y ∷ ls) (suc nth) l h = some-at ls nth (omega arith) h.1

-- ---- the search for a piece

pub first_key : {T : Type 0} (x s : List (Row × T)) (r : Row) → slice_get (keys_of x) 0 ≡ Some r → slice_get (keys_of (x ++ s)) 0 ≡ Some r
first_key [] s r e = absurd (let bad : None ≡ Some r = e in cc)
first_key (e ∷ x) s r g = g

pub below_piece : {T : Type 0} (row : Row) (ls : List (List (Row × T))) (nth : ℕ) (r : Row) → nth < length ls → slice_get (keys_of (piece_at ls nth)) 0 ≡ Some r → row_cmp row r ≡ Less → IsBelowFirst row (all_of (drop nth ls))
below_piece row [] nth r l g h = absurd (omega arith)
below_piece row ([] ∷ ls) zero r l g h = absurd (let bad : None ≡ Some r = g in cc)
below_piece row ((e ∷ x) ∷ ls) zero r l g h = let same : e.0 ≡ r = cc in subst (λ (y : Row). row_cmp row y ≡ Less) (sym same) h
below_piece row (x ∷ ls) (suc nth) r l g h = below_piece row ls nth r (omega arith) g h

pub all_less : {T : Type 0} (a b : List (Row × T)) (r : Row) → AreRisingRows (a ++ b) → slice_get (keys_of b) 0 ≡ Some r → AllByRecursion (λ e. row_cmp e.0 r ≡ Less) a
unfolding IsStrictlySortedBy
all_less [] b r s g = tt
all_less {T} (e ∷ a) b r s g = (less a s.0, all_less a b r s.1 g)
  where
    head : (b : List (Row × T)) → AllByRecursion (λ y. row_cmp e.0 y ≡ Less) (keys_of b) → slice_get (keys_of b) 0 ≡ Some r → row_cmp e.0 r ≡ Less
    head [] h g = absurd (let bad : None ≡ Some r = g in cc)
    head (f ∷ b) h g = let same : f.0 ≡ r = cc in subst (λ (y : Row). row_cmp e.0 y ≡ Less) same h.0

    less : (a : List (Row × T)) → AllByRecursion (λ y. row_cmp e.0 y ≡ Less) (keys_of (a ++ b)) → row_cmp e.0 r ≡ Less
    less [] h = head b h g
    less (f ∷ a) h = less a h.1

not_below : {T : Type 0} (row r : Row) (a : List (Row × T)) → (row_cmp row r ≡ Less → ⊥) → AllByRecursion (λ e. row_cmp e.0 r ≡ Less) a → IsAbove row a
not_below row r [] n h = tt
not_below row r (e ∷ a) n h = (one (row_cmp row r) refl, not_below row r a n h.1)
  where
    one : (o : Ordering) → row_cmp row r ≡ o → row_cmp row e.0 ≡ Greater
    one Less p = absurd (n p)
    one Equal p = let same : row ≡ r = rows_exact row r p in turned e.0 row Less (subst (λ (y : Row). row_cmp e.0 y ≡ Less) (sym same) h.0)
    one Greater p = still_above row r e.0 p h.0

pub above_piece : {T : Type 0} (row : Row) (ls : List (List (Row × T))) (nth : ℕ) (r : Row) → nth < length ls → AreRisingRows (all_of ls) → slice_get (keys_of (piece_at ls nth)) 0 ≡ Some r → (row_cmp row r ≡ Less → ⊥) → IsAbove row (all_of (take nth ls))
above_piece {T} row ls nth r l s g n =
    not_below row r (all_of (take nth ls)) n
    (all_less (all_of (take nth ls)) (piece_at ls nth ++ all_of (drop (suc nth) ls)) r (subst (λ (es : List (Row × T)). AreRisingRows es) (all-split ls nth l) s)
    (first_key (piece_at ls nth) (all_of (drop (suc nth) ls)) r g))

-- ---- edits of pieces

-- a piece of one row between two pieces
pub all-insert : {T : Type 0} (ls : List (List (Row × T))) (nth : ℕ) (x : List (Row × T)) → all_of (insert ls nth x) ≡ all_of (take nth ls) ++ (x ++ all_of (drop nth ls))
all-insert ls nth x = all-append (take nth ls) (x ∷ drop nth ls)

-- an entry that is put to a place in a piece
pub put_in_piece : {T : Type 0} (ls : List (List (Row × T))) (nth place : ℕ) (e : Row × T) → nth < length ls → all_of (set ls nth (insert (piece_at ls nth) place e)) ≡ before ls nth place ++ e ∷ after ls nth place
put_in_piece ls nth place e l =
    let x = piece_at ls nth in
    let s = all_of (drop (suc nth) ls) in
    all-set ls nth (insert x place e) l
    ∙ ap (λ es. all_of (take nth ls) ++ es) (append_assoc (take place x) (e ∷ drop place x) s)
    ∙ sym (append_assoc (all_of (take nth ls)) (take place x) (e ∷ (drop place x ++ s)))

pub take-suc_piece : {T : Type 0} (ls : List (List (Row × T))) (nth : ℕ) → nth < length ls → all_of (take (suc nth) ls) ≡ all_of (take nth ls) ++ piece_at ls nth
take-suc_piece [] nth l = absurd (omega arith)
take-suc_piece (x ∷ ls) zero l = append-nil x
take-suc_piece (x ∷ ls) (suc nth) l = ap (λ es. x ++ es) (take-suc_piece ls nth (omega arith)) ∙ sym (append_assoc x (all_of (take nth ls)) (piece_at ls nth))

pub drop-nth : {T : Type 0} (ls : List (List (Row × T))) (nth : ℕ) → nth < length ls → drop nth ls ≡ piece_at ls nth ∷ drop (suc nth) ls
drop-nth [] nth l = absurd (omega arith)
drop-nth (x ∷ ls) zero l = refl
drop-nth (x ∷ ls) (suc nth) l = drop-nth ls nth (omega arith)

-- behind a whole piece
pub put_at_end : {T : Type 0} (ls : List (List (Row × T))) (nth : ℕ) (e : Row × T) → nth < length ls → before ls nth (length (piece_at ls nth)) ++ e ∷ after ls nth (length (piece_at ls nth)) ≡ all_of (take (suc nth) ls) ++ e ∷ all_of (drop (suc nth) ls)
put_at_end ls nth e l =
    let x = piece_at ls nth in
    (λ i. (all_of (take nth ls) ++ take_all (length x) x (omega arith) i) ++ e ∷ (drop_all (length x) x (omega arith) i ++ all_of (drop (suc nth) ls)))
    ∙ ap (λ es. es ++ e ∷ all_of (drop (suc nth) ls)) (sym (take-suc_piece ls nth l))

-- before a whole piece
pub put_at_front : {T : Type 0} (ls : List (List (Row × T))) (nth : ℕ) (e : Row × T) → nth < length ls → all_of (take nth ls) ++ e ∷ all_of (drop nth ls) ≡ before ls nth 0 ++ e ∷ after ls nth 0
put_at_front {T} ls nth e l =
    ap (λ (xs : List (List (Row × T))). all_of (take nth ls) ++ e ∷ all_of xs) (drop-nth ls nth l)
    ∙ ap (λ es. es ++ e ∷ (piece_at ls nth ++ all_of (drop (suc nth) ls))) (sym (append-nil (all_of (take nth ls))))

-- in a piece that was cut there
pub put_at_cut : {T : Type 0} (ls ms : List (List (Row × T))) (nth place : ℕ) (e : Row × T) → nth < length ls → ms ≡ take nth ls ++ take place (piece_at ls nth) ∷ drop place (piece_at ls nth) ∷ drop (suc nth) ls
    → all_of (take (suc nth) ms) ++ e ∷ all_of (drop (suc nth) ms) ≡ before ls nth place ++ e ∷ after ls nth place
put_at_cut {T} ls ms nth place e l is =
    let x = piece_at ls nth in
    let front = take nth ls in
    let n : length (front ++ take place x ∷ []) ≡ suc nth = omega (arith, length-append front (take place x ∷ []), length-take-le nth ls (omega arith)) in
    let shape : ms ≡ (front ++ take place x ∷ []) ++ drop place x ∷ drop (suc nth) ls = is ∙ sym (append_assoc front (take place x ∷ []) (drop place x ∷ drop (suc nth) ls)) in
    let a : take (suc nth) ms ≡ front ++ take place x ∷ [] = ap (take (suc nth)) shape ∙ take_at (front ++ take place x ∷ []) (drop place x ∷ drop (suc nth) ls) (suc nth) n in
    let b : drop (suc nth) ms ≡ drop place x ∷ drop (suc nth) ls = ap (drop (suc nth)) shape ∙ drop_at (front ++ take place x ∷ []) (drop place x ∷ drop (suc nth) ls) (suc nth) n in
    (λ i. all_of (a i) ++ e ∷ all_of (b i))
    ∙ ap (λ es. es ++ e ∷ after ls nth place) (all-append front (take place x ∷ []) ∙ ap (λ es. all_of front ++ es) (append-nil (take place x)))

pub all-cut : {T : Type 0} (ls : List (List (Row × T))) (nth place : ℕ) → nth < length ls → all_of (take nth ls ++ take place (piece_at ls nth) ∷ drop place (piece_at ls nth) ∷ drop (suc nth) ls) ≡ all_of ls
all-cut ls nth place l =
    let x = piece_at ls nth in
    let s = all_of (drop (suc nth) ls) in
    all-append (take nth ls) (take place x ∷ drop place x ∷ drop (suc nth) ls)
    ∙ ap (λ es. all_of (take nth ls) ++ es) (sym (append_assoc (take place x) (drop place x) s) ∙ ap (λ es. es ++ s) (take-append-drop place x))
    ∙ sym (all-split ls nth l)

some-append : {T : Type 0} (a b : List (List (Row × T))) → AreNotEmpty a → AreNotEmpty b → AreNotEmpty (a ++ b)
some-append [] b h k = k
some-append (x ∷ a) b h k = (h.0, some-append a b h.1 k)

some-take : {T : Type 0} (n : ℕ) (ls : List (List (Row × T))) → AreNotEmpty ls → AreNotEmpty (take n ls)
some-take zero ls h = tt
some-take (suc n) [] h = tt
some-take (suc n) (x ∷ ls) h = (h.0, some-take n ls h.1)

some-drop : {T : Type 0} (n : ℕ) (ls : List (List (Row × T))) → AreNotEmpty ls → AreNotEmpty (drop n ls)
some-drop zero ls h = h
some-drop (suc n) [] h = tt
some-drop (suc n) (x ∷ ls) h = some-drop n ls h.1

pub some-cut : {T : Type 0} (ls : List (List (Row × T))) (nth place : ℕ) → 0 < place → place < length (piece_at ls nth) → AreNotEmpty ls → AreNotEmpty (take nth ls ++ take place (piece_at ls nth) ∷ drop place (piece_at ls nth) ∷ drop (suc nth) ls)
some-cut ls nth place low high h =
    let x = piece_at ls nth in
    some-append (take nth ls) (take place x ∷ drop place x ∷ drop (suc nth) ls) (some-take nth ls h)
    (omega (arith, length-take-le place x (omega arith)), (omega (arith, length-drop place x), some-drop (suc nth) ls h))

pub some-remove : {T : Type 0} (ls : List (List (Row × T))) (nth : ℕ) → AreNotEmpty ls → AreNotEmpty (remove ls nth)
some-remove ls nth h = some-append (take nth ls) (drop (suc nth) ls) (some-take nth ls h) (some-drop (suc nth) ls h)

-- a piece cut in two, as the code does it
pub cut_made : {T : Type 0} (ls : List (List (Row × T))) (nth : ℕ) (a b : List (Row × T)) → nth < length ls → set (insert ls (suc nth) b) nth a ≡ take nth ls ++ a ∷ b ∷ drop (suc nth) ls
cut_made [] nth a b l = absurd (omega arith)
cut_made (x ∷ ls) zero a b l = refl
cut_made (x ∷ ls) (suc nth) a b l = ap (λ xs. x ∷ xs) (cut_made ls nth a b (omega arith))

pub piece_stays : {T : Type 0} (ls : List (List (Row × T))) (nth : ℕ) (b : List (Row × T)) → nth < length ls → piece_at (insert ls (suc nth) b) nth ≡ piece_at ls nth
piece_stays [] nth b l = absurd (omega arith)
piece_stays (x ∷ ls) zero b l = refl
piece_stays (x ∷ ls) (suc nth) b l = piece_stays ls nth b (omega arith)

-- a piece that was read
pub piece_read : {T : Type 0} (ls : List (List (Row × T))) (nth : ℕ) (x : List (Row × T)) → nth < length ls → x ≡ get_or ls nth x → x ≡ piece_at ls nth
piece_read [] nth x l e = absurd (omega arith)
piece_read (y ∷ ls) zero x l e = e
piece_read (y ∷ ls) (suc nth) x l e = piece_read ls nth x (omega arith) e

-- a piece that was read once another stood behind it
pub piece_kept : {T : Type 0} (ls : List (List (Row × T))) (nth : ℕ) (b y : List (Row × T)) → nth < length ls → y ≡ get_or (insert ls (suc nth) b) nth y → y ≡ piece_at ls nth
piece_kept [] nth b y l e = absurd (omega arith)
piece_kept (x ∷ ls) zero b y l e = e
piece_kept (x ∷ ls) (suc nth) b y l e = piece_kept ls nth b y (omega arith) e

pub piece_put_back : {T : Type 0} (ls : List (List (Row × T))) (nth : ℕ) → set ls nth (piece_at ls nth) ≡ ls
piece_put_back [] nth = refl
piece_put_back (x ∷ ls) zero = refl
piece_put_back (x ∷ ls) (suc nth) = ap (λ xs. x ∷ xs) (piece_put_back ls nth)

-- a piece that was left as it was
pub piece_unchanged : {T : Type 0} (ls : List (List (Row × T))) (nth : ℕ) (y z made : List (Row × T)) (done : Bool) → y ≡ piece_at ls nth → made ≡ cond done z y → done ≡ false → set ls nth made ≡ ls
piece_unchanged ls nth y z made done is m f = ap (set ls nth) (m ∙ (λ i. cond (f i) z y) ∙ is) ∙ piece_put_back ls nth

-- ---- a place in a piece

none_rising : (T : Type 0) → AreRisingRows {T = T} []
unfolding IsStrictlySortedBy
none_rising T = tt

pub none_counted : (T : Type 0) → AreCounted {T = T} [] 0
none_counted T = record { pieces = record { rising = none_rising T; some = tt }; exact = refl; small = omega arith }

pub rising-nth : {T : Type 0} (ls : List (List (Row × T))) (nth : ℕ) → nth < length ls → AreRisingRows (all_of ls) → AreRisingRows (piece_at ls nth)
rising-nth {T} ls nth l s =
    rising-front (piece_at ls nth) (all_of (drop (suc nth) ls))
    (rising-back (all_of (take nth ls)) (piece_at ls nth ++ all_of (drop (suc nth) ls)) (subst (λ (es : List (Row × T)). AreRisingRows es) (all-split ls nth l) s))

pub all-before_after : {T : Type 0} (ls : List (List (Row × T))) (nth place : ℕ) → nth < length ls → all_of ls ≡ before ls nth place ++ after ls nth place
all-before_after ls nth place l =
    let x = piece_at ls nth in
    let s = all_of (drop (suc nth) ls) in
    all-split ls nth l
    ∙ ap (λ es. all_of (take nth ls) ++ (es ++ s)) (sym (take-append-drop place x))
    ∙ ap (λ es. all_of (take nth ls) ++ es) (append_assoc (take place x) (drop place x) s)
    ∙ sym (append_assoc (all_of (take nth ls)) (take place x) (drop place x ++ s))

pub above-append : {T : Type 0} (row : Row) (a b : List (Row × T)) → IsAbove row a → IsAbove row b → IsAbove row (a ++ b)
above-append row [] b h k = k
above-append row (e ∷ a) b h k = (h.0, above-append row a b h.1 k)

pub below-append : {T : Type 0} (row : Row) (a b : List (Row × T)) → IsBelowFirst row a → IsBelowFirst row b → IsBelowFirst row (a ++ b)
below-append row [] b h k = k
below-append row (e ∷ a) b h k = h

module _ {T : Type 0} (row : Row) (ls : List (List (Row × T))) (nth place : ℕ) (at : IsPieceFor row ls nth) where
  pub found_there : (r : Row) (v : T) → IsAt row (piece_at ls nth) place → slice_get (piece_at ls nth) place ≡ Some (r, v) → found row (all_of ls) ≡ Some v
  found_there r v i g =
      let s = all_of (drop (suc nth) ls) in
      ap (found row) (all-split ls nth at.within)
      ∙ found-above row (all_of (take nth ls)) (piece_at ls nth ++ s) at.above
      ∙ found-at row r v (piece_at ls nth) s place i.above i.same g

  pub with_there : (v : T) → IsAt row (piece_at ls nth) place → with_entry (all_of ls) row v ≡ all_of (set ls nth (set_at (piece_at ls nth) place v))
  with_there v i =
      let s = all_of (drop (suc nth) ls) in
      ap (λ es. with_entry es row v) (all-split ls nth at.within)
      ∙ with-above row v (all_of (take nth ls)) (piece_at ls nth ++ s) at.above
      ∙ ap (λ es. all_of (take nth ls) ++ es) (with-at row v (piece_at ls nth) s place i.above i.same)
      ∙ sym (all-set ls nth (set_at (piece_at ls nth) place v) at.within)

  pub without_there : IsAt row (piece_at ls nth) place → without_entry (all_of ls) row ≡ all_of (set ls nth (remove (piece_at ls nth) place))
  without_there i =
      let s = all_of (drop (suc nth) ls) in
      ap (λ es. without_entry es row) (all-split ls nth at.within)
      ∙ without-above row (all_of (take nth ls)) (piece_at ls nth ++ s) at.above
      ∙ ap (λ es. all_of (take nth ls) ++ es) (without-at row (piece_at ls nth) s place i.above i.same)
      ∙ sym (all-set ls nth (remove (piece_at ls nth) place) at.within)

  module _ (gap : IsGapFor row (piece_at ls nth) place) where
    above_before : IsAbove row (before ls nth place)
    above_before = above-append row (all_of (take nth ls)) (take place (piece_at ls nth)) at.above gap.above

    below_after : IsBelowFirst row (after ls nth place)
    below_after = below-append row (drop place (piece_at ls nth)) (all_of (drop (suc nth) ls)) gap.below at.below

    pub found_nowhere : AreRisingRows (all_of ls) → found row (all_of ls) ≡ None
    found_nowhere s =
        let cut = all-before_after ls nth place at.within in
        ap (found row) cut
        ∙ found-above row (before ls nth place) (after ls nth place) above_before
        ∙ found-below row (after ls nth place) below_after
        (rising-back (before ls nth place) (after ls nth place) (subst (λ (es : List (Row × T)). AreRisingRows es) cut s))

    pub without_nowhere : AreRisingRows (all_of ls) → without_entry (all_of ls) row ≡ all_of ls
    without_nowhere s =
        let cut = all-before_after ls nth place at.within in
        ap (λ es. without_entry es row) cut
        ∙ without-above row (before ls nth place) (after ls nth place) above_before
        ∙ ap (λ es. before ls nth place ++ es) (without-below row (after ls nth place) below_after
        (rising-back (before ls nth place) (after ls nth place) (subst (λ (es : List (Row × T)). AreRisingRows es) cut s)))
        ∙ sym cut

    pub with_new : (v : T) → with_entry (all_of ls) row v ≡ before ls nth place ++ (row, v) ∷ after ls nth place
    with_new v =
        ap (λ es. with_entry es row v) (all-before_after ls nth place at.within)
        ∙ with-above row v (before ls nth place) (after ls nth place) above_before
        ∙ ap (λ es. before ls nth place ++ es) (with-below row v (after ls nth place) below_after)

-- ---- the number of rows, after an edit

pub counted_same : {T : Type 0} (ls ms : List (List (Row × T))) (n : ℕ) → AreCounted ls n → all_of ms ≡ all_of ls → AreNotEmpty ms → AreCounted ms n
counted_same {T} ls ms n c e h =
    record {
      pieces = record { rising = subst (λ (es : List (Row × T)). AreRisingRows es) (sym e) c.pieces.rising; some = h };
      exact = c.exact ∙ ap length (sym e);
      small = c.small;
    }

pub counted_new : {T : Type 0} (row : Row) (v : T) (ls ms : List (List (Row × T))) (nth place n : ℕ) → AreCounted ls n → IsPieceFor row ls nth → IsGapFor row (piece_at ls nth) place
    → all_of ms ≡ before ls nth place ++ (row, v) ∷ after ls nth place → AreNotEmpty ms → n + 1 < 2 ^ 63 → AreCounted ms (n + 1)
counted_new {T} row v ls ms nth place n c at gap e h small =
    let is : with_entry (all_of ls) row v ≡ all_of ms = with_new row ls nth place at gap v ∙ sym e in
    record {
      pieces = record { rising = subst (λ (es : List (Row × T)). AreRisingRows es) is (rising-with row v (all_of ls) c.pieces.rising); some = h };
      exact = omega (arith, c.exact, ap length e, length-append (before ls nth place) ((row, v) ∷ after ls nth place), ap length (all-before_after ls nth place at.within), length-append (before ls nth place) (after ls nth place));
      small = small;
    }

length-set_at : {T : Type 0} (es : List (Row × T)) (place : ℕ) (v : T) → length (set_at es place v) ≡ length es
length-set_at [] place v = refl
length-set_at (e ∷ es) zero v = refl
length-set_at (e ∷ es) (suc place) v = ap suc (length-set_at es place v)

pub counted_there : {T : Type 0} (row : Row) (v : T) (ls : List (List (Row × T))) (nth place n : ℕ) → AreCounted ls n → IsPieceFor row ls nth → IsAt row (piece_at ls nth) place → AreCounted (set ls nth (set_at (piece_at ls nth) place v)) n
counted_there {T} row v ls nth place n c at i =
    let x = piece_at ls nth in
    let s = all_of (drop (suc nth) ls) in
    let here : 0 < length (set_at x place v) = subst (λ k. 0 < k) (sym (length-set_at x place v)) (some-at ls nth at.within c.pieces.some) in
    record {
      pieces = record {
        rising = subst (λ (es : List (Row × T)). AreRisingRows es) (with_there row ls nth place at v i) (rising-with row v (all_of ls) c.pieces.rising);
        some = some-set ls nth (set_at x place v) here c.pieces.some;
      };
      exact = omega (arith, c.exact, ap length (all-set ls nth (set_at x place v) at.within), length-append (all_of (take nth ls)) (set_at x place v ++ s), length-append (set_at x place v) s, length-set_at x place v, ap length (all-split ls nth at.within), length-append (all_of (take nth ls)) (x ++ s), length-append x s);
      small = c.small;
    }

length-remove : {T : Type 0} (es : List (Row × T)) (place : ℕ) → place < length es → suc (length (remove es place)) ≡ length es
length-remove [] place l = absurd (omega arith)
length-remove (e ∷ es) zero l = refl
length-remove (e ∷ es) (suc place) l = ap suc (length-remove es place (omega arith))

pub counted_less : {T : Type 0} (row : Row) (ls ms : List (List (Row × T))) (nth place n : ℕ) → AreCounted ls n → IsPieceFor row ls nth → IsAt row (piece_at ls nth) place
    → all_of ms ≡ all_of (set ls nth (remove (piece_at ls nth) place)) → AreNotEmpty ms → AreCounted ms (n - 1)
counted_less {T} row ls ms nth place n c at i e h =
    let x = piece_at ls nth in
    let s = all_of (drop (suc nth) ls) in
    let y = remove x place in
    let facts : suc (length (all_of ms)) ≡ n = omega (arith, c.exact, ap length e, ap length (all-set ls nth y at.within), length-append (all_of (take nth ls)) (y ++ s), length-append y s, length-remove x place i.within, ap length (all-split ls nth at.within), length-append (all_of (take nth ls)) (x ++ s), length-append x s) in
    record {
      pieces = record { rising = subst (λ (es : List (Row × T)). AreRisingRows es) (without_there row ls nth place at i ∙ sym e) (rising-without row (all_of ls) c.pieces.rising); some = h };
      exact = omega (arith, facts);
      small = omega (arith, c.small);
    }

-- a piece that lost a row, and went if that was its only one
pub set_read : {T : Type 0} (ls : List (List (Row × T))) (nth : ℕ) (y z : List (Row × T)) → nth < length ls → z ≡ get_or (set ls nth y) nth z → z ≡ y
set_read [] nth y z l e = absurd (omega arith)
set_read (x ∷ ls) zero y z l e = e
set_read (x ∷ ls) (suc nth) y z l e = set_read ls nth y z (omega arith) e

pub set_removed : {T : Type 0} (ls : List (List (Row × T))) (nth : ℕ) (y : List (Row × T)) → remove (set ls nth y) nth ≡ remove ls nth
set_removed [] zero y = refl
set_removed [] (suc nth) y = refl
set_removed (x ∷ ls) zero y = refl
set_removed (x ∷ ls) (suc nth) y = ap (λ xs. x ∷ xs) (set_removed ls nth y)

pub all-gone : {T : Type 0} (ls : List (List (Row × T))) (nth : ℕ) (y : List (Row × T)) → nth < length ls → length y ≡ 0 → all_of (remove ls nth) ≡ all_of (set ls nth y)
all-gone [] nth y l n = absurd (omega arith)
all-gone (x ∷ ls) zero [] l n = refl
all-gone (x ∷ ls) zero (e ∷ y) l n = absurd (omega (arith, n))
all-gone (x ∷ ls) (suc nth) y l n = ap (λ es. x ++ es) (all-gone ls nth y (omega arith) n)

-- ---- a piece that was cut in halves

split_at : {T : Type 0} (a b es : List (Row × T)) (n : ℕ) → es ≡ a ++ b → length a ≡ n → (a ≡ take n es) × (b ≡ drop n es)
split_at a b es n e l = (sym (ap (take n) e ∙ take_at a b n l), sym (ap (drop n) e ∙ drop_at a b n l))

-- what stands before and after a place, by its number among all entries
pub place_among : {T : Type 0} (ls : List (List (Row × T))) (nth place n : ℕ) → nth < length ls → place ≤ length (piece_at ls nth) → length (all_of (take nth ls)) + place ≡ n
    → (before ls nth place ≡ take n (all_of ls)) × (after ls nth place ≡ drop n (all_of ls))
place_among ls nth place n l w e =
    split_at (before ls nth place) (after ls nth place) (all_of ls) n (all-before_after ls nth place l)
    (length-append (all_of (take nth ls)) (take place (piece_at ls nth)) ∙ ap (λ k. length (all_of (take nth ls)) + k) (length-take-le place (piece_at ls nth) w) ∙ e)

piece_in_front : {T : Type 0} (front : List (List (Row × T))) (x : List (Row × T)) (rest : List (List (Row × T))) (nth : ℕ) → length front ≡ nth → piece_at (front ++ x ∷ rest) nth ≡ x
piece_in_front [] x rest zero e = refl
piece_in_front [] x rest (suc nth) e = absurd (omega (arith, e))
piece_in_front (y ∷ front) x rest zero e = absurd (omega (arith, e))
piece_in_front (y ∷ front) x rest (suc nth) e = piece_in_front front x rest nth (omega (arith, e))

module _ {T : Type 0} (ls ms : List (List (Row × T))) (nth half : ℕ) (l : nth < length ls) (w : half ≤ length (piece_at ls nth)) (is : ms ≡ take nth ls ++ take half (piece_at ls nth) ∷ drop half (piece_at ls nth) ∷ drop (suc nth) ls) where
  number : length (take nth ls) ≡ nth
  number = length-take-le nth ls (omega arith)

  low_half : piece_at ms nth ≡ take half (piece_at ls nth)
  low_half = ap (λ (xs : List (List (Row × T))). piece_at xs nth) is ∙ piece_in_front (take nth ls) (take half (piece_at ls nth)) (drop half (piece_at ls nth) ∷ drop (suc nth) ls) nth number

  shape : ms ≡ (take nth ls ++ take half (piece_at ls nth) ∷ []) ++ drop half (piece_at ls nth) ∷ drop (suc nth) ls
  shape = is ∙ sym (append_assoc (take nth ls) (take half (piece_at ls nth) ∷ []) (drop half (piece_at ls nth) ∷ drop (suc nth) ls))

  next_number : length (take nth ls ++ take half (piece_at ls nth) ∷ []) ≡ nth + 1
  next_number = omega (arith, length-append (take nth ls) (take half (piece_at ls nth) ∷ []), number)

  pub high_half : piece_at ms (nth + 1) ≡ drop half (piece_at ls nth)
  high_half = ap (λ (xs : List (List (Row × T))). piece_at xs (nth + 1)) shape ∙ piece_in_front (take nth ls ++ take half (piece_at ls nth) ∷ []) (drop half (piece_at ls nth)) (drop (suc nth) ls) (nth + 1) next_number

  same_all : all_of ms ≡ all_of ls
  same_all = ap all_of is ∙ all-cut ls nth half l

  longer : nth + 1 < length ms
  longer = omega (arith, ap length shape, length-append (take nth ls ++ take half (piece_at ls nth) ∷ []) (drop half (piece_at ls nth) ∷ drop (suc nth) ls), next_number)

  low_taken : take nth ms ≡ take nth ls
  low_taken = ap (take nth) is ∙ take_at (take nth ls) (take half (piece_at ls nth) ∷ drop half (piece_at ls nth) ∷ drop (suc nth) ls) nth number

  high_taken : take (nth + 1) ms ≡ take nth ls ++ take half (piece_at ls nth) ∷ []
  high_taken = ap (take (nth + 1)) shape ∙ take_at (take nth ls ++ take half (piece_at ls nth) ∷ []) (drop half (piece_at ls nth) ∷ drop (suc nth) ls) (nth + 1) next_number

  pub low_place : (place : ℕ) (e : Row × T) → place ≤ half → before ms nth place ++ e ∷ after ms nth place ≡ before ls nth place ++ e ∷ after ls nth place
  low_place place e h =
      let n : ℕ = length (all_of (take nth ls)) + place in
      let short : place ≤ length (piece_at ms nth) = omega (arith, ap length low_half, length-take-le half (piece_at ls nth) w) in
      let wide : place ≤ length (piece_at ls nth) = omega (arith, h, w) in
      let new = place_among ms nth place n (omega (arith, longer)) short (ap (λ (xs : List (List (Row × T))). length (all_of xs) + place) low_taken) in
      let old = place_among ls nth place n l wide refl in
      λ i. (new.0 ∙ ap (take n) same_all ∙ sym old.0) i ++ e ∷ (new.1 ∙ ap (drop n) same_all ∙ sym old.1) i

  pub high_place : (place : ℕ) (e : Row × T) → half ≤ place → place ≤ length (piece_at ls nth) → before ms (nth + 1) (place - half) ++ e ∷ after ms (nth + 1) (place - half) ≡ before ls nth place ++ e ∷ after ls nth place
  high_place place e h wide =
      let n : ℕ = length (all_of (take nth ls)) + place in
      let short : place - half ≤ length (piece_at ms (nth + 1)) = omega (arith, ap length high_half, length-drop half (piece_at ls nth)) in
      let front : length (all_of (take (nth + 1) ms)) ≡ length (all_of (take nth ls)) + half = omega (arith, ap (λ (xs : List (List (Row × T))). length (all_of xs)) high_taken, ap length (all-append (take nth ls) (take half (piece_at ls nth) ∷ [])), length-append (all_of (take nth ls)) (take half (piece_at ls nth) ++ []), ap length (append-nil (take half (piece_at ls nth))), length-take-le half (piece_at ls nth) w) in
      let new = place_among ms (nth + 1) (place - half) n longer short (omega (arith, front, h)) in
      let old = place_among ls nth place n l wide refl in
      λ i. (new.0 ∙ ap (take n) same_all ∙ sym old.0) i ++ e ∷ (new.1 ∙ ap (drop n) same_all ∙ sym old.1) i

-- ---- a row behind all others

below_end : {T : Type 0} (row r : Row) (v : T) (es : List (Row × T)) → row_cmp r row ≡ Less → AllByRecursion (λ y. row_cmp r y ≡ Less) (keys_of es) → AllByRecursion (λ y. row_cmp r y ≡ Less) (keys_of (es ++ (row, v) ∷ []))
below_end row r v [] h a = (h, tt)
below_end row r v (e ∷ es) h a = (a.0, below_end row r v es h a.1)

pub rising-pushed : {T : Type 0} (row : Row) (v : T) (es : List (Row × T)) → IsAbove row es → AreRisingRows es → AreRisingRows (es ++ (row, v) ∷ [])
unfolding IsStrictlySortedBy
rising-pushed row v [] a s = (tt, tt)
rising-pushed row v (e ∷ es) a s = (below_end row e.0 v es (turned row e.0 Greater a.0) s.0, rising-pushed row v es a.1 s.1)

pub counted_pushed : {T : Type 0} (row : Row) (v : T) (ls ms : List (List (Row × T))) (n : ℕ) → AreCounted ls n → IsAbove row (all_of ls) → all_of ms ≡ all_of ls ++ (row, v) ∷ [] → AreNotEmpty ms → n + 1 < 2 ^ 63 → AreCounted ms (n + 1)
counted_pushed {T} row v ls ms n c a e h small = record {
  pieces = record { rising = subst (λ (es : List (Row × T)). AreRisingRows es) (sym e) (rising-pushed row v (all_of ls) a c.pieces.rising); some = h };
  exact = omega (arith, c.exact, ap length e, length-append (all_of ls) ((row, v) ∷ []));
  small = small;
}

-- pieces behind pieces whose rows are all below
pub counted_joined : {T : Type 0} (ls ms ns : List (List (Row × T))) (a b : ℕ) → AreCounted ls a → AreCounted ms b → ns ≡ ls ++ ms → AreRisingRows (all_of ls ++ all_of ms) → a + b < 2 ^ 63 → AreCounted ns (a + b)
counted_joined {T} ls ms ns a b c d is rising small =
    let all : all_of ns ≡ all_of ls ++ all_of ms = ap all_of is ∙ all-append ls ms in
    record {
      pieces = record {
        rising = subst (λ (es : List (Row × T)). AreRisingRows es) (sym all) rising;
        some = subst (λ (xs : List (List (Row × T))). AreNotEmpty xs) (sym is) (some-append ls ms c.pieces.some d.pieces.some);
      };
      exact = omega (arith, c.exact, d.exact, ap length all, length-append (all_of ls) (all_of ms));
      small = small;
    }
