-- Rows cut into pages one after another.
use Rattle.std.proofs.Common.{◌≡◌, ◌≢◌, refl, sym, ap, ◌∙◌, ℕ, zero, suc, ◌≤◌, List, [], ◌∷◌, ◌++◌, length, take, drop, arith}
use Rattle.std.proofs.lemmas.List.{append-nil, append_assoc}
use Rattle.wh_row.specs.Weigh.{Counted}
use Rattle.wh_row.specs.Stored.{plain}
use Rattle.wh_carry.specs.NightList.{pages_of, pages_within}
use Rattle.wh_carry.specs.declared.course.Part.{Part}
use Rattle.wh_carry.specs.declared.course.Part.TheVariants as part
use Rattle.wh_carry.specs.Inner.Standing.{ArePages, PutsPages}
use Rattle.std.specs.Global.{Vec}
use Rattle.std.proofs.Common.{ℤ}
use Rattle.wh_carry.proofs.CourseWaves.{take_all}

short : {A : Type 0} (k : ℕ) (xs : List A) → length (drop k xs) ≤ length xs
short zero xs = omega arith
short (suc k) [] = omega arith
short (suc k) (x ∷ xs) = let l = short k xs in omega arith

fuel : (n m keys : ℕ) (rows : Counted) → 1 ≤ keys → length rows ≤ n → length rows ≤ m → pages_within n keys rows ≡ pages_within m keys rows
fuel zero zero keys rows k a b = refl
fuel zero (suc m) keys [] k a b = refl
fuel zero (suc m) keys (e ∷ es) k a b = absurd (omega arith)
fuel (suc n) zero keys [] k a b = refl
fuel (suc n) zero keys (e ∷ es) k a b = absurd (omega arith)
fuel (suc n) (suc m) keys [] k a b = refl
fuel (suc n) (suc m) zero (e ∷ es) k a b = absurd (omega arith)
fuel (suc n) (suc m) (suc keys) (e ∷ es) k a b =
    let l : length (drop keys es) ≤ length es = short keys es in
    ap (λ ps. take (suc keys) (e ∷ es) ∷ ps) (fuel n m (suc keys) (drop keys es) k (omega arith) (omega arith))

take_front : {A : Type 0} (xs ys : List A) (k : ℕ) → length xs ≡ k → take k (xs ++ ys) ≡ xs
take_front [] ys zero e = refl
take_front [] ys (suc k) e = absurd (omega arith)
take_front (x ∷ xs) ys zero e = absurd (omega arith)
take_front (x ∷ xs) ys (suc k) e = ap (λ zs. x ∷ zs) (take_front xs ys k (omega arith))

drop_front : {A : Type 0} (xs ys : List A) (k : ℕ) → length xs ≡ k → drop k (xs ++ ys) ≡ ys
drop_front [] ys zero e = refl
drop_front [] ys (suc k) e = absurd (omega arith)
drop_front (x ∷ xs) ys zero e = absurd (omega arith)
drop_front (x ∷ xs) ys (suc k) e = drop_front xs ys k (omega arith)

pub drop_past : {A : Type 0} (k : ℕ) (xs : List A) → length xs ≤ k → drop k xs ≡ []
drop_past zero [] l = refl
drop_past zero (x ∷ xs) l = absurd (omega arith)
drop_past (suc k) [] l = refl
drop_past (suc k) (x ∷ xs) l = drop_past k xs (omega arith)

far : {A : Type 0} (xs ys : List A) → length ys ≤ length (xs ++ ys)
far [] ys = omega arith
far (x ∷ xs) ys = let l = far xs ys in omega arith

nothing_left : (n keys : ℕ) → pages_within n keys [] ≡ []
nothing_left zero keys = refl
nothing_left (suc n) keys = refl

-- a full page stands first
pub full_page : (keys : ℕ) (page rest : Counted) → 1 ≤ keys → length page ≡ keys → page ∷ pages_of keys rest ≡ pages_of keys (page ++ rest)
full_page keys [] rest k e = absurd (omega arith)
full_page keys (x ∷ xs) rest k e =
    let l = far xs rest in
    sym ((λ i. take_front (x ∷ xs) rest keys e i ∷ pages_within (length (xs ++ rest)) keys (drop_front (x ∷ xs) rest keys e i))
    ∙ ap (λ ps. (x ∷ xs) ∷ ps) (fuel (length (xs ++ rest)) (length rest) keys rest k l (omega arith)))

-- rows that fit in one page are one
pub last_page : (keys : ℕ) (page : Counted) → length page ≤ keys → page ≢ [] → pages_of keys page ≡ page ∷ []
last_page keys [] l some = absurd (some refl)
last_page keys (x ∷ xs) l some =
    (λ i. take_all keys (x ∷ xs) l i ∷ pages_within (length xs) keys (drop_past keys (x ∷ xs) l i)) ∙ ap (λ ps. (x ∷ xs) ∷ ps) (nothing_left (length xs) keys)

-- ---- parts

are_more : (view : ℕ) (a b : List Counted) (xs ys : List Part) → ArePages view a xs → ArePages view b ys → ArePages view (a ++ b) (xs ++ ys)
are_more view [] b [] ys h k = k
are_more view [] b (x ∷ xs) ys h k = absurd h
are_more view (p ∷ a) b [] ys h k = absurd h
are_more view (p ∷ a) b (part.Page op ∷ xs) ys h k = (h.0, are_more view a b xs ys h.1 k)
are_more view (p ∷ a) b (part.Wave outcomes ∷ xs) ys h k = absurd h

pub puts_none : (view : ℕ) (old : List Part) → PutsPages view [] old old
puts_none view old = record { added = []; is = sym (append-nil old); are = tt }

pub puts_more : (view : ℕ) (a b : List Counted) (old mid new : List Part) → PutsPages view a old mid → PutsPages view b mid new → PutsPages view (a ++ b) old new
puts_more view a b old mid new h k = record {
  added = h.added ++ k.added;
  is = k.is ∙ ap (λ ps. ps ++ k.added) h.is ∙ append_assoc old h.added k.added;
  are = are_more view a b h.added k.added h.are k.are;
}

pub no_rows : (keys : ℕ) (rows : List (Vec ℤ × ℤ)) → length rows ≡ 0 → pages_of keys (plain rows) ≡ []
no_rows keys [] e = refl
no_rows keys (r ∷ rows) e = absurd (omega arith)
