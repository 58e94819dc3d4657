-- Rows that are added, written, given up and dropped one after another.
use Rattle.std.proofs.Common.{◌≡◌, ◌≢◌, ℕ, zero, suc, ◌+◌, ◌<◌, ℤ, get_or, drop, length, arith, refl, sym, ap, ◌∙◌, List, [], ◌∷◌, Bool, true, false, cond, Option, Some, None, ◌⊎◌, inl, inr, ⊎_elim}
use Rattle.std.specs.Prelude.{◌||◌, is_some}
use Rattle.std.specs.List.Sorted.{IsStrictlySortedBy}
use Rattle.wh_pieces.specs.Row.{Row, is_row}
use Rattle.wh_pieces.specs.Place.{AreRisingRows}
use Rattle.wh_pieces.specs.Pieces.{found, with_entry, without_entry, remade}
use Rattle.wh_pieces.proofs.RowLaws.{same_row, itself}
use Rattle.wh_pieces.proofs.BringLaws.{found-with, found-without, none_after}
use Rattle.std.specs.Global.{Vec}
use Rattle.wh_row.specs.Stored.{plain}
use Rattle.wh_row.specs.Weigh.{Counted}
use Rattle.wh_versions.specs.Rows.{Pairs, with_pair}
use Rattle.wh_versions.specs.Tables.{pairs_in, is_given, added, MayBeAdded, written}
use Rattle.wh_versions.specs.Inner.Tables.{Touched, is_in, for_touched, IsNew}

-- ---- one row

module _ (f : Option Pairs → Option Pairs) (row : Row) (old : List (Row × Pairs)) (x : Option Pairs) (at : found row old ≡ x) where
  -- what is made of what a row had is what it had
  pub unchanged : f x ≡ x → (q : Row) → found q old ≡ cond (is_row q row) (f (found q old)) (found q old)
  unchanged e q = elim (is_row q row) as (λ t. is_row q row ≡ t → found q old ≡ cond t (f (found q old)) (found q old)) [
    | true ↦ λ t. let h : found q old ≡ x = ap (λ r. found r old) (same_row q row t) ∙ at in h ∙ sym (ap f h ∙ e)
    | false ↦ λ t. refl
  ] refl

  -- or other pairs
  pub changed : (new : List (Row × Pairs)) (v : Pairs) → f x ≡ Some v → new ≡ with_entry old row v → (q : Row) → found q new ≡ cond (is_row q row) (f (found q old)) (found q old)
  changed new v e n q = ap (found q) n ∙ found-with old row v q ∙ elim (is_row q row) as (λ t. is_row q row ≡ t → cond t (Some v) (found q old) ≡ cond t (f (found q old)) (found q old)) [
    | true ↦ λ t. sym (ap f (ap (λ r. found r old) (same_row q row t) ∙ at) ∙ e)
    | false ↦ λ t. refl
  ] refl

  -- or none
  pub dropped : (new : List (Row × Pairs)) → f x ≡ None → new ≡ without_entry old row → found row new ≡ None → (q : Row) → found q new ≡ cond (is_row q row) (f (found q old)) (found q old)
  dropped new e n gone q = found-without old new row n gone q ∙ elim (is_row q row) as (λ t. is_row q row ≡ t → cond t None (found q old) ≡ cond t (f (found q old)) (found q old)) [
    | true ↦ λ t. sym (ap f (ap (λ r. found r old) (same_row q row t) ∙ at) ∙ e)
    | false ↦ λ t. refl
  ] refl

-- what one search makes of the pairs of a row that is there
abbrev MadeOf : (Pairs → Pairs) → Row → List (Row × Pairs) → List (Row × Pairs) → Type 0
MadeOf made row old new = (ps : Pairs) → found row old ≡ Some ps → (o : Option Pairs) × (o ≡ Some (made ps)) × (new ≡ remade old row o)

pub made_there : (made : Pairs → Pairs) (row : Row) (old new : List (Row × Pairs)) → found row old ≢ None → MadeOf made row old new → (q : Row) → found q new ≡ cond (is_row q row) (Some (made (pairs_in (found q old)))) (found q old)
made_there made row old new some there = elim (found row old) as (λ o. found row old ≡ o → (q : Row) → found q new ≡ cond (is_row q row) (Some (made (pairs_in (found q old)))) (found q old)) [
  | None ↦ λ e. absurd (some e)
  | Some ps ↦ λ e. let t = there ps e in changed (λ o. Some (made (pairs_in o))) row old (Some ps) e new (made ps) refl (t.2 ∙ ap (remade old row) t.1)
] refl

-- a row is added, unless it is there
pub added_once : (row : Row) (old new : List (Row × Pairs)) (none : Pairs) → none ≡ [] → (found row old ≡ None → new ≡ with_entry old row none) → MadeOf (λ ps. ps) row old new → (q : Row) → found q new ≡ added (is_row q row) (found q old)
added_once row old new none is new_one there = elim (found row old) as (λ o. found row old ≡ o → (q : Row) → found q new ≡ added (is_row q row) (found q old)) [
  | None ↦ λ e. changed (λ o. Some (pairs_in o)) row old None e new none (ap Some (sym is)) (new_one e)
  | Some ps ↦ λ e. let t = there ps e in changed (λ o. Some (pairs_in o)) row old (Some ps) e new ps refl (t.2 ∙ ap (remade old row) t.1)
] refl

pub in_with : (set : Touched) (row : Row) (u : Unit {0}) → is_in row (with_entry set row u) ≡ true
in_with set row u = ap is_some (found-with set row u row) ∙ ap (λ t. is_some (cond t (Some u) (found row set))) (itself row)

pub still_in : (set : Touched) (row : Row) (u : Unit {0}) (q : Row) → is_in q set ≡ true → is_in q (with_entry set row u) ≡ true
still_in set row u q h = ap is_some (found-with set row u q) ∙ elim (is_row q row) as (λ t. is_some (cond t (Some u) (found q set)) ≡ true) [
  | true ↦ refl
  | false ↦ h
]

pub rising_rest : {T : Type 0} (e : Row × T) (rest : List (Row × T)) → AreRisingRows (e ∷ rest) → AreRisingRows rest
unfolding IsStrictlySortedBy
rising_rest e rest s = s.1

-- one row more of a set
pub touched_step : (f : Option Pairs → Option Pairs) (e : Row × Unit {0}) (rest : Touched) (now new : List (Row × Pairs)) → AreRisingRows (e ∷ rest) → (q : Row) → found q new ≡ cond (is_row q e.0) (f (found q now)) (found q now)
    → for_touched f (found q rest) (found q new) ≡ for_touched f (found q (e ∷ rest)) (found q now)
touched_step f e rest now new rising q n = elim (is_row q e.0) as (λ t. is_row q e.0 ≡ t → found q new ≡ cond t (f (found q now)) (found q now) → for_touched f (found q rest) (found q new) ≡ for_touched f (cond t (Some e.1) (found q rest)) (found q now)) [
  | true ↦ λ t n. ap (λ o. for_touched f o (found q new)) (ap (λ r. found r rest) (same_row q e.0 t) ∙ none_after e rest rising) ∙ n
  | false ↦ λ t n. ap (for_touched f (found q rest)) n
] refl n

-- ---- rows that are added

or_right : (a b : Bool) → b ≡ true → (a || b) ≡ true
or_right true b h = refl
or_right false b h = h

or_left : (a b : Bool) → a ≡ true → (a || b) ≡ true
or_left true b h = refl
or_left false b h = cc

either_of : (a b : Bool) → (a || b) ≡ true → (a ≡ true) ⊎ (b ≡ true)
either_of true b h = inl refl
either_of false b h = inr h

twice : (a b : Bool) (o : Option Pairs) → added b (added a o) ≡ added (a || b) o
twice true true o = refl
twice true false o = refl
twice false b o = refl

again : (given : Counted) (q : Row) (old now : Option Pairs) → MayBeAdded given q old now → is_given q given ≡ true → added true now ≡ added (is_given q given) old
again given q old now (inl h) g = ap (added true) h ∙ sym (ap (λ b. added b old) g)
again given q old now (inr h) g = ap (added true) (h ∙ ap (λ b. added b old) g) ∙ sym (ap (λ b. added b old) g)

-- of the rows that are given these are left to be added
pub record IsAdding (given left : Counted) (old now : List (Row × Pairs)) (before after : Touched) : Type 0 where
  pub rows : (q : Row) → added (is_given q left) (found q now) ≡ added (is_given q given) (found q old)
  pub part : (q : Row) → is_given q left ≡ true → is_given q given ≡ true
  pub may : (q : Row) → MayBeAdded given q (found q old) (found q now)
  pub touched : (q : Row) → is_given q given ≡ true → (is_given q left ≡ true) ⊎ (is_in q after ≡ true)
  pub safe : (q : Row) → (found q now ≡ found q old) ⊎ (is_in q after ≡ true)
  pub more : (q : Row) → is_in q before ≡ true → is_in q after ≡ true

pub adding_first : (given : Counted) (old : List (Row × Pairs)) (before : Touched) → IsAdding given given old old before before
adding_first given old before = record {
  rows = λ q. refl;
  part = λ q h. h;
  may = λ q. inl refl;
  touched = λ q h. inl h;
  safe = λ q. inl refl;
  more = λ q h. h;
}

module _ (given left : Counted) (e : Row × ℤ) (old now new : List (Row × Pairs)) (before after later : Touched) (is : IsAdding given (e ∷ left) old now before after)
    (n : (q : Row) → found q new ≡ added (is_row q e.0) (found q now)) (here : is_in e.0 later ≡ true) (m : (q : Row) → is_in q after ≡ true → is_in q later ≡ true) where
  is_here : (q : Row) → is_row q e.0 ≡ true → is_in q later ≡ true
  is_here q t = ap (λ r. is_in r later) (same_row q e.0 t) ∙ here

  kept : (q : Row) → is_row q e.0 ≡ false → found q new ≡ found q now
  kept q t = n q ∙ ap (λ b. added b (found q now)) t

  may_more : (q : Row) → MayBeAdded given q (found q old) (found q new)
  may_more q = elim (is_row q e.0) as (λ t. is_row q e.0 ≡ t → MayBeAdded given q (found q old) (found q new)) [
    | true ↦ λ t. inr (n q ∙ ap (λ b. added b (found q now)) t ∙ again given q (found q old) (found q now) (is.may q) (is.part q (or_left (is_row q e.0) (is_given q left) t)))
    | false ↦ λ t. ⊎_elim (λ h. inl (kept q t ∙ h)) (λ h. inr (kept q t ∙ h)) (is.may q)
  ] refl

  safe_more : (q : Row) → (found q new ≡ found q old) ⊎ (is_in q later ≡ true)
  safe_more q = elim (is_row q e.0) as (λ t. is_row q e.0 ≡ t → (found q new ≡ found q old) ⊎ (is_in q later ≡ true)) [
    | true ↦ λ t. inr (is_here q t)
    | false ↦ λ t. ⊎_elim (λ h. inl (kept q t ∙ h)) (λ h. inr (m q h)) (is.safe q)
  ] refl

  touched_more : (q : Row) → is_given q given ≡ true → (is_given q left ≡ true) ⊎ (is_in q later ≡ true)
  touched_more q g = ⊎_elim
      (λ l. ⊎_elim (λ t. inr (is_here q t)) (λ t. inl t) (either_of (is_row q e.0) (is_given q left) l))
      (λ h. inr (m q h))
      (is.touched q g)

  pub adding_more : IsAdding given left old new before later
  adding_more = record {
    rows = λ q. ap (added (is_given q left)) (n q) ∙ twice (is_row q e.0) (is_given q left) (found q now) ∙ is.rows q;
    part = λ q h. is.part q (or_right (is_row q e.0) (is_given q left) h);
    may = may_more;
    touched = touched_more;
    safe = safe_more;
    more = λ q h. m q (is.more q h);
  }

not_before : (given : Counted) (q : Row) (old now : Option Pairs) → MayBeAdded given q old now → is_given q given ≡ true → now ≡ None → old ≡ None
not_before given q old now (inl h) one none = sym h ∙ none
not_before given q None now (inr h) one none = refl
not_before given q (Some ps) now (inr h) one none =
    let bad : Some ps ≡ None = sym (ap (λ b. added b (Some ps)) one) ∙ sym h ∙ none in
    cc

not_in : (a b : Bool) → (a ≡ true → b ≡ true) → b ≡ false → a ≡ false
not_in true b h none = sym (h refl) ∙ none
not_in false b h none = refl

-- a row that is new while these are added was new before
pub new_row : (given left : Counted) (e : Row × ℤ) (old now : List (Row × Pairs)) (before after : Touched) → IsAdding given (e ∷ left) old now before after
    → (found e.0 now ≡ None) ⊎ (is_in e.0 after ≡ false) → IsNew given old before
new_row given left e old now before after is lacks =
    let one = is.part e.0 (or_left (is_row e.0 e.0) (is_given e.0 left) (itself e.0)) in
    record {
      row = e.0;
      is_one = one;
      lacks = ⊎_elim
          (λ none. inl (not_before given e.0 (found e.0 old) (found e.0 now) (is.may e.0) one none))
          (λ none. inr (not_in (is_in e.0 before) (is_in e.0 after) (is.more e.0) none))
          lacks;
    }

-- ---- rows that are written

-- added rows get what they had got without
pub written_added : (n m : ℕ) (es : Counted) (q : Row) (o : Option Pairs) → written n m es q (added (is_given q es) o) ≡ written n m es q o
written_added n m [] q o = refl
written_added n m (e ∷ es) q o = elim (is_row q e.0) as (λ t. written n m es q (cond t (Some (with_pair n m e.1 (pairs_in (added (t || is_given q es) o)))) (added (t || is_given q es) o))
    ≡ written n m es q (cond t (Some (with_pair n m e.1 (pairs_in o))) o)) [
      | true ↦ refl
      | false ↦ written_added n m es q o
    ]

-- a row that is not given keeps what it has
pub written_other : (n m : ℕ) (es : Counted) (q : Row) (o : Option Pairs) → is_given q es ≡ false → written n m es q o ≡ o
written_other n m [] q o h = refl
written_other n m (e ∷ es) q o h = elim (is_row q e.0) as (λ t. (t || is_given q es) ≡ false → written n m es q (cond t (Some (with_pair n m e.1 (pairs_in o))) o) ≡ o) [
  | true ↦ λ g. cc
  | false ↦ λ g. written_other n m es q o g
] h

-- ---- rows that are handed in, one after another

pub plain_next : (xs : List (Vec ℤ × ℤ)) (i : ℕ) (x : Vec ℤ × ℤ) → x ≡ get_or xs i x → i < length xs → plain (drop i xs) ≡ (x.0.items, x.1) ∷ plain (drop (i + 1) xs)
plain_next [] i x e l = absurd (omega arith)
plain_next (y ∷ ys) zero x e l = ap (λ (z : Vec ℤ × ℤ). (z.0.items, z.1) ∷ plain ys) (sym e)
plain_next (y ∷ ys) (suc i) x e l =
    let on : suc i + 1 ≡ suc (i + 1) = omega arith in
    plain_next ys i x e (omega arith) ∙ sym (ap (λ k. (x.0.items, x.1) ∷ plain (drop k (y ∷ ys))) on)

pub given_first : (e : Row × ℤ) (es : Counted) → is_given e.0 (e ∷ es) ≡ true
given_first e es = or_left (is_row e.0 e.0) (is_given e.0 es) (itself e.0)

pub given_later : (q : Row) (e : Row × ℤ) (es : Counted) → is_given q es ≡ true → is_given q (e ∷ es) ≡ true
given_later q e es h = or_right (is_row q e.0) (is_given q es) h

-- a row that is written is there
pub stays_there : (q row : Row) (v : Pairs) (o new : Option Pairs) → new ≡ cond (is_row q row) (Some v) o → o ≢ None → new ≢ None
stays_there q row v o new e h = elim (is_row q row) as (λ t. new ≡ cond t (Some v) o → new ≢ None) [
  | true ↦ λ g n. let bad : Some v ≡ None = sym g ∙ n in cc
  | false ↦ λ g n. h (sym g ∙ n)
] e
