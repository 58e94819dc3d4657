-- What is found after an edit, and entries that are known by what is found.
use Rattle.std.proofs.Common.{◌≡◌, ◌≢◌, refl, sym, ap, subst, ◌∙◌, List, [], ◌∷◌, ◌++◌, drop, Bool, true, false, cond, Option, Some, None}
use Rattle.std.specs.List.Sorted.{IsStrictlySortedBy}
use Rattle.std.specs.Ordering.{is_eq, match_ordering}
use Rattle.std.specs.Cmp.{tied_itself}
use Rattle.std.specs.declared.cmp.Ordering.{Ordering}
use Rattle.std.specs.declared.cmp.Ordering.TheVariants.{Less, Equal, Greater}
use Rattle.wh_pieces.specs.Row.{Row, row_cmp, is_row}
use Rattle.wh_pieces.specs.Place.{AreRisingRows}
use Rattle.wh_pieces.specs.Inner.Place.{IsFirst}
use Rattle.wh_pieces.specs.Pieces.{found, with_entry, without_entry, remade}
use Rattle.wh_pieces.specs.Merged.{IsCombined}
use Rattle.wh_pieces.specs.Inner.Merged.{lacking, either, without}
use Rattle.wh_pieces.proofs.RowLaws.{rows_exact, rows_total, same_row, itself}
use Rattle.wh_pieces.proofs.OrderLaws.{turned}
use Rattle.wh_pieces.proofs.PieceLaws.{found-below}

shadowed : {A : Type 0} (b : Bool) (x y z : A) → cond b x z ≡ cond b x (cond b y z)
shadowed true x y z = refl
shadowed false x y z = refl

swapped : {A : Type 0} (a b : Bool) (x y z : A) → (a ≡ true → b ≡ true → ⊥) → cond a x (cond b y z) ≡ cond b y (cond a x z)
swapped true true x y z apart = absurd (apart refl refl)
swapped true false x y z apart = refl
swapped false b x y z apart = refl

pub found-with : {T : Type 0} (es : List (Row × T)) (k : Row) (v : T) (q : Row) → found q (with_entry es k v) ≡ cond (is_row q k) (Some v) (found q es)
found-with [] k v q = refl
found-with (e ∷ es) k v q =
    elim (row_cmp k e.0) as (λ o. row_cmp k e.0 ≡ o → found q (match_ordering o ((k, v) ∷ e ∷ es) ((e.0, v) ∷ es) (e ∷ with_entry es k v)) ≡ cond (is_row q k) (Some v) (found q (e ∷ es))) [
      | Less ↦ λ p. refl
      | Equal ↦ λ p. shadowed (is_row q e.0) (Some v) (Some e.1) (found q es) ∙ ap (λ r. cond (is_row q r) (Some v) (found q (e ∷ es))) (sym (rows_exact k e.0 p))
      | Greater ↦ λ p. ap (cond (is_row q e.0) (Some e.1)) (found-with es k v q)
          ∙ swapped (is_row q e.0) (is_row q k) (Some e.1) (Some v) (found q es) (λ a b. apart (same_row q e.0 a) (same_row q k b) p)
    ] refl
  where
    apart : q ≡ e.0 → q ≡ k → row_cmp k e.0 ≡ Greater → ⊥
    apart a b p =
        let t : row_cmp k e.0 ≡ Equal = ap (row_cmp k) (sym a ∙ b) ∙ tied_itself rows_total k in
        let bad : Equal ≡ Greater = sym t ∙ p in
        cc

found-other : {T : Type 0} (es : List (Row × T)) (r q : Row) → is_row q r ≡ false → found q (without_entry es r) ≡ found q es
found-other [] r q n = refl
found-other (e ∷ es) r q n =
    let rest = found-other es r q n in
    elim (is_row r e.0) as (λ t. is_row r e.0 ≡ t → found q (cond t es (e ∷ without_entry es r)) ≡ found q (e ∷ es)) [
      | true ↦ λ t. let out : is_row q e.0 ≡ false = ap (is_row q) (sym (same_row r e.0 t)) ∙ n in
          sym (ap (λ b. cond b (Some e.1) (found q es)) out)
      | false ↦ λ t. ap (cond (is_row q e.0) (Some e.1)) rest
    ] refl

-- without a row, which is then not found
pub found-without : {T : Type 0} (es fs : List (Row × T)) (r : Row) → fs ≡ without_entry es r → found r fs ≡ None → (q : Row) → found q fs ≡ cond (is_row q r) None (found q es)
found-without es fs r e gone q = elim (is_row q r) as (λ t. is_row q r ≡ t → found q fs ≡ cond t None (found q es)) [
  | true ↦ λ t. ap (λ x. found x fs) (same_row q r t) ∙ gone
  | false ↦ λ t. ap (found q) e ∙ found-other es r q t
] refl

-- with what is made of a row, which is then found there
pub found-remade : {T : Type 0} (es fs : List (Row × T)) (r : Row) (o : Option T) → fs ≡ remade es r o → found r fs ≡ o → (q : Row) → found q fs ≡ cond (is_row q r) o (found q es)
found-remade es fs r None is there q = found-without es fs r is there q
found-remade es fs r (Some v) is there q = ap (found q) is ∙ found-with es r v q

pub found-append : {T : Type 0} (a b : List (Row × T)) (q : Row) → found q (a ++ b) ≡ either (found q a) (found q b)
found-append [] b q = refl
found-append (e ∷ a) b q = elim (is_row q e.0) as (λ t. cond t (Some e.1) (found q (a ++ b)) ≡ either (cond t (Some e.1) (found q a)) (found q b)) [ true ↦ refl | false ↦ found-append a b q ]

pub none_after : {T : Type 0} (e : Row × T) (b : List (Row × T)) → AreRisingRows (e ∷ b) → found e.0 b ≡ None
unfolding IsStrictlySortedBy
none_after e [] s = refl
none_after e (f ∷ b) s = found-below e.0 (f ∷ b) s.0.0 s.1

-- ---- entries in order that find the same are the same

pub found_first : {T : Type 0} (e : Row × T) (es : List (Row × T)) → found e.0 (e ∷ es) ≡ Some e.1
found_first e es = λ i. cond (itself e.0 i) (Some e.1) (found e.0 es)

without_none : {T : Type 0} (x : Option T) → without x None ≡ None
without_none None = refl
without_none (Some v) = refl

pub same_found : {T : Type 0} (es fs : List (Row × T)) → AreRisingRows es → AreRisingRows fs → ((q : Row) → found q es ≡ found q fs) → es ≡ fs
unfolding IsStrictlySortedBy
same_found [] [] s u h = refl
same_found [] (f ∷ fs) s u h = absurd (let bad : None ≡ Some f.1 = h f.0 ∙ found_first f fs in cc)
same_found (e ∷ es) [] s u h = absurd (let bad : Some e.1 ≡ None = sym (found_first e es) ∙ h e.0 in cc)
same_found {T} (e ∷ es) (f ∷ fs) s u h = by_order (λ same. same_found es fs s.1 u.1 (rest_same same)) (row_cmp e.0 f.0) refl
  where
    rest_same : e.0 ≡ f.0 → (q : Row) → found q es ≡ found q fs
    rest_same same q = elim (is_row q e.0) as (λ t. is_row q e.0 ≡ t → found q es ≡ found q fs) [
      | true ↦ λ t.
          let at = same_row q e.0 t in
          ap (λ x. found x es) at ∙ none_after e es s ∙ sym (ap (λ x. found x fs) (at ∙ same) ∙ none_after f fs u)
      | false ↦ λ t.
          let other : is_row q f.0 ≡ false = ap (is_row q) (sym same) ∙ t in
          sym (ap (λ b. cond b (Some e.1) (found q es)) t) ∙ h q ∙ ap (λ b. cond b (Some f.1) (found q fs)) other
    ] refl

    by_order : (e.0 ≡ f.0 → es ≡ fs) → (o : Ordering) → row_cmp e.0 f.0 ≡ o → e ∷ es ≡ f ∷ fs
    by_order rest Less p = absurd (let bad : Some e.1 ≡ None = sym (found_first e es) ∙ h e.0 ∙ found-below e.0 (f ∷ fs) p u in cc)
    by_order rest Greater p = absurd (let bad : Some f.1 ≡ None = sym (found_first f fs) ∙ sym (h f.0) ∙ found-below f.0 (e ∷ es) (turned e.0 f.0 Greater p) s in cc)
    by_order rest Equal p =
        let same : e.0 ≡ f.0 = rows_exact e.0 f.0 p in
        let value : Some e.1 ≡ Some f.1 = sym (found_first e es) ∙ h e.0 ∙ ap (λ x. found x (f ∷ fs)) same ∙ found_first f fs in
        let equal : e.1 ≡ f.1 = cc in
        λ i. (same i, equal i) ∷ rest same i

pub gone_without : {T : Type 0} (row : Row) (es : List (Row × T)) → AreRisingRows es → found row (without_entry es row) ≡ None
unfolding IsStrictlySortedBy
gone_without row [] s = refl
gone_without row (e ∷ es) s = elim (is_row row e.0) as (λ t. is_row row e.0 ≡ t → found row (cond t es (e ∷ without_entry es row)) ≡ None) [
  | true ↦ λ t. ap (λ x. found x es) (same_row row e.0 t) ∙ none_after e es s
  | false ↦ λ t. ap (λ b. cond b (Some e.1) (found row (without_entry es row))) t ∙ gone_without row es s.1
] refl

lacking_none : {T : Type 0} (o : Option T) → lacking o None ≡ None
lacking_none None = refl
lacking_none (Some v) = refl

either_some : {T : Type 0} (o t : Option T) → o ≢ None → either o t ≢ None
either_some None t h = absurd (h refl)
either_some (Some v) t h = λ z. let bad : Some v ≡ None = z in cc

-- ---- values that are combined in place, row by row

pub record IsBringing {T : Type 0} (allowed : T → T → Option T → Type 0) (old other now rest : List (Row × T)) : Type 0 where
  pub rising : AreRisingRows rest
  pub left : (q : Row) → found q rest ≢ None → (found q now ≡ either (found q old) (found q other)) × (found q rest ≡ found q other)
  pub done : (q : Row) → found q rest ≡ None → IsCombined allowed (found q old) (found q other) (found q now)

not_there : {T : Type 0} (o t : Option T) → lacking o t ≢ None → o ≡ None
not_there None t h = refl
not_there (Some v) t h = absurd (h refl)

module _ {T : Type 0} (allowed : T → T → Option T → Type 0) (old other : List (Row × T)) where
  nothing_new : (o t n : Option T) → n ≡ either o t → t ≡ None → IsCombined allowed o t n
  nothing_new None t n h z = h
  nothing_new (Some v) t n h z = subst (λ (x : Option T). IsCombined allowed (Some v) x n) (sym z) h

  pub bringing_first : (now : List (Row × T)) → AreRisingRows other → ((q : Row) → found q now ≡ either (found q old) (found q other)) → IsBringing allowed old other now other
  bringing_first now s h = record {
    rising = s;
    left = λ q n. (h q, refl);
    done = λ q n. nothing_new (found q old) (found q other) (found q now) (h q) n;
  }

  brought_whole : (o t n : Option T) → o ≡ None → n ≡ either o t → IsCombined allowed o t n
  brought_whole None t n k h = h
  brought_whole (Some v) t n k h = absurd (let bad : Some v ≡ None = k in cc)

  module _ (now : List (Row × T)) (e : Row × T) (rest : List (Row × T)) (is : IsBringing allowed old other now (e ∷ rest)) where
    some_first : found e.0 (e ∷ rest) ≢ None
    some_first n = let bad : Some e.1 ≡ None = sym (found_first e rest) ∙ n in cc

    other_row : (q : Row) → found q rest ≢ None → is_row q e.0 ≡ false
    other_row q n = elim (is_row q e.0) as (λ t. is_row q e.0 ≡ t → t ≡ false) [
      | true ↦ λ t. absurd (n (ap (λ x. found x rest) (same_row q e.0 t) ∙ none_after e rest is.rising))
      | false ↦ λ t. refl
    ] refl

    passed : (q : Row) → is_row q e.0 ≡ false → found q (e ∷ rest) ≡ found q rest
    passed q t = ap (λ b. cond b (Some e.1) (found q rest)) t

    rising_rest : AreRisingRows (e ∷ rest) → AreRisingRows rest
    unfolding IsStrictlySortedBy
    rising_rest s = s.1

    -- a row that was brought stays as it is
    pub bringing_kept : found e.0 old ≡ None → IsBringing allowed old other now rest
    bringing_kept k = record {
      rising = rising_rest is.rising;
      left = λ q n.
          let same = passed q (other_row q n) in
          let at = is.left q (λ z. n (sym same ∙ z)) in
          (at.0, sym same ∙ at.1);
      done = λ q n. elim (is_row q e.0) as (λ t. is_row q e.0 ≡ t → IsCombined allowed (found q old) (found q other) (found q now)) [
        | true ↦ λ t.
            let at = is.left e.0 some_first in
            subst (λ (x : Row). IsCombined allowed (found x old) (found x other) (found x now)) (sym (same_row q e.0 t))
            (brought_whole (found e.0 old) (found e.0 other) (found e.0 now) k at.0)
        | false ↦ λ t. is.done q (passed q t ∙ n)
      ] refl;
    }

    -- a row of both is there still
    pub bringing_there : found e.0 old ≢ None → found e.0 now ≢ None
    bringing_there some = λ z. either_some (found e.0 old) (found e.0 other) some (sym (is.left e.0 some_first).0 ∙ z)

    -- and gets what the two values give
    pub bringing_changed : (new : List (Row × T)) → found e.0 old ≢ None
        → ((v : T) → found e.0 now ≡ Some v → (o : Option T) × allowed v e.1 o × ((q : Row) → found q new ≡ cond (is_row q e.0) o (found q now)))
        → IsBringing allowed old other new rest
    bringing_changed new some step = with_old (found e.0 old) refl
      where
        at : (found e.0 now ≡ either (found e.0 old) (found e.0 other)) × (found e.0 (e ∷ rest) ≡ found e.0 other)
        at = is.left e.0 some_first

        more : found e.0 other ≡ Some e.1
        more = sym at.1 ∙ found_first e rest

        with_old : (o : Option T) → found e.0 old ≡ o → IsBringing allowed old other new rest
        with_old None z = absurd (some z)
        with_old (Some v) z =
            let r = step v (at.0 ∙ ap (λ x. either x (found e.0 other)) z) in
            record {
              rising = rising_rest is.rising;
              left = λ q n.
                  let apart = other_row q n in
                  let same = passed q apart in
                  let had = is.left q (λ y. n (sym same ∙ y)) in
                  (r.2 q ∙ ap (λ b. cond b r.0 (found q now)) apart ∙ had.0, sym same ∙ had.1);
              done = λ q n. elim (is_row q e.0) as (λ t. is_row q e.0 ≡ t → IsCombined allowed (found q old) (found q other) (found q new)) [
                | true ↦ λ t.
                    let here : found e.0 new ≡ r.0 = r.2 e.0 ∙ ap (λ b. cond b r.0 (found e.0 now)) (itself e.0) in
                    subst (λ (x : Row). IsCombined allowed (found x old) (found x other) (found x new)) (sym (same_row q e.0 t))
                    (subst (λ (x : Option T). IsCombined allowed x (found e.0 other) (found e.0 new)) (sym z)
                    (subst (λ (x : Option T). IsCombined allowed (Some v) x (found e.0 new)) (sym more)
                    (subst (λ (x : Option T). allowed v e.1 x) (sym here) r.1)))
                | false ↦ λ t. subst (λ (x : Option T). IsCombined allowed (found q old) (found q other) x) (sym (r.2 q ∙ ap (λ b. cond b r.0 (found q now)) t)) (is.done q (passed q t ∙ n))
              ] refl;
            }

-- ---- beside the rows that are left of one map walk those of them that another lacks

module _ {T : Type 0} (old : List (Row × T)) (e : Row × T) (rest : List (Row × T)) (rises : AreRisingRows (e ∷ rest)) where
  other_left : (q : Row) → is_row q e.0 ≡ false → found q (e ∷ rest) ≡ found q rest
  other_left q t = ap (λ b. cond b (Some e.1) (found q rest)) t

  gone_after : (q : Row) → is_row q e.0 ≡ true → lacking (found q old) (found q rest) ≡ None
  gone_after q t = ap (lacking (found q old)) (ap (λ x. found x rest) (same_row q e.0 t) ∙ none_after e rest rises) ∙ lacking_none (found q old)

  -- where the row is the first of them
  pub beside_here : (n : List (Row × T)) → AreRisingRows n → ((q : Row) → found q n ≡ lacking (found q old) (found q (e ∷ rest))) → IsFirst e.0 n
      → (found e.0 old ≡ None) × ((q : Row) → found q (drop 1 n) ≡ lacking (found q old) (found q rest))
  beside_here [] s h f = absurd f
  beside_here (x ∷ n) s h f =
      let same : e.0 ≡ x.0 = rows_exact e.0 x.0 f in (
        not_there (found e.0 old) (found e.0 (e ∷ rest)) (λ z. let bad : Some x.1 ≡ None = sym (λ i. cond (is_eq (f i)) (Some x.1) (found e.0 n)) ∙ h e.0 ∙ z in cc),
        λ q. elim (is_row q e.0) as (λ t. is_row q e.0 ≡ t → found q n ≡ lacking (found q old) (found q rest)) [
          | true ↦ λ t. ap (λ y. found y n) (same_row q e.0 t ∙ same) ∙ none_after x n s ∙ sym (gone_after q t)
          | false ↦ λ t.
              let apart : is_row q x.0 ≡ false = ap (is_row q) (sym same) ∙ t in
              sym (ap (λ b. cond b (Some x.1) (found q n)) apart) ∙ h q ∙ ap (lacking (found q old)) (other_left q t)
        ] refl,
      )

  none_among : (n : List (Row × T)) → AreRisingRows n → ((q : Row) → found q n ≡ lacking (found q old) (found q (e ∷ rest))) → (¬ (IsFirst e.0 n)) → found e.0 n ≡ None
  none_among [] s h other = refl
  none_among (x ∷ n) s h other = by_order (row_cmp e.0 x.0) refl
    where
      by_order : (o : Ordering) → row_cmp e.0 x.0 ≡ o → found e.0 (x ∷ n) ≡ None
      by_order Less p = found-below e.0 (x ∷ n) p s
      by_order Equal p = absurd (other p)
      by_order Greater p = absurd (let bad : Some x.1 ≡ None = sym (found_first x n) ∙ h x.0 ∙ ap (lacking (found x.0 old)) (found-below x.0 (e ∷ rest) (turned e.0 x.0 Greater p) rises) ∙ lacking_none (found x.0 old) in cc)

  -- and where it is not
  pub beside_there : (n : List (Row × T)) → AreRisingRows n → ((q : Row) → found q n ≡ lacking (found q old) (found q (e ∷ rest))) → (¬ (IsFirst e.0 n))
      → (found e.0 old ≢ None) × ((q : Row) → found q n ≡ lacking (found q old) (found q rest))
  beside_there n s h other =
      let none = none_among n s h other in (
        λ z. let bad : Some e.1 ≡ None = sym (found_first e rest) ∙ sym (ap (λ o. lacking o (found e.0 (e ∷ rest))) z) ∙ sym (h e.0) ∙ none in cc,
        λ q. elim (is_row q e.0) as (λ t. is_row q e.0 ≡ t → found q n ≡ lacking (found q old) (found q rest)) [
          | true ↦ λ t. ap (λ x. found x n) (same_row q e.0 t) ∙ none ∙ sym (gone_after q t)
          | false ↦ λ t. h q ∙ ap (lacking (found q old)) (other_left q t)
        ] refl,
      )

-- ---- a row that is taken back

module _ {T : Type 0} (e : Row × T) (rest : List (Row × T)) (q : Row) where
  pub taken_step : (old : Option T) → without (found q rest) (cond (is_row q e.0) None old) ≡ without (found q (e ∷ rest)) old
  taken_step old = elim (is_row q e.0) as (λ t. without (found q rest) (cond t None old) ≡ without (cond t (Some e.1) (found q rest)) old) [
    | true ↦ without_none (found q rest)
    | false ↦ refl
  ]

pub rising_tail : {T : Type 0} (e : Row × T) (rest : List (Row × T)) → AreRisingRows (e ∷ rest) → AreRisingRows rest
unfolding IsStrictlySortedBy
rising_tail e rest s = s.1

pub rising_dropped : {T : Type 0} (es : List (Row × T)) → AreRisingRows es → AreRisingRows (drop 1 es)
unfolding IsStrictlySortedBy
rising_dropped [] s = tt
rising_dropped (e ∷ es) s = s.1

pub bringing_at : {T : Type 0} (allowed : T → T → Option T → Type 0) (old other now rest es : List (Row × T)) → IsBringing allowed old other now rest → rest ≡ es → IsBringing allowed old other now es
bringing_at {T} allowed old other now rest es is e = subst (λ (xs : List (Row × T)). IsBringing allowed old other now xs) e is
