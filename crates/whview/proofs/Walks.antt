-- Two tables that are gone through side by side.
use Rattle.std.proofs.Common.{◌≡◌, ◌∙◌, ◌<◌, ◌+◌, ◌++◌, ◌^◌, ℕ, zero, suc, ℤ, pos, neg_ℤ, ◌+ℤ◌, ◌≤ℤ◌, Bool, true, false, cond, [], ◌∷◌, Option, Some, None, length, take, ap, arith, refl, subst, sym, ⊎_elim}
use Rattle.std.specs.Prelude.{◌-ℤ◌, FitsSigned, IfSome, IsSomeAnd, slice_get, unsigned_abs}
use Rattle.std.proofs.lemmas.Bool.{cases_lt}
use Rattle.std.proofs.lemmas.Int.{fits_signed_from_abs, ints, to_z-of_z}
use Rattle.std.proofs.lemmas.List.{length-append, take-append-le, take_all}
use Rattle.std.proofs.lemmas.Option.{slice_get_past}
use mir.Syntax.{w64}
use mir.Val.{of_z, to_z}
use Rattle.wh_row.specs.Bag.{Bag, IsTable, count, written}
use Rattle.wh_row.specs.Records.{EachSumFits, IsFirstTooLarge, running_sum}
use Rattle.wh_row.specs.Row.{Row, is_row}
use Rattle.wh_row.specs.Weigh.{Counted, count_in}
use Rattle.wh_row.proofs.BagLaws.{count_in-append, count_in-written, each_entry, itself}
use Rattle.whview.specs.Inner.Difference.{AreNotNegative, AreRest, IsStep, IsUnderway}

-- ---- a step

at_least : (b : Bool) (n m : ℤ) → pos 0 ≤ℤ n → m ≤ℤ (cond b n (pos 0) +ℤ m)
at_least true n m h = omega (arith, ints)
at_least false n m h = omega (arith, ints)

rest_of : (e : Row × ℤ) (t : Counted) → AreNotNegative (e ∷ t) → AreRest t (e ∷ t)
rest_of e t h = record { counts = h.1; within = λ q. at_least (is_row q e.0) e.1 (count_in t q) h.0 }

-- the first of them does not either
pub first_counts : (c t : Counted) (e : Row × ℤ) → c ≡ e ∷ t → AreNotNegative c → pos 0 ≤ℤ e.1
first_counts c t e is counts = let h : AreNotNegative (e ∷ t) = subst AreNotNegative is counts in h.0

same_n : (n : ℤ) → n ≤ℤ n
same_n n = omega (arith, ints)

all_rest : (t : Counted) → AreNotNegative t → AreRest t t
all_rest t h = record { counts = h; within = λ q. same_n (count_in t q) }

coming_moved : (x a b : ℤ) → (x +ℤ pos 0) +ℤ (a -ℤ b) ≡ (x +ℤ a) -ℤ b
coming_moved x a b = omega (arith, ints)

leaving_moved : (b : Bool) (n a t : ℤ) → (cond b (neg_ℤ n) (pos 0) +ℤ pos 0) +ℤ (a -ℤ t) ≡ a -ℤ (cond b n (pos 0) +ℤ t)
leaving_moved true n a t = omega (arith, ints)
leaving_moved false n a t = omega (arith, ints)

both_moved : (b : Bool) (n m a t : ℤ) → (cond b (n -ℤ m) (pos 0) +ℤ pos 0) +ℤ (a -ℤ t) ≡ (cond b n (pos 0) +ℤ a) -ℤ (cond b m (pos 0) +ℤ t)
both_moved true n m a t = omega (arith, ints)
both_moved false n m a t = omega (arith, ints)

pub step_coming : (c l t : Counted) (e : Row × ℤ) → c ≡ e ∷ t → AreNotNegative c → AreNotNegative l → IsStep e c t l l
step_coming c l t e is counts stays =
    subst (λ c. AreNotNegative c → IsStep e c t l l) (sym is)
    (λ h. record {
      moved = λ q. coming_moved (cond (is_row q e.0) e.1 (pos 0)) (count_in t q) (count_in l q);
      coming_rest = rest_of e t h;
      leaving_rest = all_rest l stays;
      fewer = omega arith;
    }) counts

pub step_leaving : (c l t : Counted) (e : Row × ℤ) → l ≡ e ∷ t → AreNotNegative c → AreNotNegative l → IsStep (e.0, neg_ℤ e.1) c c l t
step_leaving c l t e is stays counts =
    subst (λ l. AreNotNegative l → IsStep (e.0, neg_ℤ e.1) c c l t) (sym is)
    (λ h. record {
      moved = λ q. leaving_moved (is_row q e.0) e.1 (count_in c q) (count_in t q);
      coming_rest = all_rest c stays;
      leaving_rest = rest_of e t h;
      fewer = omega arith;
    }) counts

pub step_both : (c l s t : Counted) (e f : Row × ℤ) → c ≡ e ∷ s → l ≡ f ∷ t → f.0 ≡ e.0 → AreNotNegative c → AreNotNegative l → IsStep (e.0, e.1 -ℤ f.1) c s l t
step_both c l s t e f is also same counts others =
    subst (λ c. AreNotNegative c → IsStep (e.0, e.1 -ℤ f.1) c s l t) (sym is)
    (λ h. subst (λ l. AreNotNegative l → IsStep (e.0, e.1 -ℤ f.1) (e ∷ s) s l t) (sym also)
    (λ k. record {
      moved = λ q. both_moved (is_row q e.0) e.1 f.1 (count_in s q) (count_in t q)
          ∙ ap (λ r. (cond (is_row q e.0) e.1 (pos 0) +ℤ count_in s q) -ℤ (cond (is_row q r) f.1 (pos 0) +ℤ count_in t q)) (sym same);
      coming_rest = rest_of e s h;
      leaving_rest = rest_of f t k;
      fewer = omega arith;
    }) others) counts

-- what a machine makes of a count turned round, and of one count less another
pub turned : (n : ℤ) → FitsSigned w64 n → pos 0 ≤ℤ n → to_z w64 (of_z w64 (pos 0 -ℤ to_z w64 (of_z w64 n))) ≡ neg_ℤ n
turned n f h =
    let small = f.sfits in
    ap (λ z. to_z w64 (of_z w64 (pos 0 -ℤ z))) (to_z-of_z w64 n f)
    ∙ to_z-of_z w64 (pos 0 -ℤ n) (fits_signed_from_abs w64 (pos 0 -ℤ n) (omega (arith, ints, small)))
    ∙ omega (arith, ints)

pub less_than : (m n : ℤ) → FitsSigned w64 m → FitsSigned w64 n → pos 0 ≤ℤ m → pos 0 ≤ℤ n → to_z w64 (of_z w64 (to_z w64 (of_z w64 m) -ℤ to_z w64 (of_z w64 n))) ≡ m -ℤ n
less_than m n f g h k =
    let small = f.sfits in
    let other = g.sfits in
    (λ i. to_z w64 (of_z w64 (to_z-of_z w64 m f i -ℤ to_z-of_z w64 n g i)))
    ∙ to_z-of_z w64 (m -ℤ n) (fits_signed_from_abs w64 (m -ℤ n) (omega (arith, ints, small, other)))

-- ---- the records so far

same_get : (rs : Counted) (e : Row × ℤ) (k : ℕ) → k < length rs → slice_get (rs ++ e ∷ []) k ≡ slice_get rs k
same_get [] e k l = let bad : ⊥ = omega arith in absurd bad
same_get (r ∷ rs) e zero l = refl
same_get (r ∷ rs) e (suc k) l = same_get rs e k (omega arith)

get_last : (rs : Counted) (e : Row × ℤ) (k : ℕ) → k ≡ length rs → slice_get (rs ++ e ∷ []) k ≡ Some e
get_last [] e zero l = refl
get_last [] e (suc k) l = let bad : ⊥ = omega arith in absurd bad
get_last (r ∷ rs) e zero l = let bad : ⊥ = omega arith in absurd bad
get_last (r ∷ rs) e (suc k) l = get_last rs e k (omega arith)

longer : (rs : Counted) (e : Row × ℤ) → length (rs ++ e ∷ []) ≡ length rs + 1
longer rs e = length-append rs (e ∷ [])

-- what is asked of a place: that its record's running sum fits
abbrev FitsWith : Option (Row × ℤ) → Counted → Type 0
FitsWith found before = IfSome found (λ x. FitsSigned w64 (running_sum before x))

fits_more : (rs : Counted) (e : Row × ℤ) → EachSumFits rs → FitsSigned w64 (running_sum rs e) → EachSumFits (rs ++ e ∷ [])
fits_more rs e each last place =
    ⊎_elim
    (λ l. subst (λ (p : Option (Row × ℤ) × Counted). FitsWith p.0 p.1)
    (λ i. (sym (same_get rs e place l) i, sym (take-append-le place rs (e ∷ []) (omega (arith, l))) i)) (each place))
    (λ m. ⊎_elim
    (λ l. subst (λ (o : Option (Row × ℤ)). FitsWith o (take place (rs ++ e ∷ []))) (sym (slice_get_past (rs ++ e ∷ []) place (omega (arith, l, longer rs e)))) tt)
    (λ n. let at : place ≡ length rs = omega (arith, m, n) in
    subst (λ (p : Option (Row × ℤ) × Counted). FitsWith p.0 p.1)
    (λ i. (sym (get_last rs e place at) i, sym (take-append-le place rs (e ∷ []) (omega (arith, at)) ∙ take_all place rs (omega (arith, at))) i)) last)
    (cases_lt (length rs) place))
    (cases_lt place (length rs))

-- ---- the walk

-- once both are gone through
pub all_found : (new old : Bag) (changed c l : Counted) → IsUnderway new old changed c l → c ≡ [] → l ≡ [] → (q : Row) → count_in changed q ≡ count new q -ℤ count old q
all_found new old changed c l u none gone q =
    nothing_left (count_in changed q) ∙ (λ i. count_in changed q +ℤ (count_in (sym none i) q -ℤ count_in (sym gone i) q)) ∙ u.moved q
  where
    nothing_left : (d : ℤ) → d ≡ d +ℤ (pos 0 -ℤ pos 0)
    nothing_left d = omega (arith, ints)

none_fit : EachSumFits []
none_fit place = tt

not_negative : (b : Bag) → IsTable b → AreNotNegative (written b)
not_negative b is = each_entry (λ q n. pos 0 ≤ℤ n) b (λ q some. is q)

pub begun : (new old : Bag) → IsTable new → IsTable old → IsUnderway new old [] (written new) (written old)
begun new old is was = record {
  moved = λ q. none_moved (count_in (written new) q) (count_in (written old) q) ∙ (λ i. count_in-written new q i -ℤ count_in-written old q i);
  coming_counts = not_negative new is;
  leaving_counts = not_negative old was;
  coming_within = λ q. subst (λ n. n ≤ℤ count new q) (sym (count_in-written new q)) (same_n (count new q));
  leaving_within = λ q. subst (λ n. n ≤ℤ count old q) (sym (count_in-written old q)) (same_n (count old q));
  fits = none_fit;
}
  where
    none_moved : (a b : ℤ) → pos 0 +ℤ (a -ℤ b) ≡ a -ℤ b
    none_moved a b = omega (arith, ints)

no_less : (b : Bool) (n m : ℤ) → pos 0 ≤ℤ n → pos 0 ≤ℤ m → pos 0 ≤ℤ (cond b n (pos 0) +ℤ m)
no_less true n m h k = omega (arith, ints)
no_less false n m h k = omega (arith, ints)

-- such rows count nothing below zero together
none_below : (es : Counted) → AreNotNegative es → (q : Row) → pos 0 ≤ℤ count_in es q
none_below [] h q = same_n (pos 0)
none_below (e ∷ es) h q = no_less (is_row q e.0) e.1 (count_in es q) h.0 (none_below es h.1 q)

within_both : (x y z : ℤ) → x ≤ℤ y → y ≤ℤ z → x ≤ℤ z
within_both x y z h k = omega (arith, ints)

small_size : (z : ℤ) → FitsSigned w64 z → pos 0 ≤ℤ z → unsigned_abs z < 2 ^ 63
small_size z f h = let small = f.sfits in omega (arith, ints, small, h)

-- a count that a machine has as 0 is 0
pub no_count : (z : ℤ) → FitsSigned w64 z → of_z w64 z ≡ 0 → z ≡ pos 0
no_count z f e = sym (to_z-of_z w64 z f) ∙ ap (to_z w64) e

-- what is found of a row fits, as it is a part of both tables
part_fits : (d c l a b : ℤ) → d +ℤ (c -ℤ l) ≡ a -ℤ b → pos 0 ≤ℤ c → c ≤ℤ a → pos 0 ≤ℤ l → l ≤ℤ b → unsigned_abs a < 2 ^ 63 → unsigned_abs b < 2 ^ 63 → unsigned_abs d < 2 ^ 63
part_fits d c l a b e h k m n f g = omega (arith, ints)

sum_moved : (d x r a : ℤ) (c : ℤ) → d +ℤ c ≡ a → x +ℤ r ≡ c → (d +ℤ x) +ℤ r ≡ a
sum_moved d x r a c e f = omega (arith, ints)

same_sum : (d : ℤ) (b : Bool) (n : ℤ) → d +ℤ (cond b n (pos 0) +ℤ pos 0) ≡ d +ℤ cond b n (pos 0)
same_sum d b n = ap (λ z. d +ℤ z) (no_more (cond b n (pos 0)))
  where
    no_more : (x : ℤ) → x +ℤ pos 0 ≡ x
    no_more x = omega (arith, ints)

skip_moved : (b : Bool) (n d r k a : ℤ) → n ≡ pos 0 → (cond b n (pos 0) +ℤ pos 0) +ℤ r ≡ k → d +ℤ k ≡ a → d +ℤ r ≡ a
skip_moved true n d r k a none e f = omega (arith, ints)
skip_moved false n d r k a none e f = omega (arith, ints)

module _ (new old : Bag) (changed c l c' l' : Counted) (e : Row × ℤ) (u : IsUnderway new old changed c l) (s : IsStep e c c' l l') where
  all_moved : (q : Row) → count_in (changed ++ e ∷ []) q +ℤ (count_in c' q -ℤ count_in l' q) ≡ count new q -ℤ count old q
  all_moved q =
      ap (λ z. z +ℤ (count_in c' q -ℤ count_in l' q)) (count_in-append changed (e ∷ []) q)
      ∙ sum_moved (count_in changed q) (count_in (e ∷ []) q) (count_in c' q -ℤ count_in l' q) (count new q -ℤ count old q) (count_in c q -ℤ count_in l q) (u.moved q) (s.moved q)

  -- what was found with this row
  last_fits : ((q : Row) → FitsSigned w64 (count new q)) → ((q : Row) → FitsSigned w64 (count old q)) → FitsSigned w64 (running_sum changed e)
  last_fits fits had =
      let q : Row = e.0 in
      let sum : count_in (changed ++ e ∷ []) q ≡ running_sum changed e =
      count_in-append changed (e ∷ []) q ∙ same_sum (count_in changed q) (is_row q e.0) e.1 ∙ ap (λ b. count_in changed q +ℤ cond b e.1 (pos 0)) (itself q) in
      let some = none_below c' s.coming_rest.counts q in
      let others = none_below l' s.leaving_rest.counts q in
      let within = within_both _ _ _ (s.coming_rest.within q) (u.coming_within q) in
      let inside = within_both _ _ _ (s.leaving_rest.within q) (u.leaving_within q) in
      subst (FitsSigned w64) sum (fits_signed_from_abs w64 (count_in (changed ++ e ∷ []) q)
      (part_fits _ (count_in c' q) (count_in l' q) (count new q) (count old q) (all_moved q) some within others inside
      (small_size (count new q) (fits q) (within_both _ _ _ some within)) (small_size (count old q) (had q) (within_both _ _ _ others inside))))

  pub moved_on : ((q : Row) → FitsSigned w64 (count new q)) → ((q : Row) → FitsSigned w64 (count old q)) → IsUnderway new old (changed ++ e ∷ []) c' l'
  moved_on fits had = record {
    moved = all_moved;
    coming_counts = s.coming_rest.counts;
    leaving_counts = s.leaving_rest.counts;
    coming_within = λ q. within_both _ _ _ (s.coming_rest.within q) (u.coming_within q);
    leaving_within = λ q. within_both _ _ _ (s.leaving_rest.within q) (u.leaving_within q);
    fits = fits_more changed e u.fits (last_fits fits had);
  }

  pub skipped : e.1 ≡ pos 0 → IsUnderway new old changed c' l'
  skipped none = record {
    moved = λ q. skip_moved (is_row q e.0) e.1 (count_in changed q) (count_in c' q -ℤ count_in l' q) (count_in c q -ℤ count_in l q) (count new q -ℤ count old q) none (s.moved q) (u.moved q);
    coming_counts = s.coming_rest.counts;
    leaving_counts = s.leaving_rest.counts;
    coming_within = λ q. within_both _ _ _ (s.coming_rest.within q) (u.coming_within q);
    leaving_within = λ q. within_both _ _ _ (s.leaving_rest.within q) (u.leaving_within q);
    fits = u.fits;
  }

-- records of which each running sum fits have none that is too large
pub never_large : (records : Counted) (place : ℕ) → EachSumFits records → IsFirstTooLarge records place → ⊥
never_large records place fits large = go (slice_get records place) (fits place) large.large
  where
    go : (o : Option (Row × ℤ)) → IfSome o (λ e. FitsSigned w64 (running_sum (take place records) e)) → IsSomeAnd o (λ e. ¬ (FitsSigned w64 (running_sum (take place records) e))) → ⊥
    go None fit bad = bad
    go (Some e) fit bad = bad fit
