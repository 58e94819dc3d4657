-- Records that are added up in the order given.
use Rattle.std.proofs.Common.{◌≡◌, ◌≢◌, refl, sym, ap, subst, ◌∙◌, ℕ, zero, suc, ◌+◌, ◌<◌, ◌≤◌, ℤ, pos, ◌+ℤ◌, cond, List, [], ◌∷◌, ◌++◌, take, drop, length, get_or, false, true, Option, Some, None, Result, Ok, Err, IfSome, slice_get, ◌⊎◌, inl, inr, ⊎_elim, arith, add-one, append_assoc, length-append, FitsSigned}
use Rattle.std.specs.Prelude.{IsSomeAnd, IsErr, IsErrAnd}
use Rattle.std.proofs.Math.Seq.{take-append_seam}
use Rattle.std.proofs.lemmas.List.{take-append-le, take-append-drop, take_all, length-take-le}
use Rattle.std.proofs.lemmas.Option.{slice_get_past, slice_get_within}
use mir.Syntax.{w64}
use lib.IntN.{+ℤ_comm, +ℤ_idr}
use Rattle.std.specs.FinMap as fin
use Rattle.wh_row.specs.Row.{Row, row_cmp, is_row}
use Rattle.wh_row.specs.Weigh.{Counted, count_in}
use Rattle.wh_row.specs.Bag.{Bag, empty, count, number, plus, bag_of}
use Rattle.wh_row.specs.declared.fault.RecordsFault.{RecordsFault}
use Rattle.wh_row.specs.declared.fault.RecordsFault.TheVariants.{Large, Memory}
use Rattle.wh_row.specs.Records.{running_sum, FitsAt, IsFirstTooLarge, CountNothing, IsRecordsAnswer, joined}
use Rattle.wh_row.specs.Inner.Added.{AreAddedUp}
use Rattle.wh_row.proofs.CountLaws.{same_bag, count-bag_of, count-plus, count_in-append}
use Rattle.wh_row.proofs.PartLaws.{joined-append, joined-next}
use Rattle.wh_row.proofs.RunningSums.{next_taken}

-- ---- a record of two lists behind each other

before_seam : (xs ys : Counted) (k : ℕ) → k < length xs → slice_get (xs ++ ys) k ≡ slice_get xs k
before_seam [] ys k below = absurd (omega arith)
before_seam (x ∷ xs) ys zero below = refl
before_seam (x ∷ xs) ys (suc k) below = before_seam xs ys k (omega arith)

at_seam : (xs ys : Counted) (e : Row × ℤ) → slice_get (xs ++ e ∷ ys) (length xs) ≡ Some e
at_seam [] ys e = refl
at_seam (x ∷ xs) ys e = at_seam xs ys e

behind_seam : (xs ys : Counted) (k : ℕ) → slice_get (xs ++ ys) (length xs + k) ≡ slice_get ys k
behind_seam [] ys k = let e : 0 + k ≡ k = omega arith in ap (slice_get ys) e
behind_seam (x ∷ xs) ys k = let e : suc (length xs) + k ≡ suc (length xs + k) = omega arith in ap (slice_get (x ∷ (xs ++ ys))) e ∙ behind_seam xs ys k

cut_at : (es : Counted) (p : ℕ) (e : Row × ℤ) → slice_get es p ≡ Some e → es ≡ take p es ++ e ∷ drop (suc p) es
cut_at [] p e is = absurd (let bad : None ≡ Some e = is in cc)
cut_at (x ∷ es) zero e is = let same : x ≡ e = cc in ap (λ y. y ∷ es) same
cut_at (x ∷ es) (suc p) e is = ap (λ ys. x ∷ ys) (cut_at es p e is)

in_or_past : (k n : ℕ) → (k < n) ⊎ (n ≤ k)
in_or_past k zero = inr (omega arith)
in_or_past zero (suc n) = inl (omega arith)
in_or_past (suc k) (suc n) = ⊎_elim (λ below. inl (omega arith)) (λ past. inr (omega arith)) (in_or_past k n)

-- ---- sums on the way

fits_as : (xs zs : Counted) (k : ℕ) → slice_get zs k ≡ slice_get xs k → take k zs ≡ take k xs → FitsAt xs k → FitsAt zs k
fits_as xs zs k same taken fits =
    subst (λ (o : Option (Row × ℤ)). IfSome o (λ e. FitsSigned w64 (running_sum (take k zs) e))) (sym same)
    (subst (λ (ys : Counted). IfSome (slice_get xs k) (λ e. FitsSigned w64 (running_sum ys e))) (sym taken) fits)

fits_sooner : (xs ys : Counted) (k : ℕ) → k < length xs → FitsAt xs k → FitsAt (xs ++ ys) k
fits_sooner xs ys k below fits = fits_as xs (xs ++ ys) k (before_seam xs ys k below) (take-append-le k xs ys (omega arith)) fits

fits_past : (es : Counted) (p : ℕ) → length es ≤ p → FitsAt es p
fits_past es p past = subst (λ (o : Option (Row × ℤ)). IfSome o (λ x. FitsSigned w64 (running_sum (take p es) x))) (sym (slice_get_past es p past)) tt

fits_there : (xs ys : Counted) (e : Row × ℤ) → FitsSigned w64 (count_in xs e.0 +ℤ e.1) → FitsAt (xs ++ e ∷ ys) (length xs)
fits_there xs ys e fits =
    subst (λ (o : Option (Row × ℤ)). IfSome o (λ x. FitsSigned w64 (running_sum (take (length xs) (xs ++ e ∷ ys)) x))) (sym (at_seam xs ys e))
    (subst (λ (zs : Counted). FitsSigned w64 (running_sum zs e)) (sym (take-append_seam xs (e ∷ ys))) fits)

-- ---- none, and one more

pub none_added : (b : Bag) → b ≡ empty → AreAddedUp [] b
none_added b is = record {
  counted = λ q. ap (λ (x : Bag). count x q) is ∙ ap number (fin.get-empty row_cmp q);
  fits = λ k. fits_past [] k (omega arith);
}

pub counted_one : (es : Counted) (e : Row × ℤ) (b : Bag) → ((q : Row) → count b q ≡ count_in es q) → (q : Row) → count (plus b e.0 e.1) q ≡ count_in (es ++ e ∷ []) q
counted_one es e b so_far q =
    let here : ℤ = cond (is_row q e.0) e.1 (pos 0) in
    count-plus b e.0 e.1 q
    ∙ ap (λ z. here +ℤ z) (so_far q)
    ∙ +ℤ_comm here (count_in es q)
    ∙ ap (λ z. count_in es q +ℤ z) (sym (+ℤ_idr here))
    ∙ sym (count_in-append es (e ∷ []) q)

added_one : (es : Counted) (e : Row × ℤ) (b : Bag) → AreAddedUp es b → FitsSigned w64 (count b e.0 +ℤ e.1) → AreAddedUp (es ++ e ∷ []) (plus b e.0 e.1)
added_one es e b up fits = record {
  counted = counted_one es e b up.counted;
  fits = λ k. ⊎_elim (λ below. fits_sooner es (e ∷ []) k below (up.fits k)) (λ past. from k past) (in_or_past k (length es));
}
  where
    here : FitsAt (es ++ e ∷ []) (length es)
    here = fits_there es [] e (subst (λ z. FitsSigned w64 (z +ℤ e.1)) (up.counted e.0) fits)

    from : (k : ℕ) → length es ≤ k → FitsAt (es ++ e ∷ []) k
    from k past = ⊎_elim
        (λ at. subst (FitsAt (es ++ e ∷ [])) (let is : length es ≡ k = omega (arith, at, past) in is) here)
        (λ over. fits_past (es ++ e ∷ []) k (omega (arith, over, length-append es (e ∷ []))))
        (in_or_past k (length es + 1))

pub added_next : (es records : Counted) (p : ℕ) (e : Row × ℤ) (b : Bag) → slice_get records p ≡ Some e → FitsSigned w64 (count b e.0 +ℤ e.1) → AreAddedUp (es ++ take p records) b → AreAddedUp (es ++ take (p + 1) records) (plus b e.0 e.1)
added_next es records p e b is fits up =
    let xs = es ++ take p records in
    let more : take (p + 1) records ≡ take p records ++ e ∷ [] = ap (λ n. take n records) (add-one p) ∙ next_taken records p e is in
    subst (λ (zs : Counted). AreAddedUp zs (plus b e.0 e.1)) (append_assoc es (take p records) (e ∷ []) ∙ ap (λ (zs : Counted). es ++ zs) (sym more)) (added_one xs e b up fits)

-- the sum of all
pub all_added : (es : Counted) (b : Bag) → AreAddedUp es b → b ≡ bag_of es
all_added es b up = same_bag b (bag_of es) (λ q. up.counted q ∙ sym (count-bag_of es q))

-- ---- the first that leaves i64

first_here : (xs ys : Counted) (e : Row × ℤ) (b : Bag) → AreAddedUp xs b → ¬ (FitsSigned w64 (count b e.0 +ℤ e.1)) → IsFirstTooLarge (xs ++ e ∷ ys) (length xs)
first_here xs ys e b up large = record {
  large = subst (λ (o : Option (Row × ℤ)). IsSomeAnd o (λ x. ¬ (FitsSigned w64 (running_sum (take (length xs) (xs ++ e ∷ ys)) x)))) (sym (at_seam xs ys e))
      (subst (λ (zs : Counted). ¬ (FitsSigned w64 (running_sum zs e))) (sym (take-append_seam xs (e ∷ ys))) (λ fits. large (subst (λ z. FitsSigned w64 (z +ℤ e.1)) (sym (up.counted e.0)) fits)));
  before = λ k below. fits_sooner xs (e ∷ ys) k below (up.fits k);
}

pub first_at : (es records : Counted) (p : ℕ) (e : Row × ℤ) (b : Bag) (at : ℕ) → slice_get records p ≡ Some e → ¬ (FitsSigned w64 (count b e.0 +ℤ e.1)) → AreAddedUp (es ++ take p records) b → at ≡ length es + p → IsFirstTooLarge (es ++ records) at
first_at es records p e b at is large up place =
    let xs = es ++ take p records in
    let whole : xs ++ e ∷ drop (suc p) records ≡ es ++ records = append_assoc es (take p records) (e ∷ drop (suc p) records) ∙ ap (λ (zs : Counted). es ++ zs) (sym (cut_at records p e is)) in
    let many : length xs ≡ at = omega (arith, place, length-append es (take p records), length-take-le p records (omega (arith, slice_get_within records p e is))) in
    subst (IsFirstTooLarge (es ++ records)) many (subst (λ (zs : Counted). IsFirstTooLarge zs (length xs)) whole (first_here xs (drop (suc p) records) e b up large))

pub first_sooner : (xs ys : Counted) (k : ℕ) → IsFirstTooLarge xs k → IsFirstTooLarge (xs ++ ys) k
first_sooner xs ys k first = elim (slice_get xs k) as (λ o. slice_get xs k ≡ o → IsFirstTooLarge (xs ++ ys) k) [
  | None ↦ λ is. absurd (subst (λ (o : Option (Row × ℤ)). IsSomeAnd o (λ x. ¬ (FitsSigned w64 (running_sum (take k xs) x)))) is first.large)
  | Some e ↦ λ is.
      let below = slice_get_within xs k e is in
      record {
        large = subst (λ (o : Option (Row × ℤ)). IsSomeAnd o (λ x. ¬ (FitsSigned w64 (running_sum (take k (xs ++ ys)) x)))) (sym (before_seam xs ys k below))
            (subst (λ (zs : Counted). IsSomeAnd (slice_get xs k) (λ x. ¬ (FitsSigned w64 (running_sum zs x)))) (sym (take-append-le k xs ys (omega (arith, below)))) first.large);
        before = λ j less. fits_sooner xs ys j (omega (arith, less, below)) (first.before j less);
      }
] refl

-- ---- records of which one counts

first_nothing : (xs ys : Counted) → CountNothing (xs ++ ys) → CountNothing xs
first_nothing xs ys none k = ⊎_elim
    (λ below. subst (λ (o : Option (Row × ℤ)). IfSome o (λ x. x.1 ≡ pos 0)) (before_seam xs ys k below) (none k))
    (λ past. subst (λ (o : Option (Row × ℤ)). IfSome o (λ x. x.1 ≡ pos 0)) (sym (slice_get_past xs k past)) tt)
    (in_or_past k (length xs))

last_nothing : (xs ys : Counted) → CountNothing (xs ++ ys) → CountNothing ys
last_nothing xs ys none k = subst (λ (o : Option (Row × ℤ)). IfSome o (λ x. x.1 ≡ pos 0)) (behind_seam xs ys k) (none (length xs + k))

-- where all parts count nothing, this one does
pub part_nothing : (ps : List Counted) (i : ℕ) (d : Counted) → i < length ps → CountNothing (joined ps) → CountNothing (get_or ps i d)
part_nothing [] i d below none = absurd (omega arith)
part_nothing (p ∷ ps) zero d below none = first_nothing p (joined ps) none
part_nothing (p ∷ ps) (suc i) d below none = part_nothing ps i d (omega arith) (last_nothing p (joined ps) none)

-- ---- part by part

-- so many records stand before the one that is told of
pub place_behind : (sum before : Option ℕ) (at many more : ℕ) → IfSome sum (λ s. IsSomeAnd before (λ m. s ≡ m + more)) → IfSome before (λ m. m ≡ many) → sum ≡ Some at → at ≡ many + more
place_behind None before at many more h is e = absurd (let bad : None ≡ Some at = e in cc)
place_behind (Some s) None at many more h is e = absurd h
place_behind (Some s) (Some m) at many more h is e = let same : s ≡ at = cc in omega (arith, same, h, is)

pub many_next : (sum before : Option ℕ) (many more all : ℕ) → IfSome sum (λ s. IsSomeAnd before (λ m. s ≡ m + more)) → IfSome before (λ m. m ≡ many) → many + more ≡ all → IfSome sum (λ m. m ≡ all)
many_next None before many more all h is e = tt
many_next (Some s) None many more all h is e = absurd h
many_next (Some s) (Some m) many more all h is e = omega (arith, h, is, e)

-- all parts are those before one, that one, and those behind it
whole : (ps : List Counted) (i : ℕ) (d : Counted) → i < length ps → (joined (take i ps) ++ get_or ps i d) ++ joined (drop (i + 1) ps) ≡ joined ps
whole ps i d below =
    ap (λ (es : Counted). es ++ joined (drop (i + 1) ps)) (joined-next ps i d below)
    ∙ sym (joined-append (take (i + 1) ps) (drop (i + 1) ps))
    ∙ ap joined (take-append-drop (i + 1) ps)

pub refused : (ps : List Counted) (i : ℕ) (item : Counted) (r : Result Bag RecordsFault) (fault : RecordsFault) → i < length ps → item ≡ get_or ps i item → IsErr r × IsErrAnd r (λ y. y ≡ fault)
    → ((place : ℕ) → fault ≡ Large place → IsFirstTooLarge (joined (take i ps) ++ item) place) → (fault ≡ Memory → ¬ (CountNothing item)) → IsRecordsAnswer (joined ps) r
refused ps i item (Ok b) fault below is err large memory = absurd (let bad : false ≡ true = err.0 in cc)
refused ps i item (Err y) fault below is err large memory = record {
  ok = tt;
  fits = tt;
  large = λ place e.
      let same : fault ≡ Large place = sym err.1 ∙ (let z : y ≡ Large place = cc in z) in
      subst (λ (es : Counted). IsFirstTooLarge es place) (ap (λ (es : Counted). (joined (take i ps) ++ es) ++ joined (drop (i + 1) ps)) is ∙ whole ps i item below)
      (first_sooner (joined (take i ps) ++ item) (joined (drop (i + 1) ps)) place (large place same));
  memory = λ e none.
      let same : fault ≡ Memory = sym err.1 ∙ (let z : y ≡ Memory = cc in z) in
      memory same (subst CountNothing (sym is) (part_nothing ps i item below none));
}

pub all_parts : (ps : List Counted) (i : ℕ) (b : Bag) → AreAddedUp (joined (take i ps)) b → length ps ≤ i → IsRecordsAnswer (joined ps) (Ok b)
all_parts ps i b up past =
    let all = subst (λ (qs : List Counted). AreAddedUp (joined qs) b) (take_all i ps past) up in
    record {
      ok = all_added (joined ps) b all;
      fits = all.fits;
      large = λ place e. absurd cc;
      memory = λ e. absurd cc;
    }
