-- One right line more beside a certificate's.
use Rattle.std.proofs.Common.{◌≡◌, ◌≢◌, ℕ, zero, suc, ◌+◌, ◌<◌, List, [], ◌∷◌, ◌++◌, true, false, refl, sym, ap, ◌∙◌, subst, length, take, get_or, map, filter, Some, None, ⊎_elim, arith}
use Rattle.std.specs.Prelude.{slice_get}
use Rattle.std.proofs.lemmas.Bool.{false≢true, cases_Bool, cases_lt}
use Rattle.std.specs.List.{range_with_len}
use Rattle.std.proofs.lemmas.List.{append-nil, append_assoc, map-append, take-append-le, length_push, length-take, take_all}
use Rattle.std.proofs.lemmas.Option.{none-some, same_Some, slice_get_past, slice_get-get_or}
use Rattle.wh_dag.specs.Siblings.{is_sibling_pair, each_below}
use Rattle.wh_dag.specs.declared.siblings.SiblingPair.{SiblingPair}
use Rattle.wh_dag.proofs.SiblingLists.{kept_none, kept_more, added_one, skipped_one}
use Rattle.wh_strategy.specs.declared.sizes.Size.{Size}
use Rattle.wh_cert.specs.Certificate.{DifferFirst, line_of}
use Rattle.wh_cert.specs.declared.certificate.PairMin.{PairMin}
use Rattle.wh_cert.specs.declared.lines.Followed.{Followed}
use Rattle.wh_cert.specs.Inner.Followed.{Follows, lines_among}

at_end : (xs : List PairMin) (y : PairMin) → slice_get (xs ++ y ∷ []) (length xs) ≡ Some y
at_end [] y = refl
at_end (x ∷ xs) y = at_end xs y

before_end : (xs ys : List PairMin) (i : ℕ) → i < length xs → slice_get (xs ++ ys) i ≡ slice_get xs i
before_end [] ys i l = absurd (omega arith)
before_end (x ∷ xs) ys zero l = refl
before_end (x ∷ xs) ys (suc i) l = before_end xs ys i (omega arith)

same_head : (x z : PairMin) (xs zs : List PairMin) → x ∷ xs ≡ z ∷ zs → x ≡ z
same_head x z xs zs e = cc

same_tail : (x z : PairMin) (xs zs : List PairMin) → x ∷ xs ≡ z ∷ zs → xs ≡ zs
same_tail x z xs zs e = cc

take_push : (xs ys : List PairMin) (y : PairMin) (n : ℕ) → n ≡ length ys → take n xs ≡ ys → slice_get xs n ≡ Some y → take (suc n) xs ≡ ys ++ y ∷ []
take_push [] ys y n e t at = absurd (none-some y at)
take_push (x ∷ xs) [] y zero e t at = ap (λ z. z ∷ []) (same_Some x y at)
take_push (x ∷ xs) (z ∷ ys) y zero e t at = absurd (omega arith)
take_push (x ∷ xs) [] y (suc n) e t at = absurd (omega arith)
take_push (x ∷ xs) (z ∷ ys) y (suc n) e t at =
    let tail = take_push xs ys y n (omega arith) (same_tail x z (take n xs) ys t) at in
    ap (λ w. w ∷ take (suc n) xs) (same_head x z (take n xs) ys t) ∙ ap (λ l. z ∷ l) tail

-- the right line stands there
pub goes_on : (lines before : List PairMin) (followed : Followed) (line : PairMin) → Follows lines before followed → followed.agrees ≡ true → slice_get lines followed.same ≡ Some line → Follows lines (before ++ line ∷ []) (record { same = followed.same + 1; agrees = true })
goes_on lines before followed line f on at =
    let n : followed.same ≡ length before = f.all on in
    let long = length_push before line in
    let more : followed.same + 1 ≡ suc followed.same = omega arith in
    record {
      first =
          ap (λ k. take k lines) more
          ∙ take_push lines before line followed.same n (f.first ∙ take_all followed.same before (omega arith)) at
          ∙ sym (take_all (followed.same + 1) (before ++ line ∷ []) (omega arith));
      all = λ e. omega arith;
      within = λ e. absurd (false≢true (sym e));
      differ = λ e. absurd (false≢true (sym e));
    }

-- another line stands there, or none, or one differed before
pub stops : (lines before : List PairMin) (followed : Followed) (line : PairMin) → Follows lines before followed → (followed.agrees ≡ true → slice_get lines followed.same ≢ Some line) → Follows lines (before ++ line ∷ []) (record { same = followed.same; agrees = false })
stops lines before followed line f other =
    let long = length_push before line in
    ⊎_elim
    (λ on.
    let n : followed.same ≡ length before = f.all on in
    let there : slice_get (before ++ line ∷ []) followed.same ≡ Some line = ap (slice_get (before ++ line ∷ [])) n ∙ at_end before line in
    record {
      first = f.first ∙ sym (take-append-le followed.same before (line ∷ []) (omega arith));
      all = λ e. absurd (false≢true e);
      within = λ e. omega arith;
      differ = λ e same. other on (same ∙ there);
    })
    (λ off.
    let l : followed.same < length before = f.within off in
    record {
      first = f.first ∙ sym (take-append-le followed.same before (line ∷ []) (omega arith));
      all = λ e. absurd (false≢true e);
      within = λ e. omega arith;
      differ = λ e same. f.differ off (same ∙ before_end before (line ∷ []) followed.same l);
    })
    (cases_Bool followed.agrees)

-- more right lines follow those that are known
pub then_more : (lines before known more all : List PairMin) (followed : Followed) → all ≡ known ++ more → Follows lines ((before ++ known) ++ more) followed → Follows lines (before ++ all) followed
then_more lines before known more all followed e f = subst (λ l. Follows lines l followed) (append_assoc before known more ∙ ap (λ l. before ++ l) (sym e)) f

pub then_same : (lines before known all : List PairMin) (followed : Followed) → all ≡ known → Follows lines (before ++ known) followed → Follows lines (before ++ all) followed
then_same lines before known all followed e f = subst (λ l. Follows lines (before ++ l) followed) (sym e) f

-- the right lines, one number more at a time
pub among_none : (shape : List (List ℕ)) (sizes : ℕ → Size) (f : ℕ → List SiblingPair) → lines_among shape sizes (each_below f 0) ≡ []
among_none shape sizes f = ap (map (line_of sizes)) (kept_none (is_sibling_pair shape) f)

pub among_more : (shape : List (List ℕ)) (sizes : ℕ → Size) (f : ℕ → List SiblingPair) (n : ℕ) → lines_among shape sizes (each_below f (n + 1)) ≡ lines_among shape sizes (each_below f n) ++ lines_among shape sizes (f n)
among_more shape sizes f n =
    ap (map (line_of sizes)) (kept_more (is_sibling_pair shape) f n)
    ∙ map-append (line_of sizes) (filter (is_sibling_pair shape) (each_below f n)) (filter (is_sibling_pair shape) (f n))

pub among_skipped : (shape : List (List ℕ)) (sizes : ℕ → Size) (f : ℕ → List SiblingPair) (n : ℕ) → filter (is_sibling_pair shape) (f n) ≡ [] → lines_among shape sizes (each_below f (n + 1)) ≡ lines_among shape sizes (each_below f n)
among_skipped shape sizes f n none =
    among_more shape sizes f n
    ∙ ap (λ l. lines_among shape sizes (each_below f n) ++ map (line_of sizes) l) none
    ∙ append-nil (lines_among shape sizes (each_below f n))

pub among_one : (shape : List (List ℕ)) (sizes : ℕ → Size) (f : ℕ → SiblingPair) (n : ℕ) → is_sibling_pair shape (f n) ≡ true → lines_among shape sizes (map f (range_with_len 0 (n + 1))) ≡ lines_among shape sizes (map f (range_with_len 0 n)) ++ line_of sizes (f n) ∷ []
among_one shape sizes f n is =
    ap (map (line_of sizes)) (sym (added_one (is_sibling_pair shape) f n [] (filter (is_sibling_pair shape) (map f (range_with_len 0 n))) refl is))
    ∙ map-append (line_of sizes) (filter (is_sibling_pair shape) (map f (range_with_len 0 n))) (f n ∷ [])

pub among_other : (shape : List (List ℕ)) (sizes : ℕ → Size) (f : ℕ → SiblingPair) (n : ℕ) → is_sibling_pair shape (f n) ≡ false → lines_among shape sizes (map f (range_with_len 0 (n + 1))) ≡ lines_among shape sizes (map f (range_with_len 0 n))
among_other shape sizes f n is =
    ap (map (line_of sizes)) (sym (skipped_one (is_sibling_pair shape) f n [] (filter (is_sibling_pair shape) (map f (range_with_len 0 n))) refl is))

-- none is known yet
pub none_yet : (lines : List PairMin) (before : List PairMin) (followed : Followed) → Follows lines before followed → Follows lines (before ++ []) followed
none_yet lines before followed f = subst (λ l. Follows lines l followed) (sym (append-nil before)) f

pub begins : (lines : List PairMin) → Follows lines [] (record { same = 0; agrees = true })
begins lines = record {
  first = refl;
  all = λ e. refl;
  within = λ e. absurd (false≢true (sym e));
  differ = λ e. absurd (false≢true (sym e));
}

-- all lines are right, or one differs first
pub all_right : (lines right : List PairMin) (followed : Followed) → Follows lines right followed → followed.agrees ≡ true → followed.same ≡ length lines → lines ≡ right
all_right lines right followed f on end =
    let n : followed.same ≡ length right = f.all on in
    sym (take_all followed.same lines (omega arith)) ∙ f.first ∙ take_all followed.same right (omega arith)

pub one_wrong : (lines right : List PairMin) (followed : Followed) → Follows lines right followed → (followed.agrees ≡ true → followed.same ≡ length lines → ⊥) → DifferFirst lines right (followed.same + 1)
one_wrong lines right followed f other =
    record {
      index = followed.same;
      counted = refl;
      same = f.first;
      differ = λ same. ⊎_elim
          (λ on.
          let n : followed.same ≡ length right = f.all on in
          let past = slice_get_past right followed.same (omega arith) in
          other on (at_the_end lines right followed.same f.first n (same ∙ past)))
          (λ off. f.differ off same)
          (cases_Bool followed.agrees);
    }
  where
    at_the_end : (xs ys : List PairMin) (n : ℕ) → take n xs ≡ take n ys → n ≡ length ys → slice_get xs n ≡ None → n ≡ length xs
    at_the_end xs ys n e l none =
        let whole = take_all n ys (omega arith) in
        let long = ap length (e ∙ whole) in
        let is = length-take n xs in
        ⊎_elim
        (λ lt. absurd (none-some (get_or xs n (record { parent = 0; first = 0; second = 0; least = 0 })) (sym none ∙ slice_get-get_or xs n (record { parent = 0; first = 0; second = 0; least = 0 }) lt)))
        (λ le. omega arith)
        (cases_lt n (length xs))
