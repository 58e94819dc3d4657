-- What holds of a view's rows once a night writes, is given up or begins.
use Rattle.std.proofs.lemmas.Int.{ints}
use Rattle.std.proofs.Common.{◌≡◌, ◌≢◌, refl, sym, ap, subst, ◌∙◌, ℕ, zero, suc, ◌+◌, ◌-◌, ◌<◌, ◌≤◌, ℤ, pos, List, [], ◌∷◌, ◌++◌, length, take, drop, set, Bool, true, false, cond, Option, Some, None, ◌⊎◌, inl, inr, ⊎_elim, arith}
use Rattle.std.specs.Prelude.{slice_index_or, is_some, nat_le, ◌&&◌, ◌==◌}
use Rattle.std.specs.Ordering.{int_eq}
use Rattle.std.proofs.lemmas.Bool.Decides.{nat_tests}
use Rattle.wh_pieces.specs.Row.{Row}
use Rattle.wh_pieces.specs.Pieces.{found}
use Rattle.wh_row.specs.Weigh.{Counted}
use Rattle.wh_row.specs.Row.{is_row}
use Rattle.wh_versions.specs.Rows.{Pairs, read, with_pair, without_pair, IsUnread, ArePairs, is_unread}
use Rattle.wh_versions.specs.Tables.{pairs_in, is_given, added, written, given_up, IsBegun, MayBeAdded, begins_with, IsNewToNight}
use Rattle.wh_versions.specs.Laws.{UnreadIsTested}
use Rattle.wh_versions.specs.Inner.Tables.{Touched, begun, is_in, set_at, for_touched, HasNumber, IsRead, IsListed, AreKept, AreAdded, AreSafe, IsNew}
use Rattle.wh_versions.proofs.ReadLaws.{falling_below, put_pairs, put_number, back_pairs, back_number, back_none, number_below, read_step}
use Rattle.wh_versions.proofs.TouchLaws.{written_added, written_other}

-- ---- sets

pub nth_set : (sets : List Touched) (place : ℕ) (set : Touched) → set ≡ slice_index_or sets place set → place < length sets → set ≡ set_at sets place
nth_set [] place set e l = absurd (omega arith)
nth_set (x ∷ xs) zero set e l = e
nth_set (x ∷ xs) (suc place) set e l = nth_set xs place set e (omega arith)

front : (xs ys : List Touched) (place : ℕ) → place < length xs → set_at (xs ++ ys) place ≡ set_at xs place
front [] ys place l = absurd (omega arith)
front (x ∷ xs) ys zero l = refl
front (x ∷ xs) ys (suc place) l = front xs ys place (omega arith)

-- the sets once a night begins
next_set : (sets : List Touched) (place : ℕ) → suc place < length sets → set_at (drop 1 sets ++ [] ∷ []) place ≡ set_at sets (suc place)
next_set [] place l = absurd (omega arith)
next_set (x ∷ xs) place l = front xs ([] ∷ []) place (omega arith)

set_end : (ys : List Touched) (y x : Touched) (last : ℕ) → length ys ≡ last → set (ys ++ y ∷ []) last x ≡ ys ++ x ∷ []
set_end [] y x zero l = refl
set_end [] y x (suc last) l = absurd (omega arith)
set_end (z ∷ ys) y x zero l = absurd (omega arith)
set_end (z ∷ ys) y x (suc last) l = ap (λ zs. z ∷ zs) (set_end ys y x last (omega arith))

-- the first is put behind the others, and emptied
pub turned : (sets : List Touched) (last : ℕ) (x : Touched) → length sets ≡ suc last → set (drop 1 sets ++ take 1 sets) last x ≡ drop 1 sets ++ x ∷ []
turned [] last x l = absurd (omega arith)
turned (y ∷ ys) last x l = set_end ys y x last (omega arith)

-- another set in place of the last
pub other_set : (sets : List Touched) (last : ℕ) (x : Touched) → ((q : Row) → is_in q (set_at sets last) ≡ true → is_in q x ≡ true) → (q : Row) (place : ℕ) → is_in q (set_at sets place) ≡ true → is_in q (set_at (set sets last x) place) ≡ true
other_set [] last x m q place h = h
other_set (y ∷ ys) zero x m q zero h = m q h
other_set (y ∷ ys) zero x m q (suc place) h = h
other_set (y ∷ ys) (suc last) x m q zero h = h
other_set (y ∷ ys) (suc last) x m q (suc place) h = other_set ys last x m q place h

pub own_set : (sets : List Touched) (last : ℕ) (x : Touched) → last < length sets → set_at (set sets last x) last ≡ x
own_set [] last x l = absurd (omega arith)
own_set (y ∷ ys) zero x l = refl
own_set (y ∷ ys) (suc last) x l = own_set ys last x (omega arith)

pub length_other : (sets : List Touched) (last : ℕ) (x : Touched) → length (set sets last x) ≡ length sets
length_other [] last x = refl
length_other (y ∷ ys) zero x = refl
length_other (y ∷ ys) (suc last) x = ap suc (length_other ys last x)

-- ---- what is unread

pub same_int : (a b : ℤ) → int_eq a b ≡ true → a ≡ b
same_int a b h = grind (arith, ints)

pub other_int : (a b : ℤ) → int_eq a b ≡ false → a ≢ b
other_int a b h e = grind (arith, ints)

first_of : (a b : Bool) → (a && b) ≡ true → a ≡ true
first_of true b h = refl
first_of false b h = cc

second_of : (a b : Bool) → (a && b) ≡ true → b ≡ true
second_of true b h = h
second_of false b h = cc

within : (a b : ℕ) → nat_le a b ≡ true → a ≤ b
within a b h = grind (arith, nat_tests)

beyond : (a b : ℕ) → nat_le a b ≡ false → b < a
beyond a b h = grind (arith, nat_tests)

pub unread_reads : (k m s : ℕ) (ps : Pairs) → is_unread k m ps ≡ true → s < m → m ≤ s + k → read s ps ≡ pos 0
unread_reads zero m s ps h low high = absurd (omega arith)
unread_reads (suc k) m s ps h low high = elim (nat_le m (s + k)) as (λ t. nat_le m (s + k) ≡ t → read s ps ≡ pos 0) [
  | true ↦ λ t. unread_reads k m s ps (second_of (int_eq (read (m - suc k) ps) (pos 0)) (is_unread k m ps) h) low (within m (s + k) t)
  | false ↦ λ t.
      let far = beyond m (s + k) t in
      let at : s ≡ m - suc k = omega arith in
      ap (λ x. read x ps) at ∙ same_int (read (m - suc k) ps) (pos 0) (first_of (int_eq (read (m - suc k) ps) (pos 0)) (is_unread k m ps) h)
] refl

-- a version that reads something
pub record Reads (k m : ℕ) (ps : Pairs) : Type 0 where
  pub session : ℕ
  pub low : session ≤ m
  pub under : session ≤ m - 1
  pub high : m ≤ session + k
  pub some : read session ps ≢ pos 0

reads_some : (k m : ℕ) (ps : Pairs) → is_unread k m ps ≡ false → Reads k m ps
reads_some zero m ps h = cc
reads_some (suc k) m ps h = elim (int_eq (read (m - suc k) ps) (pos 0)) as (λ t. int_eq (read (m - suc k) ps) (pos 0) ≡ t → (t && is_unread k m ps) ≡ false → Reads (suc k) m ps) [
  | true ↦ λ t g. let r = reads_some k m ps g in record { session = r.session; low = r.low; under = r.under; high = omega (arith, r.high); some = r.some }
  | false ↦ λ t g. record { session = m - suc k; low = omega arith; under = omega arith; high = omega arith; some = other_int (read (m - suc k) ps) (pos 0) t }
] refl h

-- asked version by version
pub reads_unread : (k m : ℕ) (ps : Pairs) → IsUnread k (suc m) ps → is_unread k (suc m) ps ≡ true
reads_unread k m ps h = elim (is_unread k (suc m) ps) as (λ t. is_unread k (suc m) ps ≡ t → t ≡ true) [
  | true ↦ λ t. refl
  | false ↦ λ t.
      let r = reads_some k (suc m) ps t in
      let under : r.session ≤ suc m - 1 = r.under in
      absurd (r.some (h r.session (omega (arith, under)) r.high))
] refl

pub unread_is_tested : UnreadIsTested
unread_is_tested k m ps = (λ t s low high. unread_reads k (suc m) s ps t low high, λ h. reads_unread k m ps h)

pub is_begun : (n m : ℕ) (old new : Option Pairs) → new ≡ begun n (suc m) old → IsBegun n (suc m) old new
is_begun n m None new e = record { dropped = λ _. e; kept = λ _. e }
is_begun n m (Some ps) new e = record {
  dropped = λ h. e ∙ ap (λ b. cond b None (Some ps)) (reads_unread (n - 1) m ps h);
  kept = λ h. e ∙ elim (is_unread (n - 1) (suc m) ps) as (λ t. is_unread (n - 1) (suc m) ps ≡ t → cond t None (Some ps) ≡ Some ps) [
    | true ↦ λ t. absurd (h (λ s low high. unread_reads (n - 1) (suc m) s ps t low high))
    | false ↦ λ t. refl
  ] refl;
}

pub is_begun_at : (n m b : ℕ) (old new : Option Pairs) → b ≡ suc m → new ≡ begun n b old → IsBegun n b old new
is_begun_at n m b old new e is = subst (λ (x : ℕ). IsBegun n x old new) (sym e) (is_begun n m old new (is ∙ ap (λ x. begun n x old) e))

-- and the test decides
pub begun_of : (n m : ℕ) (old new : Option Pairs) → IsBegun n (suc m) old new → new ≡ begun n (suc m) old
begun_of n m None new is = is.dropped (λ s low high. refl)
begun_of n m (Some ps) new is = elim (is_unread (n - 1) (suc m) ps) as (λ t. is_unread (n - 1) (suc m) ps ≡ t → new ≡ cond t None (Some ps)) [
  | true ↦ λ t. is.dropped (λ s low high. unread_reads (n - 1) (suc m) s ps t low high)
  | false ↦ λ t. is.kept (λ h. absurd (let b : true ≡ false = sym (reads_unread (n - 1) m ps h) ∙ t in let c : ⊥ = cc in c))
] refl

-- ---- what is listed

abbrev AllListed : ℕ → ℕ → List Touched → Row → Option Pairs → Type 0
AllListed n m sets q o = (ps : Pairs) → o ≡ Some ps → IsListed n m sets q ps

none_listed : (n m : ℕ) (sets : List Touched) (q : Row) → is_in q (set_at sets (n - 2)) ≡ true → IsListed n m sets q []
none_listed n m sets q h = record {
  pairs = record { falling = tt; few = omega arith };
  writers = λ k place some at has. absurd has;
  reached = inl h;
}

put_listed : (n m : ℕ) (sets : List Touched) (q : Row) (c : ℤ) (ps : Pairs) → is_in q (set_at sets (n - 2)) ≡ true → IsListed n m sets q ps → IsListed n m sets q (with_pair n m c ps)
put_listed n m sets q c ps h l = record {
  pairs = put_pairs n m c ps l.pairs;
  writers = λ k place some at has. ⊎_elim
      (λ (e : m ≡ k). let p : n - 2 ≡ place = omega (arith, e, at) in subst (λ (x : ℕ). is_in q (set_at sets x) ≡ true) p h)
      (λ old. l.writers k place some at old)
      (put_number n m k c ps has);
  reached = inl h;
}

in_listed : (n m : ℕ) (sets : List Touched) (q : Row) (o : Option Pairs) → is_in q (set_at sets (n - 2)) ≡ true → AllListed n m sets q o → IsListed n m sets q (pairs_in o)
in_listed n m sets q None h l = none_listed n m sets q h
in_listed n m sets q (Some ps) h l = l ps refl

some_listed : (n m : ℕ) (sets : List Touched) (q : Row) (ps : Pairs) → IsListed n m sets q ps → AllListed n m sets q (Some ps)
some_listed n m sets q ps l qs e = subst (λ (x : Pairs). IsListed n m sets q x) (let s : ps ≡ qs = cc in s) l

written_listed : (n m : ℕ) (sets : List Touched) (q : Row) (es : Counted) (o : Option Pairs) → is_in q (set_at sets (n - 2)) ≡ true → AllListed n m sets q o → AllListed n m sets q (written n m es q o)
written_listed n m sets q [] o h l = l
written_listed n m sets q (e ∷ es) o h l = written_listed n m sets q es (cond (is_row q e.0) (Some (with_pair n m e.1 (pairs_in o))) o) h
    (elim (is_row q e.0) as (λ t. AllListed n m sets q (cond t (Some (with_pair n m e.1 (pairs_in o))) o)) [
      | true ↦ some_listed n m sets q (with_pair n m e.1 (pairs_in o)) (put_listed n m sets q e.1 (pairs_in o) h (in_listed n m sets q o h l))
      | false ↦ l
    ])

added_listed : (n m : ℕ) (sets : List Touched) (q : Row) (b : Bool) (o : Option Pairs) → is_in q (set_at sets (n - 2)) ≡ true → AllListed n m sets q o → AllListed n m sets q (added b o)
added_listed n m sets q true o h l = some_listed n m sets q (pairs_in o) (in_listed n m sets q o h l)
added_listed n m sets q false o h l = l

-- ---- a put

module _ (n m : ℕ) (rows new : List (Row × Pairs)) (sets later : List Touched) (k : AreKept n m rows sets) (len : length later ≡ length sets)
    (more : (q : Row) (place : ℕ) → is_in q (set_at sets place) ≡ true → is_in q (set_at later place) ≡ true) where
  more_listed : (q : Row) → AllListed n m later q (found q rows)
  more_listed q ps e = let l = k.listed q ps e in record {
    pairs = l.pairs;
    writers = λ j place some at has. more q place (l.writers j place some at has);
    reached = ⊎_elim (λ h. inl (more q (n - 2) h)) (λ r. inr r) l.reached;
  }

  kept_by : ((q : Row) → AllListed n m later q (found q new)) → AreKept n m new later
  kept_by l = record { enough = k.enough; few = k.few; all = len ∙ k.all; listed = λ q ps e. l q ps e }

  at_listed : (q : Row) (o : Option Pairs) → found q new ≡ o → AllListed n m later q o → AllListed n m later q (found q new)
  at_listed q o e l ps at = l ps (sym e ∙ at)

  pub put_kept : (given : Counted) → ((q : Row) → found q new ≡ written n m given q (found q rows)) → ((q : Row) → is_given q given ≡ true → is_in q (set_at later (n - 2)) ≡ true) → AreKept n m new later
  put_kept given is here = kept_by (λ q. at_listed q (written n m given q (found q rows)) (is q)
      (elim (is_given q given) as (λ t. is_given q given ≡ t → AllListed n m later q (written n m given q (found q rows))) [
        | true ↦ λ t. written_listed n m later q given (found q rows) (here q t) (more_listed q)
        | false ↦ λ t. λ ps at. more_listed q ps (sym (written_other n m given q (found q rows) t) ∙ at)
      ] refl))

  pub safe_kept : (given : Counted) → ((q : Row) → MayBeAdded given q (found q rows) (found q new)) → ((q : Row) → (found q new ≡ found q rows) ⊎ (is_in q (set_at later (n - 2)) ≡ true)) → AreKept n m new later
  safe_kept given may safe = kept_by (λ q. ⊎_elim
      (λ e. at_listed q (found q rows) e (more_listed q))
      (λ h. ⊎_elim
      (λ e. at_listed q (found q rows) e (more_listed q))
      (λ e. at_listed q (added (is_given q given) (found q rows)) e (added_listed n m later q (is_given q given) (found q rows) h (more_listed q)))
      (may q))
      (safe q))

-- ---- a night that is given up

module _ (n m : ℕ) (rows new : List (Row × Pairs)) (sets : List Touched) (k : AreKept n m rows sets) (some : 0 < m)
    (is : (q : Row) → found q new ≡ for_touched (given_up m) (found q (set_at sets (n - 2))) (found q rows)) where
  -- what the night did not touch it did not write
  untouched : (q : Row) (o : Option Pairs) → found q rows ≡ o → is_in q (set_at sets (n - 2)) ≡ false → given_up m o ≡ o
  untouched q None e h = refl
  untouched q (Some ps) e h = ap Some (back_none m ps (λ has.
      let bad : is_in q (set_at sets (n - 2)) ≡ true = (k.listed q ps e).writers m (n - 2) some refl has in
      let b : true ≡ false = sym bad ∙ h in cc))

  pub back_exact : (q : Row) → found q new ≡ given_up m (found q rows)
  back_exact q = is q ∙ elim (found q (set_at sets (n - 2))) as (λ t. found q (set_at sets (n - 2)) ≡ t → for_touched (given_up m) t (found q rows) ≡ given_up m (found q rows)) [
    | None ↦ λ t. sym (untouched q (found q rows) refl (ap is_some t))
    | (Some u) ↦ λ t. refl
  ] refl

  back_listed : (q : Row) (o : Option Pairs) → found q rows ≡ o → AllListed n m sets q (given_up m o)
  back_listed q None e ps at = cc
  back_listed q (Some ps) e qs at = some_listed n m sets q (without_pair m ps) (let l = k.listed q ps e in
      elim (is_in q (set_at sets (n - 2))) as (λ t. is_in q (set_at sets (n - 2)) ≡ t → IsListed n m sets q (without_pair m ps)) [
        | true ↦ λ t. record {
          pairs = back_pairs n m ps l.pairs;
          writers = λ j place low on has. l.writers j place low on (back_number m j ps has);
          reached = inl t;
        }
        | false ↦ λ t.
            let same : Some (without_pair m ps) ≡ Some ps = untouched q (Some ps) e t in
            subst (λ (x : Pairs). IsListed n m sets q x) (let s : ps ≡ without_pair m ps = cc in s) l
      ] refl) qs at

  pub back_kept : AreKept n m new sets
  back_kept = record { enough = k.enough; few = k.few; all = k.all; listed = λ q ps at. back_listed q (found q rows) refl ps (sym (back_exact q) ∙ at) }

-- ---- a night that begins

module _ (n m : ℕ) (rows new : List (Row × Pairs)) (sets later : List Touched) (k : AreKept n m rows sets) (next : later ≡ drop 1 sets ++ [] ∷ [])
    (is : (q : Row) → found q new ≡ for_touched (begun n (suc m)) (found q (set_at sets 0)) (for_touched (begun n (suc m)) (found q (set_at sets (n - 2))) (found q rows))) where
  -- a row that is in neither set is read
  still_read : (q : Row) (ps : Pairs) → IsListed n m sets q ps → is_in q (set_at sets (n - 2)) ≡ false → is_in q (set_at sets 0) ≡ false → is_unread (n - 1) (suc m) ps ≡ false
  still_read q ps l last first = elim (is_unread (n - 1) (suc m) ps) as (λ t. is_unread (n - 1) (suc m) ps ≡ t → t ≡ false) [
    | true ↦ λ t. absurd (⊎_elim (λ h. let b : true ≡ false = sym h ∙ last in absurd (let c : ⊥ = cc in c)) (λ r. unread t r) l.reached)
    | false ↦ λ t. refl
  ] refl
    where
      two : 2 ≤ n
      two = k.enough

      unread : is_unread (n - 1) (suc m) ps ≡ true → IsRead n m ps → ⊥
      unread t r = elim (nat_le (suc m) (r.session + (n - 1))) as (λ b. nat_le (suc m) (r.session + (n - 1)) ≡ b → ⊥) [
        | true ↦ λ b. r.some (unread_reads (n - 1) (suc m) r.session ps t (omega (arith, r.low)) (within (suc m) (r.session + (n - 1)) b))
        | false ↦ λ b.
            let s : ℕ = r.session in
            let far = beyond (suc m) (s + (n - 1)) b in
            let high : m ≤ s + (n - 1) = r.high in
            let none : read (suc s) ps ≡ pos 0 = unread_reads (n - 1) (suc m) (suc s) ps t (omega (arith, two)) (omega (arith, two)) in
            let has = read_step s ps (λ e. r.some (sym e ∙ none)) in
            let there : is_in q (set_at sets 0) ≡ true = l.writers (suc s) 0 (omega arith) (omega (arith, two)) has in
            let c : true ≡ false = sym there ∙ first in cc
      ] refl

  begun_once : (o : Option Pairs) → begun n (suc m) (begun n (suc m) o) ≡ begun n (suc m) o
  begun_once None = refl
  begun_once (Some ps) = elim (is_unread (n - 1) (suc m) ps) as (λ t. is_unread (n - 1) (suc m) ps ≡ t → begun n (suc m) (cond t None (Some ps)) ≡ cond t None (Some ps)) [
    | true ↦ λ t. refl
    | false ↦ λ t. ap (λ b. cond b None (Some ps)) t
  ] refl

  stays : (q : Row) (o : Option Pairs) → found q rows ≡ o → is_in q (set_at sets (n - 2)) ≡ false → is_in q (set_at sets 0) ≡ false → begun n (suc m) o ≡ o
  stays q None e last first = refl
  stays q (Some ps) e last first = ap (λ b. cond b None (Some ps)) (still_read q ps (k.listed q ps e) last first)

  pub begun_exact : (q : Row) → found q new ≡ begun n (suc m) (found q rows)
  begun_exact q = is q ∙ elim (found q (set_at sets 0)) as (λ a. found q (set_at sets 0) ≡ a → for_touched (begun n (suc m)) a (for_touched (begun n (suc m)) (found q (set_at sets (n - 2))) (found q rows)) ≡ begun n (suc m) (found q rows)) [
    | None ↦ λ a. elim (found q (set_at sets (n - 2))) as (λ b. found q (set_at sets (n - 2)) ≡ b → for_touched (begun n (suc m)) b (found q rows) ≡ begun n (suc m) (found q rows)) [
      | None ↦ λ b. sym (stays q (found q rows) refl (ap is_some b) (ap is_some a))
      | (Some u) ↦ λ b. refl
    ] refl
    | (Some u) ↦ λ a. elim (found q (set_at sets (n - 2))) as (λ b. begun n (suc m) (for_touched (begun n (suc m)) b (found q rows)) ≡ begun n (suc m) (found q rows)) [
      | None ↦ refl
      | (Some v) ↦ begun_once (found q rows)
    ]
  ] refl

  begun_listed : (q : Row) (ps : Pairs) → IsListed n m sets q ps → is_unread (n - 1) (suc m) ps ≡ false → IsListed n (suc m) later q ps
  begun_listed q ps l t = record {
    pairs = record { falling = falling_below (suc m) (suc (suc m)) ps (omega arith) l.pairs.falling; few = l.pairs.few };
    writers = writers;
    reached = inr (let r = reads_some (n - 1) (suc m) ps t in record { session = r.session; low = r.low; high = r.high; some = r.some });
  }
    where
      two : 2 ≤ n
      two = k.enough

      len : length sets ≡ n - 1
      len = k.all

      writers : (j place : ℕ) → 0 < j → suc m + place ≡ j + (n - 2) → HasNumber j ps → is_in q (set_at later place) ≡ true
      writers j place some at has =
          let below = number_below j (suc m) ps l.pairs.falling has in
          let inside : suc place < length sets = omega (arith, two, len, below, at) in
          let set = ap (λ xs. set_at xs place) next ∙ next_set sets place inside in
          ap (is_in q) set ∙ l.writers j (suc place) some (omega (arith, at)) has

  one_begun : (q : Row) (o : Option Pairs) → found q rows ≡ o → AllListed n (suc m) later q (begun n (suc m) o)
  one_begun q None e ps at = cc
  one_begun q (Some ps) e qs at = elim (is_unread (n - 1) (suc m) ps) as (λ t. is_unread (n - 1) (suc m) ps ≡ t → AllListed n (suc m) later q (cond t None (Some ps))) [
    | true ↦ λ t. λ rs on. cc
    | false ↦ λ t. some_listed n (suc m) later q ps (begun_listed q ps (k.listed q ps e) t)
  ] refl qs at

  length_next : (xs : List Touched) → 0 < length xs → length (drop 1 xs ++ [] ∷ []) ≡ length xs
  length_next [] l = absurd (omega arith)
  length_next (x ∷ xs) l = length_one xs
    where
      length_one : (ys : List Touched) → length (ys ++ [] ∷ []) ≡ suc (length ys)
      length_one [] = refl
      length_one (y ∷ ys) = ap suc (length_one ys)

  pub begun_kept : AreKept n (suc m) new later
  begun_kept = record {
    enough = k.enough;
    few = k.few;
    all = ap length next ∙ length_next sets (omega (arith, k.enough, k.all)) ∙ k.all;
    listed = λ q ps at. one_begun q (found q rows) refl ps (sym (begun_exact q) ∙ at);
  }

-- ---- whether a row is read, asked version by version

and_false : (a : Bool) → (a && false) ≡ false
and_false true = refl
and_false false = refl

pub no_int : (a b : ℤ) → a ≢ b → int_eq a b ≡ false
no_int a b h = grind (arith, ints)

is_int : (a b : ℤ) → a ≡ b → int_eq a b ≡ true
is_int a b h = grind (arith, ints)

pub not_unread : (k j m : ℕ) (ps : Pairs) → 1 ≤ j → j ≤ k → read (m - j) ps ≢ pos 0 → is_unread k m ps ≡ false
not_unread zero j m ps one low h = absurd (omega arith)
not_unread (suc k) j m ps one low h = elim (nat_le j k) as (λ t. nat_le j k ≡ t → (int_eq (read (m - suc k) ps) (pos 0) && is_unread k m ps) ≡ false) [
  | true ↦ λ t. ap (λ b. int_eq (read (m - suc k) ps) (pos 0) && b) (not_unread k j m ps one (within j k t) h) ∙ and_false (int_eq (read (m - suc k) ps) (pos 0))
  | false ↦ λ t.
      let far = beyond j k t in
      let at : j ≡ suc k = omega arith in
      let some : read (m - suc k) ps ≢ pos 0 = subst (λ (x : ℕ). read (m - x) ps ≢ pos 0) at h in
      ap (λ b. b && is_unread k m ps) (no_int (read (m - suc k) ps) (pos 0) some)
] refl

pub unread_more : (j k m : ℕ) (ps : Pairs) → suc j ≡ k → is_unread j m ps ≡ true → read (m - k) ps ≡ pos 0 → is_unread k m ps ≡ true
unread_more j zero m ps e h r = absurd (omega arith)
unread_more j (suc i) m ps e h r =
    let at : j ≡ i = omega arith in
    ap (λ b. b && is_unread i m ps) (is_int (read (m - suc i) ps) (pos 0) r) ∙ ap (λ x. is_unread x m ps) (sym at) ∙ h

-- ---- as the code says it

pub record Begins (n m : ℕ) (rows new : List (Row × Pairs)) (later : List Touched) : Type 0 where
  pub kept : AreKept n m new later
  pub exact : (q : Row) → found q new ≡ begun n m (found q rows)

pub begins : (n m b : ℕ) (rows mid new : List (Row × Pairs)) (sets later : List Touched) (last first : Touched) → AreKept n m rows sets → b ≡ suc m → last ≡ set_at sets (n - 2) → first ≡ set_at sets 0
    → ((q : Row) → found q mid ≡ for_touched (begun n b) (found q last) (found q rows)) → ((q : Row) → found q new ≡ for_touched (begun n b) (found q first) (found q mid))
    → later ≡ drop 1 sets ++ [] ∷ [] → Begins n b rows new later
begins n m b rows mid new sets later last first k e l f h g next =
    let is : (q : Row) → found q new ≡ for_touched (begun n (suc m)) (found q (set_at sets 0)) (for_touched (begun n (suc m)) (found q (set_at sets (n - 2))) (found q rows)) = λ q.
    g q ∙ ap (for_touched (begun n b) (found q first)) (h q)
    ∙ ap (λ x. for_touched (begun n x) (found q first) (for_touched (begun n x) (found q last) (found q rows))) e
    ∙ ap (λ (x : Touched). for_touched (begun n (suc m)) (found q x) (for_touched (begun n (suc m)) (found q last) (found q rows))) f
    ∙ ap (λ (x : Touched). for_touched (begun n (suc m)) (found q (set_at sets 0)) (for_touched (begun n (suc m)) (found q x) (found q rows))) l in
    subst (λ (x : ℕ). Begins n x rows new later) (sym e) (record { kept = begun_kept n m rows new sets later k next is; exact = begun_exact n m rows new sets later k next is })

pub record GivesUp (n m : ℕ) (rows new : List (Row × Pairs)) (sets : List Touched) : Type 0 where
  pub kept : AreKept n m new sets
  pub exact : (q : Row) → found q new ≡ given_up m (found q rows)

pub gives_up : (n m : ℕ) (rows new : List (Row × Pairs)) (sets : List Touched) (last : Touched) → AreKept n m rows sets → 0 < m → last ≡ set_at sets (n - 2)
    → ((q : Row) → found q new ≡ for_touched (given_up m) (found q last) (found q rows)) → GivesUp n m rows new sets
gives_up n m rows new sets last k some l h =
    let is : (q : Row) → found q new ≡ for_touched (given_up m) (found q (set_at sets (n - 2))) (found q rows) = λ q. h q ∙ ap (λ (x : Touched). for_touched (given_up m) (found q x) (found q rows)) l in
    record { kept = back_kept n m rows new sets k some is; exact = back_exact n m rows new sets k some is }

-- the last set, by the number of all
pub last_of : (n m i : ℕ) (rows : List (Row × Pairs)) (sets : List Touched) (set : Touched) → AreKept n m rows sets → i ≡ length sets - 1 → set ≡ slice_index_or sets i set → set ≡ set_at sets (n - 2)
last_of n m i rows sets set k e at =
    let all : length sets ≡ n - 1 = k.all in
    let two : 2 ≤ n = k.enough in
    let place : i ≡ n - 2 = omega arith in
    nth_set sets i set at (omega arith) ∙ ap (set_at sets) place

-- another set in place of the last one, which has what it had
more_in : (n m i : ℕ) (rows : List (Row × Pairs)) (sets : List Touched) (before after : Touched) → AreKept n m rows sets → i ≡ length sets - 1 → before ≡ slice_index_or sets i before → ((q : Row) → is_in q before ≡ true → is_in q after ≡ true)
    → (q : Row) (place : ℕ) → is_in q (set_at sets place) ≡ true → is_in q (set_at (set sets i after) place) ≡ true
more_in n m i rows sets before after k e at more =
    let all : length sets ≡ n - 1 = k.all in
    let two : 2 ≤ n = k.enough in
    let is = nth_set sets i before at (omega arith) in
    other_set sets i after (λ q h. more q (ap (is_in q) is ∙ h))

last_in : (n m i : ℕ) (rows : List (Row × Pairs)) (sets : List Touched) (after : Touched) → AreKept n m rows sets → i ≡ length sets - 1 → set_at (set sets i after) (n - 2) ≡ after
last_in n m i rows sets after k e =
    let all : length sets ≡ n - 1 = k.all in
    let two : 2 ≤ n = k.enough in
    let place : n - 2 ≡ i = omega arith in
    ap (set_at (set sets i after)) place ∙ own_set sets i after (omega arith)

pub puts_safely : (n m i : ℕ) (rows new : List (Row × Pairs)) (sets : List Touched) (before after : Touched) (given : Counted) → AreKept n m rows sets → i ≡ length sets - 1 → before ≡ slice_index_or sets i before
    → ((q : Row) → is_in q before ≡ true → is_in q after ≡ true) → AreSafe given rows new after → AreKept n m new (set sets i after)
puts_safely n m i rows new sets before after given k e at more safe =
    safe_kept n m rows new sets (set sets i after) k (length_other sets i after) (more_in n m i rows sets before after k e at more) given safe.rows
    (λ q. ⊎_elim (λ h. inl h) (λ h. inr (ap (is_in q) (last_in n m i rows sets after k e) ∙ h)) (safe.touched q))

-- the night that was begun last touched each row of whose pairs the newest is its own
not_begun : (n m : ℕ) (rows : List (Row × Pairs)) (sets : List Touched) → AreKept n m rows sets → 0 < m → (q : Row) (o : Option Pairs) → found q rows ≡ o → is_in q (set_at sets (n - 2)) ≡ false → begins_with m (pairs_in o) ≡ false
not_begun n m rows sets k some q None e h = refl
not_begun n m rows sets k some q (Some []) e h = refl
not_begun n m rows sets k some q (Some (p ∷ ps)) e h = elim (p.0 == m) as (λ t. (p.0 == m) ≡ t → t ≡ false) [
  | true ↦ λ t.
      let own : p.0 ≡ m = grind (arith, nat_tests) in
      sym ((k.listed q (p ∷ ps) e).writers m (n - 2) some refl (inl own)) ∙ h
  | false ↦ λ t. refl
] refl

pub new_to_night : (n m i : ℕ) (rows : List (Row × Pairs)) (sets : List Touched) (before : Touched) (given : Counted) → AreKept n m rows sets → 0 < m → i ≡ length sets - 1 → before ≡ slice_index_or sets i before
    → IsNew given rows before → IsNewToNight given (record { night = m; rows = rows })
new_to_night n m i rows sets before given k some e at new = record {
  row = new.row;
  is_one = new.is_one;
  lacks = ⊎_elim
      (λ none. ap (λ o. begins_with m (pairs_in o)) none)
      (λ none. not_begun n m rows sets k some new.row (found new.row rows) refl (sym (ap (is_in new.row) (last_of n m i rows sets before k e at)) ∙ none))
      new.lacks;
}

pub record Puts (n m : ℕ) (given : Counted) (rows new : List (Row × Pairs)) (later : List Touched) : Type 0 where
  pub kept : AreKept n m new later
  pub exact : (q : Row) → found q new ≡ written n m given q (found q rows)

pub puts : (n m i : ℕ) (rows mid new : List (Row × Pairs)) (sets : List Touched) (before after : Touched) (given : Counted) → AreKept n m rows sets → i ≡ length sets - 1 → before ≡ slice_index_or sets i before
    → ((q : Row) → is_in q before ≡ true → is_in q after ≡ true) → AreAdded given rows mid after → ((q : Row) → found q new ≡ written n m given q (found q mid)) → Puts n m given rows new (set sets i after)
puts n m i rows mid new sets before after given k e at more add w =
    let exact : (q : Row) → found q new ≡ written n m given q (found q rows) = λ q. w q ∙ ap (written n m given q) (add.rows q) ∙ written_added n m given q (found q rows) in
    record {
      kept = put_kept n m rows new sets (set sets i after) k (length_other sets i after) (more_in n m i rows sets before after k e at more) given exact (λ q g. ap (is_in q) (last_in n m i rows sets after k e) ∙ add.touched q g);
      exact = exact;
    }

pub in_form : (n m : ℕ) (rows : List (Row × Pairs)) (sets : List Touched) → AreKept n m rows sets → (q : Row) → ArePairs n m (pairs_in (found q rows))
in_form n m rows sets k q = pairs_of_row (found q rows) refl
  where
    pairs_of_row : (o : Option Pairs) → found q rows ≡ o → ArePairs n m (pairs_in o)
    pairs_of_row None e = record { falling = tt; few = omega arith }
    pairs_of_row (Some ps) e = (k.listed q ps e).pairs
