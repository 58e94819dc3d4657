-- The nights that have not begun: the last of those that were given.
use Rattle.std.proofs.Common.{◌≡◌, ◌≢◌, refl, sym, ap, ◌∙◌, ℕ, zero, suc, ◌+◌, ◌-◌, ◌<◌, ◌≤◌, List, [], ◌∷◌, ◌++◌, drop, take, map, length, Some, arith}
use Rattle.std.specs.Prelude.{slice_get, slice_index_or}
use Rattle.std.proofs.Math.Seq.{take-append_seam}
use Rattle.std.proofs.lemmas.List.{drop-append-le, drop-map, length-append, length-drop, length-map, map-append, take-map}
use Rattle.wh_core.specs.declared.event.Event.{Event}
use Rattle.wh_core.specs.declared.event.Event.TheVariants.{Begin, Take, Done, PageIn, Commit, GiveUp, Open, Read, Close}
use Rattle.wh_core.specs.declared.machine.Machine.{Machine}
use Rattle.wh_core.specs.declared.reply.Reply.{Reply}
use Rattle.wh_core.specs.declared.reply.Reply.TheVariants as reply
use Rattle.wh_core.specs.declared.warehouse.Core.{Core}
use Rattle.wh_core.specs.Log.{Log, logged, nights_begun}
use Rattle.wh_core.specs.Nights.{Setup}
use Rattle.wh_core.specs.Replies.{IsLegalLog}
use Rattle.wh_core.specs.Standing.{Stands, StandsWith}
use Rattle.wh_core.proofs.Deeds.{deeds_of}
use Rattle.wh_core.proofs.Nights.{within}

-- ---- what is left of a list behind a place

-- what stands first behind a place stands there
first_at : {A : Type 0} (xs : List A) (k : ℕ) (x : A) (rest : List A) → drop k xs ≡ x ∷ rest → slice_get xs k ≡ Some x
first_at [] zero x rest e = cc
first_at [] (suc k) x rest e = cc
first_at (y ∷ ys) zero x rest e = cc
first_at (y ∷ ys) (suc k) x rest e = first_at ys k x rest e

drop_next : {A : Type 0} (k : ℕ) (xs : List A) → drop 1 (drop k xs) ≡ drop (k + 1) xs
drop_next zero xs = refl
drop_next {A} (suc k) [] = let e : suc (k + 1) ≡ suc k + 1 = omega arith in ap (λ n. drop {A = A} n []) e
drop_next (suc k) (x ∷ xs) = let e : suc (k + 1) ≡ suc k + 1 = omega arith in drop_next k xs ∙ ap (λ n. drop n (x ∷ xs)) e

module _ {A B : Type 0} (f : A → B) where
  -- one more is given
  pub waiting_longer : (items longer : List A) (x : A) (given : List B) (k : ℕ) → k ≤ length given → longer ≡ items ++ x ∷ [] → map f items ≡ drop k given → map f longer ≡ drop k (given ++ f x ∷ [])
  waiting_longer items longer x given k few are h =
      ap (map f) are ∙ map-append f items (x ∷ []) ∙ ap (λ ys. ys ++ f x ∷ []) h ∙ sym (drop-append-le k given (f x ∷ []) few)

  -- the last is taken back
  pub waiting_shorter : (items shorter : List A) (y : B) (given : List B) (k : ℕ) → k ≤ length given → shorter ≡ take (length items - 1) items → map f items ≡ drop k (given ++ y ∷ []) → map f shorter ≡ drop k given
  waiting_shorter items shorter y given k few are h =
      let whole : map f items ≡ drop k given ++ y ∷ [] = h ∙ drop-append-le k given (y ∷ []) few in
      let long : length items ≡ length (drop k given) + 1 = sym (length-map items f) ∙ ap length whole ∙ length-append (drop k given) (y ∷ []) in
      let one_less : length items - 1 ≡ length (drop k given) = omega (arith, long) in
      ap (map f) are ∙ sym (take-map f (length items - 1) items) ∙ ap (take (length items - 1)) whole ∙ ap (λ n. take n (drop k given ++ y ∷ [])) one_less
      ∙ take-append_seam (drop k given) (y ∷ [])

  -- the first has gone
  pub waiting_next : (items rest : List A) (given : List B) (k : ℕ) → rest ≡ drop 1 items → map f items ≡ drop k given → map f rest ≡ drop (k + 1) given
  waiting_next items rest given k are h = ap (map f) are ∙ sym (drop-map f 1 items) ∙ ap (drop 1) h ∙ drop_next k given

  -- which is given
  pub waiting_first : (items : List A) (given : List B) (k : ℕ) (x : A) → 0 < length items → x ≡ slice_index_or items 0 x → map f items ≡ drop k given → slice_get given k ≡ Some (f x)
  waiting_first [] given k x some at h = absurd (omega (arith, some))
  waiting_first (y ∷ ys) given k x some at h = first_at given k (f x) (map f ys) (sym h ∙ ap (λ (z : A). f z ∷ map f ys) (sym at))

  pub none_waits : (items : List A) (given : List B) (k : ℕ) → length items ≡ 0 → map f items ≡ drop k given → length given ≤ k
  none_waits items given k none h =
      let e : length items ≡ length given - k = sym (length-map items f) ∙ ap length h ∙ length-drop k given in
      omega (arith, e, none)

pub first_is : {A : Type 0} (xs : List A) (x : A) → 0 < length xs → x ≡ slice_index_or xs 0 x → slice_get xs 0 ≡ Some x
first_is [] x some at = absurd (omega (arith, some))
first_is (y ∷ ys) x some at = ap Some (sym at)

pub among_rest : {A : Type 0} (xs rest : List A) (n : ℕ) (x : A) → rest ≡ drop 1 xs → slice_get rest n ≡ Some x → slice_get xs (suc n) ≡ Some x
among_rest [] rest n x are at = let none : slice_get [] n ≡ Some x = sym (ap (λ ys. slice_get ys n) are) ∙ at in cc
among_rest (y ∷ ys) rest n x are at = sym (ap (λ zs. slice_get zs n) are) ∙ at

-- ---- what has begun

-- no more nights than were given
pub begun_given : (s : Setup) (log : Log) → IsLegalLog s log → nights_begun log ≤ length s.nights
begun_given s log legal = within s log (deeds_of s log legal)

-- only a Begin has one more
pub still_begun : (log : Log) (event : Event) (r : Reply) → event ≢ Begin → nights_begun (logged log event r) ≡ nights_begun log
still_begun log Begin r other = absurd (other refl)
still_begun log (Take w) (reply.Job n) other = refl
still_begun log (Done w) reply.Done other = refl
still_begun log PageIn (reply.Paged n) other = refl
still_begun log Commit (reply.Version v) other = refl
still_begun log GiveUp (reply.Version v) other = refl
still_begun log (Open d) (reply.Session v) other = refl
still_begun log (Read d view limit) (reply.Page p) other = refl
still_begun log (Close d) reply.Closed other = refl
still_begun log event r other = refl

-- so any other leaves the nights that wait
pub stands_on : {F G : Type 0} (s : Setup) (log : Log) (core : Core F G) (machine : Machine) (event : Event) (r : Reply) → event ≢ Begin → StandsWith s log core → Stands s (logged log event r) machine
    → StandsWith s (logged log event r) (record core { machine = machine })
stands_on s log core machine event r other h stands = record {
  catalog = h.catalog;
  nights = h.nights ∙ ap (λ n. drop n s.nights) (sym (still_begun log event r other));
  judged = h.judged;
  keys = h.keys;
  stands = stands;
}
