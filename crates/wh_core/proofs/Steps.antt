-- Where a machine stands after one deed more: of the night that is under way.
use Rattle.std.proofs.Common.{◌≡◌, ◌≢◌, refl, sym, ap, subst, ◌∙◌, ℕ, zero, suc, ◌+◌, ◌-◌, ◌<◌, ◌≤◌, List, [], ◌∷◌, ◌++◌, length, drop, Bool, true, false, not, Option, Some, None, ◌⊎◌, ⊎_elim, inl, inr, arith}
use Rattle.std.specs.Prelude.{is_some, is_none, slice_get, nat_lt, nat_le, option_map, ◌&&◌}
use Rattle.std.specs.List.{All, list_all}
use Rattle.std.proofs.Math.Seq.{drop-nil}
use Rattle.std.proofs.lemmas.Bool.{false≢true}
use Rattle.std.proofs.lemmas.List.Elements.{All-cons, All-nil}
use Rattle.std.proofs.lemmas.Option.{same_Some, slice_get_within}
use Rattle.wh_row.specs.Weigh.{Counted}
use Rattle.wh_dag.specs.Shape.{Distinct, has}
use Rattle.wh_maint.specs.declared.fault.MaintFault.{MaintFault}
use Rattle.wh_store.specs.declared.operation.Op.{Op}
use Rattle.wh_store.specs.Operations.{Operation, Writes, operation}
use Rattle.wh_carry.specs.declared.course.Part.{Part}
use Rattle.wh_carry.specs.declared.course.Part.TheVariants as part
use Rattle.wh_carry.specs.Night.{Night, ArePassedAt, IsPassedAt, IsFaultAt, IsFirstFaultOf, places_from}
use Rattle.wh_carry.specs.Legs.{Leg, Wave, Page, Remaining, In_wave, At_page, Over, after_done, after_draw, after_page, carried_up_to, is_last, turn_at, turn_of, untouched}
use Rattle.wh_carry.specs.Course.{AreParts, IsOutcome, IsPart, IsStop, is_passed, start_of, end_of}
use Rattle.wh_core.specs.declared.reply.Cause.{Cause}
use Rattle.wh_core.specs.declared.reply.Cause.TheVariants as cause
use Rattle.wh_core.specs.declared.reply.Reply.{Reply}
use Rattle.wh_core.specs.declared.reply.Reply.TheVariants as reply
use Rattle.wh_core.specs.Log.{Log, holding, is_open}
use Rattle.wh_core.specs.Nights.{Setup, night, remaining, turn}
use Rattle.wh_core.specs.Replies.{IsLegalLog, IsRuled, Ruling, Says, Takes, Carries, cause_of, take_ruling, done_by, page_ruling, commit_ruling, unless}
use Rattle.wh_core.specs.Standing.{AreLeft, HaveJobs, IsWithin}
use Rattle.wh_core.specs.Inner.Standing.{page_in, wave_in}
use Rattle.wh_core.proofs.Deeds.{deeds_of}
use Rattle.wh_core.proofs.Underway.{all_below, come_to, fresh, head_or, last_of, not_last_of, now, of_legs, off_the_list, on_the_list, reach_is, underway, wave_legs, wave_place}

-- ---- rulings

pub refuse : (b : Bool) (c : Cause) (rest : Ruling) → b ≡ true → IsRuled (unless b c rest) (reply.Refused c)
refuse b c rest e = subst (λ b. IsRuled (unless b c rest) (reply.Refused c)) (sym e) refl

pub onward : (b : Bool) (c : Cause) (rest : Ruling) (r : Reply) → b ≡ false → IsRuled rest r → IsRuled (unless b c rest) r
onward b c rest r e h = subst (λ b. IsRuled (unless b c rest) r) (sym e) h

pub le_false : (a b : ℕ) → b < a → nat_le a b ≡ false
le_false a b h = grind arith

pub le_true : (a b : ℕ) → a ≤ b → nat_le a b ≡ true
le_true a b h = grind arith

pub lt_true : (a b : ℕ) → a < b → nat_lt a b ≡ true
lt_true a b h = grind arith

-- ---- parts

pub drop_one : {A : Type 0} (n : ℕ) (xs : List A) → drop 1 (drop n xs) ≡ drop (n + 1) xs
drop_one zero xs = refl
drop_one (suc n) [] = sym (drop-nil (suc n + 1))
drop_one (suc n) (x ∷ xs) = let e : suc (n + 1) ≡ suc n + 1 = omega arith in drop_one n xs ∙ ap (λ k. drop k (x ∷ xs)) e

pub none_left : {A : Type 0} (n : ℕ) (xs : List A) → length xs ≤ n → drop n xs ≡ []
none_left zero [] l = refl
none_left zero (x ∷ xs) l = absurd (omega arith)
none_left (suc n) [] l = refl
none_left (suc n) (x ∷ xs) l = none_left n xs (omega arith)

pub some_left : {A : Type 0} (n : ℕ) (xs : List A) → n < length xs → drop n xs ≢ []
some_left zero [] l e = absurd (omega arith)
some_left zero (x ∷ xs) l e = cc
some_left (suc n) [] l e = absurd (omega arith)
some_left (suc n) (x ∷ xs) l e = some_left n xs (omega arith) e

-- the first part is a wave
pub record InWave (n : Night) (legs : List Leg) (parts : List Part) (os : List (Option MaintFault)) (stop : Option MaintFault) (drawn done : ℕ) : Type 0 where
  pub place : ℕ
  pub later : List Leg
  pub is : legs ≡ Wave place (length os) ∷ later
  pub few : drawn ≤ length os
  pub some : done < length os
  pub outcomes : (j : ℕ) (o : Option MaintFault) → slice_get os j ≡ Some o → IsOutcome n (place + j) o
  pub next : list_all is_none os ≡ true → AreParts n (place + length os) later (drop 1 parts) stop

pub in_wave : (n : Night) (from : ℕ) (legs : List Leg) (parts : List Part) (os : List (Option MaintFault)) (stop : Option MaintFault) (drawn done : ℕ)
    → AreParts n from legs parts stop → wave_in parts ≡ Some os → IsWithin legs drawn done → InWave n legs parts os stop drawn done
unfolding AreParts
in_wave n from legs [] os stop drawn done are e w = cc
in_wave n from legs (part.Page op ∷ parts) os stop drawn done are e w = cc
in_wave n from [] (part.Wave v ∷ parts) os stop drawn done are e w = absurd are
in_wave n from (Page place view rows ∷ legs) (part.Wave v ∷ parts) os stop drawn done are e w = absurd are.1
in_wave n from (Wave place jobs ∷ legs) (part.Wave v ∷ parts) os stop drawn done are e w =
    let s : v.items ≡ os = same_Some v.items os e in
    let m : jobs ≡ length os = sym are.1.0 ∙ ap length s in
    record {
      place = place;
      later = legs;
      is = (λ i. Wave place (m i) ∷ legs);
      few = subst (λ k. drawn ≤ k) m w.0;
      some = subst (λ k. done < k) m w.1;
      outcomes = subst (λ xs. (j : ℕ) (o : Option MaintFault) → slice_get xs j ≡ Some o → IsOutcome n (place + j) o) s are.1.1;
      next = λ t. subst (λ k. AreParts n (place + k) legs parts stop) m (are.2 (ap (list_all is_none) s ∙ t));
    }

-- it is a page
pub record AtPage (n : Night) (legs : List Leg) (parts : List Part) (op : Op) (stop : Option MaintFault) (drawn done : ℕ) : Type 0 where
  pub place : ℕ
  pub view : ℕ
  pub rows : Counted
  pub later : List Leg
  pub is : legs ≡ Page place view rows ∷ later
  pub none_drawn : drawn ≡ 0
  pub none_done : done ≡ 0
  pub writes : operation op ≡ Writes view rows
  pub next : AreParts n (place + 1) later (drop 1 parts) stop

pub at_page : (n : Night) (from : ℕ) (legs : List Leg) (parts : List Part) (op : Op) (stop : Option MaintFault) (drawn done : ℕ)
    → AreParts n from legs parts stop → page_in parts ≡ Some op → IsWithin legs drawn done → AtPage n legs parts op stop drawn done
unfolding AreParts
at_page n from legs [] op stop drawn done are e w = cc
at_page n from legs (part.Wave v ∷ parts) op stop drawn done are e w = cc
at_page n from [] (part.Page o ∷ parts) op stop drawn done are e w = absurd are
at_page n from (Wave place jobs ∷ legs) (part.Page o ∷ parts) op stop drawn done are e w = absurd are.1
at_page n from (Page place view rows ∷ legs) (part.Page o ∷ parts) op stop drawn done are e w = record {
  place = place;
  view = view;
  rows = rows;
  later = legs;
  is = refl;
  none_drawn = w.0;
  none_done = w.1;
  writes = ap operation (sym (same_Some o op e)) ∙ are.1;
  next = are.2 refl;
}

-- nothing is left
pub at_end : (n : Night) (from : ℕ) (legs : List Leg) (stop : Option MaintFault) → AreParts n from legs [] stop → stop ≡ None → legs ≡ []
unfolding AreParts
at_end n from [] stop are e = refl
at_end n from (leg ∷ legs) stop are e = let f : Some are.0 ≡ None = sym are.1 ∙ e in cc

-- what comes before the next leg is passed, where there is a part for it or the night comes to its end
pub comes_on : (n : Night) (from : ℕ) (legs : List Leg) (parts : List Part) (stop : Option MaintFault) → AreParts n from legs parts stop → (parts ≢ []) ⊎ (stop ≡ None)
    → ArePassedAt n (places_from from (come_to (length n.list) legs))
unfolding AreParts
comes_on n from [] [] stop are h = ⊎_elim (λ no. absurd (no refl)) (λ e. subst (λ s. IsStop n (places_from from (length n.list)) s) e are) h
comes_on n from [] (p ∷ parts) stop are h = absurd are
comes_on n from (leg ∷ legs) [] stop are h = ⊎_elim (λ no. absurd (no refl)) (λ e. let f : Some are.0 ≡ None = sym are.1 ∙ e in cc) h
comes_on n from (Wave place jobs ∷ legs) (p ∷ parts) stop are h = are.0
comes_on n from (Page place view rows ∷ legs) (p ∷ parts) stop are h = are.0

pub is_stopped : (n : Night) (from : ℕ) (legs : List Leg) (parts : List Part) (stop : Option MaintFault) (fault : MaintFault) → AreParts n from legs parts stop → parts ≡ [] → stop ≡ Some fault
    → IsFirstFaultOf n (places_from from (come_to (length n.list) legs)) fault
unfolding AreParts
is_stopped n from legs parts stop fault are e s = none_first legs (subst (λ ps. AreParts n from legs ps (Some fault)) e (subst (λ s. AreParts n from legs parts s) s are))
  where
    none_first : (legs : List Leg) → AreParts n from legs [] (Some fault) → IsFirstFaultOf n (places_from from (come_to (length n.list) legs)) fault
    none_first [] are = are
    none_first (Wave place jobs ∷ legs) are = subst (IsFirstFaultOf n (places_from from place)) (sym (same_Some fault are.0 are.1)) are.2
    none_first (Page place view rows ∷ legs) are = subst (IsFirstFaultOf n (places_from from (place + 1))) (sym (same_Some fault are.0 are.1)) are.2

-- ---- turns

pub turn_here : (n : Night) (r : Remaining) (parts : List Part) (stop : Option MaintFault) (drawn done : ℕ) (g : AreLeft n r parts stop drawn done) → turn_of r ≡ turn_at g.legs drawn
turn_here n r parts stop drawn done g = ap turn_of g.is

module _ (n : Night) (r : Remaining) (parts : List Part) (stop : Option MaintFault) (drawn done : ℕ) (g : AreLeft n r parts stop drawn done) where
  pub wave_here : (os : List (Option MaintFault)) → wave_in parts ≡ Some os → InWave n g.legs parts os stop drawn done
  wave_here os w = in_wave n g.from g.legs parts os stop drawn done g.are w g.within

  pub wave_turn_here : (os : List (Option MaintFault)) (w : wave_in parts ≡ Some os) → turn_of r ≡ In_wave (wave_here os w).place (length os) drawn
  wave_turn_here os w =
      let v = wave_here os w in
      turn_here n r parts stop drawn done g ∙ ap (λ legs. turn_at legs drawn) v.is

  pub page_here : (op : Op) → page_in parts ≡ Some op → AtPage n g.legs parts op stop drawn done
  page_here op w = at_page n g.from g.legs parts op stop drawn done g.are w g.within

  pub page_turn_here : (op : Op) (w : page_in parts ≡ Some op) → turn_of r ≡ At_page (page_here op w).place (page_here op w).view (page_here op w).rows
  page_turn_here op w = let v = page_here op w in turn_here n r parts stop drawn done g ∙ ap (λ legs. turn_at legs drawn) v.is

  pub end_turn_here : parts ≡ [] → turn_of r ≡ Over
  end_turn_here w =
      turn_here n r parts stop drawn done g
      ∙ ap (λ legs. turn_at legs drawn) (at_end n g.from g.legs stop (subst (λ ps. AreParts n g.from g.legs ps stop) w g.are) (g.over w))

-- of three turns one is in turn
pub data IsKind (n : Night) (r : Remaining) (parts : List Part) (drawn : ℕ) : Type 0 where
  wave : (place jobs : ℕ) (os : List (Option MaintFault)) → wave_in parts ≡ Some os → turn_of r ≡ In_wave place jobs drawn → IsKind n r parts drawn
  page : (place view : ℕ) (rows : Counted) (op : Op) → page_in parts ≡ Some op → turn_of r ≡ At_page place view rows → IsKind n r parts drawn
  over : parts ≡ [] → turn_of r ≡ Over → IsKind n r parts drawn

pub kind_here : (n : Night) (r : Remaining) (parts : List Part) (stop : Option MaintFault) (drawn done : ℕ) → AreLeft n r parts stop drawn done → IsKind n r parts drawn
kind_here n r [] stop drawn done g = over refl (end_turn_here n r [] stop drawn done g refl)
kind_here n r (part.Wave v ∷ parts) stop drawn done g =
    wave (wave_here n r (part.Wave v ∷ parts) stop drawn done g v.items refl).place (length v.items) v.items refl (wave_turn_here n r (part.Wave v ∷ parts) stop drawn done g v.items refl)
kind_here n r (part.Page op ∷ parts) stop drawn done g =
    let v = page_here n r (part.Page op ∷ parts) stop drawn done g op refl in
    page v.place v.view v.rows op refl (page_turn_here n r (part.Page op ∷ parts) stop drawn done g op refl)

-- ---- one deed more

module _ (n : Night) (r : Remaining) (parts : List Part) (stop : Option MaintFault) (drawn done : ℕ) (g : AreLeft n r parts stop drawn done) where
  pub drew : (os : List (Option MaintFault)) → wave_in parts ≡ Some os → drawn < length os → AreLeft n (after_draw r) parts stop (drawn + 1) done
  drew os w l =
      let v = wave_here n r parts stop drawn done g os w in
      record {
        from = g.from;
        legs = g.legs;
        is = ap after_draw g.is;
        within = subst (λ legs. IsWithin legs (drawn + 1) done) (sym v.is) (omega arith, v.some);
        some = g.some;
        are = g.are;
        over = g.over;
      }

  -- of the wave in turn
  waves : (os : List (Option MaintFault)) (w : wave_in parts ≡ Some os)
      → r ≡ of_legs drawn done (Wave (wave_here n r parts stop drawn done g os w).place (length os) ∷ (wave_here n r parts stop drawn done g os w).later)
  waves os w = g.is ∙ ap (of_legs drawn done) (wave_here n r parts stop drawn done g os w).is

  pub one_of_more : (os : List (Option MaintFault)) → wave_in parts ≡ Some os → done + 1 < length os → is_last r ≡ false
  one_of_more os w l =
      let v = wave_here n r parts stop drawn done g os w in
      ap is_last (waves os w) ∙ not_last_of v.place (length os) done v.later l

  pub ended_one : (os : List (Option MaintFault)) → wave_in parts ≡ Some os → done + 1 < length os → AreLeft n (after_done r) parts stop drawn (done + 1)
  ended_one os w l =
      let v = wave_here n r parts stop drawn done g os w in
      record {
        from = g.from;
        legs = g.legs;
        is = ap after_done (waves os w) ∙ on_the_list v.place (length os) drawn done v.later l ∙ ap (of_legs drawn (done + 1)) (sym v.is);
        within = subst (λ legs. IsWithin legs drawn (done + 1)) (sym v.is) (v.few, l);
        some = g.some;
        are = g.are;
        over = g.over;
      }

  -- when the wave is over
  pub last_of_all : (os : List (Option MaintFault)) → wave_in parts ≡ Some os → done + 1 ≡ length os → is_last r ≡ true
  last_of_all os w l =
      let v = wave_here n r parts stop drawn done g os w in
      ap is_last (waves os w) ∙ last_of v.place (length os) done v.later l

  after_wave : (os : List (Option MaintFault)) (w : wave_in parts ≡ Some os) → done + 1 ≡ length os → after_done r ≡ untouched (wave_here n r parts stop drawn done g os w).later
  after_wave os w l =
      let v = wave_here n r parts stop drawn done g os w in
      ap after_done (waves os w) ∙ off_the_list v.place (length os) drawn done v.later l

  later_jobs : (os : List (Option MaintFault)) (w : wave_in parts ≡ Some os) → HaveJobs (wave_here n r parts stop drawn done g os w).later
  later_jobs os w = (subst HaveJobs (wave_here n r parts stop drawn done g os w).is g.some).1

  pub wave_over : (os : List (Option MaintFault)) → wave_in parts ≡ Some os → done + 1 ≡ length os → list_all is_none os ≡ true → (drop 1 parts ≢ []) ⊎ (stop ≡ None) → AreLeft n (after_done r) (drop 1 parts) stop 0 0
  wave_over os w l all on =
      let v = wave_here n r parts stop drawn done g os w in
      record {
        from = v.place + length os;
        legs = v.later;
        is = after_wave os w l;
        within = fresh v.later (later_jobs os w);
        some = later_jobs os w;
        are = v.next all;
        over = λ none. ⊎_elim (λ no. absurd (no none)) (λ e. e) on;
      }

  pub reach_after_wave : (os : List (Option MaintFault)) (w : wave_in parts ≡ Some os) → done + 1 ≡ length os
      → carried_up_to n (turn_of (after_done r)) ≡ come_to (length n.list) (wave_here n r parts stop drawn done g os w).later
  reach_after_wave os w l = ap (λ left. carried_up_to n (turn_of left)) (after_wave os w l) ∙ reach_is n (wave_here n r parts stop drawn done g os w).later 0

  -- and when the page is put
  after_paged : (op : Op) (w : page_in parts ≡ Some op) → after_page r ≡ untouched (page_here n r parts stop drawn done g op w).later
  after_paged op w = ap after_page g.is ∙ ap (λ legs. untouched (drop 1 legs)) (page_here n r parts stop drawn done g op w).is

  page_jobs : (op : Op) (w : page_in parts ≡ Some op) → HaveJobs (page_here n r parts stop drawn done g op w).later
  page_jobs op w = subst HaveJobs (page_here n r parts stop drawn done g op w).is g.some

  pub page_over : (op : Op) → page_in parts ≡ Some op → (drop 1 parts ≢ []) ⊎ (stop ≡ None) → AreLeft n (after_page r) (drop 1 parts) stop 0 0
  page_over op w on =
      let v = page_here n r parts stop drawn done g op w in
      record {
        from = v.place + 1;
        legs = v.later;
        is = after_paged op w;
        within = fresh v.later (page_jobs op w);
        some = page_jobs op w;
        are = v.next;
        over = λ none. ⊎_elim (λ no. absurd (no none)) (λ e. e) on;
      }

  pub reach_after_page : (op : Op) (w : page_in parts ≡ Some op) → carried_up_to n (turn_of (after_page r)) ≡ come_to (length n.list) (page_here n r parts stop drawn done g op w).later
  reach_after_page op w = ap (λ left. carried_up_to n (turn_of left)) (after_paged op w) ∙ reach_is n (page_here n r parts stop drawn done g op w).later 0

-- ---- the last job of a wave

-- what is passed is not refused
conflict : (n : Night) (q : ℕ) (fault : MaintFault) → IsPassedAt n q → IsFaultAt n q fault → ⊥
conflict n q fault h f = f.refused.first.stands (h f.expression f.there f.refused.reason f.refused.first.asked)

all_none : (os : List (Option MaintFault)) → ((j : ℕ) (o : Option MaintFault) → slice_get os j ≡ Some o → o ≡ None) → list_all is_none os ≡ true
all_none [] h = refl
all_none (o ∷ os) h = (λ i. is_none (h 0 o refl i) && list_all is_none os) ∙ all_none os (λ j x e. h (suc j) x e)

outcome_none : (n : Night) (q : ℕ) (o : Option MaintFault) → IsPassedAt n q → IsOutcome n q o → o ≡ None
outcome_none n q None h f = refl
outcome_none n q (Some fault) h f = absurd (conflict n q fault h f)

-- the jobs of the wave in turn that are done, and the one that a worker holds
pub record AreLast (n : Night) (place jobs job : ℕ) : Type 0 where
  pub passed : (j : ℕ) → j < jobs → (j ≡ job) ⊎ IsPassedAt n (place + j)

-- a job that is held is one of the wave
pub held_within : (s : Setup) (log : Log) (w job place jobs drawn : ℕ) → IsLegalLog s log → is_open log ≡ true → holding log w ≡ Some job → turn s log ≡ In_wave place jobs drawn → job < drawn
held_within s log w job place jobs drawn legal o h t =
    let a = underway s log (deeds_of s log legal) o in
    let v = wave_legs a.rest a.drawn place jobs drawn (sym (now _ _ _ _ _ _ _ _ a) ∙ t) in
    subst (λ k. job < k) v.2 (a.held w job h).0

pub last_done : (s : Setup) (log : Log) (parts : List Part) (stop : Option MaintFault) (drawn done w job : ℕ) (os : List (Option MaintFault)) → IsLegalLog s log → is_open log ≡ true
    → (g : AreLeft (night s log) (remaining s log) parts stop drawn done) (first : wave_in parts ≡ Some os) → holding log w ≡ Some job → done + 1 ≡ length os
    → AreLast (night s log) (wave_here (night s log) (remaining s log) parts stop drawn done g os first).place (length os) job
unfolding Distinct
last_done s log parts stop drawn done w job os legal o g first h l =
    let n : Night = night s log in
    let a = underway s log (deeds_of s log legal) o in
    let here = wave_here n (remaining s log) parts stop drawn done g os first in
    let jobs : ℕ = length os in
    let same : of_legs a.drawn a.ended a.rest ≡ of_legs drawn done g.legs = sym a.is ∙ g.is in
    let rest : a.rest ≡ Wave here.place jobs ∷ here.later = ap (λ (r : Remaining). r.legs) same ∙ here.is in
    let each : a.ended ≡ done = ap (λ (r : Remaining). r.done) same in
    let inside : (a.drawn ≤ jobs) × (a.ended < jobs) = subst (λ legs. IsWithin legs a.drawn a.ended) rest a.within in
    let held = a.held w job h in
    let apart : Distinct (job ∷ a.done) = (held.1, a.distinct) in
    let low : (q : ℕ) → has (job ∷ a.done) q ≡ true → q < a.drawn = λ q m. ⊎_elim (λ e. subst (λ k. k < a.drawn) e held.0) (a.below q) (head_or job q a.done m) in
    let count : length (job ∷ a.done) ≡ jobs = let f = a.each in omega (arith, f, each, l) in
    record {
      passed = λ j m. ⊎_elim (λ e. inl (sym e)) (λ e. inr (subst (λ legs. IsPassedAt n (wave_place legs + j)) rest (a.jobs_pass j e)))
          (head_or job j a.done (all_below (job ∷ a.done) jobs j apart (λ q m. let k = low q m in let f = inside.0 in omega arith) count m));
    }

-- where the last job is not refused, none is
pub all_are_passed : (n : Night) (place job : ℕ) (os : List (Option MaintFault)) → ((j : ℕ) (o : Option MaintFault) → slice_get os j ≡ Some o → IsOutcome n (place + j) o)
    → slice_get os job ≡ Some None → AreLast n place (length os) job → list_all is_none os ≡ true
all_are_passed n place job os outcomes own last =
    all_none os (λ j o e. ⊎_elim
    (λ same. same_Some o None (sym e ∙ ap (slice_get os) same ∙ own))
    (λ passed. outcome_none n (place + j) o passed (outcomes j o e))
    (last.passed j (slice_get_within os j o e)))
