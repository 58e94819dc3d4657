-- The published list is made of nights.
use Rattle.std.proofs.Common.{◌≡◌, refl, sym, ap, ◌∙◌, subst, ℕ, zero, suc, ◌+◌, ◌-◌, ◌<◌, ◌≤◌, List, [], ◌∷◌, ◌++◌, length, Bool, true, false, arith, cond, Option}
use mathlib.Core.Logic.{◌⊎◌, inl, inr}
use Rattle.std.specs.Prelude.{take}
use Rattle.std.specs.List.{flat_map}
use Rattle.std.proofs.lemmas.Bool.{false≢true}
use Rattle.std.proofs.lemmas.List.{append-nil, append_assoc, length-append}
use Rattle.wh_maint.specs.Definition.{graph_of}
use Rattle.wh_strategy.specs.declared.expression.Expression.{Expression}
use Rattle.wh_strategy.specs.Expression.{At}
use Rattle.wh_store.specs.Operations.{Operation, Opens, Writes, Commits, Gives_up}
use Rattle.wh_store.specs.Versions.{versions_of}
use Rattle.wh_carry.specs.Carry.{at_first}
use Rattle.wh_carry.specs.Laws.{PassedHaveValues}
use Rattle.wh_carry.specs.NightList.{IsBeginning, IsCutNight, IsNightList, night_below, puts_of, whole}
use Rattle.wh_carry.specs.Refused.{ArePassedBelow, HaveValuesBelow}
use Rattle.wh_carry.specs.Waves.{expressions_of, stages_of}
use Rattle.wh_carry.specs.Night.{HasEnded, Night}
use Rattle.wh_carry.specs.Legs.{Leg, Wave, Page, Remaining, Turn, In_wave, At_page, Over, turn_of}
use Rattle.wh_core.specs.Laws.{AreNights, IsMadeOfNights, PublishedAreNights, none as no_night, one_more as night_more}
use Rattle.wh_core.specs.Log.{Deed, Log, Began, Drew, Finished, Paged_in, Committed, Gave_up, Sat_down, Turned, Left, last_begun, nights_begun, nights_ended, is_open, pages, holding}
use Rattle.wh_core.specs.Nights.{Setup, night, night_from, published, remaining, turn}
use Rattle.wh_core.proofs.Deeds.{AreDeeds, IsDeed, deeds_of, none, one_more}
use Rattle.wh_core.proofs.Puts.{IsFront, front_of}
use Rattle.wh_core.proofs.Stages.{stages_join}
use Rattle.wh_core.specs.Standing.{IsWithin}
use Rattle.wh_core.proofs.Underway.{IsAt, Underway, come_to, night-began, night-paged, now, ops_of, over_legs, reach_is, start_of, underway}

take-length : {A : Type 0} (xs ys : List A) → take (length xs) (xs ++ ys) ≡ xs
take-length [] ys = refl
take-length (x ∷ xs) ys = ap (λ l. x ∷ l) (take-length xs ys)

take-all : {A : Type 0} (xs : List A) → take (length xs) xs ≡ xs
take-all xs = ap (take (length xs)) (sym (append-nil xs)) ∙ take-length xs []

no_rest : {A : Type 0} (xs ys : List A) → length (xs ++ ys) ≡ length xs → ys ≡ []
no_rest xs [] e = refl
no_rest xs (y ∷ ys) e = let l = length-append xs (y ∷ ys) in absurd (omega (arith, e, l))

module _ (have : PassedHaveValues) (n : Night) (start ops : List Operation) (r : Remaining) (p : ℕ) (hold : ℕ → Option ℕ) (us vs : List ℕ) (a : IsAt n start ops r p hold us vs) where
  front : IsFront (graph_of n.catalog) n.changes n.keys 0 (at_first n.tables) n.list a.over a.rest
  front = subst (λ l. IsFront (graph_of n.catalog) n.changes n.keys 0 (at_first n.tables) l a.over a.rest) (stages_join [] n.list)
      (front_of (graph_of n.catalog) n.changes n.keys 0 (at_first n.tables) (stages_of n.list) a.over a.rest a.split)

  came : length front.front ≡ come_to (length n.list) a.rest
  came = (let z : length front.front ≡ 0 + length front.front = omega arith in z) ∙ front.reached ∙ (let z : 0 + length n.list ≡ length n.list = omega arith in ap (λ k. come_to k a.rest) z)

  values : HaveValuesBelow n.catalog n.list n.tables n.changes (length front.front)
  values q x l at = have n.catalog n.changes _ x (a.passes q (subst (λ k. q < k) (came ∙ sym (reach_is n a.rest a.drawn)) l) x at)

  below_front : night_below (graph_of n.catalog) n.changes n.keys n.list n.tables (length front.front) ≡ Opens ∷ ops_of a.over ++ front.more
  below_front = ap (λ l. Opens ∷ puts_of (graph_of n.catalog) n.changes n.keys l (at_first n.tables)) (ap (take (length front.front)) front.split ∙ take-length front.front front.back) ∙ ap (λ l. Opens ∷ l) front.puts

  pub beginning : IsBeginning n.catalog n.list n.tables n.changes n.keys (Opens ∷ ops_of a.over)
  beginning = record {
    place = length front.front;
    within = let l = length-append front.front front.back in let same = ap length front.split in omega (arith, l, same);
    values = values;
    rest = front.more;
    begins = below_front;
  }

  -- where nothing more is in turn, it is the whole list
  pub ended : turn_of r ≡ Over → IsNightList n.catalog n.list n.tables n.changes n.keys (Opens ∷ ops_of a.over ++ Commits ∷ [])
  ended is =
      let nothing : a.rest ≡ [] = over_legs a.rest a.drawn (sym (now n start ops r p hold us vs a) ∙ is) in
      let all : length front.front ≡ length n.list = came ∙ ap (come_to (length n.list)) nothing in
      let same : night_below (graph_of n.catalog) n.changes n.keys n.list n.tables (length n.list) ≡ Opens ∷ ops_of a.over =
      ap (night_below (graph_of n.catalog) n.changes n.keys n.list n.tables) (sym all) ∙ below_front ∙ ap (λ m. Opens ∷ ops_of a.over ++ m) (front.exact nothing) ∙ append-nil (Opens ∷ ops_of a.over) in
      subst (IsNightList n.catalog n.list n.tables n.changes n.keys) (ap (λ l. l ++ Commits ∷ []) same)
      (whole (subst (HaveValuesBelow n.catalog n.list n.tables n.changes) all values))

  -- and all expressions are passed, and all that the list publishes is published
  pub whole_puts : turn_of r ≡ Over → ArePassedBelow n.catalog n.list n.tables n.changes (length n.list) × (puts_of (graph_of n.catalog) n.changes n.keys n.list (at_first n.tables) ≡ ops_of a.over)
  whole_puts is =
      let nothing : a.rest ≡ [] = over_legs a.rest a.drawn (sym (now n start ops r p hold us vs a) ∙ is) in
      let all : length front.front ≡ length n.list = came ∙ ap (come_to (length n.list)) nothing in
      let split = front.split in
      let back : front.back ≡ [] = no_rest front.front front.back (sym (ap length split) ∙ sym all) in
      let same : n.list ≡ front.front = split ∙ ap (λ l. front.front ++ l) back ∙ append-nil front.front in (
        λ q x l at. a.passes q (subst (λ k. q < k) (sym all ∙ came ∙ sym (reach_is n a.rest a.drawn)) l) x at,
        ap (λ l. puts_of (graph_of n.catalog) n.changes n.keys l (at_first n.tables)) same ∙ front.puts ∙ ap (λ m. ops_of a.over ++ m) (front.exact nothing) ∙ append-nil (ops_of a.over),
      )

-- ---- the log

-- the night that began last is the last of those that began
pub last_is : (s : Setup) (log : Log) → AreDeeds s log → is_open log ≡ true → last_begun log + 1 ≡ nights_begun log
last_is s _ none e = cc
last_is s _ (one_more log Began before deed) e = refl
last_is s _ (one_more log (Drew w k) before deed) e = last_is s log before e
last_is s _ (one_more log (Finished w) before deed) e = last_is s log before e
last_is s _ (one_more log Paged_in before deed) e = last_is s log before e
last_is s _ (one_more log Committed before deed) e = absurd (false≢true e)
last_is s _ (one_more log Gave_up before deed) e = absurd (false≢true e)
last_is s _ (one_more log (Sat_down d v) before deed) e = last_is s log before e
last_is s _ (one_more log (Turned d v page) before deed) e = last_is s log before e
last_is s _ (one_more log (Left d) before deed) e = last_is s log before e

-- a night ends before the next begins
pub record AreInOrder (log : Log) : Type 0 where
  pub within : is_open log ≡ true → nights_begun log ≡ nights_ended log + 1
  pub outside : is_open log ≡ false → nights_begun log ≡ nights_ended log

pub in_order : (s : Setup) (log : Log) → AreDeeds s log → AreInOrder log
in_order s _ none = record { within = λ t. absurd (false≢true t); outside = λ t. refl }
in_order s _ (one_more log Began before deed) = record {
  within = λ t. ap (λ k. k + 1) ((in_order s log before).outside deed.0);
  outside = λ t. absurd (false≢true (sym t));
}
in_order s _ (one_more log Committed before deed) = record { within = λ t. absurd (false≢true t); outside = λ t. (in_order s log before).within deed.0 }
in_order s _ (one_more log Gave_up before deed) = record { within = λ t. absurd (false≢true t); outside = λ t. (in_order s log before).within deed }
in_order s _ (one_more log Paged_in before deed) = let r = in_order s log before in record { within = r.within; outside = r.outside }
in_order s _ (one_more log (Drew w n) before deed) = let r = in_order s log before in record { within = r.within; outside = r.outside }
in_order s _ (one_more log (Finished w) before deed) = let r = in_order s log before in record { within = r.within; outside = r.outside }
in_order s _ (one_more log (Sat_down d v) before deed) = let r = in_order s log before in record { within = r.within; outside = r.outside }
in_order s _ (one_more log (Turned d v page) before deed) = let r = in_order s log before in record { within = r.within; outside = r.outside }
in_order s _ (one_more log (Left d) before deed) = let r = in_order s log before in record { within = r.within; outside = r.outside }

-- no more nights begin than were given
pub within : (s : Setup) (log : Log) → AreDeeds s log → nights_begun log ≤ length s.nights
within s _ none = omega arith
within s _ (one_more log Began before deed) = let l = deed.1 in omega (arith, l)
within s _ (one_more log (Drew w k) before deed) = within s log before
within s _ (one_more log (Finished w) before deed) = within s log before
within s _ (one_more log Paged_in before deed) = within s log before
within s _ (one_more log Committed before deed) = within s log before
within s _ (one_more log Gave_up before deed) = within s log before
within s _ (one_more log (Sat_down d v) before deed) = within s log before
within s _ (one_more log (Turned d v page) before deed) = within s log before
within s _ (one_more log (Left d) before deed) = within s log before

-- the night is still the one from the contents that were the newest when it began
pub night-start : (s : Setup) (log : Log) → AreDeeds s log → is_open log ≡ true → night s log ≡ night_from s (versions_of s.opening (start_of s log)).newest (last_begun log)
unfolding published
night-start s _ none e = cc
night-start s _ (one_more log Began before deed) e = night-began s log
night-start s _ (one_more log (Drew w k) before deed) e = night-start s log before e
night-start s _ (one_more log (Finished w) before deed) e = night-start s log before e
night-start s _ (one_more log Paged_in before deed) e = night-paged s log ∙ night-start s log before e
night-start s _ (one_more log Committed before deed) e = absurd (false≢true e)
night-start s _ (one_more log Gave_up before deed) e = absurd (false≢true e)
night-start s _ (one_more log (Sat_down d v) before deed) e = night-start s log before e
night-start s _ (one_more log (Turned d v page) before deed) e = night-start s log before e
night-start s _ (one_more log (Left d) before deed) e = night-start s log before e

ended_of : Setup → Log → List Operation
ended_of s log = cond (is_open log) (start_of s log) (published s log)

module _ (have : PassedHaveValues) (s : Setup) where
  -- one night more, which has ended so
  one_night : (log : Log) → AreDeeds s log → is_open log ≡ true → (last : Operation) → ((a : Underway s log) → HasEnded (night s log) (Opens ∷ ops_of a.over ++ last ∷ [])) → AreNights s (nights_ended log) (start_of s log)
      → AreNights s (nights_ended log + 1) (published s log ++ last ∷ [])
  one_night log before opened last is_ended earlier =
      let a = underway s log before opened in
      let own = last_is s log before opened in
      let order = (in_order s log before).within opened in
      let number : last_begun log ≡ nights_ended log = omega (arith, own, order) in
      let ops : List Operation = Opens ∷ ops_of a.over ++ last ∷ [] in
      let same : start_of s log ++ ops ≡ published s log ++ last ∷ [] =
      sym (append_assoc (start_of s log) (Opens ∷ ops_of a.over) (last ∷ [])) ∙ ap (λ l. l ++ last ∷ []) (sym a.whole) in
      subst (AreNights s (nights_ended log + 1)) same
      (night_more (nights_ended log) (start_of s log) ops earlier
      (subst (λ k. HasEnded (night_from s (versions_of s.opening (start_of s log)).newest k) ops) number
      (subst (λ m. HasEnded m ops) (night-start s log before opened) (is_ended a))))

  of_open : (log : Log) → AreNights s (nights_ended log) (ended_of s log) → is_open log ≡ true → AreNights s (nights_ended log) (start_of s log)
  unfolding ended_of
  of_open log r e = subst (λ b. AreNights s (nights_ended log) (cond b (start_of s log) (published s log))) e r

  of_closed : (log : Log) → AreNights s (nights_ended log) (ended_of s log) → is_open log ≡ false → AreNights s (nights_ended log) (published s log)
  unfolding ended_of
  of_closed log r e = subst (λ b. AreNights s (nights_ended log) (cond b (start_of s log) (published s log))) e r

  nights : (log : Log) → AreDeeds s log → AreNights s (nights_ended log) (ended_of s log)
  unfolding ended_of published
  nights _ none = no_night
  nights _ (one_more log Began before deed) = of_closed log (nights log before) deed.0
  nights _ (one_more log (Drew w k) before deed) = nights log before
  nights _ (one_more log (Finished w) before deed) = nights log before
  nights _ (one_more log Paged_in before deed) =
      subst (λ b. AreNights s (nights_ended log) (cond b (start_of s log) (published s (Paged_in ∷ log)))) (sym deed.0) (of_open log (nights log before) deed.0)
  nights _ (one_more log Committed before deed) =
      one_night log before deed.0 Commits
      (λ a. inl (
        (whole_puts have (night s log) (start_of s log) (published s log) (remaining s log) (pages log) (holding log) _ _ a deed.1).0,
        record { puts = Opens ∷ ops_of a.over; night_list = ended have (night s log) (start_of s log) (published s log) (remaining s log) (pages log) (holding log) _ _ a deed.1; commits = refl },
      ))
      (of_open log (nights log before) deed.0)
  nights _ (one_more log Gave_up before deed) =
      one_night log before deed Gives_up
      (λ a. inr (record { puts = ops_of a.over; beginning = beginning have (night s log) (start_of s log) (published s log) (remaining s log) (pages log) (holding log) _ _ a; cut = refl }))
      (of_open log (nights log before) deed)
  nights _ (one_more log (Sat_down d v) before deed) = nights log before
  nights _ (one_more log (Turned d v page) before deed) = nights log before
  nights _ (one_more log (Left d) before deed) = nights log before

pub are_nights : PassedHaveValues → PublishedAreNights
unfolding ended_of
are_nights have s log setup legal =
    let deeds = deeds_of s log legal in
    let r = nights have s log deeds in
    elim (is_open log) as (λ b. is_open log ≡ b → IsMadeOfNights s log) [
      | true ↦ λ opened.
          let a = underway s log deeds opened in
          record {
            ended = start_of s log;
            begun = Opens ∷ ops_of a.over;
            whole = a.whole;
            nights = of_open have s log r opened;
            closed = λ t. absurd (false≢true (sym t ∙ opened));
            open_night = λ t. (beginning have (night s log) (start_of s log) (published s log) (remaining s log) (pages log) (holding log) _ _ a, (let n = a.paged in omega (arith, n)));
            none_open = λ t. absurd (false≢true (sym t ∙ opened));
            one_open = λ t. let b = (in_order s log deeds).within opened in let l = last_is s log deeds opened in (b, omega (arith, b, l));
            given = within s log deeds;
          }
      | false ↦ λ shut. record {
        ended = published s log;
        begun = [];
        whole = sym (append-nil (published s log));
        nights = of_closed have s log r shut;
        closed = λ t. refl;
        open_night = λ t. absurd (false≢true (sym shut ∙ t));
        none_open = λ t. (in_order s log deeds).outside shut;
        one_open = λ t. absurd (false≢true (sym shut ∙ t));
        given = within s log deeds;
      }
    ] refl
