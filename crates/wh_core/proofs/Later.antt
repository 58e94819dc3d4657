-- Nights that are given later: what was done before stays legal.
use Rattle.std.proofs.Common.{◌≡◌, refl, sym, ap, subst, ◌∙◌, ℕ, zero, suc, ◌+◌, ◌<◌, ◌≤◌, ◌^◌, List, [], ◌∷◌, ◌++◌, length, arith, Bool, true, false, not, Some, ⊎_elim}
use Rattle.std.specs.Prelude.{◌==◌, if◌then◌else◌, is_some, nat_le, slice_get}
use Rattle.std.proofs.lemmas.Bool.{cases_lt}
use Rattle.std.proofs.lemmas.List.{get_or_append_left, length-append}
use Rattle.wh_maint.specs.Comp.{bag_at}
use Rattle.wh_store.specs.Operations.{Operation, Opens, Commits, Gives_up}
use Rattle.wh_store.specs.Pages.{Contents}
use Rattle.wh_store.specs.Versions.{Versions, number, versions_of}
use Rattle.wh_carry.specs.Night.{Night, places_from}
use Rattle.wh_carry.specs.Legs.{after_done, after_page, carried_up_to, is_last, legs_of, turn_of, untouched}
use Rattle.wh_core.specs.declared.event.Event.{Event}
use Rattle.wh_core.specs.declared.event.Event.TheVariants.{Begin, Take, Done, PageIn, Commit, GiveUp, Open, Read, Close}
use Rattle.wh_core.specs.declared.reply.Cause.TheVariants as cause
use Rattle.wh_core.specs.declared.reply.Reply.{Reply}
use Rattle.wh_core.specs.declared.reply.Reply.TheVariants as reply
use Rattle.wh_core.specs.Log.{Log, Began, Paged_in, Committed, Gave_up, holding, is_open, last_begun, logged, nights_begun, session}
use Rattle.wh_core.specs.Nights.{GivenNight, Setup, last_night, next_night, night, night_from, page_in_turn, published, remaining_in, turn_in, versions, with_nights}
use Rattle.wh_core.specs.Replies.{IsLegalLog, IsReply, IsRuled, IsRunFrom, Ruling, Says, Starts, nothing, more, unless, commit_ruling, done_by, page_ruling, read_ruling, ruling, take_ruling}
use Rattle.wh_core.specs.Laws.{IsGivenNight, IsSetup, log_after}
use Rattle.wh_core.specs.Later.{GoesOn, NightsComeLater, RunGoesOn, RunsGoOn, events_found, finds_none, replies_found}
use Rattle.wh_core.proofs.Deeds.{AreDeeds, deeds_of, none, one_more}
use Rattle.wh_core.proofs.Steps.{le_false, le_true}

-- ---- rulings

-- what is refused outside of nights need be the same in one alone
in_a_night : (b : Bool) (x y : Ruling) → (b ≡ true → x ≡ y) → unless (not b) cause.NoNight x ≡ unless (not b) cause.NoNight y
in_a_night true x y e = e refl
in_a_night false x y e = refl

-- a Begin that is refused while a night is open is refused so whatever comes after
outside_nights : (b : Bool) (x y : Ruling) (r : Reply) → IsRuled (unless b cause.NightOpen x) r → (b ≡ false → IsRuled x r → ⊥) → IsRuled (unless b cause.NightOpen y) r
outside_nights true x y r h never = h
outside_nights false x y r h never = absurd (never refl h)

-- how a Begin is ruled where a night is left
abbrev begin_ruling : Night → Versions → Ruling
begin_ruling n v =
    unless (number v + 1 == 2 ^ 64) cause.LastVersion
    (Starts n (places_from 0 (carried_up_to n (turn_of (untouched (legs_of n))))) reply.Begun)

finds-log : (log : Log) (event : Event) (r : Reply) → finds_none event r ≡ true → logged log event r ≡ log
finds-log log Begin (reply.Refused cause.NoNight) e = refl
finds-log log event r e = cc

-- ---- the nights that were given before

module _ (s : Setup) (later : List GivenNight) where
  same_from : (contents : Contents) (n : ℕ) → n < length s.nights → night_from (with_nights s later) contents n ≡ night_from s contents n
  same_from contents n l =
      ap (λ (g : GivenNight). record { catalog = s.catalog; list = g.list; tables = bag_at contents; changes = bag_at g.changes; keys = s.keys })
      (get_or_append_left s.nights later (record { changes = []; list = [] }) n l)

  -- the night that began last was given before
  given_before : (log : Log) → AreDeeds s log → is_open log ≡ true → last_begun log < length s.nights
  given_before _ none e = cc
  given_before _ (one_more log Began deeds is) e = is.1
  given_before _ (one_more log Committed deeds is) e = cc
  given_before _ (one_more log Gave_up deeds is) e = cc
  given_before _ (one_more log d deeds is) e = given_before log deeds e

  same_last : (log : Log) (ops others : List Operation) → last_begun log < length s.nights → ops ≡ others → last_night (with_nights s later) log ops ≡ last_night s log others
  same_last log ops others l e = same_from (versions_of s.opening ops).newest (last_begun log) l ∙ ap (last_night s log) e

  same_list : (log : Log) → AreDeeds s log → published (with_nights s later) log ≡ published s log
  unfolding published
  same_list _ none = refl
  same_list _ (one_more log Began deeds is) = ap (λ ops. ops ++ Opens ∷ []) (same_list log deeds)
  same_list _ (one_more log Paged_in deeds is) =
      let e = same_list log deeds in
      let n = same_last log (published (with_nights s later) log) (published s log) (given_before log deeds is.0) e in
      λ i. e i ++ page_in_turn (turn_in (n i) log)
  same_list _ (one_more log Committed deeds is) = ap (λ ops. ops ++ Commits ∷ []) (same_list log deeds)
  same_list _ (one_more log Gave_up deeds is) = ap (λ ops. ops ++ Gives_up ∷ []) (same_list log deeds)
  same_list _ (one_more log d deeds is) = same_list log deeds

  module _ (log : Log) (deeds : AreDeeds s log) where
    same_versions : versions (with_nights s later) log ≡ versions s log
    same_versions = ap (versions_of s.opening) (same_list log deeds)

    same_night : is_open log ≡ true → night (with_nights s later) log ≡ night s log
    same_night o = same_last log (published (with_nights s later) log) (published s log) (given_before log deeds o) (same_list log deeds)

    same_next : nights_begun log < length s.nights → next_night (with_nights s later) log ≡ next_night s log
    same_next l = same_from (versions (with_nights s later) log).newest (nights_begun log) l ∙ ap (λ (v : Versions). night_from s v.newest (nights_begun log)) same_versions

    begins : (r : Reply) → nights_begun log < length s.nights → IsReply s log Begin r → IsReply (with_nights s later) log Begin r
    begins r l h =
        let more_nights : nights_begun log < length (s.nights ++ later) = let e = length-append s.nights later in omega (arith, l, e) in
        let left : nat_le (length s.nights) (nights_begun log) ≡ nat_le (length (s.nights ++ later)) (nights_begun log) =
        le_false (length s.nights) (nights_begun log) l ∙ sym (le_false (length (s.nights ++ later)) (nights_begun log) more_nights) in
        let same : ruling s log Begin ≡ ruling (with_nights s later) log Begin =
        λ i. unless (is_open log) cause.NightOpen (unless (left i) cause.NoNight (begin_ruling (sym (same_next l) i) (sym same_versions i))) in
        subst (λ rule. IsRuled rule r) same h

    -- none was left, and it was not refused for that: so one was open
    refused_before : (r : Reply) → length s.nights ≤ nights_begun log → IsReply s log Begin r → finds_none Begin r ≡ false → IsReply (with_nights s later) log Begin r
    refused_before r l h e =
        let none_left : ruling s log Begin ≡ unless (is_open log) cause.NightOpen (Says (reply.Refused cause.NoNight)) =
        λ i. unless (is_open log) cause.NightOpen (unless (le_true (length s.nights) (nights_begun log) l i) cause.NoNight (begin_ruling (next_night s log) (versions s log))) in
        outside_nights (is_open log) _ _ r (subst (λ rule. IsRuled rule r) none_left h) (λ closed is. let f : finds_none Begin r ≡ true = ap (finds_none Begin) is in cc)

    same_reply : (event : Event) (r : Reply) → IsReply s log event r → finds_none event r ≡ false → IsReply (with_nights s later) log event r
    same_reply Begin r h e = ⊎_elim (λ l. begins r l h) (λ l. refused_before r l h e) (cases_lt (nights_begun log) (length s.nights))
    same_reply (Take w) r h e =
        let same : ruling s log (Take w) ≡ ruling (with_nights s later) log (Take w) = ap (unless (nat_le s.workers w) cause.NoWorker)
        (in_a_night (is_open log) _ _ (λ o. ap (λ n. unless (is_some (holding log w)) cause.Busy (take_ruling (turn_in n log))) (sym (same_night o)))) in
        subst (λ rule. IsRuled rule r) same h
    same_reply (Done w) r h e =
        let same : ruling s log (Done w) ≡ ruling (with_nights s later) log (Done w) = ap (unless (nat_le s.workers w) cause.NoWorker)
        (in_a_night (is_open log) _ _
        (λ o. ap (λ n. done_by n (turn_in n log) (is_last (remaining_in n log)) (turn_of (after_done (remaining_in n log))) (holding log w)) (sym (same_night o)))) in
        subst (λ rule. IsRuled rule r) same h
    same_reply PageIn r h e =
        let same : ruling s log PageIn ≡ ruling (with_nights s later) log PageIn =
        in_a_night (is_open log) _ _ (λ o. ap (λ n. page_ruling n (turn_in n log) (turn_of (after_page (remaining_in n log)))) (sym (same_night o))) in
        subst (λ rule. IsRuled rule r) same h
    same_reply Commit r h e =
        let same : ruling s log Commit ≡ ruling (with_nights s later) log Commit =
        in_a_night (is_open log) _ _ (λ o i. commit_ruling (number (sym same_versions i) + 1) (turn_in (sym (same_night o) i) log)) in
        subst (λ rule. IsRuled rule r) same h
    same_reply GiveUp r h e =
        subst (λ v. IsRuled (unless (not (is_open log)) cause.NoNight (Says (reply.Version (number v + 1)))) r) (sym same_versions) h
    same_reply (Open d) r h e =
        subst (λ v. IsRuled (unless (nat_le s.desks d) cause.NoDesk (unless (is_some (session log d)) cause.SessionOpen (Says (reply.Session (number v))))) r) (sym same_versions) h
    same_reply (Read d view limit) r h e =
        subst (λ v. IsRuled (unless (nat_le s.desks d) cause.NoDesk (read_ruling s.versions v view limit (session log d))) r) (sym same_versions) h
    same_reply (Close d) r h e = h

  stays_legal : (log : Log) → IsLegalLog s log → IsLegalLog (with_nights s later) log
  stays_legal _ nothing = nothing
  stays_legal _ (more log event r before h) = elim (finds_none event r) as (λ b. finds_none event r ≡ b → IsLegalLog (with_nights s later) (logged log event r)) [
    | true ↦ λ e. subst (IsLegalLog (with_nights s later)) (sym (finds-log log event r e)) (stays_legal log before)
    | false ↦ λ e. more log event r (stays_legal log before) (same_reply log (deeds_of s log before) event r h e)
  ] refl

  pub goes_on : (log : Log) → IsLegalLog s log → GoesOn s log later
  goes_on log legal = record {
    legal = stays_legal log legal;
    same_list = same_list log (deeds_of s log legal);
    same_night = same_night log (deeds_of s log legal);
    replies = same_reply log (deeds_of s log legal);
  }

  -- ---- runs

  module _ (log : Log) (event : Event) (events : List Event) (r : Reply) (replies : List Reply) (rest : RunGoesOn s (logged log event r) events replies later) where
    left_out : finds_none event r ≡ true → RunGoesOn s log (event ∷ events) (r ∷ replies) later
    left_out e =
        let es : events_found (event ∷ events) (r ∷ replies) ≡ events_found events replies = λ i. if e i then events_found events replies else event ∷ events_found events replies in
        let rs : replies_found (event ∷ events) (r ∷ replies) ≡ replies_found events replies = λ i. if e i then replies_found events replies else r ∷ replies_found events replies in
        let l : logged log event r ≡ log = finds-log log event r e in
        record {
          same_log = (λ i. log_after (sym l i) (es i) (rs i)) ∙ rest.same_log;
          run = λ following said h.
              subst (λ all. IsRunFrom (with_nights s later) log (all ++ following) (replies_found (event ∷ events) (r ∷ replies) ++ said)) (sym es)
              (subst (λ all. IsRunFrom (with_nights s later) log (events_found events replies ++ following) (all ++ said)) (sym rs)
              (subst (λ before. IsRunFrom (with_nights s later) before (events_found events replies ++ following) (replies_found events replies ++ said)) l (rest.run following said h)));
        }

    kept : IsReply (with_nights s later) log event r → finds_none event r ≡ false → RunGoesOn s log (event ∷ events) (r ∷ replies) later
    unfolding IsRunFrom
    kept is e =
        let es : events_found (event ∷ events) (r ∷ replies) ≡ event ∷ events_found events replies = λ i. if e i then events_found events replies else event ∷ events_found events replies in
        let rs : replies_found (event ∷ events) (r ∷ replies) ≡ r ∷ replies_found events replies = λ i. if e i then replies_found events replies else r ∷ replies_found events replies in
        record {
          same_log = (λ i. log_after log (es i) (rs i)) ∙ rest.same_log;
          run = λ following said h.
              subst (λ all. IsRunFrom (with_nights s later) log (all ++ following) (replies_found (event ∷ events) (r ∷ replies) ++ said)) (sym es)
              (subst (λ all. IsRunFrom (with_nights s later) log (event ∷ (events_found events replies ++ following)) (all ++ said)) (sym rs) (is, rest.run following said h));
        }

  pub run_goes_on : (log : Log) (events : List Event) (replies : List Reply) → IsLegalLog s log → IsRunFrom s log events replies → RunGoesOn s log events replies later
  unfolding IsRunFrom
  run_goes_on log [] [] legal run = record { same_log = refl; run = λ following said h. h }
  run_goes_on log (event ∷ events) (r ∷ replies) legal run =
      let rest = run_goes_on (logged log event r) events replies (more log event r legal run.0) run.1 in
      elim (finds_none event r) as (λ b. finds_none event r ≡ b → RunGoesOn s log (event ∷ events) (r ∷ replies) later) [
        | true ↦ λ e. left_out log event events r replies rest e
        | false ↦ λ e. kept log event events r replies rest (same_reply log (deeds_of s log legal) event r run.0 e) e
      ] refl
  run_goes_on log [] (r ∷ replies) legal run = absurd run
  run_goes_on log (event ∷ events) [] legal run = absurd run

pub nights_come_later : NightsComeLater
nights_come_later s log later legal = goes_on s later log legal

pub runs_go_on : RunsGoOn
runs_go_on s log events replies later legal run = run_goes_on s later log events replies legal run

-- ---- what is given

pub all_of : {A : Type 0} (P : A → Type 0) (xs ys : List A) → ((n : ℕ) (x : A) → slice_get xs n ≡ Some x → P x) → ((n : ℕ) (y : A) → slice_get ys n ≡ Some y → P y)
    → (n : ℕ) (z : A) → slice_get (xs ++ ys) n ≡ Some z → P z
all_of P [] ys each other n z at = other n z at
all_of P (x ∷ xs) ys each other zero z at = each zero z at
all_of P (x ∷ xs) ys each other (suc n) z at = all_of P xs ys (λ k y e. each (suc k) y e) other n z at

pub still_setup : (s : Setup) (later : List GivenNight) → IsSetup s → ((n : ℕ) (given : GivenNight) → slice_get later n ≡ Some given → IsGivenNight s.catalog given) → IsSetup (with_nights s later)
still_setup s later is each = record {
  catalogue = is.catalogue;
  opening = is.opening;
  tables = is.tables;
  nights = all_of (IsGivenNight s.catalog) s.nights later is.nights each;
  some_desks = is.some_desks;
  few_desks = is.few_desks;
  some_workers = is.some_workers;
  few_workers = is.few_workers;
  some_keys = is.some_keys;
  few_keys = is.few_keys;
  versions = is.versions;
  few_versions = is.few_versions;
}
