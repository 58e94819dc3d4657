-- What comes of a dialogue is one legal run.
use Rattle.std.proofs.Common.{◌≡◌, refl, sym, ap, subst, ◌∙◌, ℕ, true, false, List, [], ◌∷◌, ◌++◌}
use Rattle.std.proofs.lemmas.List.{append-nil, append_assoc}
use Rattle.wh_core.specs.Later.{finds_none}
use Rattle.wh_core.specs.Log.{Log, logged}
use Rattle.wh_core.specs.Nights.{Setup}
use Rattle.wh_core.specs.declared.event.Event.{Event}
use Rattle.wh_core.specs.declared.event.Event.TheVariants as event
use Rattle.wh_core.specs.declared.reply.Cause.{Cause}
use Rattle.wh_core.specs.declared.reply.Reply.{Reply}
use Rattle.wh_core.specs.declared.reply.Reply.TheVariants as reply
use Rattle.wh_dialogue.specs.Dialogue.{Dialogue, DialoguesAreLegalRuns, GoesOn, IsAnswered, IsCarried, Stops, a_night, a_page_asked, a_stranger, all_changes, all_tables, an_event, answers, at_first, changes_want_memory, is_ready, is_refused, no_night, one_more, opens, tables_want_memory, the_end}
use Rattle.wh_live.specs.Commands.{Command}
use Rattle.wh_live.specs.Requests.{is_asked}
use Rattle.wh_replies.specs.Events.{event_of}
use Rattle.wh_stay.specs.Lives.{Lives, LivesAreLegalRuns}
use Rattle.wh_stay.specs.Lives as lives
use Rattle.wh_stay.specs.Standing.{StandingOf}
use Rattle.wh_stay.specs.Told.{CarriesOn, IsNightTold, a_done, a_draw, a_page, has_begun}
use Rattle.wh_stay.specs.Told as told_how
use Rattle.wh_stay.specs.declared.told.NightTold.TheVariants as told
use Rattle.wh_text_lines.specs.declared.schedule.event.ScheduledEvent.{ScheduledEvent}
use Rattle.wh_text_lines.specs.declared.schedule.event.ScheduledEvent.TheVariants as scheduled

-- ---- events

asked_found : (n : ℕ) (e : ScheduledEvent) (r : Reply) → is_asked e ≡ true → finds_none (event_of n e) r ≡ false
asked_found n scheduled.Commit r is = refl
asked_found n scheduled.GiveUp r is = refl
asked_found n (scheduled.Open desk) r is = refl
asked_found n (scheduled.Read desk view limit) r is = refl
asked_found n (scheduled.Close desk) r is = refl
asked_found n e r is = cc

carrying_found : (s : Setup) (log : Log) (e : Event) (r : Reply) → CarriesOn s log e r → finds_none e r ≡ false
carrying_found s log _ _ (a_draw r busy none) = refl
carrying_found s log _ _ (a_done r busy) = refl
carrying_found s log _ _ (a_page r none ready) = refl

-- a refusal leaves the log as it is
pub refused_logged : (s : Setup) (log : Log) (e : Event) (r : Reply) (why : Cause) → CarriesOn s log e r → r ≡ reply.Refused why → logged log e r ≡ log
refused_logged s log _ _ why (a_draw r busy none) is = ap (logged log (event.Take 0)) is
refused_logged s log _ _ why (a_done r busy) is = ap (logged log (event.Done 0)) is
refused_logged s log _ _ why (a_page r none ready) is = ap (logged log event.PageIn) is

-- ---- what comes of a warehouse, and more

module _ (opening : Setup) where
  -- the same, with lists that are equal
  same_lists : (s : Setup) (log : Log) (es fs : List Event) (rs qs : List Reply) → es ≡ fs → rs ≡ qs → Lives opening s log es rs → Lives opening s log fs qs
  same_lists s log es fs rs qs e r h = subst (λ all. Lives opening s log all qs) e (subst (λ all. Lives opening s log es all) r h)

  nothing_more : (s : Setup) (log : Log) (events : List Event) (replies : List Reply) → Lives opening s log events replies → Lives opening s log (events ++ []) (replies ++ [])
  nothing_more s log events replies h = subst (λ es. Lives opening s log es (replies ++ [])) (sym (append-nil events)) (subst (λ rs. Lives opening s log events rs) (sym (append-nil replies)) h)

  went_on : (s : Setup) (begun log : Log) (events es : List Event) (replies rs : List Reply) → Lives opening s begun events replies → GoesOn s begun es rs log
      → Lives opening s log (events ++ es) (replies ++ rs)
  went_on s begun _ events _ replies _ h at_first = nothing_more s begun events replies h
  went_on s begun _ events _ replies _ h (one_more es rs log e r before carries is other) =
      let lived = lives.answers s log (events ++ es) (replies ++ rs) e r (went_on s begun log events es replies rs h before) is (carrying_found s log e r carries) in
      subst (λ all. Lives opening s (logged log e r) all (replies ++ (rs ++ r ∷ []))) (append_assoc events es (e ∷ []))
      (subst (λ all. Lives opening s (logged log e r) ((events ++ es) ++ e ∷ []) all) (append_assoc replies rs (r ∷ [])) lived)

  has_stopped : (s : Setup) (log : Log) (events es : List Event) (replies rs : List Reply) (text : List ℕ) → Lives opening s log events replies → Stops s log es rs text
      → Lives opening s log (events ++ es) (replies ++ rs)
  has_stopped s log events _ replies _ _ h (is_ready ready) = nothing_more s log events replies h
  has_stopped s log events _ replies _ _ h (is_refused e why carries is) =
      subst (λ l. Lives opening s l (events ++ e ∷ []) (replies ++ reply.Refused why ∷ [])) (refused_logged s log e (reply.Refused why) why carries refl)
      (lives.answers s log events replies e (reply.Refused why) h is (carrying_found s log e (reply.Refused why) carries))

  was_carried : (s : Setup) (begun log : Log) (events es : List Event) (replies rs : List Reply) (text : List ℕ) → Lives opening s begun events replies
      → IsCarried s begun es rs text log → Lives opening s log (events ++ es) (replies ++ rs)
  was_carried s begun log events es replies rs text h c =
      let lived = has_stopped s log (events ++ c.carrying) c.stopping (replies ++ c.carried) c.stopped c.last (went_on s begun log events c.carrying replies c.carried h c.goes_on) c.stops in
      same_lists s log ((events ++ c.carrying) ++ c.stopping) (events ++ es) ((replies ++ c.carried) ++ c.stopped) (replies ++ rs)
      (append_assoc events c.carrying c.stopping ∙ ap (λ all. events ++ all) (sym c.events_are))
      (append_assoc replies c.carried c.stopped ∙ ap (λ all. replies ++ all) (sym c.replies_are)) lived

  has_begun_night : (s setup : Setup) (log begun : Log) (w stands : StandingOf) (parts : List ℕ) (events : List Event) (replies : List Reply) → Lives opening s log events replies
      → IsNightTold s log w parts (told.Replied reply.Begun) stands setup begun → Lives opening setup begun (events ++ event.Begin ∷ []) (replies ++ reply.Begun ∷ [])
  has_begun_night s _ log _ w _ parts events replies h (has_begun night texts read ok is) = lives.begins s log events replies (told_how.night_of_machine night) h is
  has_begun_night s _ log _ w _ parts events replies h (told_how.is_refused night texts r read ok other is) = absurd (other refl)

  was_answered : (s setup : Setup) (log after : Log) (w stands : StandingOf) (command : Command) (events asked : List Event) (replies replied : List Reply) (said : List ℕ)
      → Lives opening s log events replies → IsAnswered s log w command asked replied said setup after stands → Lives opening setup after (events ++ asked) (replies ++ replied)
  was_answered s _ log _ w _ _ events _ replies _ _ h (an_event e r is asked same replies_so) =
      lives.answers s log events replies asked r h replies_so (subst (λ a. finds_none a r ≡ false) (sym same) (asked_found _ e r is))
  was_answered s _ log _ w _ _ events _ replies _ _ h (a_page_asked desk view limit after said is) = nothing_more s log events replies h
  was_answered s _ log _ w _ _ events _ replies _ _ h all_tables = nothing_more s log events replies h
  was_answered s _ log _ w _ _ events _ replies _ _ h all_changes = nothing_more s log events replies h
  was_answered s _ log _ w _ _ events _ replies _ _ h tables_want_memory = nothing_more s log events replies h
  was_answered s _ log _ w _ _ events _ replies _ _ h changes_want_memory = nothing_more s log events replies h
  was_answered s _ log _ w _ _ events _ replies _ _ h (a_stranger strange is) = nothing_more s log events replies h
  was_answered s _ log _ w _ _ events _ replies _ _ h the_end = nothing_more s log events replies h
  was_answered s _ log _ w _ _ events _ replies _ _ h (no_night parts said is other) = nothing_more s log events replies h
  was_answered s _ log _ w _ _ events _ replies _ _ h (a_night parts stands setup begun after es rs text is carried) =
      let started = has_begun_night s setup log begun w stands parts events replies h is in
      let lived = was_carried setup begun after (events ++ event.Begin ∷ []) es (replies ++ reply.Begun ∷ []) rs text started carried in
      same_lists setup after ((events ++ event.Begin ∷ []) ++ es) (events ++ event.Begin ∷ es) ((replies ++ reply.Begun ∷ []) ++ rs) (replies ++ reply.Begun ∷ rs)
      (append_assoc events (event.Begin ∷ []) es) (append_assoc replies (reply.Begun ∷ []) rs) lived

  lived : (stood : StandingOf) (s : Setup) (w : StandingOf) (commands : List Command) (events : List Event) (replies : List Reply) (text : List ℕ) (log : Log)
      → Dialogue opening [] stood commands events replies text s log w → Lives opening s log events replies
  lived stood _ _ _ _ _ _ _ opens = lives.opens
  lived stood _ _ _ _ _ _ _ (answers commands events replies text s log w next asked replied said setup after stands before is) =
      was_answered s setup log after w stands next events asked replies replied said (lived stood s w commands events replies text log before) is

pub dialogues_are_legal : LivesAreLegalRuns → DialoguesAreLegalRuns
dialogues_are_legal legal opening s stood w commands events replies text log dialogue =
    legal opening s log events replies (lived opening stood s w commands events replies text log dialogue)
