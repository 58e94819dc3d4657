-- What comes of a warehouse that stays is one legal run.
use Rattle.std.proofs.Common.{◌≡◌, refl, sym, ap, subst, ◌∙◌, List, [], ◌∷◌, ◌++◌}
use Rattle.std.proofs.lemmas.List.{append-nil, append_assoc}
use Rattle.wh_core.specs.declared.event.Event.{Event}
use Rattle.wh_core.specs.declared.event.Event.TheVariants.{Begin}
use Rattle.wh_core.specs.declared.reply.Reply.{Reply}
use Rattle.wh_core.specs.declared.reply.Reply.TheVariants as reply
use Rattle.wh_core.specs.Later.{NightsComeLater}
use Rattle.wh_core.specs.Laws.{log_after}
use Rattle.wh_core.specs.Log.{Log, logged}
use Rattle.wh_core.specs.Nights.{GivenNight, Setup, with_nights}
use Rattle.wh_core.specs.Replies.{IsLegalLog, IsLegalRun, IsReply, IsRunFrom, more, nothing}
use Rattle.wh_stay.specs.Lives.{Lives, LivesAreLegalRuns, answers, begins, opens}

-- ---- a run, and one event more

run_more : (s : Setup) (log : Log) (events : List Event) (replies : List Reply) (event : Event) (r : Reply) → IsRunFrom s log events replies
    → IsReply s (log_after log events replies) event r → IsRunFrom s log (events ++ event ∷ []) (replies ++ r ∷ [])
unfolding IsRunFrom
run_more s log [] [] event r run is = (is, tt)
run_more s log (e ∷ events) (q ∷ replies) event r run is = (run.0, run_more s (logged log e q) events replies event r run.1 is)
run_more s log [] (q ∷ replies) event r run is = absurd run
run_more s log (e ∷ events) [] event r run is = absurd run

log_more : (s : Setup) (log : Log) (events : List Event) (replies : List Reply) (event : Event) (r : Reply) → IsRunFrom s log events replies
    → log_after log (events ++ event ∷ []) (replies ++ r ∷ []) ≡ logged (log_after log events replies) event r
unfolding IsRunFrom
log_more s log [] [] event r run = refl
log_more s log (e ∷ events) (q ∷ replies) event r run = log_more s (logged log e q) events replies event r run.1
log_more s log [] (q ∷ replies) event r run = absurd run
log_more s log (e ∷ events) [] event r run = absurd run

nothing_done : (s : Setup) → IsRunFrom s [] [] []
unfolding IsRunFrom
nothing_done s = tt

-- ---- the whole

-- a setup that differs by its nights alone
abbrev of_nights : Setup → List GivenNight → Setup
of_nights s nights = record { catalog = s.catalog; desks = s.desks; workers = s.workers; versions = s.versions; keys = s.keys; opening = s.opening; nights = nights }

-- whatever nights come later, what came so far is a run of the setup with them too
record IsWhole (s : Setup) (log : Log) (events : List Event) (replies : List Reply) : Type 0 where
  legal : IsLegalLog s log
  run : (later : List GivenNight) → IsRunFrom (with_nights s later) [] events replies
  same : log_after [] events replies ≡ log

module _ (come : NightsComeLater) where
  -- one event more, of a setup where what came so far is a run too
  one_more : (t : Setup) (log : Log) (events : List Event) (replies : List Reply) (event : Event) (r : Reply) → log_after [] events replies ≡ log
      → IsLegalLog t log → IsReply t log event r → ((later : List GivenNight) → IsRunFrom (with_nights t later) [] events replies)
      → ((later : List GivenNight) → IsReply (with_nights t later) log event r) → IsWhole t (logged log event r) (events ++ event ∷ []) (replies ++ r ∷ [])
  one_more t log events replies event r same legal is run still = record {
    legal = more log event r legal is;
    run = λ later. run_more (with_nights t later) [] events replies event r (run later) (subst (λ l. IsReply (with_nights t later) l event r) (sym same) (still later));
    same = log_more (with_nights t []) [] events replies event r (run []) ∙ ap (λ l. logged l event r) same;
  }

  is_whole : (opening s : Setup) (log : Log) (events : List Event) (replies : List Reply) → Lives opening s log events replies → IsWhole s log events replies
  is_whole opening _ _ _ _ opens = record { legal = nothing; run = λ later. nothing_done (with_nights opening later); same = refl }
  is_whole opening _ _ _ _ (answers s log events replies event r before is found) =
      let b = is_whole opening s log events replies before in
      one_more s log events replies event r b.same b.legal is b.run (λ later. (come s log later b.legal).replies event r is found)
  is_whole opening _ _ _ _ (begins s log events replies night before is) =
      let b = is_whole opening s log events replies before in
      let legal : IsLegalLog (with_nights s (night ∷ [])) log = (come s log (night ∷ []) b.legal).legal in
      one_more (with_nights s (night ∷ [])) log events replies Begin reply.Begun b.same legal is
      (λ later. subst (λ nights. IsRunFrom (of_nights s nights) [] events replies) (sym (append_assoc s.nights (night ∷ []) later)) (b.run (night ∷ later)))
      (λ later. (come (with_nights s (night ∷ [])) log later legal).replies Begin reply.Begun is refl)

  pub lives_are_legal : LivesAreLegalRuns
  lives_are_legal opening s log events replies lives =
      let b = is_whole opening s log events replies lives in
      (subst (λ nights. IsLegalRun (of_nights s nights) events replies) (append-nil s.nights) (b.run []), b.same)
