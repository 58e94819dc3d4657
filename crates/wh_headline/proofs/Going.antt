-- Runs that go on from a log, one behind another.
use Rattle.std.proofs.Common.{◌≡◌, refl, sym, ap, ◌∙◌, subst, ℕ, List, [], ◌∷◌, ◌++◌, true, false, cond}
use Rattle.wh_core.specs.declared.event.Event.{Event}
use Rattle.wh_core.specs.declared.reply.Reply.{Reply}
use Rattle.wh_core.specs.Laws.{log_after}
use Rattle.wh_core.specs.Log.{Log, logged}
use Rattle.wh_core.specs.Nights.{Setup}
use Rattle.wh_core.specs.Replies.{IsLegalLog, IsReply, IsRunFrom}
use Rattle.wh_core.proofs.Runs.{leave_legal}
use Rattle.wh_headline.specs.Growing.{GoesOnBy, NightsGoOnAlone, asked_at, is_of_desk}

run_join : (s : Setup) (log : Log) (a b : List Event) (p q : List Reply) → IsRunFrom s log a p → IsRunFrom s (log_after log a p) b q → IsRunFrom s log (a ++ b) (p ++ q)
unfolding Rattle.wh_core.specs.Replies.IsRunFrom
run_join s log [] b [] q ran next = next
run_join s log (event ∷ a) b (r ∷ p) q ran next = (ran.0, run_join s (logged log event r) a b p q ran.1 next)
run_join s log [] b (r ∷ p) q ran next = absurd ran
run_join s log (event ∷ a) b [] q ran next = absurd ran

after_join : (s : Setup) (log : Log) (a b : List Event) (p q : List Reply) → IsRunFrom s log a p → log_after log (a ++ b) (p ++ q) ≡ log_after (log_after log a p) b q
unfolding Rattle.wh_core.specs.Replies.IsRunFrom
after_join s log [] b [] q ran = refl
after_join s log (event ∷ a) b (r ∷ p) q ran = after_join s (logged log event r) a b p q ran.1
after_join s log [] b (r ∷ p) q ran = absurd ran
after_join s log (event ∷ a) b [] q ran = absurd ran

pub asked_join : (s : Setup) (log : Log) (d : ℕ) (a b : List Event) (p q : List Reply) → IsRunFrom s log a p → asked_at d (a ++ b) (p ++ q) ≡ asked_at d a p ++ asked_at d b q
unfolding Rattle.wh_core.specs.Replies.IsRunFrom
asked_join s log d [] b [] q ran = refl
asked_join s log d (event ∷ a) b (r ∷ p) q ran =
    elim (is_of_desk d event) as (λ x. cond x ((event, r) ∷ asked_at d (a ++ b) (p ++ q)) (asked_at d (a ++ b) (p ++ q)) ≡ cond x ((event, r) ∷ asked_at d a p) (asked_at d a p) ++ asked_at d b q) [
      | true ↦ ap (λ (l : List (Event × Reply)). (event, r) ∷ l) (asked_join s (logged log event r) d a b p q ran.1)
      | false ↦ asked_join s (logged log event r) d a b p q ran.1
    ]
asked_join s log d [] b (r ∷ p) q ran = absurd ran
asked_join s log d (event ∷ a) b [] q ran = absurd ran

pub goes_then : (s : Setup) (log mid later : Log) (a b : List Event) (p q : List Reply) → GoesOnBy s log a p mid → GoesOnBy s mid b q later → GoesOnBy s log (a ++ b) (p ++ q) later
goes_then s log mid later a b p q x y = record {
  run = run_join s log a b p q x.run (subst (λ l. IsRunFrom s l b q) (sym x.leaves) y.run);
  leaves = after_join s log a b p q x.run ∙ ap (λ l. log_after l b q) x.leaves ∙ y.leaves;
}

pub goes_nowhere : (s : Setup) (log : Log) → GoesOnBy s log [] [] log
unfolding Rattle.wh_core.specs.Replies.IsRunFrom
goes_nowhere s log = record { run = tt; leaves = refl }

pub goes_by_one : (s : Setup) (log : Log) (event : Event) (r : Reply) → IsReply s log event r → GoesOnBy s log (event ∷ []) (r ∷ []) (logged log event r)
unfolding Rattle.wh_core.specs.Replies.IsRunFrom
goes_by_one s log event r said = record { run = (said, tt); leaves = refl }

pub still_legal : (s : Setup) (log later : Log) (events : List Event) (replies : List Reply) → IsLegalLog s log → GoesOnBy s log events replies later → IsLegalLog s later
still_legal s log later events replies legal on = subst (IsLegalLog s) on.leaves (leave_legal s log events replies legal on.run)

-- ---- by events of the night alone

pub alone_nowhere : (s : Setup) (log : Log) → NightsGoOnAlone s log log
alone_nowhere s log = record { events = []; replies = []; on = goes_nowhere s log; no_desk = λ d. refl; sessions = λ d. refl }

pub alone_then : (s : Setup) (log mid later : Log) → NightsGoOnAlone s log mid → NightsGoOnAlone s mid later → NightsGoOnAlone s log later
alone_then s log mid later x y = record {
  events = x.events ++ y.events;
  replies = x.replies ++ y.replies;
  on = goes_then s log mid later x.events y.events x.replies y.replies x.on y.on;
  no_desk = λ d.
      asked_join s log d x.events y.events x.replies y.replies x.on.run
      ∙ (λ i. x.no_desk d i ++ y.no_desk d i);
  sessions = λ d. y.sessions d ∙ x.sessions d;
}
