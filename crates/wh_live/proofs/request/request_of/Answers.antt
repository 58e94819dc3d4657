use Rattle.std.proofs.Common.{rules, ◌≢◌, ◌∙◌, ap, ◌<◌, length, arith}
use Rattle.wh_live.proofs.OtherWords.{as_event, of_more}
use Rattle.wh_live.specs.Requests.{event_request}
use Rattle.wh_live.proofs.request.request_of.Goals.{in_default-via-then-words-lt1, in_default-via-else-words-lt1+else-words-lt2+then-words-lt4}
use Rattle.wh_live.proofs.request.request_of.Goals as goal

pub returns-in-len5-up : goal.returns-in-len5-up
returns-in-len5-up c = of_more c.args.names.now c.args.words.now _ _ _ _ _ c.request_of_more.result (omega (arith, c.in-len5-up.len_at_least)) (λ more. c.request_of_more.ensures more)

pub returns-in_default : goal.returns-in_default
returns-in_default c =
    let one : length c.args.words.now ≢ 1 = elim c.in_default.branch [
      | in_default-via-then-words-lt1 w ↦ search rules
      | in_default-via-else-words-lt1+else-words-lt2+then-words-lt4 w ↦ search rules
    ] in
    let few : length c.args.words.now < 4 = elim c.in_default.branch [
      | in_default-via-then-words-lt1 w ↦ search rules
      | in_default-via-else-words-lt1+else-words-lt2+then-words-lt4 w ↦ search rules
    ] in
    c.event_request.ensures ∙ ap event_request c.event_of.ensures ∙ as_event c.args.names.now c.args.words.now one few
