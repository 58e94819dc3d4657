use Rattle.std.proofs.Common.{ap}
use Rattle.wh_stay.specs.Standing.{standing_of}
use Rattle.whview.proofs.Opened.{counted, told_to_end}
use Rattle.whview.proofs.live.talk_to_end.Goals as goal

pub returns-clause-told : goal.returns-clause-told
returns-clause-told g c written s log is stands =
    let told = c.tell_end.ensures.told written in
    told_to_end s log (standing_of c.args.live) _ _ _ _ _ _ c.talk-end.result c.tell_end.result (λ ended. c.talk-end.ensures.told ended s log is stands) c.talk-end.ensures.read told.0 told.1

pub returns-clause-failed : goal.returns-clause-failed
returns-clause-failed g c =
    counted c.talk-end.result c.tell_end.result _ _ _ c.talk-end.ensures.failed c.talk-end.ensures.faultless c.tell_end.ensures.failed
    (λ e. let wrote = c.tell_end.ensures.write e in (wrote.0, ap g.W.Sink.faults wrote.1))
