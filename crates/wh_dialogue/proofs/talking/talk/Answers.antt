use Rattle.std.proofs.Common.{[], None}
use Rattle.std.specs.Io.KnownBytes.{prepend_known}
use Rattle.wh_dialogue.proofs.Turns.{ends_early, memory_done, talk_begins}
use Rattle.wh_dialogue.proofs.talking.talk.Goals as goal

pub returns-clause-told : goal.returns-clause-told
returns-clause-told g c = λ write s log is h.
    ends_early s log _ (g.S.Source.remaining c.args.input.now) (g.W.Sink.contents c.args.out.now) (g.W.Sink.contents c.args.out.now) None (prepend_known [] (g.S.Source.remaining c.args.input.now))
    c.args.live _ memory_done (talk_begins s log (g.S.Source.remaining c.args.input.now) (g.W.Sink.contents c.args.out.now) c.args.live is h)
