use Rattle.wh_stay.specs.Standing.{standing_of}
use Rattle.wh_stay.proofs.Nights.{told_not_read}
use Rattle.wh_stay.proofs.standing.Live.read_and_begin.Goals as goal

pub returns-in-Err-clause-told : goal.returns-in-Err-clause-told
returns-in-Err-clause-told g c = λ s log is h.
    told_not_read s log (standing_of c.args.self.now) c.args.parts.now c.args.self.now.core is c.in-Err.fault c.of.result c.read_night.new.self.texts
    c.in-Err.ensures.err c.of.ensures.memory c.of.ensures.fault h
