use Rattle.std.proofs.Common.{refl}
use Rattle.wh_night.specs.declared.cause.NightCause.TheVariants as cause
use Rattle.wh_night.proofs.Ends.{held_commit, still_held}
use Rattle.wh_night.proofs.running.commit_held.Goals as goal

pub returns-in-Ok-clause-done : goal.returns-in-Ok-clause-done
returns-in-Ok-clause-done g c = λ n l w. held_commit n l (g.P.Publish.kept c.args.writer.now) w (g.P.Publish.kept c.give_up.new.self) c.in-Ok.field-0 c.in-Ok.ensures.ends

pub returns-in-Err-clause-leaves : goal.returns-in-Err-clause-leaves
returns-in-Err-clause-leaves g c = λ n l allowed w. still_held n l (g.P.Publish.kept c.args.writer.now) w (g.P.Publish.kept c.give_up.new.self) cause.Memory refl allowed c.in-Err.ensures.ends
