use Rattle.wh_night.proofs.running.given_up.Goals as goal

pub returns-clause-leaves : goal.returns-clause-leaves
returns-clause-leaves g c = λ n l allowed u. c.give_up_for.ensures.leaves n l c.args.fault c.of.ensures allowed u
