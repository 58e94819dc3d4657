use Rattle.std.proofs.Common.{sym, subst}
use Rattle.wh_night.specs.Tonight.{CountsEnd, Leaves}
use Rattle.wh_night.proofs.Ends.{given_up_cuts, not_given_up}
use Rattle.wh_night.proofs.running.give_up_for.Goals.{in-Ok, in-Err}
use Rattle.wh_night.proofs.running.give_up_for.Goals as goal

pub returns-clause-ends : goal.returns-clause-ends
returns-clause-ends g c = elim c.match-give_up.branch [
  | in-Ok w ↦ subst (λ left. CountsEnd left (g.P.Publish.refused_ends c.args.writer.now) (g.P.Publish.refused_ends c.give_up.new.self)) (sym w.left-is) w.in-Ok.ensures.refused_ends
  | in-Err w ↦ subst (λ left. CountsEnd left (g.P.Publish.refused_ends c.args.writer.now) (g.P.Publish.refused_ends c.give_up.new.self)) (sym w.left-is) w.in-Err.ensures.refused_ends
]

pub returns-clause-leaves : goal.returns-clause-leaves
returns-clause-leaves g c = λ n l fault is allowed u. elim c.match-give_up.branch [
  | in-Ok w ↦ subst (λ left. Leaves n c.args.cause l left (g.P.Publish.kept c.give_up.new.self)) (sym w.left-is)
      (given_up_cuts n l (g.P.Publish.kept c.args.writer.now) fault c.args.cause allowed is u (g.P.Publish.kept c.give_up.new.self) w.in-Ok.field-0 w.in-Ok.ensures.ends)
  | in-Err w ↦ subst (λ left. Leaves n c.args.cause l left (g.P.Publish.kept c.give_up.new.self)) (sym w.left-is)
      (not_given_up n l (g.P.Publish.kept c.args.writer.now) fault c.args.cause allowed is u (g.P.Publish.kept c.give_up.new.self) w.in-Err.ensures.ends)
]
