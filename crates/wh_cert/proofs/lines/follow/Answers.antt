use Rattle.std.proofs.Common.{sym, ◌∙◌}
use Rattle.std.proofs.lemmas.Bool.{false≢true}
use Rattle.wh_cert.proofs.Following.{goes_on, stops}
use Rattle.wh_cert.proofs.lines.follow.Goals as goal
use Rattle.wh_cert.proofs.lines.follow.Goals.{else-followed-via-then-followed+else-stands_at, else-followed-via-else-followed}

pub returns-then-stands_at : goal.returns-then-stands_at
returns-then-stands_at c before f = goes_on c.args.lines.now before c.args.followed c.args.line f c.if-followed.true (c.stands_at.ensures.0 c.if-stands_at.true)

pub returns-else-followed : goal.returns-else-followed
returns-else-followed c before f =
    stops c.args.lines.now before c.args.followed c.args.line f
    (elim c.else-followed.branch [
      | else-followed-via-then-followed+else-stands_at w ↦ λ on at. false≢true (sym w.if-stands_at.false ∙ w.stands_at.ensures.1 at)
      | else-followed-via-else-followed w ↦ λ on at. false≢true (sym w.if-followed.false ∙ on)
    ])
