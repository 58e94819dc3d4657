use Rattle.std.proofs.Common.{refl, sym, subst, ◌∙◌, []}
use Rattle.std.proofs.lemmas.List.{append-nil}
use Rattle.wh_desk.specs.Known.{IsStory}
use Rattle.wh_desk.proofs.desk.page_at.Goals as goal

pub returns-in-Ok-clause-desk : goal.returns-in-Ok-clause-desk
returns-in-Ok-clause-desk c =
    let front = c.in-Ok.front in
    let seen = c.in-Ok.ensures in (
      (front, c.leave.ensures.1 ∙ seen.3, (refl, refl, ([], append-nil front.list))),
      subst IsStory (sym seen.1) seen.0.2,
    )
