use Rattle.std.proofs.Common.{rules, ◌≡◌, ◌∙◌, None, ap, subst, sym}
use mathlib.Core.List.{IsPrefix}
use Rattle.wh_desk.specs.Known.{Known, known}
use Rattle.wh_desk.specs.Desks.{Grows, Sitting, sitting}
use Rattle.wh_desk.proofs.Telling.{told_page}
use Rattle.test_night.proofs.nights.telling.read_told.Goals as goal

pub returns-in-Ok-page-clause-page : goal.returns-in-Ok-page-clause-page
returns-in-Ok-page-clause-page c =
    let writer : Known = known c.args.writer.now.book c.args.writer.now.ledger.of c.args.writer.now.ledger.list in
    let desk : Sitting = c.learn.new.self in
    let learnt : Grows (sitting writer None) desk = (
      c.learn.ensures.seen.0 ∙ c.requires.same,
      sym c.learn.ensures.told.0 ∙ ap (λ (k : Known). k.of) c.tell.ensures,
      subst (λ (k : Known). IsPrefix k.list desk.list) c.tell.ensures c.learn.ensures.told.1,
    ) in
    let closed : Grows (sitting writer None) c.close.new.self = subst (λ (s : Sitting). Grows (sitting writer None) s) (sym c.close.ensures.closed) learnt in
    let same : c.in-Ok.version ≡ c.current.result = search rules in
    told_page c.seen_versions_stay_law.ensures (sitting writer None) c.close.new.self c.open.new.self c.page.new.self c.in-Ok.version c.args.view 256 None c.in-Ok-page.page closed
    c.in-Ok.ensures.answer (same ∙ c.current.ensures.number) c.in-Ok-page.ensures.answer
