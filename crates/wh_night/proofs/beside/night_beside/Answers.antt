use Rattle.std.proofs.Common.{◌≡◌, ◌∙◌, ap, subst, sym}
use Rattle.std.specs.Prelude.{IfSome}
use Rattle.std.specs.List.{All}
use Rattle.wh_desk.specs.Askers.{AreAnswered, CanAsk}
use Rattle.wh_desk.specs.Known.{Known}
use Rattle.wh_desk.specs.Writers.{Writing}
use Rattle.wh_night.proofs.Besides.{all_books, if_same}
use Rattle.wh_night.proofs.beside.night_beside.Goals as goal

pub run_beside-answered-requires-clause-askers : goal.run_beside-answered-requires-clause-askers
run_beside-answered-requires-clause-askers g c κs within = subst (λ (k : Known). All (CanAsk k) c.args.askers.items) (sym c.tell-told.ensures) c.requires.askers

pub run_beside-answered-requires-clause-ready : goal.run_beside-answered-requires-clause-ready
run_beside-answered-requires-clause-ready g c κs within = record {
  judged = c.requires.judged;
  wide = c.requires.tables;
  wide_changes = c.requires.changes;
  fit = c.requires.fit;
  some = c.requires.one;
  few = c.requires.sixteen;
  least = c.requires.least;
  most = c.requires.most;
}

pub if_had-requires : goal.if_had-requires
if_had-requires g c =
    let told : Known = c.tell-told.result in
    let after : Writing = c.run_beside-answered.new.writer in
    let same : told.book ≡ after.book = ap (λ (k : Known). k.book) c.tell-told.ensures ∙ sym c.run_beside-answered.ensures.night.book in
    all_books after told c.args.askers.items c.run_beside-answered.result.0 same (subst (λ (k : Known). All (CanAsk k) c.args.askers.items) (sym c.tell-told.ensures) c.requires.askers) c.run_beside-answered.ensures.answered

pub returns-clause-answered : goal.returns-clause-answered
returns-clause-answered g c =
    let had = if_same (λ all. AreAnswered c.tell-told.result c.args.askers.items all.items) c.run_beside-answered.result.0 c.if_had.result c.if_had.ensures.same c.run_beside-answered.ensures.answered in
    subst (λ (k : Known). IfSome c.if_had.result (λ all. AreAnswered k c.args.askers.items all.items)) c.tell-told.ensures had
