use Rattle.std.proofs.Common.{◌≡◌, ◌∙◌, ap, length, replicate, subst, sym}
use Rattle.std.specs.Prelude.{IfSome}
use Rattle.std.specs.List.{All}
use Rattle.wh_desk.specs.Askers.{AreAnswered}
use Rattle.wh_night.specs.Serving.{rows_of}
use Rattle.wh_night.specs.Inner.Serving.{GivesRows}
use Rattle.wh_night.proofs.Rests.{all_gave}
use Rattle.wh_night.proofs.readers.given_by.Goals as goal

pub returns-clause-table : goal.returns-clause-table
returns-clause-table c = λ told askers seated are.
    let own = subst (λ o. IfSome o (λ all. AreAnswered told askers all.items)) c.in_ok-answered.was are in
    let gave = all_gave c.versions_stay_law.ensures c.pages_join_law.ensures told askers c.in_ok-answered.answered.items seated own in
    let each = subst (All (λ one. IfSome one (GivesRows (rows_of told.of.opening)))) (sym c.deref.ensures.value) gave in
    let given = c.in_ok-rows.ensures.table (rows_of told.of.opening) each in
    let count = ap length c.deref.ensures.value ∙ own.each in
    subst (λ n. c.in_ok-rows.rows.items ≡ replicate n (rows_of told.of.opening)) count given
