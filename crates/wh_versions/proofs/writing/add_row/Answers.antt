use Rattle.std.proofs.Common.{ap, ◌∙◌, rules}
use Rattle.wh_versions.specs.Inner.Tables.{is_in}
use Rattle.wh_versions.proofs.TouchLaws.{added_once, in_with, still_in}
use Rattle.wh_versions.proofs.writing.add_row.Goals as goal

pub returns-in_err-insert_or-clause-more : goal.returns-in_err-insert_or-clause-more
returns-in_err-insert_or-clause-more g c = λ q h. ap (is_in q) c.in_ok-insert.ensures.ok ∙ still_in c.args.touched.now c.args.row.now tt q h

pub returns-clause-ok : goal.returns-clause-ok
returns-clause-ok g c = added_once c.args.row.now c.args.rows.now c.insert_or.new.self c.none.result c.none.ensures c.in_ok-insert_or.ensures.new
    (λ ps e. let t = c.in_ok-insert_or.ensures.there ps e in (t.0, search (rules, t.1), t.2))

pub returns-clause-here : goal.returns-clause-here
returns-clause-here g c = ap (is_in c.args.row.now) c.in_ok-insert.ensures.ok ∙ in_with c.args.touched.now c.args.row.now tt

pub returns-clause-more : goal.returns-clause-more
returns-clause-more g c = λ q h. ap (is_in q) c.in_ok-insert.ensures.ok ∙ still_in c.args.touched.now c.args.row.now tt q h
