use Rattle.std.proofs.Common.{Ok, subst, sym}
use Rattle.wh_text_tables.specs.TableRead.{IsAhead}
use Rattle.wh_text_tables.proofs.TablesRead.{answer-width}
use Rattle.wh_text_tables.proofs.table.ahead.read_from.Goals as goal

pub returns-in-Some-clause-ok : goal.returns-in-Some-clause-ok
returns-in-Some-clause-ok g c =
    c.in-Some.ensures.ok c.args.content c.args.text.now (subst (IsAhead c.args.content c.args.columns.now c.args.text.now) (sym c.ahead.view_is) c.requires)

pub returns-in-Some-clause-width : goal.returns-in-Some-clause-width
returns-in-Some-clause-width g c =
    answer-width c.args.content c.args.columns.now c.args.dict.now c.args.text.now c.bag_from.new.dict (Ok c.in-Some.bag) (returns-in-Some-clause-ok g c)

pub returns-in-None-clause-ok : goal.returns-in-None-clause-ok
returns-in-None-clause-ok g c = rw c.in-None.ensures.none at c.read_text.ensures.ok

pub returns-in-None-clause-width : goal.returns-in-None-clause-width
returns-in-None-clause-width g c = answer-width c.args.content c.args.columns.now c.bag_from.new.dict c.args.text.now c.read_text.new.dict c.read_text.result c.read_text.ensures.ok

pub returns-in-None-clause-err : goal.returns-in-None-clause-err
returns-in-None-clause-err g c = rw c.in-None.ensures.none at c.read_text.ensures.err

pub returns-in-None-clause-kept : goal.returns-in-None-clause-kept
returns-in-None-clause-kept g c = rw c.in-None.ensures.none at c.read_text.ensures.kept
