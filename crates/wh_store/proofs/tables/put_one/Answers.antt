use Rattle.std.proofs.Common.{◌≡◌}
use Rattle.wh_row.specs.Stored.{plain}
use Rattle.wh_store.proofs.RowLaws.{on_ok, on_err}
use Rattle.wh_store.proofs.SlotLaws.{new_paired, put_exactly, refused_exactly}
use Rattle.wh_store.proofs.tables.put_one.Goals as goal

pub returns-clause-ok : goal.returns-clause-ok
returns-clause-ok g c = on_ok c.put-written.result _ _ c.put-written.ensures.ok (λ is. put_exactly g.row.N (plain c.args.rows.now) c.args.table.now c.put-written.new.self c.requires.enough c.are_in_form.ensures.pairs c.are_in_form.ensures.rising c.are_in_form-2.ensures.rising c.put-written.ensures.night is)

pub returns-clause-err : goal.returns-clause-err
returns-clause-err g c = on_err c.put-written.result _ _ c.put-written.ensures.err (λ may. refused_exactly (plain c.args.rows.now) c.args.table.now c.put-written.new.self c.are_in_form.ensures.rising c.are_in_form-2.ensures.rising c.put-written.ensures.night may)

pub returns-clause-memory : goal.returns-clause-memory
returns-clause-memory g c = on_err c.put-written.result _ _ c.put-written.ensures.memory (λ new. new_paired (plain c.args.rows.now) c.args.table.now c.are_in_form.ensures.rising new)
