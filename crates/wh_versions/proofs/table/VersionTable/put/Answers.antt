use Rattle.std.proofs.Common.{◌-◌, ◌<◌, ◌∙◌, ap, subst, arith, rules}
use Rattle.wh_row.specs.Stored.{plain}
use Rattle.wh_versions.specs.Tables.{ViewRows, IsNewToNight, slots, written}
use Rattle.wh_versions.proofs.PageLaws.{told}
use Rattle.wh_versions.proofs.TableLaws.{new_to_night, puts, puts_safely}
use Rattle.wh_versions.proofs.table.VersionTable.put.Goals as goal

pub invariant_of-self : goal.invariant_of-self
invariant_of-self g c =
    puts_safely g.row.N c.self.inside.night (c.len-last.result - 1) c.self.inside.rows c.add_rows.new.rows c.self.inside.touched.items c.index_mut.result.now c.add_rows.new.touched (plain c.args.rows.now) c.self.invariant (omega arith) c.index_mut.ensures.value
    c.add_rows.ensures.more c.in_err-add_rows.ensures.err

pub invariant_of-self-2 : goal.invariant_of-self-2
invariant_of-self-2 g c =
    (puts g.row.N c.self.inside.night (c.len-last.result - 1) c.self.inside.rows c.add_rows.new.rows c.write_rows.new.rows c.self.inside.touched.items c.index_mut.result.now c.add_rows.new.touched (plain c.args.rows.now) c.self.invariant (omega arith) c.index_mut.ensures.value
    c.add_rows.ensures.more c.in_ok-add_rows.ensures.ok c.write_rows.ensures).kept

pub returns-clause-ok : goal.returns-clause-ok
returns-clause-ok g c row =
    (puts g.row.N c.self.inside.night (c.len-last.result - 1) c.self.inside.rows c.add_rows.new.rows c.write_rows.new.rows c.self.inside.touched.items c.index_mut.result.now c.add_rows.new.touched (plain c.args.rows.now) c.self.invariant (omega arith) c.index_mut.ensures.value
    c.add_rows.ensures.more c.in_ok-add_rows.ensures.ok c.write_rows.ensures).exact row
    ∙ ap (λ (t : ViewRows). written g.row.N t.night (plain c.args.rows.now) row (slots t row)) c.self.view_is

pub returns-in_err-add_rows-clause-memory : goal.returns-in_err-add_rows-clause-memory
returns-in_err-add_rows-clause-memory g c =
    let given = plain c.args.rows.now in
    let some : 0 < c.self.inside.night = search rules in
    let new = new_to_night g.row.N c.self.inside.night (c.len-last.result - 1) c.self.inside.rows c.self.inside.touched.items c.index_mut.result.now given c.self.invariant some (omega arith) c.index_mut.ensures.value c.in_err-add_rows.ensures.memory in
    told (subst (λ (t : ViewRows). IsNewToNight given t) c.self.view_is new) c.from_residual.result
