use Rattle.std.proofs.Common.{◌∙◌, ap, arith, rules, ◌<◌, ◌-◌}
use Rattle.wh_versions.specs.Tables.{ViewRows, given_up, slots}
use Rattle.wh_versions.proofs.TableLaws.{gives_up, last_of}
use Rattle.wh_versions.proofs.table.VersionTable.give_up.Goals as goal

pub invariant_of-self : goal.invariant_of-self
invariant_of-self g c =
    let k = c.self.invariant in
    let some : 0 < c.self.inside.night = search rules in
    let last = last_of g.row.N c.self.inside.night (c.len-last.result - 1) c.self.inside.rows c.self.inside.touched.items c.index.result.now k (omega arith) c.index.ensures in
    (gives_up g.row.N c.self.inside.night c.self.inside.rows c.take_back.new.rows c.self.inside.touched.items c.index.result.now k some last c.take_back.ensures).kept

pub returns-clause-rows : goal.returns-clause-rows
returns-clause-rows g c row =
    let k = c.self.invariant in
    let some : 0 < c.self.inside.night = search rules in
    let last = last_of g.row.N c.self.inside.night (c.len-last.result - 1) c.self.inside.rows c.self.inside.touched.items c.index.result.now k (omega arith) c.index.ensures in
    (gives_up g.row.N c.self.inside.night c.self.inside.rows c.take_back.new.rows c.self.inside.touched.items c.index.result.now k some last c.take_back.ensures).exact row
    ∙ ap (λ (t : ViewRows). given_up t.night (slots t row)) c.self.view_is
