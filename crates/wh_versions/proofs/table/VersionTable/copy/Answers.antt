use Rattle.std.proofs.Common.{◌≡◌, sym, subst, rules, List}
use Rattle.wh_pieces.specs.Row.{Row}
use Rattle.wh_versions.specs.Rows.{Pairs}
use Rattle.wh_versions.specs.Inner.Tables.{AreKept, Touched}
use Rattle.wh_versions.proofs.table.VersionTable.copy.Goals as goal

pub invariant_of-result : goal.invariant_of-result
invariant_of-result g c =
    let same : c.in_ok-touched.touched.items ≡ c.self.inside.touched.items = search rules in
    subst (λ (rows : List (Row × Pairs)). AreKept g.row.N c.self.inside.night rows c.in_ok-touched.touched.items) (sym c.in_ok-rows.ensures.ok)
    (subst (λ (sets : List Touched). AreKept g.row.N c.self.inside.night c.self.inside.rows sets) (sym same) c.self.invariant)
