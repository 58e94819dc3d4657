use Rattle.std.proofs.Common.{subst}
use Rattle.wh_versions.specs.Tables.{ViewRows, AreInForm}
use Rattle.wh_versions.proofs.TableLaws.{in_form}
use Rattle.wh_versions.proofs.table.VersionTable.are_in_form.Goals as goal

pub returns-clause-pairs : goal.returns-clause-pairs
returns-clause-pairs g c = subst (λ (t : ViewRows). AreInForm g.row.N t) c.self.view_is (in_form g.row.N c.self.inside.night c.self.inside.rows c.self.inside.touched.items c.self.invariant)
