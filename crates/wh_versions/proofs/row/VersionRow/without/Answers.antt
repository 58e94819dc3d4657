use Rattle.std.proofs.Common.{◌∙◌, ap}
use Rattle.wh_versions.specs.Rows.{without_pair}
use Rattle.wh_versions.proofs.PlaceLaws.{removed}
use Rattle.wh_versions.proofs.row.VersionRow.without.Goals as goal

pub invariant_of-result-2 : goal.invariant_of-result-2
invariant_of-result-2 g c =
    (removed g.row.N c.self.inside.numbers c.copy_within.new.self c.self.inside.counts c.copy_within-2.new.self c.args.version c.self.invariant c.if-not-begins_with.ensures c.copy_within.ensures.after c.copy_within-2.ensures.after).stored

pub returns : goal.returns
returns g c =
    (removed g.row.N c.self.inside.numbers c.copy_within.new.self c.self.inside.counts c.copy_within-2.new.self c.args.version c.self.invariant c.if-not-begins_with.ensures c.copy_within.ensures.after c.copy_within-2.ensures.after).pairs
    ∙ ap (without_pair c.args.version) c.self.view_is
